-- Texts that are put behind one another.
use Rattle.std.proofs.Common.{◌≡◌, ◌∙◌, ap₂, ℕ, List, [], ◌++◌, append_assoc}

-- four texts, of each of which another name is known
pub four_texts : (start one two three four first second third fourth w x y z : List ℕ) → start ≡ [] → one ≡ start ++ first → two ≡ one ++ second → three ≡ two ++ third → four ≡ three ++ fourth
    → first ≡ w → second ≡ x → third ≡ y → fourth ≡ z → four ≡ w ++ (x ++ (y ++ z))
four_texts start one two three four first second third fourth w x y z empty a b c d e f g h =
    d
    ∙ ap₂ (λ text more. text ++ more) (c ∙ ap₂ (λ text more. text ++ more) (b ∙ ap₂ (λ text more. text ++ more) (a ∙ ap₂ (λ text more. text ++ more) empty e) f) g) h
    ∙ append_assoc (w ++ x) y z
    ∙ append_assoc w x (y ++ z)
