-- Specs are read text by text.
use Rattle.std.proofs.Common.{◌≡◌, ◌∙◌, refl, sym, ap, ℕ, suc, ◌+◌, ◌<◌, List, ◌∷◌, ◌++◌, drop, get_or, length, Option, Some, None, append_assoc, add-one, drop-cons}
use Rattle.std.specs.List.{cons_option, filter_map}
use Rattle.std.specs.Option.{option_to_list}
use Rattle.deny_text.specs.Fronts.{StandsInFront}
use Rattle.graph_core.specs.selection.Choice.{ExcludeSpecView, read_one, spec_read}

-- what is in front stays there
pub front_then : {A : Type 0} (first second third : List A) → StandsInFront first second → StandsInFront second third → StandsInFront first third
front_then first second third (more, is) (others, grown) = (more ++ others, grown ∙ ap (λ items. items ++ others) is ∙ append_assoc first more others)

one_or_none : {A : Type 0} (first : Option A) (rest : List A) → option_to_list first ++ rest ≡ cons_option first rest
one_or_none None rest = refl
one_or_none (Some x) rest = refl

at-drop : {A : Type 0} (xs : List A) (i : ℕ) (x : A) → i < length xs → x ≡ get_or xs i x → drop i xs ≡ x ∷ drop (i + 1) xs
at-drop xs i x within at =
    drop-cons xs i x within ∙ (ap (λ first. first ∷ drop (suc i) xs) (sym at) ∙ ap (λ n. x ∷ drop n xs) (sym (add-one i)))

-- the spec of the next text, if it is readable, goes behind those so far
pub read-next : (texts : List (List ℕ)) (i : ℕ) (text : List ℕ) (before after : List ExcludeSpecView) → i < length texts → text ≡ get_or texts i text
    → after ≡ before ++ read_one text
    → after ++ filter_map spec_read (drop (i + 1) texts) ≡ before ++ filter_map spec_read (drop i texts)
read-next texts i text before after within at is =
    let rest = filter_map spec_read (drop (i + 1) texts) in
    ap (λ specs. specs ++ rest) is
    ∙ (append_assoc before (read_one text) rest
    ∙ (ap (λ specs. before ++ specs) (one_or_none (spec_read text) rest)
    ∙ ap (λ left. before ++ filter_map spec_read left) (sym (at-drop texts i text within at))))
