-- What a sink has gained, over several writes.
use Rattle.std.proofs.Common.{◌≡◌, ℕ, List, ◌++◌, take, drop, Option, Some, None, refl, sym, ◌∙◌, append_assoc, length, ◌+◌, ◌-◌, arith}
use Rattle.std.proofs.lemmas.List.{take-append-drop, take_all, length-drop}
use Rattle.std.proofs.Math.Seq.{take-add}
use Rattle.tree_core.specs.Faults.{Gained, GainedPrefix}

-- to gain a text and then another is to gain both
pub Gained-then : (a b c : Option (List ℕ)) (s t : List ℕ) → Gained a b s → Gained b c t → Gained a c (s ++ t)
Gained-then None None None s t first second = refl
Gained-then None None (Some z) s t first second = second
Gained-then None (Some y) c s t first second = cc
Gained-then (Some x) None c s t first second = cc
Gained-then (Some x) (Some y) c s t first second =
    let p : Some y ≡ Some (x ++ s) = first in
    let q : c ≡ Some (y ++ t) = second in
    let r : y ≡ x ++ s = cc in
    let e : (x ++ s) ++ t ≡ x ++ (s ++ t) = append_assoc x s t in
    rw (q, r, e) refl

take_rest : (bytes : List ℕ) (at : ℕ) → take (length bytes - at) (drop at bytes) ≡ drop at bytes
take_rest bytes at = take_all _ (drop at bytes) (omega (arith, length-drop at bytes))

-- one more piece of a text that is written from its start
pub Gained-take_more : (a b c : Option (List ℕ)) (bytes : List ℕ) (at n : ℕ) → Gained a b (take at bytes) → Gained b c (take n (take (length bytes - at) (drop at bytes))) → Gained a c (take (at + n) bytes)
Gained-take_more a b c bytes at n first second =
    let rest : Gained b c (take n (drop at bytes)) = rw (take_rest bytes at) at second in
    rw (take-add at n bytes) (Gained-then a b c _ _ first rest)

-- a refusal after the first bytes
pub GainedPrefix-take : (a b c : Option (List ℕ)) (bytes : List ℕ) (at : ℕ) → Gained a b (take at bytes) → c ≡ b → GainedPrefix a c bytes
GainedPrefix-take a b c bytes at first same =
    record { front = take at bytes; rest = drop at bytes; parts = sym (take-append-drop at bytes); gained = same ∙ first }
