-- Plain names compare as their bytes do.
use Rattle.std.proofs.Common.{◌≡◌, ℕ, ◌==◌, Bool, true, false, not, ◌&&◌, ◌||◌, List, [], ◌∷◌, ◌++◌, length, filter, refl, ap, ap₂, ◌∙◌, arith}
use borrow.Author.Tests.{ne_eqb}
use Rattle.std.specs.List.{list_any}
use Rattle.std.specs.Ordering.{ordering_then, nat_cmp}
use Rattle.std.specs.Path.{dot, slash, is_name, first_piece, later_pieces, leading_components, path_names}
use Rattle.std.specs.declared.cmp.Ordering.{Ordering}
use Rattle.std.specs.declared.cmp.Ordering.TheVariants.{Less, Equal, Greater}
use Rattle.std.specs.Cmp.Lexicographic.{slice_cmp}
use Rattle.std.proofs.lemmas.Bool.{cond-true, cond-false, and_parts, or_parts}
use Rattle.deny_text.specs.Path.{components_of, part_rank, part_cmp, path_order}
use Rattle.deny_text.proofs.PathLemmas.{components_are}
use Rattle.gather_license.specs.files.FileKey.{is_plain}

-- the first byte is neither a dot nor a slash, and no later one is a slash
record IsPlain (byte : ℕ) (bytes : List ℕ) : Type 0 where
  no_dot : (byte == dot) ≡ false
  no_slash : (byte == slash) ≡ false
  later : list_any (λ b. b == slash) bytes ≡ false

is_false : (b : Bool) → not b ≡ true → b ≡ false
is_false true e = cc
is_false false e = refl

plain_bytes : (byte : ℕ) (bytes : List ℕ) → is_plain (byte ∷ bytes) ≡ true → IsPlain byte bytes
plain_bytes byte bytes e =
    let both = and_parts (not (byte == dot)) (not (list_any (λ b. b == slash) (byte ∷ bytes))) e in
    let slashes = or_parts (byte == slash) (list_any (λ b. b == slash) bytes) (is_false _ both.1) in
    record { no_dot = is_false _ both.0; no_slash = slashes.0; later = slashes.1 }

-- ---- parts

first_whole : (bytes : List ℕ) → list_any (λ b. b == slash) bytes ≡ false → first_piece bytes ≡ bytes
first_whole [] e = refl
first_whole (byte ∷ bytes) e =
    let both = or_parts (byte == slash) (list_any (λ b. b == slash) bytes) e in
    cond-false _ _ _ both.0 ∙ ap (λ rest. byte ∷ rest) (first_whole bytes both.1)

later_none : (bytes : List ℕ) → list_any (λ b. b == slash) bytes ≡ false → later_pieces bytes ≡ []
later_none [] e = refl
later_none (byte ∷ bytes) e =
    let both = or_parts (byte == slash) (list_any (λ b. b == slash) bytes) e in
    cond-false _ _ _ both.0 ∙ later_none bytes both.1

and_false : (a b : Bool) → a ≡ false → (a && b) ≡ false
and_false true b e = cc
and_false false b e = refl

named : (byte : ℕ) (bytes : List ℕ) → IsPlain byte bytes → is_name (byte ∷ bytes) ≡ true
named byte bytes plain =
    ap₂ (λ s t. not (s || t)) (ne_eqb (length (byte ∷ bytes)) 0 (λ z. omega arith)) (and_false (byte == dot) _ plain.no_dot)

names_alone : (byte : ℕ) (bytes : List ℕ) → IsPlain byte bytes → path_names (byte ∷ bytes) ≡ (byte ∷ bytes) ∷ []
unfolding path_names
names_alone byte bytes plain =
    let none : list_any (λ b. b == slash) (byte ∷ bytes) ≡ false = ap₂ (λ s t. s || t) plain.no_slash plain.later in
    ap₂ (λ first later. filter is_name (first ∷ later)) (first_whole (byte ∷ bytes) none) (later_none (byte ∷ bytes) none)
    ∙ cond-true _ _ _ (named byte bytes plain)

nothing_leads : (byte : ℕ) (bytes : List ℕ) → IsPlain byte bytes → leading_components (byte ∷ bytes) ≡ []
nothing_leads byte bytes plain = cond-false _ _ _ plain.no_slash ∙ cond-false _ _ _ (and_false (byte == dot) _ plain.no_dot)

plain_parts : (path : List ℕ) → is_plain path ≡ true → components_of path ≡ path ∷ []
plain_parts [] e = let bad : false ≡ true = e in cc
plain_parts (byte ∷ bytes) e =
    let plain = plain_bytes byte bytes e in
    components_are (byte ∷ bytes) ∙ ap₂ ◌++◌ (nothing_leads byte bytes plain) (names_alone byte bytes plain)

plain_rank : (path : List ℕ) → is_plain path ≡ true → part_rank path ≡ 3
plain_rank [] e = let bad : false ≡ true = e in cc
plain_rank (byte ∷ bytes) e =
    let plain = plain_bytes byte bytes e in
    cond-false _ _ _ (and_false (byte == slash) _ plain.no_slash)
    ∙ cond-false _ _ _ (and_false (byte == dot) _ plain.no_dot)
    ∙ cond-false _ _ _ (and_false (byte == dot) _ plain.no_dot)

-- ---- their order

then_equal : (order : Ordering) → ordering_then order Equal ≡ order
then_equal Less = refl
then_equal Equal = refl
then_equal Greater = refl

pub plain_order : (x y : List ℕ) → is_plain x ≡ true → is_plain y ≡ true → path_order x y ≡ slice_cmp nat_cmp x y
plain_order x y x_plain y_plain =
    ap₂ (slice_cmp part_cmp) (plain_parts x x_plain) (plain_parts y y_plain)
    ∙ then_equal (part_cmp x y)
    ∙ ap₂ (λ a b. ordering_then (nat_cmp a b) (slice_cmp nat_cmp x y)) (plain_rank x x_plain) (plain_rank y y_plain)
