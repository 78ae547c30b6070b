-- The key of a path has the parts of the path, so equal keys are keys of equal paths.
use Rattle.std.proofs.Common.{◌≡◌, refl, ap, ap₂, sym, ◌∙◌, ℕ, ◌==◌, Bool, true, false, cond, not, ◌&&◌, List, [], ◌∷◌, ◌++◌, append_assoc, filter}
use Rattle.std.specs.List.{flat_map}
use Rattle.std.specs.declared.cmp.Ordering.{Ordering}
use Rattle.std.specs.declared.cmp.Ordering.TheVariants.{Less, Equal, Greater}
use Rattle.std.specs.Ordering.{ordering_then, is_eq, nat_cmp}
use Rattle.std.specs.Cmp.{tied_itself}
use Rattle.std.specs.Cmp.Lexicographic.{slice_cmp, nat_list_cmp_total}
use Rattle.std.specs.FinMap.{IsAntisymmetric, nat_cmp-IsAntisymmetric, slice_cmp-IsAntisymmetric}
use Rattle.std.proofs.lemmas.Bool.{cond-true, cond-false}
use Rattle.std.specs.Path.{slash, dot, root_dir, cur_dir, has_no_slash, is_name, first_piece, later_pieces, path_names, path_components, leading_components}
use Rattle.deny_text.specs.Path.{components_of, part_rank, part_cmp, path_order_total, key_of, KeysTellPaths}
use Rattle.deny_text.proofs.PathLemmas.{names_append, components_are}

by_test : {G : Type 0} (b : Bool) → (b ≡ true → G) → (b ≡ false → G) → G
by_test true holds differs = holds refl
by_test false holds differs = differs refl

-- a name: no slash, and neither empty nor `.`
record IsGood (name : List ℕ) : Type 0 where
  no_slash : has_no_slash name ≡ true
  named : is_name name ≡ true

AllGood : List (List ℕ) → Type 0
AllGood [] = Unit {0}
AllGood (name ∷ names) = IsGood name × AllGood names

AllSlashless : List (List ℕ) → Type 0
AllSlashless [] = Unit {0}
AllSlashless (piece ∷ pieces) = (has_no_slash piece ≡ true) × AllSlashless pieces

first_slashless : (bytes : List ℕ) → has_no_slash (first_piece bytes) ≡ true
first_slashless [] = refl
first_slashless (byte ∷ bytes) = by_test (byte == slash)
    (λ holds. ap has_no_slash (cond-true _ _ _ holds))
    (λ differs. ap has_no_slash (cond-false _ _ _ differs) ∙ ap (λ t. not t && has_no_slash (first_piece bytes)) differs ∙ first_slashless bytes)

later_slashless : (bytes : List ℕ) → AllSlashless (later_pieces bytes)
unfolding AllSlashless
later_slashless [] = tt
later_slashless (byte ∷ bytes) = elim (byte == slash) as (λ b. AllSlashless (cond b (first_piece bytes ∷ later_pieces bytes) (later_pieces bytes))) [
  | true ↦ (first_slashless bytes, later_slashless bytes)
  | false ↦ later_slashless bytes
]

filter_good : (pieces : List (List ℕ)) → AllSlashless pieces → AllGood (filter is_name pieces)
unfolding AllSlashless AllGood
filter_good [] h = tt
filter_good (piece ∷ pieces) h = elim (is_name piece) as (λ b. is_name piece ≡ b → AllGood (cond b (piece ∷ filter is_name pieces) (filter is_name pieces))) [
  | true ↦ λ named. (record { no_slash = h.0; named = named }, filter_good pieces h.1)
  | false ↦ λ _. filter_good pieces h.1
] refl

names_good : (path : List ℕ) → AllGood (path_names path)
unfolding path_names AllSlashless
names_good path = filter_good (first_piece path ∷ later_pieces path) (first_slashless path, later_slashless path)

slashless_head : (byte : ℕ) (bytes : List ℕ) → has_no_slash (byte ∷ bytes) ≡ true → (byte == slash) ≡ false
slashless_head byte bytes h = by_test (byte == slash) (λ holds. let bad : false ≡ true = sym (ap (λ t. not t && has_no_slash bytes) holds) ∙ h in cc) (λ differs. differs)

slashless_tail : (byte : ℕ) (bytes : List ℕ) → has_no_slash (byte ∷ bytes) ≡ true → has_no_slash bytes ≡ true
slashless_tail byte bytes h = sym (ap (λ t. not t && has_no_slash bytes) (slashless_head byte bytes h)) ∙ h

first_whole : (bytes : List ℕ) → has_no_slash bytes ≡ true → first_piece bytes ≡ bytes
first_whole [] h = refl
first_whole (byte ∷ bytes) h = cond-false _ _ _ (slashless_head byte bytes h) ∙ ap (λ l. byte ∷ l) (first_whole bytes (slashless_tail byte bytes h))

later_none : (bytes : List ℕ) → has_no_slash bytes ≡ true → later_pieces bytes ≡ []
later_none [] h = refl
later_none (byte ∷ bytes) h = cond-false _ _ _ (slashless_head byte bytes h) ∙ later_none bytes (slashless_tail byte bytes h)

one_name : (name : List ℕ) → IsGood name → path_names name ≡ name ∷ []
unfolding path_names
one_name name good = ap₂ (λ first later. filter is_name (first ∷ later)) (first_whole name good.no_slash) (later_none name good.no_slash) ∙ cond-true _ _ _ good.named

key_parts : List (List ℕ) → List ℕ
key_parts parts = flat_map (λ part. part ++ slash ∷ []) parts

names_of_key : (names : List (List ℕ)) → AllGood names → path_names (key_parts names) ≡ names
unfolding key_parts AllGood path_names
names_of_key [] good = refl
names_of_key (name ∷ names) good =
    ap path_names (append_assoc name (slash ∷ []) (key_parts names))
    ∙ names_append name (key_parts names)
    ∙ ap₂ ◌++◌ (one_name name good.0) (names_of_key names good.1)

-- ---- what is in front of the names

leading_name : (name rest : List ℕ) → IsGood name → leading_components (name ++ slash ∷ rest) ≡ []
leading_name [] rest good = let bad : false ≡ true = good.named in cc
leading_name (byte ∷ []) rest good =
    cond-false _ _ _ (slashless_head byte [] good.no_slash)
    ∙ cond-false _ _ _ (by_test (byte == dot) (λ holds. let bad : false ≡ true = sym (ap (λ t. not (t && true)) holds) ∙ good.named in cc) (λ differs. ap (λ t. t && true) differs))
leading_name (byte ∷ next ∷ name) rest good =
    cond-false _ _ _ (slashless_head byte (next ∷ name) good.no_slash)
    ∙ cond-false _ _ _ (ap (λ t. (byte == dot) && t) (slashless_head next name (slashless_tail byte (next ∷ name) good.no_slash)) ∙ and_false (byte == dot))
  where
    and_false : (b : Bool) → (b && false) ≡ false
    and_false true = refl
    and_false false = refl

behind_root : (names : List (List ℕ)) → AllGood names → components_of (key_parts (root_dir ∷ names)) ≡ root_dir ∷ names
unfolding key_parts path_components path_names
behind_root names good = ap (λ l. root_dir ∷ l) (names_of_key names good)

behind_dot : (names : List (List ℕ)) → AllGood names → components_of (key_parts (cur_dir ∷ names)) ≡ cur_dir ∷ names
unfolding key_parts path_components path_names
behind_dot names good = ap (λ l. cur_dir ∷ l) (names_of_key names good)

alone : (names : List (List ℕ)) → AllGood names → components_of (key_parts names) ≡ names
unfolding key_parts AllGood path_components path_names
alone [] good = refl
alone (name ∷ names) good =
    ap₂ ◌++◌ (ap leading_components (append_assoc name (slash ∷ []) (key_parts names)) ∙ leading_name name (key_parts names) good.0) (names_of_key (name ∷ names) good)

by_lead : (root begins : Bool) (names : List (List ℕ)) → AllGood names
    → components_of (key_parts (cond root (root_dir ∷ []) (cond begins (cur_dir ∷ []) []) ++ names)) ≡ cond root (root_dir ∷ []) (cond begins (cur_dir ∷ []) []) ++ names
by_lead true begins names good = behind_root names good
by_lead false true names good = behind_dot names good
by_lead false false names good = alone names good

key_has_parts : (path : List ℕ) → components_of (key_of path) ≡ components_of path
unfolding key_parts
key_has_parts path =
    ap (λ parts. components_of (key_parts parts)) (components_are path)
    ∙ by_lead _ _ (path_names path) (names_good path)
    ∙ sym (components_are path)

-- ---- keys are equal where paths are

is_equal : (r : Ordering) → is_eq r ≡ true → r ≡ Equal
is_equal Less e = cc
is_equal Equal e = refl
is_equal Greater e = cc

second_equal : (first second : Ordering) → ordering_then first second ≡ Equal → second ≡ Equal
second_equal Less second e = let bad : Less ≡ Equal = e in cc
second_equal Equal second e = e
second_equal Greater second e = let bad : Greater ≡ Equal = e in cc

part_cmp-exact : IsAntisymmetric part_cmp
part_cmp-exact x y e = slice_cmp-IsAntisymmetric nat_cmp-IsAntisymmetric x y (second_equal (nat_cmp (part_rank x) (part_rank y)) (slice_cmp nat_cmp x y) e)

same_test : (a b : Bool) → (a ≡ true → b ≡ true) → (b ≡ true → a ≡ true) → a ≡ b
same_test true b to from = sym (to refl)
same_test false true to from = from refl
same_test false false to from = refl

pub keys_tell_paths : KeysTellPaths
keys_tell_paths x y = same_test _ _
    (λ same.
    let parts : components_of x ≡ components_of y = slice_cmp-IsAntisymmetric part_cmp-exact (components_of x) (components_of y) (is_equal _ same) in
    ap is_eq (ap (λ ps. slice_cmp nat_cmp (key_of x) (key_parts_of ps)) (sym parts) ∙ tied_itself nat_list_cmp_total (key_of x)))
    (λ same.
    let keys : key_of x ≡ key_of y = slice_cmp-IsAntisymmetric nat_cmp-IsAntisymmetric (key_of x) (key_of y) (is_equal _ same) in
    let parts : components_of x ≡ components_of y = sym (key_has_parts x) ∙ ap components_of keys ∙ key_has_parts y in
    ap is_eq (ap (λ ps. slice_cmp part_cmp (components_of x) ps) (sym parts) ∙ tied_itself path_order_total x))
  where
    key_parts_of : List (List ℕ) → List ℕ
    key_parts_of parts = flat_map (λ part. part ++ slash ∷ []) parts
