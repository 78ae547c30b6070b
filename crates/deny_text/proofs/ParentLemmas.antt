-- Which paths have no parent: a path that is empty, or a slash and what trails it.
use Rattle.std.proofs.Common.{◌≡◌, ◌≢◌, ◌⊎◌, ◌↔◌, refl, ap, ap₂, sym, subst, ◌∙◌, inl, inr, ℕ, zero, suc, ◌+◌, ◌-◌, ◌<◌, ◌≤◌, ◌==◌, eqb-true, Bool, true, false, cond, not, ◌&&◌, ◌||◌, List, [], ◌∷◌, ◌++◌, length, get_or, take, drop, take_all, Some, None, filter, arith}
use mathlib.Core.Logic.{⊎_elim}
use borrow.Author.Tests.{ne_eqb}
use Rattle.std.specs.Option.{option_map}
use Rattle.std.proofs.lemmas.Bool.{cond-false, eqb-false, lt-ltb}
use Rattle.std.proofs.lemmas.List.{take_more}
use Rattle.std.specs.Str.{bytes_eq}
use Rattle.std.specs.Path.{slash, dot, root_dir, cur_dir, is_name, is_dot_at, is_trailing, trimmed_len, trim_trailing, first_piece, later_pieces, path_names, path_components, path_parent, split_last_component}
use Rattle.deny_text.specs.Path.{components_of, parent_of, RootHasNoParent}

by_test : {G : Type 0} (b : Bool) → (b ≡ true → G) → (b ≡ false → G) → G
by_test true holds differs = holds refl
by_test false holds differs = differs refl

and_false : (b : Bool) → (b && false) ≡ false
and_false true = refl
and_false false = refl

is_nil : {A : Type 0} → List A → Bool
is_nil [] = true
is_nil (x ∷ xs) = false

nil_from : {A : Type 0} (xs : List A) → is_nil xs ≡ true → xs ≡ []
unfolding is_nil
nil_from [] e = refl
nil_from (x ∷ xs) e = cc

-- the byte trails, where the other is before it
test : ℕ → ℕ → Bool
test byte before = byte == slash || (byte == dot && before == slash)

-- all bytes trail
trails : ℕ → List ℕ → Bool
trails before [] = true
trails before (byte ∷ rest) = test byte before && trails byte rest

-- ---- what trails has no names

is_name_cons : (byte : ℕ) (rest : List ℕ) → is_name (byte ∷ rest) ≡ not ((byte == dot) && is_nil rest)
unfolding is_nil
is_name_cons byte [] = refl
is_name_cons byte (next ∷ rest) =
    ap₂ (λ s t. not (s || t)) (ne_eqb (length (byte ∷ next ∷ rest)) 0 (λ z. omega arith)) (and_false (byte == dot)) ∙ sym (ap not (and_false (byte == dot)))

names_other : (byte : ℕ) (rest : List ℕ) → (byte == slash) ≡ false
    → path_names (byte ∷ rest) ≡ cond (not ((byte == dot) && is_nil (first_piece rest))) ((byte ∷ first_piece rest) ∷ filter is_name (later_pieces rest)) (filter is_name (later_pieces rest))
unfolding path_names
names_other byte rest differs =
    ap₂ (λ first later. filter is_name (first ∷ later)) (cond-false _ _ _ differs) (cond-false _ _ _ differs)
    ∙ ap (λ t. cond t ((byte ∷ first_piece rest) ∷ filter is_name (later_pieces rest)) (filter is_name (later_pieces rest))) (is_name_cons byte (first_piece rest))

nil_cond : {A : Type 0} (t : Bool) (x : A) (xs : List A) → is_nil (cond (not t) (x ∷ xs) xs) ≡ (t && is_nil xs)
unfolding is_nil
nil_cond true x xs = refl
nil_cond false x xs = refl

names_slash : (rest : List ℕ) → path_names (slash ∷ rest) ≡ path_names rest
unfolding path_names
names_slash rest = refl

nothing_named : (path_names []) ≡ []
unfolding path_names
nothing_named = refl

-- after a dot
after_dot-slash : (rest : List ℕ) → is_nil (path_names rest) ≡ trails slash rest → (is_nil (first_piece (slash ∷ rest)) && is_nil (filter is_name (later_pieces (slash ∷ rest)))) ≡ trails dot (slash ∷ rest)
unfolding is_nil trails test path_names
after_dot-slash rest e = e

after_dot-other : (next : ℕ) (rest : List ℕ) → (next == slash) ≡ false → (is_nil (first_piece (next ∷ rest)) && is_nil (filter is_name (later_pieces (next ∷ rest)))) ≡ trails dot (next ∷ rest)
unfolding is_nil trails test
after_dot-other next rest differs =
    ap (λ first. is_nil first && is_nil (filter is_name (later_pieces (next ∷ rest)))) (cond-false (next == slash) [] (next ∷ first_piece rest) differs)
    ∙ sym (ap₂ (λ s t. (s || t) && trails next rest) differs (and_false (next == dot)))

after_dot : (next : ℕ) (rest : List ℕ) → is_nil (path_names rest) ≡ trails slash rest
    → (is_nil (first_piece (next ∷ rest)) && is_nil (filter is_name (later_pieces (next ∷ rest)))) ≡ trails dot (next ∷ rest)
after_dot next rest e = by_test (next == slash)
    (λ holds. subst (λ x. (is_nil (first_piece (x ∷ rest)) && is_nil (filter is_name (later_pieces (x ∷ rest)))) ≡ trails dot (x ∷ rest)) (sym (eqb-true next slash holds)) (after_dot-slash rest e))
    (λ differs. after_dot-other next rest differs)

after_dot-nothing : (is_nil (first_piece []) && is_nil (filter is_name (later_pieces []))) ≡ trails dot []
unfolding is_nil trails
after_dot-nothing = refl

both_and : (a b c : Bool) → ((a && b) && c) ≡ (a && (b && c))
both_and true b c = refl
both_and false b c = refl

other_step : (byte : ℕ) (rest : List ℕ) → (byte == slash) ≡ false → (is_nil (first_piece rest) && is_nil (filter is_name (later_pieces rest))) ≡ trails dot rest → is_nil (path_names (byte ∷ rest)) ≡ trails slash (byte ∷ rest)
unfolding trails test
other_step byte rest differs e =
    ap is_nil (names_other byte rest differs)
    ∙ nil_cond ((byte == dot) && is_nil (first_piece rest)) _ _
    ∙ both_and (byte == dot) (is_nil (first_piece rest)) (is_nil (filter is_name (later_pieces rest)))
    ∙ by_test (byte == dot)
    (λ holds.
    ap₂ (λ a b. a && b) holds e
    ∙ ap (λ x. trails x rest) (sym (eqb-true byte dot holds))
    ∙ sym (ap₂ (λ s t. (s || (t && true)) && trails byte rest) differs holds))
    (λ other. ap (λ a. a && (is_nil (first_piece rest) && is_nil (filter is_name (later_pieces rest)))) other ∙ sym (ap₂ (λ s t. (s || (t && true)) && trails byte rest) differs other))

slash_step : (byte : ℕ) (rest : List ℕ) → (byte == slash) ≡ true → is_nil (path_names rest) ≡ trails slash rest → is_nil (path_names (byte ∷ rest)) ≡ trails slash (byte ∷ rest)
unfolding trails test
slash_step byte rest holds e = subst (λ x. is_nil (path_names (x ∷ rest)) ≡ trails slash (x ∷ rest)) (sym (eqb-true byte slash holds)) (ap is_nil (names_slash rest) ∙ e)

names_nil : (rest : List ℕ) → is_nil (path_names rest) ≡ trails slash rest
unfolding is_nil trails
names_nil [] = ap is_nil nothing_named
names_nil (byte ∷ []) = by_test (byte == slash) (λ holds. slash_step byte [] holds (names_nil [])) (λ differs. other_step byte [] differs after_dot-nothing)
names_nil (byte ∷ next ∷ rest) = by_test (byte == slash)
    (λ holds. slash_step byte (next ∷ rest) holds (names_nil (next ∷ rest)))
    (λ differs. other_step byte (next ∷ rest) differs (after_dot next rest (names_nil rest)))

-- ---- what trails is trimmed

and_true : (b : Bool) → (b && true) ≡ b
and_true true = refl
and_true false = refl

last_of : ℕ → List ℕ → ℕ
last_of before [] = before
last_of before (byte ∷ rest) = last_of byte rest

trails_push : (before : ℕ) (front : List ℕ) (byte : ℕ) → trails before (front ++ byte ∷ []) ≡ (trails before front && test byte (last_of before front))
unfolding trails last_of
trails_push before [] byte = and_true (test byte before)
trails_push before (x ∷ front) byte = ap (λ t. test x before && t) (trails_push x front byte) ∙ sym (both_and (test x before) (trails x front) (test byte (last_of x front)))

last_take : (before : ℕ) (rest : List ℕ) (n : ℕ) → n ≤ length rest → last_of before (take n rest) ≡ get_or (before ∷ rest) n 0
unfolding last_of
last_take before [] zero h = refl
last_take before [] (suc n) h = absurd (omega arith)
last_take before (x ∷ rest) zero h = refl
last_take before (x ∷ rest) (suc n) h = last_take x rest n (omega arith)

trimmed_step : (t : Bool) (m n : ℕ) (u : Bool) → (m == 1) ≡ u → (cond t m (suc (suc n)) == 1) ≡ (u && t)
trimmed_step true m n u e = e ∙ sym (and_true u)
trimmed_step false m n u e = ne_eqb (suc (suc n)) 1 (λ z. omega arith) ∙ sym (and_false u)

trailing_here : (rest : List ℕ) (n : ℕ) → is_trailing (slash ∷ rest) (suc n) ≡ test (get_or rest n 0) (get_or (slash ∷ rest) n 0)
unfolding test
trailing_here rest n =
    ap (λ a. a && (get_or rest n 0 == slash || (get_or rest n 0 == dot && get_or (slash ∷ rest) (suc n - 1) 0 == slash))) (lt-ltb 0 (suc n) (omega arith))
    ∙ ap (λ k. get_or rest n 0 == slash || (get_or rest n 0 == dot && get_or (slash ∷ rest) k 0 == slash)) {x = suc n - 1} {y = n} (omega arith)

trimmed_one : (rest : List ℕ) (n : ℕ) → n ≤ length rest → (trimmed_len (slash ∷ rest) (suc n) == 1) ≡ trails slash (take n rest)
unfolding trails
trimmed_one rest zero h = refl
trimmed_one rest (suc n) h =
    ap (λ t. cond t (trimmed_len (slash ∷ rest) (suc n)) (suc (suc n)) == 1) (trailing_here rest n)
    ∙ trimmed_step _ (trimmed_len (slash ∷ rest) (suc n)) n _ (trimmed_one rest n (omega arith))
    ∙ ap (λ before. trails slash (take n rest) && test (get_or rest n 0) before) (sym (last_take slash rest n (omega arith)))
    ∙ sym (trails_push slash (take n rest) (get_or rest n 0))
    ∙ ap (trails slash) (sym (take_more rest n 0 (omega arith)) ∙ ap (λ k. take k rest) {x = n + 1} {y = suc n} (omega arith))

trims_to_root : (rest : List ℕ) → (trimmed_len (slash ∷ rest) (suc (length rest)) == 1) ≡ trails slash rest
trims_to_root rest = trimmed_one rest (length rest) (omega arith) ∙ ap (trails slash) (take_all (length rest) rest (omega arith))

trimmed_some : (path : List ℕ) (n : ℕ) → 0 < trimmed_len path (suc n)
trimmed_some path zero = omega arith
trimmed_some path (suc n) = elim (is_trailing path (suc n)) as (λ b. 0 < cond b (trimmed_len path (suc n)) (suc (suc n))) [ true ↦ trimmed_some path n | false ↦ omega arith ]

trimmed_within : (path : List ℕ) (n : ℕ) → trimmed_len path n ≤ n
trimmed_within path zero = omega arith
trimmed_within path (suc n) =
    elim (is_trailing path n) as (λ b. cond b (trimmed_len path n) (suc n) ≤ suc n) [ true ↦ let less = trimmed_within path n in omega (arith, less) | false ↦ omega arith ]

-- nothing is left but the root, if that
bare : List ℕ → Bool
bare path = length (trim_trailing path) == 0 || bytes_eq (trim_trailing path) root_dir

bare_take : (byte : ℕ) (rest : List ℕ) (n : ℕ) → 0 < n → n ≤ suc (length rest) → (length (take n (byte ∷ rest)) == 0 || bytes_eq (take n (byte ∷ rest)) root_dir) ≡ ((byte == slash) && (n == 1))
bare_take byte rest zero p q = absurd (omega arith)
bare_take byte rest (suc zero) p q = refl
bare_take byte [] (suc (suc n)) p q = absurd (omega arith)
bare_take byte (next ∷ rest) (suc (suc n)) p q =
    ap₂ (λ s t. s || t) (ne_eqb (length (byte ∷ next ∷ take n rest)) 0 (λ z. omega arith)) (and_false (byte == slash))
    ∙ sym (ap (λ t. (byte == slash) && t) (ne_eqb (suc (suc n)) 1 (λ z. omega arith)) ∙ and_false (byte == slash))

bare_cons : (byte : ℕ) (rest : List ℕ) → bare (byte ∷ rest) ≡ ((byte == slash) && (trimmed_len (byte ∷ rest) (suc (length rest)) == 1))
unfolding bare trim_trailing
bare_cons byte rest = bare_take byte rest _ (trimmed_some (byte ∷ rest) (length rest)) (trimmed_within (byte ∷ rest) (suc (length rest)))

none_iff : {A B : Type 0} (f : A → B) (c : Bool) (x : A) → (option_map f (cond c None (Some x)) ≡ None) ↔ (c ≡ true)
none_iff f true x = (λ _. refl, λ _. refl)
none_iff f false x = (λ e. cc, λ e. cc)

no_parent : (path : List ℕ) → (parent_of path ≡ None) ↔ (bare path ≡ true)
unfolding bare path_parent split_last_component
no_parent path = none_iff (λ split. split.0) _ _

-- ---- a path that does not begin with a slash has another first part

dot_at : (byte : ℕ) (rest : List ℕ) → ((byte == dot) && is_nil (first_piece rest)) ≡ is_dot_at (byte ∷ rest) 0
unfolding is_nil
dot_at byte [] = refl
dot_at byte (next ∷ rest) = ap (λ t. (byte == dot) && t) (elim (next == slash) as (λ b. is_nil (cond b [] (next ∷ first_piece rest)) ≡ b) [ true ↦ refl | false ↦ refl ])

record OtherFirst (path : List ℕ) : Type 0 where
  first : List ℕ
  later : List (List ℕ)
  are : components_of path ≡ first ∷ later
  other : first ≢ root_dir

components_are : (byte : ℕ) (rest : List ℕ) → (byte == slash) ≡ false → components_of (byte ∷ rest) ≡ cond (is_dot_at (byte ∷ rest) 0) (cur_dir ∷ []) [] ++ path_names (byte ∷ rest)
unfolding path_components
components_are byte rest differs = ap (λ lead. lead ++ path_names (byte ∷ rest)) (cond-false _ _ _ differs)

begins_otherwise : (byte : ℕ) (rest : List ℕ) → (byte == slash) ≡ false → OtherFirst (byte ∷ rest)
begins_otherwise byte rest differs = by_test (is_dot_at (byte ∷ rest) 0)
    (λ holds. record {
      first = cur_dir;
      later = path_names (byte ∷ rest);
      are = components_are byte rest differs ∙ ap (λ b. cond b (cur_dir ∷ []) [] ++ path_names (byte ∷ rest)) holds;
      other = λ e. let bad : 46 ≡ 47 = ap (λ l. get_or l 0 0) e in absurd (omega (arith, bad));
    })
    (λ plain. record {
      first = byte ∷ first_piece rest;
      later = filter is_name (later_pieces rest);
      are = components_are byte rest differs ∙ ap (λ b. cond b (cur_dir ∷ []) [] ++ path_names (byte ∷ rest)) plain
          ∙ names_other byte rest differs
          ∙ ap (λ t. cond (not t) ((byte ∷ first_piece rest) ∷ filter is_name (later_pieces rest)) (filter is_name (later_pieces rest))) (dot_at byte rest ∙ plain);
      other = λ e. eqb-false byte slash differs (ap (λ l. get_or l 0 0) e);
    })

other_parts : (byte : ℕ) (rest : List ℕ) → (byte == slash) ≡ false → (bare (byte ∷ rest) ≡ true) ↔ ((components_of (byte ∷ rest) ≡ []) ⊎ (components_of (byte ∷ rest) ≡ root_dir ∷ []))
other_parts byte rest differs =
    let not_bare : bare (byte ∷ rest) ≡ false = bare_cons byte rest ∙ ap (λ t. t && (trimmed_len (byte ∷ rest) (suc (length rest)) == 1)) differs in
    let begins = begins_otherwise byte rest differs in (
      λ is. let bad : false ≡ true = sym not_bare ∙ is in cc,
      ⊎_elim
          (λ none. absurd (omega (arith, ap length (sym begins.are ∙ none))))
          (λ root. absurd (begins.other (ap (λ parts. get_or parts 0 []) (sym begins.are ∙ root)))),
    )

root_first : (rest : List ℕ) → components_of (slash ∷ rest) ≡ root_dir ∷ path_names rest
unfolding path_components
root_first rest = ap (λ names. root_dir ∷ names) (names_slash rest)

of_nil : {A : Type 0} (xs : List A) → xs ≡ [] → is_nil xs ≡ true
unfolding is_nil
of_nil xs none = ap is_nil none

slash_parts : (rest : List ℕ) → (bare (slash ∷ rest) ≡ true) ↔ ((components_of (slash ∷ rest) ≡ []) ⊎ (components_of (slash ∷ rest) ≡ root_dir ∷ []))
slash_parts rest =
    let e : bare (slash ∷ rest) ≡ is_nil (path_names rest) = bare_cons slash rest ∙ trims_to_root rest ∙ sym (names_nil rest) in
    let parts = root_first rest in (
      λ is. inr (parts ∙ ap (λ l. root_dir ∷ l) (nil_from (path_names rest) (sym e ∙ is))),
      ⊎_elim
          (λ none. absurd (omega (arith, ap length (sym parts ∙ none))))
          (λ root. e ∙ of_nil (path_names rest) (ap (drop 1) (sym parts ∙ root))),
    )

bare_parts : (path : List ℕ) → (bare path ≡ true) ↔ ((components_of path ≡ []) ⊎ (components_of path ≡ root_dir ∷ []))
unfolding bare trim_trailing path_components path_names
bare_parts [] = (λ _. inl refl, λ _. refl)
bare_parts (byte ∷ rest) = by_test (byte == slash)
    (λ holds. subst (λ x. (bare (x ∷ rest) ≡ true) ↔ ((components_of (x ∷ rest) ≡ []) ⊎ (components_of (x ∷ rest) ≡ root_dir ∷ []))) (sym (eqb-true byte slash holds)) (slash_parts rest))
    (λ differs. other_parts byte rest differs)

pub root_has_no_parent : RootHasNoParent
root_has_no_parent path =
    let first = no_parent path in
    let second = bare_parts path in
    (λ none. second.0 (first.0 none), λ parts. first.1 (second.1 parts))
