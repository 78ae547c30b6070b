-- Lists in order are one list, where they have the same items: a stable sort leaves one list, and ids that rise strictly have one order.
use Rattle.std.proofs.Common.{◌≡◌, ◌∙◌, ◌⊎◌, inl, inr, refl, sym, ap, ap₂, subst, ℕ, zero, suc, ◌<◌, ◌≤◌, arith, Bool, true, false, ◌&&◌, not, cond, List, [], ◌∷◌, map, length, slice_index_or, All, Contains}
use Rattle.std.specs.List.{AllByRecursion, AllZip, filter}
use Rattle.std.specs.List.Sorted.{IsSortedBy, IsStrictlySortedBy, ties}
use Rattle.std.specs.Cmp.{IsStrictWeakOrder, tied_itself}
use Rattle.std.specs.Cmp.Lexicographic.{slice_cmp, nat_list_cmp_total}
use Rattle.std.specs.Ordering.{is_lt, nat_cmp, ordering_reverse}
use Rattle.std.specs.declared.cmp.Ordering.{Ordering}
use Rattle.std.specs.declared.cmp.Ordering.TheVariants.{Less, Equal, Greater}
use Rattle.std.proofs.lemmas.List.Elements.{recursion_from_All}
use Rattle.std.proofs.lemmas.List.Sorted.{ranks_by, sorted_far}
use Rattle.deny_text.specs.Path.{path_order_total}
use Rattle.spdx_terms.specs.Licensee.{printed_order_total}
use Rattle.gather_license.proofs.files.PackLemmas.{by_test}
use Rattle.graph_core.specs.Krate.{CrateRecord, ids_in}
use Rattle.graph_core.specs.Metadata.{AreRising, Graph, CrateNode, ids_of}
use Rattle.graph_core.specs.selection.Listed.{IsListOf}
use Rattle.graph_core.specs.selection.Roots.{crates_of}
use Rattle.policy_parts.specs.declared.entries.licensee.Licensee.{Licensee}
use Rattle.policy_parts.specs.declared.file_source.FileSource.{FileSource}
use Rattle.policy_core.specs.declared.valid.policy.ValidClarification.{ValidClarification}
use Rattle.policy_core.specs.declared.valid.policy.ValidConfig.{ValidConfig}
use Rattle.policy_core.specs.declared.valid.policy.ValidException.{ValidException}
use Rattle.policy_core.specs.validate.Order.{PutsExceptionInOrder, PutsFilesInOrder, PutsInOrder, PutsPolicyInOrder, by_path, by_printed}

-- ---- what a stable sort leaves

module _ {X : Type 0} (lt : X → X → Bool) (order : IsStrictWeakOrder lt) where
  abbrev NoneBelow : X → List X → Type 0
  NoneBelow x [] = Unit {0}
  NoneBelow x (y ∷ ys) = (lt y x ≡ false) × NoneBelow x ys

  abbrev Rises : List X → Type 0
  Rises [] = Unit {0}
  Rises (x ∷ xs) = NoneBelow x xs × Rises xs

  none_below : (x : X) (xs : List X) → All (λ y. lt y x ≡ false) xs → NoneBelow x xs
  none_below x xs all = from_recursion xs (recursion_from_All (λ y. lt y x ≡ false) xs all)
    where
      from_recursion : (ys : List X) → AllByRecursion (λ y. lt y x ≡ false) ys → NoneBelow x ys
      from_recursion [] each = tt
      from_recursion (y ∷ ys) each = (each.0, from_recursion ys each.1)

  rises_far : (xs : List X) → ((i j : ℕ) (d : X) → i ≤ j → j < length xs → lt (slice_index_or xs j d) (slice_index_or xs i d) ≡ false) → Rises xs
  rises_far [] far = tt
  rises_far (x ∷ xs) far =
      (none_below x xs (λ j d within. far zero (suc j) d (omega arith) (omega arith)), rises_far xs (λ i j d below within. far (suc i) (suc j) d (omega arith) (omega arith)))

  rises_from : (xs : List X) → IsSortedBy lt xs → Rises xs
  rises_from xs sorted = rises_far xs (λ i j d below within. sorted_far lt order xs sorted i j d below within)

  not_below : (x : X) → lt x x ≡ false
  not_below x = by_test (lt x x) (λ yes. order.one_way x x yes) (λ no. no)

  abbrev alike : X → X → Bool
  alike = ties lt

  kept_first : (x : X) (xs : List X) → filter (alike x) (x ∷ xs) ≡ x ∷ filter (alike x) xs
  kept_first x xs = ap (λ b. cond (not b && not b) (x ∷ filter (alike x) xs) (filter (alike x) xs)) (not_below x)

  first_not : (a b : Bool) → (not a && not b) ≡ true → a ≡ false
  first_not true b e = cc
  first_not false b e = refl

  -- what ties with some item is not below the least one
  not_lower : (x low : X) (xs : List X) → NoneBelow low xs → (first : X) (rest : List X) → filter (alike x) xs ≡ first ∷ rest → lt x low ≡ false
  not_lower x low [] below first rest e = absurd (cc)
  not_lower x low (y ∷ ys) below first rest e =
      by_test (alike x y)
      (λ tied. order.chain x y low (first_not (lt x y) (lt y x) tied) below.0)
      (λ apart. not_lower x low ys below.1 first rest (sym (ap (λ b. cond b (y ∷ filter (alike x) ys) (filter (alike x) ys)) apart) ∙ e))

  rest_alike : (b c : Bool) (y z : X) (ys zs : List X) → b ≡ c → cond b (y ∷ ys) ys ≡ cond c (z ∷ zs) zs → ys ≡ zs
  rest_alike true true y z ys zs same e = cc
  rest_alike true false y z ys zs same e = cc
  rest_alike false true y z ys zs same e = cc
  rest_alike false false y z ys zs same e = e

  pub one_order : (ys zs : List X) → Rises ys → Rises zs → ((x : X) → filter (alike x) ys ≡ filter (alike x) zs) → ys ≡ zs
  one_order [] [] up down each = refl
  one_order [] (z ∷ zs) up down each = let e : [] ≡ z ∷ filter (alike z) zs = each z ∙ kept_first z zs in absurd (cc)
  one_order (y ∷ ys) [] up down each = let e : y ∷ filter (alike y) ys ≡ [] = sym (kept_first y ys) ∙ each y in absurd (cc)
  one_order (y ∷ ys) (z ∷ zs) up down each =
      let below : lt y z ≡ false = not_lower y z (z ∷ zs) (not_below z, down.0) y (filter (alike y) ys) (sym (each y) ∙ kept_first y ys) in
      let above : lt z y ≡ false = not_lower z y (y ∷ ys) (not_below y, up.0) z (filter (alike z) zs) (each z ∙ kept_first z zs) in
      let whole : y ∷ filter (alike y) ys ≡ z ∷ filter (alike y) zs =
      sym (kept_first y ys) ∙ each y ∙ ap₂ (λ a b. cond (not a && not b) (z ∷ filter (alike y) zs) (filter (alike y) zs)) below above in
      let first : y ≡ z = heads y z (filter (alike y) ys) (filter (alike y) zs) whole in
      ap₂ (λ head tail. head ∷ tail) first
      (one_order ys zs up.1 down.1 (λ x. rest_alike (alike x y) (alike x z) y z (filter (alike x) ys) (filter (alike x) zs) (ap (alike x) first) (each x)))
    where
      heads : (a b : X) (rest more : List X) → a ∷ rest ≡ b ∷ more → a ≡ b
      heads a b rest more e = cc

pub puts_alike : {T : Type 0} (cmp : T → T → Ordering) → IsStrictWeakOrder (λ x y. is_lt (cmp x y)) → (written one other : List T) → PutsInOrder cmp written one → PutsInOrder cmp written other → one ≡ other
puts_alike cmp order written one other first second =
    one_order (λ x y. is_lt (cmp x y)) order one other (rises_from (λ x y. is_lt (cmp x y)) order one first.rises) (rises_from (λ x y. is_lt (cmp x y)) order other second.rises)
    (λ x. first.stable x ∙ sym (second.stable x))

files_alike : (written one other : ValidClarification) → PutsFilesInOrder written one → PutsFilesInOrder written other → one ≡ other
files_alike written one other first second =
    first.rest
    ∙ ap (λ files. let it : ValidClarification = record written { license_files = files } in it)
    (puts_alike by_path (ranks_by path_order_total (λ (file : FileSource). file.path.value)) written.license_files one.license_files other.license_files first.files second.files)
    ∙ sym second.rest

exceptions_alike : (written one other : ValidException) → PutsExceptionInOrder written one → PutsExceptionInOrder written other → one ≡ other
exceptions_alike written one other first second =
    first.rest
    ∙ ap (λ files. let it : ValidException = record written { license_files = files } in it)
    (puts_alike by_path (ranks_by path_order_total (λ (file : FileSource). file.path.value)) written.license_files one.license_files other.license_files first.files second.files)
    ∙ sym second.rest

zip_alike : {A B : Type 0} (R : A → B → Type 0) → ((x : A) (y z : B) → R x y → R x z → y ≡ z) → (xs : List A) (ys zs : List B) → AllZip R xs ys → AllZip R xs zs → ys ≡ zs
zip_alike R one [] [] [] first second = refl
zip_alike R one [] [] (z ∷ zs) first second = absurd second
zip_alike R one [] (y ∷ ys) zs first second = absurd first
zip_alike R one (x ∷ xs) [] zs first second = absurd first
zip_alike R one (x ∷ xs) (y ∷ ys) [] first second = absurd second
zip_alike R one (x ∷ xs) (y ∷ ys) (z ∷ zs) first second =
    ap₂ (λ head tail. head ∷ tail) (one x y z first.0 second.0) (zip_alike R one xs ys zs first.1 second.1)

-- a policy is put in one order
pub policy_alike : (written one other : ValidConfig) → PutsPolicyInOrder written one → PutsPolicyInOrder written other → one ≡ other
policy_alike written one other first second =
    let allowed : one.allowed ≡ other.allowed =
    puts_alike by_printed (ranks_by printed_order_total (λ (own : Licensee). own.0.value)) written.allowed one.allowed other.allowed first.allowed second.allowed in
    let clarifications : one.clarifications ≡ other.clarifications =
    zip_alike PutsFilesInOrder files_alike written.clarifications one.clarifications other.clarifications first.clarifications second.clarifications in
    let exceptions : one.exceptions ≡ other.exceptions =
    zip_alike PutsExceptionInOrder exceptions_alike written.exceptions one.exceptions other.exceptions first.exceptions second.exceptions in
    first.rest
    ∙ ap₂ (λ those others. let it : ValidConfig = record written { allowed = those; clarifications = others; exceptions = one.exceptions } in it) allowed clarifications
    ∙ ap (λ those. let it : ValidConfig = record written { allowed = other.allowed; clarifications = other.clarifications; exceptions = those } in it) exceptions
    ∙ sym second.rest

-- ---- ids that rise

abbrev by_bytes : List ℕ → List ℕ → Ordering
by_bytes = slice_cmp nat_cmp

abbrev Among : {X : Type 0} → X → List X → Type 0
Among x [] = ⊥
Among x (y ∷ ys) = (y ≡ x) ⊎ Among x ys

among : {X : Type 0} (xs : List X) (x : X) → Contains xs x → Among x xs
among [] x (k, within, e) = absurd (omega arith)
among (y ∷ ys) x (zero, within, e) = inl e
among (y ∷ ys) x (suc k, within, e) = inr (among ys x (k, omega arith, e))

has_among : {X : Type 0} (P : X → Type 0) (xs : List X) (x : X) → AllByRecursion P xs → Among x xs → P x
has_among P [] x all is = absurd is
has_among P (y ∷ ys) x all (inl e) = subst P e all.0
has_among P (y ∷ ys) x all (inr more) = has_among P ys x all.1 more

not_itself : (x y : List ℕ) → by_bytes x y ≡ Less → x ≡ y → ⊥
not_itself x y less same =
    let both : Less ≡ Equal = sym less ∙ (ap (by_bytes x) (sym same) ∙ tied_itself nat_list_cmp_total x) in cc

not_both : (x y : List ℕ) → by_bytes x y ≡ Less → by_bytes y x ≡ Less → ⊥
not_both x y first second =
    let both : Less ≡ Greater = sym first ∙ nat_list_cmp_total.antisymm x y ∙ ap ordering_reverse second in cc

heads_alike : (x y : List ℕ) (xs ys : List (List ℕ)) → AllByRecursion (λ z. by_bytes x z ≡ Less) xs → AllByRecursion (λ z. by_bytes y z ≡ Less) ys → Among x (y ∷ ys) → Among y (x ∷ xs) → x ≡ y
heads_alike x y xs ys up down (inl e) second = sym e
heads_alike x y xs ys up down (inr more) (inl e) = e
heads_alike x y xs ys up down (inr more) (inr others) =
    absurd (not_both x y (has_among (λ z. by_bytes x z ≡ Less) xs y up others) (has_among (λ z. by_bytes y z ≡ Less) ys x down more))

tails_alike : (x y : List ℕ) (xs ys : List (List ℕ)) → x ≡ y → AllByRecursion (λ z. by_bytes x z ≡ Less) xs → ((z : List ℕ) → Among z (x ∷ xs) → Among z (y ∷ ys)) → (z : List ℕ) → Among z xs → Among z ys
tails_alike x y xs ys same up to z is = by_place (to z (inr is))
  where
    by_place : Among z (y ∷ ys) → Among z ys
    by_place (inl e) = absurd (not_itself x z (has_among (λ z. by_bytes x z ≡ Less) xs z up is) (same ∙ e))
    by_place (inr more) = more

ids_alike : (xs ys : List (List ℕ)) → AreRising xs → AreRising ys → ((x : List ℕ) → Among x xs → Among x ys) → ((x : List ℕ) → Among x ys → Among x xs) → xs ≡ ys
unfolding IsStrictlySortedBy
ids_alike [] [] up down to from = refl
ids_alike [] (y ∷ ys) up down to from = absurd (from y (inl refl))
ids_alike (x ∷ xs) [] up down to from = absurd (to x (inl refl))
ids_alike (x ∷ xs) (y ∷ ys) up down to from =
    let first : x ≡ y = heads_alike x y xs ys up.0 down.0 (to x (inl refl)) (from y (inl refl)) in
    ap₂ (λ head tail. head ∷ tail) first
    (ids_alike xs ys up.1 down.1 (tails_alike x y xs ys first up.0 to) (tails_alike y x ys xs (sym first) down.0 from))

-- ---- crates of a graph

abbrev AmongNodes : CrateRecord → List CrateNode → Type 0
AmongNodes krate [] = ⊥
AmongNodes krate (node ∷ nodes) = (node.krate ≡ krate) ⊎ AmongNodes krate nodes

among_nodes : (nodes : List CrateNode) (krate : CrateRecord) → Among krate (map (λ (node : CrateNode). node.krate) nodes) → AmongNodes krate nodes
among_nodes [] krate is = is
among_nodes (node ∷ nodes) krate (inl e) = inl e
among_nodes (node ∷ nodes) krate (inr more) = inr (among_nodes nodes krate more)

id_among : (nodes : List CrateNode) (krate : CrateRecord) → AmongNodes krate nodes → Among krate.id (map (λ (node : CrateNode). node.krate.id) nodes)
id_among [] krate is = is
id_among (node ∷ nodes) krate (inl e) = inl (ap (λ (own : CrateRecord). own.id) e)
id_among (node ∷ nodes) krate (inr more) = inr (id_among nodes krate more)

one_crate : (nodes : List CrateNode) → AreRising (map (λ (node : CrateNode). node.krate.id) nodes) → (one other : CrateRecord) → AmongNodes one nodes → AmongNodes other nodes → one.id ≡ other.id → one ≡ other
unfolding IsStrictlySortedBy
one_crate [] rising one other first second same = absurd first
one_crate (node ∷ nodes) rising one other (inl e) (inl f) same = sym e ∙ f
one_crate (node ∷ nodes) rising one other (inl e) (inr more) same =
    absurd (not_itself node.krate.id other.id (has_among (λ z. by_bytes node.krate.id z ≡ Less) (map (λ (own : CrateNode). own.krate.id) nodes) other.id rising.0 (id_among nodes other more)) (ap (λ (own : CrateRecord). own.id) e ∙ same))
one_crate (node ∷ nodes) rising one other (inr more) (inl f) same =
    absurd (not_itself node.krate.id one.id (has_among (λ z. by_bytes node.krate.id z ≡ Less) (map (λ (own : CrateNode). own.krate.id) nodes) one.id rising.0 (id_among nodes one more)) (ap (λ (own : CrateRecord). own.id) f ∙ sym same))
one_crate (node ∷ nodes) rising one other (inr more) (inr others) same = one_crate nodes rising.1 one other more others same

module _ (graph : Graph) (rising : AreRising (ids_of graph)) where
  crates_alike : (xs ys : List CrateRecord) → ids_in xs ≡ ids_in ys → AllByRecursion (Contains (crates_of graph)) xs → AllByRecursion (Contains (crates_of graph)) ys → xs ≡ ys
  crates_alike [] [] same first second = refl
  crates_alike [] (y ∷ ys) same first second = absurd (cc)
  crates_alike (x ∷ xs) [] same first second = absurd (cc)
  crates_alike (x ∷ xs) (y ∷ ys) same first second =
      ap₂ (λ head tail. head ∷ tail)
      (one_crate graph.nodes rising x y (among_nodes graph.nodes x (among (crates_of graph) x first.0)) (among_nodes graph.nodes y (among (crates_of graph) y second.0)) (heads same))
      (crates_alike xs ys (tails same) first.1 second.1)
    where
      heads : x.id ∷ ids_in xs ≡ y.id ∷ ids_in ys → x.id ≡ y.id
      heads e = cc

      tails : x.id ∷ ids_in xs ≡ y.id ∷ ids_in ys → ids_in xs ≡ ids_in ys
      tails e = cc

  -- a property has one list of crates
  pub lists_alike : (Has : List ℕ → Type 0) (xs ys : List CrateRecord) → IsListOf graph Has xs → IsListOf graph Has ys → xs ≡ ys
  lists_alike Has xs ys first second =
      let ids : ids_in xs ≡ ids_in ys =
      ids_alike (ids_in xs) (ids_in ys) first.rising second.rising
      (λ id is. among (ids_in ys) id (second.whole id (has_among Has (ids_in xs) id (recursion_from_All Has (ids_in xs) first.sound) is)))
      (λ id is. among (ids_in xs) id (first.whole id (has_among Has (ids_in ys) id (recursion_from_All Has (ids_in ys) second.sound) is))) in
      crates_alike xs ys ids (recursion_from_All (Contains (crates_of graph)) xs first.records) (recursion_from_All (Contains (crates_of graph)) ys second.records)
