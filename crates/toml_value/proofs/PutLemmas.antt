-- A value at the end of a dotted key, part by part.
use Rattle.std.proofs.Common.{◌≡◌, ℕ, suc, ◌<◌, ⊎_elim, Bool, true, false, cond, List, [], ◌∷◌, Option, Some, None, option_map, is_some, refl, ap, sym, subst, ◌∙◌, arith}
use Rattle.deny_text.specs.declared.span.Span.{Span}
use Rattle.toml_subset.specs.TableFaults.{table_node_at, fault_at_key, new_key_fault}
use Rattle.toml_subset.specs.declared.error.SyntaxReason.TheVariants.{DuplicateKey}
use Rattle.toml_subset.specs.Tables.{by_header, implicit, dotted, Node, Branches, closed, growing, tables, unbranched, branch, same_key, has_key, branches_with_key, through_dotted, put_new, branches_with_value}
use Rattle.toml_subset.specs.declared.string.Key.{Key}
use Rattle.toml_subset.proofs.Law.Basics.{map_some, is_some as one_of, if_is, if_false}
use Rattle.toml_subset.proofs.Law.Ways.{along_by, along_step, new_table}
use Rattle.toml_subset.specs.frames.Levels.{found_at, hole, branches_with_node, size}
use Rattle.toml_subset.proofs.frames.Levels.{is_found, is_missing}
use Rattle.toml_value.specs.BelowViews.{LeadsOn, IsTakenOut, HasRoom, table_with_node}
use Rattle.toml_value.specs.BranchViews.{parts_of_dotted}
use Rattle.toml_value.proofs.LevelLemmas.{size_replaced}

pub has_is : (key : Key) (table : Branches) → has_key key table ≡ is_some (table_node_at key table)
has_is key unbranched = refl
has_is key (branch other here more) =
    elim (same_key key other) as (λ b. cond b true (has_key key more) ≡ is_some (cond b (Some here) (table_node_at key more))) [ true ↦ refl | false ↦ has_is key more ]

-- the last part

pub last_fault : (key : Key) (table : Branches) (above : ℕ) (here : Option Node) → here ≡ table_node_at key table
    → new_key_fault key table above ≡ cond (is_some here) (fault_at_key DuplicateKey key) None
last_fault key table above here is = ap (λ b. cond b (fault_at_key DuplicateKey key) None) (has_is key table ∙ ap is_some (sym is))

pub last_new : (key : Key) (node : Node) (table : Branches) → is_some (branches_with_value (key ∷ []) node table) ≡ true → has_key key table ≡ false
last_new key node table free =
    elim (has_key key table) as (λ b. is_some (cond b None (Some (branches_with_key key node table))) ≡ true → b ≡ false) [ true ↦ λ e. absurd (cc) | false ↦ λ e. refl ] free

pub last_put : (key : Key) (node : Node) (table : Branches) → has_key key table ≡ false → branches_with_value (key ∷ []) node table ≡ Some (branches_with_key key node table)
last_put key node table new = if_false (has_key key table) None (Some (branches_with_key key node table)) new

module _ (key next : Key) (more : List Key) (node : Node) (table : Branches) where
  abbrev rest : Branches → Option Branches
  rest = branches_with_value (next ∷ more) node

  step : (b : Bool) → has_key key table ≡ b → branches_with_value (key ∷ next ∷ more) node table ≡ along_by dotted through_dotted (put_new node) key next more table b
  step b has = along_step dotted through_dotted (put_new node) key next more table ∙ ap (along_by dotted through_dotted (put_new node) key next more table) has

  some_of_map : {A B : Type 0} (f : A → B) (o : Option A) → is_some (option_map f o) ≡ true → is_some o ≡ true
  some_of_map f None e = e
  some_of_map f (Some x) e = refl

  -- a part that the table does not have makes a new one
  pub new_free : is_some (branches_with_value (key ∷ next ∷ more) node table) ≡ true → has_key key table ≡ false → is_some (rest unbranched) ≡ true
  new_free free new = some_of_map (new_table dotted key table) (rest unbranched) (sym (ap is_some (step false new)) ∙ free)

  pub new_put : (inner : Branches) → has_key key table ≡ false → rest unbranched ≡ Some inner
      → branches_with_value (key ∷ next ∷ more) node table ≡ Some (branches_with_key key (growing key.span dotted inner) table)
  new_put inner new made = step false new ∙ ap (option_map (new_table dotted key table)) made

  -- a part that it has leads into a table that a dotted key made
  leads_by : (here : Node) → is_some (through_dotted rest here) ≡ true → is_some (parts_of_dotted here) ≡ true
  leads_by (closed span content) e = absurd (cc)
  leads_by (growing span by_header branches) e = absurd (cc)
  leads_by (growing span implicit branches) e = absurd (cc)
  leads_by (growing span dotted branches) e = refl
  leads_by (tables span bodies) e = absurd (cc)

  goes : (i : ℕ) (here : Node) → found_at key table ≡ Some (i, here)
      → branches_with_value (key ∷ next ∷ more) node table ≡ option_map (λ (new : Node). branches_with_node i new table) (through_dotted rest here)
  goes i here there = let at = is_found key table i here there in step true at.has ∙ at.change (through_dotted rest)

  goes_free : (i : ℕ) (here : Node) → found_at key table ≡ Some (i, here) → is_some (branches_with_value (key ∷ next ∷ more) node table) ≡ true
      → is_some (through_dotted rest here) ≡ true
  goes_free i here there free = some_of_map (λ (new : Node). branches_with_node i new table) (through_dotted rest here) (sym (ap is_some (goes i here there)) ∙ free)

  pub leads_on : (o : Option (ℕ × Node)) → found_at key table ≡ o → is_some (branches_with_value (key ∷ next ∷ more) node table) ≡ true → LeadsOn o
  leads_on None there free = tt
  leads_on (Some found) there free = leads_by found.1 (goes_free found.0 found.1 there free)

  -- the table below a part, which was taken out
  pub below_free : (place : Option ℕ) (new : Branches) (span : Span) (inner : Branches) → IsTakenOut key table new place span inner
      → is_some (branches_with_value (key ∷ next ∷ more) node table) ≡ true → is_some (rest inner) ≡ true
  below_free None new span inner is free = subst (λ b. is_some (rest b) ≡ true) (sym is.3) (new_free free (is_missing key table is.0).has)
  below_free (Some i) new span inner is free = some_of_map (growing span dotted) (rest inner) (goes_free i (growing span dotted inner) is.0 free)

  pub below_put : (place : Option ℕ) (new : Branches) (span : Span) (inner made : Branches) → IsTakenOut key table new place span inner → rest inner ≡ Some made
      → branches_with_value (key ∷ next ∷ more) node table ≡ Some (table_with_node place key (growing span dotted made) new)
  below_put None new span inner made is e =
      new_put made (is_missing key table is.0).has (subst (λ b. rest b ≡ Some made) is.3 e)
      ∙ ap (λ (s : Span). Some (branches_with_key key (growing s dotted made) table)) (sym is.2)
      ∙ ap (λ (b : Branches). Some (branches_with_key key (growing span dotted made) b)) (sym is.1)
  below_put (Some i) new span inner made is e =
      let at = is_found key table i (growing span dotted inner) is.0 in
      goes i (growing span dotted inner) is.0
      ∙ ap (λ (o : Option Branches). option_map (λ (n : Node). branches_with_node i n table) (option_map (growing span dotted) o)) e
      ∙ ap Some (sym (ap (branches_with_node i (growing span dotted made)) is.1 ∙ at.twice (hole key) (growing span dotted made)))

found_within : (key : Key) (table : Branches) (i : ℕ) (node : Node) → found_at key table ≡ Some (i, node) → i < size table
found_within key unbranched i node e = absurd (cc)
found_within key (branch other here more) i node e =
    ⊎_elim
    (λ h. let first : 0 ≡ i = ap (λ (f : ℕ × Node). f.0) (one_of (0, here) (i, node) h.1) in omega arith)
    (λ h.
    let rest = map_some (λ (f : ℕ × Node). (suc f.0, f.1)) (found_at key more) (i, node) h.1 in
    let under : rest.0.0 < size more = found_within key more rest.0.0 rest.0.1 rest.1 in
    let same : suc rest.0.0 ≡ i = ap (λ (f : ℕ × Node). f.0) rest.2 in
    omega arith)
    (if_is (same_key key other) (Some (0, here)) (option_map (λ (f : ℕ × Node). (suc f.0, f.1)) (found_at key more)) (Some (i, node)) e)

pub below_room : (key : Key) (table new : Branches) (place : Option ℕ) (span : Span) (inner : Branches) → IsTakenOut key table new place span inner → HasRoom place key new
below_room key table new None span inner is = ap (has_key key) is.1 ∙ (is_missing key table is.0).has
below_room key table new (Some i) span inner is =
    let inside = found_within key table i (growing span dotted inner) is.0 in
    let same = ap size is.1 ∙ size_replaced i (hole key) table in
    omega arith

-- a node with those parts
pub dotted_is : (node : Node) (span : Span) (inner : Branches) → Some (span, inner) ≡ parts_of_dotted node → node ≡ growing span dotted inner
dotted_is (closed s content) span inner e = absurd (cc)
dotted_is (growing s by_header branches) span inner e = absurd (cc)
dotted_is (growing s implicit branches) span inner e = absurd (cc)
dotted_is (growing s dotted branches) span inner e = sym (ap (λ (p : Span × Branches). growing p.0 dotted p.1) (one_of (span, inner) (s, branches) e))
dotted_is (tables s bodies) span inner e = absurd (cc)
