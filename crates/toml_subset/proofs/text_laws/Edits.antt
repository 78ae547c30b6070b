-- Edits leave a tree's spans in the text.
use Rattle.std.proofs.Common.{◌≡◌, ℕ, ⊎_elim, Bool, true, false, cond, List, [], ◌∷◌, Option, Some, None, option_map, subst}
use Rattle.deny_text.specs.declared.span.Span.{Span}
use Rattle.toml_subset.specs.Tables.{Mark, by_header, implicit, dotted, Node, Branches, Bodies, closed, growing, tables, unbranched, branch, last, body, same_key, has_key, branches_with_key, branches_with_edit, in_last, through_any, through_dotted, edit_along, put_new, branches_with_value, take_over, open_table, with_table, append_to, open_array, edit_within}
use Rattle.toml_subset.specs.declared.string.Key.{Key}
use Rattle.toml_subset.proofs.Law.Basics.{map_some, is_some, if_is}
use Rattle.deny_text.specs.Spans.{LiesBetween}
use Rattle.toml_subset.specs.text_laws.Placed.{IsKeyPlaced}
use Rattle.toml_subset.proofs.text_laws.Trees.{ArePartsPlaced, IsNodePlaced, AreBranchesPlaced, AreBodiesPlaced}

module _ (text : List ℕ) where
  abbrev pub KeepsTables : (Branches → Option Branches) → Type 0
  KeepsTables edit = (branches new : Branches) → AreBranchesPlaced text branches → edit branches ≡ Some new → AreBranchesPlaced text new

  abbrev pub KeepsNodes : (Node → Option Node) → Type 0
  KeepsNodes edit = (node new : Node) → IsNodePlaced text node → edit node ≡ Some new → IsNodePlaced text new

  pub added_placed : (key : Key) (node : Node) (branches : Branches) → IsKeyPlaced text key → IsNodePlaced text node → AreBranchesPlaced text branches
      → AreBranchesPlaced text (branches_with_key key node branches)
  added_placed key node unbranched first here are = (first, here, tt)
  added_placed key node (branch other there more) first here are = (are.0, are.1, added_placed key node more first here are.2)

  changed_placed : (edit : Node → Option Node) → KeepsNodes edit → (key : Key) → KeepsTables (branches_with_edit edit key)
  changed_placed edit keeps key unbranched new are e = absurd (cc)
  changed_placed edit keeps key (branch other node more) new are e =
      ⊎_elim
      (λ h. let made = map_some (λ inner. branch other inner more) (edit node) new h.1 in subst (AreBranchesPlaced text) made.2 (are.0, keeps node made.0 are.1 made.1, are.2))
      (λ h.
      let made = map_some (branch other node) (branches_with_edit edit key more) new h.1 in
      subst (AreBranchesPlaced text) made.2 (are.0, are.1, changed_placed edit keeps key more made.0 are.2 made.1))
      (if_is (same_key key other) (option_map (λ inner. branch other inner more) (edit node)) (option_map (branch other node) (branches_with_edit edit key more)) (Some new) e)

  last_placed : (edit : Branches → Option Branches) → KeepsTables edit → (bodies new : Bodies) → AreBodiesPlaced text bodies → in_last edit bodies ≡ Some new → AreBodiesPlaced text new
  last_placed edit keeps (last span branches) new are e =
      let made = map_some (last span) (edit branches) new e in subst (AreBodiesPlaced text) made.2 (are.0, keeps branches made.0 are.1 made.1)
  last_placed edit keeps (body span branches more) new are e =
      let made = map_some (body span branches) (in_last edit more) new e in
      subst (AreBodiesPlaced text) made.2 (are.0, are.1, last_placed edit keeps more made.0 are.2 made.1)

  any_placed : (edit : Branches → Option Branches) → KeepsTables edit → KeepsNodes (through_any edit)
  any_placed edit keeps (closed span content) new is e = absurd (cc)
  any_placed edit keeps (growing span mark branches) new is e =
      let made = map_some (growing span mark) (edit branches) new e in subst (IsNodePlaced text) made.2 (is.0, keeps branches made.0 is.1 made.1)
  any_placed edit keeps (tables span bodies) new is e =
      let made = map_some (tables span) (in_last edit bodies) new e in subst (IsNodePlaced text) made.2 (is.0, last_placed edit keeps bodies made.0 is.1 made.1)

  dotted_placed : (edit : Branches → Option Branches) → KeepsTables edit → KeepsNodes (through_dotted edit)
  dotted_placed edit keeps (closed span content) new is e = absurd (cc)
  dotted_placed edit keeps (growing span by_header branches) new is e = absurd (cc)
  dotted_placed edit keeps (growing span implicit branches) new is e = absurd (cc)
  dotted_placed edit keeps (growing span dotted branches) new is e =
      let made = map_some (growing span dotted) (edit branches) new e in subst (IsNodePlaced text) made.2 (is.0, keeps branches made.0 is.1 made.1)
  dotted_placed edit keeps (tables span bodies) new is e = absurd (cc)

  module _ (mark : Mark) (through : (Branches → Option Branches) → Node → Option Node)
      (goes : (edit : Branches → Option Branches) → KeepsTables edit → KeepsNodes (through edit))
      (edit : Key → Branches → Option Branches) (keeps : (key : Key) → IsKeyPlaced text key → KeepsTables (edit key)) where
    along_if : (b : Bool) (key next : Key) (more : List Key) (branches new : Branches) → IsKeyPlaced text key → AreBranchesPlaced text branches
        → KeepsTables (edit_along mark through edit (next ∷ more))
        → (elim b [
          | true ↦ branches_with_edit (through (edit_along mark through edit (next ∷ more))) key branches
          | false ↦ option_map (λ inner. branches_with_key key (growing key.span mark inner) branches) (edit_along mark through edit (next ∷ more) unbranched)
        ]) ≡ Some new → AreBranchesPlaced text new
    along_if true key next more branches new here are rest e =
        changed_placed (through (edit_along mark through edit (next ∷ more))) (goes (edit_along mark through edit (next ∷ more)) rest) key branches new are e
    along_if false key next more branches new here are rest e =
        let made = map_some (λ inner. branches_with_key key (growing key.span mark inner) branches) (edit_along mark through edit (next ∷ more) unbranched) new e in
        subst (AreBranchesPlaced text) made.2 (added_placed key (growing key.span mark made.0) branches here (here.0, rest unbranched made.0 tt made.1) are)

    pub along_placed : (keys : List Key) → ArePartsPlaced text keys → KeepsTables (edit_along mark through edit keys)
    along_placed [] parts branches new are e = absurd (cc)
    along_placed (key ∷ []) parts branches new are e = keeps key parts.0 branches new are e
    along_placed (key ∷ next ∷ more) parts branches new are e =
        along_if (has_key key branches) key next more branches new parts.0 are (along_placed (next ∷ more) parts.1) e

  put_new_placed : (node : Node) → IsNodePlaced text node → (key : Key) → IsKeyPlaced text key → KeepsTables (put_new node key)
  put_new_placed node is key here branches new are e =
      ⊎_elim (λ h. let none : None ≡ Some new = h.1 in absurd (cc))
      (λ h. subst (AreBranchesPlaced text) (is_some (branches_with_key key node branches) new h.1) (added_placed key node branches here is are))
      (if_is (has_key key branches) None (Some (branches_with_key key node branches)) (Some new) e)

  -- a value at the end of a dotted key
  pub put_placed : (keys : List Key) (node : Node) → ArePartsPlaced text keys → IsNodePlaced text node → KeepsTables (branches_with_value keys node)
  put_placed keys node parts is = along_placed dotted through_dotted dotted_placed (put_new node) (put_new_placed node is) keys parts

  module _ (at : Span) (lies : LiesBetween text at) where
    -- an edit at a key: of its node, or a new one
    at_key_placed : (edit : Node → Option Node) → KeepsNodes edit → (fresh : Node) → IsNodePlaced text fresh → (key : Key) → IsKeyPlaced text key → (branches new : Branches)
        → AreBranchesPlaced text branches → cond (has_key key branches) (branches_with_edit edit key branches) (Some (branches_with_key key fresh branches)) ≡ Some new → AreBranchesPlaced text new
    at_key_placed edit keeps fresh is key here branches new are e =
        ⊎_elim (λ h. changed_placed edit keeps key branches new are h.1)
        (λ h. subst (AreBranchesPlaced text) (is_some (branches_with_key key fresh branches) new h.1) (added_placed key fresh branches here is are))
        (if_is (has_key key branches) (branches_with_edit edit key branches) (Some (branches_with_key key fresh branches)) (Some new) e)

    take_over_placed : KeepsNodes (take_over at)
    take_over_placed (closed span content) new is e = absurd (cc)
    take_over_placed (growing span by_header branches) new is e = absurd (cc)
    take_over_placed (growing span implicit branches) new is e = subst (IsNodePlaced text) (is_some (growing at by_header branches) new e) (lies, is.1)
    take_over_placed (growing span dotted branches) new is e = absurd (cc)
    take_over_placed (tables span bodies) new is e = absurd (cc)

    with_table_placed : (bodies : Bodies) → AreBodiesPlaced text bodies → AreBodiesPlaced text (with_table at bodies)
    with_table_placed (last span branches) are = (are.0, are.1, (lies, tt))
    with_table_placed (body span branches more) are = (are.0, are.1, with_table_placed more are.2)

    append_placed : KeepsNodes (append_to at)
    append_placed (closed span content) new is e = absurd (cc)
    append_placed (growing span mark branches) new is e = absurd (cc)
    append_placed (tables span bodies) new is e = subst (IsNodePlaced text) (is_some (tables span (with_table at bodies)) new e) (is.0, with_table_placed bodies is.1)

    -- headers
    pub header_placed : (keys : List Key) → ArePartsPlaced text keys → KeepsTables (edit_along implicit through_any (open_table at) keys)
    header_placed keys parts =
        along_placed implicit through_any any_placed (open_table at)
        (λ key here branches new are e. at_key_placed (take_over at) take_over_placed (growing at by_header unbranched) (lies, tt) key here branches new are e) keys parts

    pub array_header_placed : (keys : List Key) → ArePartsPlaced text keys → KeepsTables (edit_along implicit through_any (open_array at) keys)
    array_header_placed keys parts =
        along_placed implicit through_any any_placed (open_array at)
        (λ key here branches new are e. at_key_placed (append_to at) append_placed (tables at (last at unbranched)) (lies, (lies, tt)) key here branches new are e) keys parts

  -- an edit in the table that a header opened
  pub within_placed : (section : List Key) (edit : Branches → Option Branches) → KeepsTables edit → KeepsTables (edit_within section edit)
  within_placed [] edit keeps branches new are e = keeps branches new are e
  within_placed (key ∷ more) edit keeps branches new are e =
      changed_placed (through_any (edit_within more edit)) (any_placed (edit_within more edit) (within_placed more edit keeps)) key branches new are e
