-- What is known of the metadata's crates: their titles, and why they are not checked.
use Rattle.std.proofs.Common.{◌≡◌, ◌∙◌, ◌⊎◌, inl, inr, refl, sym, ap, subst, ℕ, zero, suc, ◌+◌, ◌<◌, ◌≤◌, List, [], ◌∷◌, ◌++◌, length, map, take, Option, Some, None, get_or, arith}
use Rattle.std.specs.Borrow.{Bor}
use Rattle.std.specs.Slice.{IsItemAt}
use Rattle.std.specs.Prelude.{slice_get, option_copied}
use Rattle.std.specs.List.{cons_option}
use Rattle.std.specs.Option.{option_to_list}
use Rattle.std.proofs.lemmas.List.{get_or_append_left, get_or_push, length-map, take_more}
use Rattle.std.proofs.lemmas.List.Elements.{filter_map-append}
use Rattle.std.proofs.lemmas.Bool.{ltb-false, ltb-true}
use Rattle.std.proofs.lemmas.Option.{slice_get_past, slice_get_read, slice_get_within}
use Rattle.graph_core.specs.declared.krate.Krate.{Krate}
use Rattle.graph_core.specs.Krate.{CrateRecord, record_of}
use Rattle.graph_core.specs.Metadata.{CrateNode, Graph}
use Rattle.graph_core.specs.declared.selection.selection.Include.{Include}
use Rattle.graph_core.specs.selection.Choice.{Choice}
use Rattle.graph_core.specs.selection.Roots.{crates_of}
use Rattle.graph_walk.specs.declared.unchecked.Unchecked.{Unchecked}
use Rattle.graph_walk.specs.Unchecked.{UncheckedIs}
use Rattle.check_why.specs.declared.answer.CrateTitle.{CrateTitle}
use Rattle.check_why.specs.Answer.{title_of}
use Rattle.run_why.specs.Steps.{cause_at, copied_titles, title_at, titles_in}

-- the titles of crates are those of their records
pub titles_are : (krates : List Krate) → titles_in krates ≡ map title_of (map record_of krates)
titles_are [] = refl
titles_are (krate ∷ krates) = ap (λ (titles : List CrateTitle). title_of (record_of krate) ∷ titles) (titles_are krates)

-- ---- why crates are not checked

-- a place before the next one is before this one, or it is this one
before_next : (at place : ℕ) → at < place + 1 → (at < place) ⊎ (at ≡ place)
before_next zero zero within = inr refl
before_next zero (suc place) within = inl (omega arith)
before_next (suc at) zero within = absurd (omega (arith, within))
before_next (suc at) (suc place) within = one_on (before_next at place (omega (arith, within)))
  where
    one_on : (at < place) ⊎ (at ≡ place) → (suc at < suc place) ⊎ (suc at ≡ suc place)
    one_on (inl below) = inl (omega (arith, below))
    one_on (inr same) = inr (ap suc same)

module _ (graph : Graph) (choice : Choice) (own : ℕ) (include : Include) where
  abbrev Caused : CrateRecord → Option Unchecked → Type 0
  Caused krate cause = UncheckedIs graph choice own include krate cause

  -- with the cause of one more crate
  pub causes_more : (causes after : List (Option Unchecked)) (cause : Option Unchecked) (place : ℕ) → length causes ≡ place → after ≡ causes ++ cause ∷ []
      → ((at : ℕ) (krate : CrateRecord) → at < place → slice_get (crates_of graph) at ≡ Some krate → Caused krate (cause_at causes at))
      → ((krate : CrateRecord) → slice_get (crates_of graph) place ≡ Some krate → Caused krate cause)
      → (at : ℕ) (krate : CrateRecord) → at < place + 1 → slice_get (crates_of graph) at ≡ Some krate → Caused krate (cause_at after at)
  causes_more causes after cause place counted more earlier last at krate within is =
      subst (λ (all : List (Option Unchecked)). Caused krate (cause_at all at)) (sym more) (by_place (before_next at place within))
    where
      by_place : (at < place) ⊎ (at ≡ place) → Caused krate (cause_at (causes ++ cause ∷ []) at)
      by_place (inl below) =
          subst (Caused krate) (sym (get_or_append_left causes (cause ∷ []) None at (omega (arith, below, counted)))) (earlier at krate below is)
      by_place (inr same) =
          subst (Caused krate) (sym (get_or_push causes cause None at (counted ∙ sym same))) (last krate (subst (λ n. slice_get (crates_of graph) n ≡ Some krate) same is))

-- a crate of the graph is at a place of a node
pub within_crates : (graph : Graph) (place : ℕ) (krate : CrateRecord) (count : ℕ) → slice_get (crates_of graph) place ≡ Some krate → length graph.nodes ≤ count → place < count
within_crates graph place krate count is all =
    let within : place < length (crates_of graph) = slice_get_within (crates_of graph) place krate is in
    let same = length-map graph.nodes (λ (node : CrateNode). node.krate) in
    omega (arith, within, same, all)

-- ---- titles at places

one_title : (title : Option CrateTitle) → cons_option title [] ≡ option_to_list title
one_title (Some title) = refl
one_title None = refl

-- with that of one more place
pub titles_more : (titles : List CrateTitle) (places : List ℕ) (i : ℕ) → i < length places
    → copied_titles titles (take (i + 1) places) ≡ copied_titles titles (take i places) ++ option_to_list (title_at titles (get_or places i 0))
titles_more titles places i within =
    ap (copied_titles titles) (take_more places i 0 within)
    ∙ filter_map-append (title_at titles) (take i places) (get_or places i 0 ∷ [])
    ∙ ap (λ (last : List CrateTitle). copied_titles titles (take i places) ++ last) (one_title (title_at titles (get_or places i 0)))

-- what is at a place
pub item_at : {A : Type 0} (xs : List A) (place : ℕ) (item : Option (Bor A)) → IsItemAt xs place item → option_copied item ≡ slice_get xs place
item_at xs place None is = sym (slice_get_past xs place (ltb-false place (length xs) (sym is.0)))
item_at xs place (Some item) is = sym (slice_get_read xs (length xs) place item.now refl (ltb-true place (length xs) (sym is.0)) is.1)
