-- What holds of the rows of every text that has them: ids lead to the crates that have them, and places to crates.
use Rattle.std.specs.Prelude.{◌≡◌, ℕ, ◌<◌, List, [], ◌∷◌, length, slice_get, Some, IfSome}
use Rattle.std.specs.List.{AllByRecursion}
use Rattle.std.specs.FinMap as finmap
use Rattle.graph_core.specs.Krate.{CrateRecord, ids_in}
use Rattle.graph_metadata.specs.Records.{MetadataRows}

-- the crate at a place has this id
abbrev pub HasIdAt : List (List ℕ) → List ℕ → ℕ → Type 0
HasIdAt ids id place = slice_get ids place ≡ Some id

-- no place is there twice
abbrev pub AreApart : List ℕ → Type 0
AreApart [] = Unit {0}
AreApart (place ∷ places) = AllByRecursion (λ other. other ≡ place → ⊥) places × AreApart places

pub record AreSound (rows : MetadataRows) : Type 0 where
  pub located : AllByRecursion (λ entry. HasIdAt (ids_in rows.crates) entry.0 entry.1) (finmap.entries rows.root.known)
  pub complete : (place : ℕ) (krate : CrateRecord) → slice_get rows.crates place ≡ Some krate
      → finmap.get rows.root.known krate.id ≡ Some place
  pub members : AllByRecursion (λ member. HasIdAt (ids_in rows.crates) member.id member.place) rows.root.members
  pub root : IfSome rows.resolve.root (λ place. place < length rows.crates)
  pub within : AllByRecursion (AllByRecursion (λ edge. edge.to < length rows.crates)) rows.edges
