-- Places in a sorted list.
use Rattle.std.specs.Prelude.{◌≡◌, ℕ, ◌<◌, ◌≤◌, List, length, slice_index_or}
use Rattle.std.specs.declared.cmp.Ordering.{Ordering}
use Rattle.std.specs.declared.cmp.Ordering.TheVariants.{Less, Equal, Greater}

-- the item at the place is there, and equals the query
pub record IsEqualPlace {T : Type 0} (cmp : T → T → Ordering) (items : List T) (query : T) (place : ℕ) : Type 0 where
  pub within : place < length items
  pub equal : cmp (slice_index_or items place query) query ≡ Equal

-- the place where the query belongs: the items before it are less, and the others greater, so none is equal
pub record IsOwnPlace {T : Type 0} (cmp : T → T → Ordering) (items : List T) (query : T) (place : ℕ) : Type 0 where
  pub within : place ≤ length items
  pub before : (i : ℕ) → i < place → cmp (slice_index_or items i query) query ≡ Less
  pub after : (i : ℕ) → place ≤ i → i < length items → cmp (slice_index_or items i query) query ≡ Greater
