-- What a binary search over a sorted list says.
use Rattle.std.proofs.Common.{ℕ, List, length, Result, Ok, Err, IfErr, IsSorted, arith}
use Rattle.std.specs.Cmp.{IsTotalOrder}
use Rattle.std.specs.List.Sorted.{IsBinarySearchResult, IsSearchInRange}
use Rattle.std.specs.declared.cmp.Ordering.{Ordering}
use Rattle.std.proofs.lemmas.List.Sorted.{searchable_from_sorted}
use Rattle.deny_text.specs.Search.{IsOwnPlace}

pub own_place : {T : Type 0} {cmp : T → T → Ordering} (o : IsTotalOrder cmp) (items : List T) (query : T) (answer : Result ℕ ℕ) → IsSorted cmp items
    → IsSearchInRange answer (length items) → IsBinarySearchResult (λ item. cmp item query) items answer → IfErr answer (IsOwnPlace cmp items query)
own_place o items query (Ok i) sorted range found = tt
own_place o items query (Err i) sorted range found =
    let parts = found (searchable_from_sorted o (λ x. x) items query sorted) in record {
      within = range;
      before = λ k below. parts.0 k query (omega arith) below;
      after = λ k from below. parts.1 k query from below;
    }
