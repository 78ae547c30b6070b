-- One item more of the folds: the ids of a list, and the kinds of a dependency.
use Rattle.std.proofs.Common.{◌≡◌, ℕ, ◌+◌, ◌<◌, ◌≤◌, List, length, drop, get_or, Ok, ◌∙◌, ap}
use Rattle.std.proofs.lemmas.List.{drop_all}
use Rattle.serde_json.specs.View.{view, items_view}
use Rattle.serde_json.specs.declared.value.Value.{Value}
use Rattle.graph_core.specs.declared.edge.Kinds.{Kinds}
use Rattle.graph_core.specs.declared.edge.DepKind.{DepKind}
use Rattle.graph_metadata.specs.declared.fault.ObjectPlace.TheVariants.{Kind}
use Rattle.graph_metadata.specs.Nodes.{kind_row, kinds_in, with_kind}
use Rattle.graph_metadata.specs.Shape.{IdPlaces, known_in, with_place, id_of_item}
use Rattle.graph_metadata.specs.declared.fault.MetaError.{MetaError}
use Rattle.graph_metadata.specs.declared.fault.MetaError.TheVariants.{Syntax, Shape, Memory}
use Rattle.graph_metadata.specs.Told.{◌>>=◌, Fails}
use Rattle.graph_metadata.proofs.Drops.{at-drop}

pub known-step : (known : IdPlaces) (xs : List Value) (i : ℕ) (x : Value) → i < length xs → x ≡ get_or xs i x
    → known_in known i (items_view (drop i xs))
    ≡ known_in (with_place known i (id_of_item (view x))) (i + 1) (items_view (drop (i + 1) xs))
unfolding known_in
known-step known xs i x h at = ap (λ rest. known_in known i (items_view rest)) (at-drop xs i x h at)

pub known-end : (known : IdPlaces) (xs : List Value) (i : ℕ) → length xs ≤ i → known_in known i (items_view (drop i xs)) ≡ known
unfolding known_in
known-end known xs i h = ap (λ rest. known_in known i (items_view rest)) (drop_all i xs h)

pub kinds-step : (i j : ℕ) (kinds : Kinds) (xs : List Value) (k : ℕ) (x : Value) (kind : DepKind) → k < length xs
    → x ≡ get_or xs k x → kind_row (Kind i j k) (view x) ≡ Ok kind
    → kinds_in i j k kinds (items_view (drop k xs)) ≡ kinds_in i j (k + 1) (with_kind kinds kind) (items_view (drop (k + 1) xs))
unfolding kinds_in
kinds-step i j kinds xs k x kind h at e =
    ap (λ rest. kinds_in i j k kinds (items_view rest)) (at-drop xs k x h at)
    ∙ ap (λ told. told >>= (λ found. kinds_in i j (k + 1) (with_kind kinds found) (items_view (drop (k + 1) xs)))) e

pub kinds-fails : (i j : ℕ) (kinds : Kinds) (xs : List Value) (k : ℕ) (x : Value) (error : MetaError) → k < length xs
    → x ≡ get_or xs k x → Fails error (kind_row (Kind i j k) (view x)) → Fails error (kinds_in i j k kinds (items_view (drop k xs)))
unfolding kinds_in
kinds-fails i j kinds xs k x Memory h at fails = tt
kinds-fails i j kinds xs k x (Shape fault) h at fails =
    ap (λ rest. kinds_in i j k kinds (items_view rest)) (at-drop xs k x h at)
    ∙ ap (λ told. told >>= (λ found. kinds_in i j (k + 1) (with_kind kinds found) (items_view (drop (k + 1) xs)))) fails
kinds-fails i j kinds xs k x Syntax h at fails = absurd fails

pub kinds-end : (i j : ℕ) (kinds : Kinds) (xs : List Value) (k : ℕ) → length xs ≤ k
    → kinds_in i j k kinds (items_view (drop k xs)) ≡ Ok kinds
unfolding kinds_in
kinds-end i j kinds xs k h = ap (λ rest. kinds_in i j k kinds (items_view rest)) (drop_all k xs h)
