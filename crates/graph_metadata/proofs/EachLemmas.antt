-- What is reported of each item, one item after another.
use Rattle.std.proofs.Common.{◌≡◌, ℕ, ◌+◌, ◌<◌, ◌≤◌, List, [], ◌∷◌, ◌++◌, map, length, drop, get_or, Ok, Err, refl, sym, ◌∙◌, ap, subst, append_assoc, append-nil}
use Rattle.std.proofs.lemmas.List.{drop_all}
use Rattle.serde_json.specs.Data.{Data}
use Rattle.serde_json.specs.View.{view, items_view}
use Rattle.serde_json.specs.declared.value.Value.{Value}
use Rattle.graph_metadata.specs.declared.fault.MetaError.{MetaError}
use Rattle.graph_metadata.specs.declared.fault.MetaError.TheVariants.{Syntax, Shape, Memory}
use Rattle.graph_metadata.specs.Told.{MetadataReading, ◌>>=◌, reading_of_each, each_item, items_in, Fails}
use Rattle.graph_metadata.proofs.Drops.{at-drop}

-- what is reported of the rest, behind what was reported before
abbrev pub onto : {T : Type 0} → List T → MetadataReading (List T) → MetadataReading (List T)
onto done (Ok rest) = Ok (done ++ rest)
onto done (Err fault) = Err fault

pub onto-nil : {T : Type 0} (told : MetadataReading (List T)) → told ≡ onto [] told
onto-nil (Ok rest) = refl
onto-nil (Err fault) = refl

onto-cons : {T : Type 0} (done : List T) (value : T) (told : MetadataReading (List T))
    → onto done (told >>= (λ others. Ok (value ∷ others))) ≡ onto (done ++ value ∷ []) told
onto-cons done value (Ok rest) = ap Ok (sym (append_assoc done (value ∷ []) rest))
onto-cons done value (Err fault) = refl

module _ {A T : Type 0} (row : ℕ → A → MetadataReading T) where
  each-cons : (i : ℕ) (x : A) (rest : List A) (done : List T) (value : T) → row i x ≡ Ok value
      → onto done (reading_of_each row i (x ∷ rest)) ≡ onto (done ++ value ∷ []) (reading_of_each row (i + 1) rest)
  unfolding reading_of_each
  each-cons i x rest done value e =
      ap (λ told. onto done (told >>= (λ first. reading_of_each row (i + 1) rest >>= (λ others. Ok (first ∷ others))))) e
      ∙ onto-cons done value (reading_of_each row (i + 1) rest)

  pub each-step : (xs : List A) (i : ℕ) (x : A) (done : List T) (value : T) → i < length xs → x ≡ get_or xs i x
      → row i x ≡ Ok value
      → onto done (reading_of_each row i (drop i xs)) ≡ onto (done ++ value ∷ []) (reading_of_each row (i + 1) (drop (i + 1) xs))
  each-step xs i x done value h at e =
      ap (λ rest. onto done (reading_of_each row i rest)) (at-drop xs i x h at) ∙ each-cons i x (drop (i + 1) xs) done value e

  each-fault : (i : ℕ) (x : A) (rest : List A) (done : List T) (error : MetaError) → Fails error (row i x)
      → Fails error (onto done (reading_of_each row i (x ∷ rest)))
  unfolding reading_of_each
  each-fault i x rest done Memory fails = tt
  each-fault i x rest done (Shape fault) fails =
      ap (λ told. onto done (told >>= (λ first. reading_of_each row (i + 1) rest >>= (λ others. Ok (first ∷ others))))) fails
  each-fault i x rest done Syntax fails = fails

  pub each-fails : (xs : List A) (i : ℕ) (x : A) (done : List T) (error : MetaError) → i < length xs → x ≡ get_or xs i x
      → Fails error (row i x) → Fails error (onto done (reading_of_each row i (drop i xs)))
  each-fails xs i x done error h at fails =
      subst (λ rest. Fails error (onto done (reading_of_each row i rest))) (sym (at-drop xs i x h at))
      (each-fault i x (drop (i + 1) xs) done error fails)

  pub each-end : (xs : List A) (i : ℕ) (done : List T) → length xs ≤ i → onto done (reading_of_each row i (drop i xs)) ≡ Ok done
  unfolding reading_of_each
  each-end xs i done h = ap (λ rest. onto done (reading_of_each row i rest)) (drop_all i xs h) ∙ ap Ok (append-nil done)

-- ---- lists of JSON

items-map : (values : List Value) → items_in (items_view values) ≡ map view values
items-map [] = refl
items-map (value ∷ values) = ap (λ rest. view value ∷ rest) (items-map values)

pub each-map : {A B T : Type 0} (f : A → B) (row : ℕ → B → MetadataReading T) (i : ℕ) (xs : List A)
    → reading_of_each row i (map f xs) ≡ reading_of_each (λ j x. row j (f x)) i xs
unfolding reading_of_each
each-map f row i [] = refl
each-map f row i (x ∷ xs) =
    ap (λ rest. row i (f x) >>= (λ first. rest >>= (λ others. Ok (first ∷ others)))) (each-map f row (i + 1) xs)

pub each-view : {T : Type 0} (row : ℕ → Data → MetadataReading T) (values : List Value)
    → each_item row (items_view values) ≡ reading_of_each (λ j value. row j (view value)) 0 values
each-view row values = ap (reading_of_each row 0) (items-map values) ∙ each-map view row 0 values

-- ---- for a loop over the items: what is reported of all is what is reported of the rest, behind what was reported
-- ---- before

module _ {A T : Type 0} (row : ℕ → A → MetadataReading T) (xs : List A) (i : ℕ) (done : List T) (whole : MetadataReading (List T)) where
  pub starts : done ≡ [] → whole ≡ reading_of_each row 0 xs → whole ≡ onto done (reading_of_each row 0 (drop 0 xs))
  starts none e = rw none (e ∙ onto-nil (reading_of_each row 0 xs))

  pub goes_on : (x : A) (value : T) → i < length xs → x ≡ get_or xs i x → row i x ≡ Ok value
      → whole ≡ onto done (reading_of_each row i (drop i xs))
      → whole ≡ onto (done ++ value ∷ []) (reading_of_each row (i + 1) (drop (i + 1) xs))
  goes_on x value h at e so_far = so_far ∙ each-step row xs i x done value h at e

  pub ends : (x : A) (error : MetaError) → i < length xs → x ≡ get_or xs i x → Fails error (row i x)
      → whole ≡ onto done (reading_of_each row i (drop i xs)) → Fails error whole
  ends x error h at fails so_far = subst (Fails error) (sym so_far) (each-fails row xs i x done error h at fails)

  pub is_done : length xs ≤ i → whole ≡ onto done (reading_of_each row i (drop i xs)) → whole ≡ Ok done
  is_done h so_far = so_far ∙ each-end row xs i done h
