-- Lists that are gone through item by item.
use Rattle.std.proofs.Common.{◌≡◌, ◌∙◌, sym, ap, ℕ, ◌+◌, ◌<◌, List, [], ◌∷◌, ◌++◌, length, take, drop, get_or, append-nil, append_assoc, map, nat_cmp, Option}
use Rattle.std.specs.List.{filter, flat_map, fold}
use Rattle.std.specs.Cmp.Lexicographic.{slice_cmp}
use Rattle.std.specs.BTreeSet.{insert_key}
use Rattle.std.proofs.lemmas.List.{take-append-drop, drop_more, map-append, take_more}
use Rattle.std.proofs.lemmas.List.Elements.{filter-append}
use Rattle.std.proofs.lemmas.List.Concat.{flat_map-append}
use Rattle.std.proofs.lemmas.List.Sums.{fold-append}
use Rattle.run_list_text.specs.declared.listed.ListedCrate.{ListedCrate}
use Rattle.run_list_text.specs.Listed.{distinct_texts, is_under, names_under}

module _ {A : Type 0} (xs : List A) (i : ℕ) (x : A) (within : i < length xs) (at : x ≡ get_or xs i x) where
  -- one item more
  pub one_more : take (i + 1) xs ≡ take i xs ++ x ∷ []
  one_more = take_more xs i x within ∙ ap (λ y. take i xs ++ y ∷ []) (sym at)

  -- the item, and what is behind it
  pub item_first : drop i xs ≡ x ∷ drop (i + 1) xs
  item_first = drop_more xs i x within ∙ ap (λ y. y ∷ drop (i + 1) xs) (sym at)

  pub fold_more : {B : Type 0} (f : B → A → B) (a : B) → fold f a (take (i + 1) xs) ≡ f (fold f a (take i xs)) x
  fold_more f a = ap (fold f a) one_more ∙ fold-append f a (take i xs) (x ∷ [])

  -- the text of one item more
  pub text_more : {B : Type 0} (f : A → List B) → flat_map f (take (i + 1) xs) ≡ flat_map f (take i xs) ++ f x
  text_more f = ap (flat_map f) one_more ∙ flat_map-append f (take i xs) (x ∷ []) ∙ ap (λ text. flat_map f (take i xs) ++ text) (append-nil (f x))

  -- the whole text, cut before and behind an item
  pub text_cut : (f : A → List ℕ) → flat_map f xs ≡ flat_map f (take i xs) ++ (f x ++ flat_map f (drop (i + 1) xs))
  text_cut f =
      ap (flat_map f) (sym (take-append-drop i xs))
      ∙ flat_map-append f (take i xs) (drop i xs)
      ∙ ap (λ rest. flat_map f (take i xs) ++ flat_map f rest) item_first

  -- what one item more adds, behind what was there there
  pub text_step : (f : A → List ℕ) (start before after : List ℕ) → before ≡ start ++ flat_map f (take i xs) → after ≡ before ++ f x → after ≡ start ++ flat_map f (take (i + 1) xs)
  text_step f start before after was adds =
      adds
      ∙ ap (λ text. text ++ f x) was
      ∙ append_assoc start (flat_map f (take i xs)) (f x)
      ∙ ap (λ text. start ++ text) (sym (text_more f))

-- the licences of one crate more
pub distinct_more : (crates : List ListedCrate) (i : ℕ) (listed : ListedCrate) → i < length crates → listed ≡ get_or crates i listed
    → distinct_texts (flat_map (λ krate. krate.licenses) (take (i + 1) crates)) ≡ fold (insert_key (slice_cmp nat_cmp)) (distinct_texts (flat_map (λ krate. krate.licenses) (take i crates))) listed.licenses
distinct_more crates i listed within at =
    ap distinct_texts (text_more crates i listed within at (λ krate. krate.licenses)) ∙ fold-append (insert_key (slice_cmp nat_cmp)) [] (flat_map (λ krate. krate.licenses) (take i crates)) listed.licenses

-- the names of crates, and of further ones
pub names_split : (license : Option (List ℕ)) (before more : List ListedCrate) → names_under license (before ++ more) ≡ names_under license before ++ names_under license more
names_split license before more =
    ap (map (λ krate. krate.name)) (filter-append (is_under license) before more)
    ∙ map-append (λ krate. krate.name) (filter (is_under license) before) (filter (is_under license) more)

-- the names of one crate more
pub names_more : (license : Option (List ℕ)) (crates : List ListedCrate) (i : ℕ) (listed : ListedCrate) → i < length crates → listed ≡ get_or crates i listed
    → names_under license (take (i + 1) crates) ≡ names_under license (take i crates) ++ names_under license (listed ∷ [])
names_more license crates i listed within at =
    ap (names_under license) (one_more crates i listed within at) ∙ names_split license (take i crates) (listed ∷ [])
