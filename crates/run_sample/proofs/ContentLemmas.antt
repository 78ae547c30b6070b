-- What a file that is put makes of a tree's content.
use Rattle.std.proofs.Common.{◌≡◌, ◌≢◌, ◌∙◌, refl, sym, ap, subst, ℕ, zero, suc, ◌<◌, inl, inr, List, length, take, Some, arith}
use Rattle.std.specs.FinMap as finmap
use Rattle.std.specs.FinMap.{same_map}
use Rattle.std.proofs.lemmas.Bool.{cases_lt}
use Rattle.std.proofs.lemmas.List.{length-take-le, take_all}
use Rattle.tree_core.specs.Content.{Content, Place, file, folder, place_cmp_total}
use Rattle.tree_core.specs.TreeState.{IsPlaceFront, Puts}
use Rattle.tree_core.proofs.PlaceLemmas.{place_cmp-IsAntisymmetric, cases_place}
use Rattle.tree_core.proofs.PutLemmas.{get-insert_same, get-insert_other}
use Rattle.run_sample.specs.Files.{with_folders, with_file}

strictly : (j count : ℕ) → j < suc count → j ≢ count → j < count
strictly j count less differs = elim (cases_lt j count) [ inl smaller ↦ smaller | inr most ↦ absurd (differs (omega arith)) ]

-- one of the first names of a place, of which there are so many, leads to a folder
folders_there : (content : Content) (place other : Place) (count j : ℕ) → j < count → other ≡ take j place → finmap.get (with_folders content place count) other ≡ Some folder
folders_there content place other zero j less is = absurd (omega arith)
folders_there content place other (suc count) j less is =
    elim (cases_place other (take count place)) [
      | inl same ↦ subst (λ (q : Place). finmap.get (finmap.insert (with_folders content place count) (take count place) folder) q ≡ Some folder) (sym same) (get-insert_same (with_folders content place count) (take count place) folder)
      | inr differs ↦
          let smaller : j < count = strictly j count less (λ e. differs (is ∙ ap (λ n. take n place) e)) in
          get-insert_other (with_folders content place count) (take count place) other folder differs ∙ folders_there content place other count j smaller is
    ]

-- what is no such place is as it was
folders_other : (content : Content) (place other : Place) (count : ℕ) → ((j : ℕ) → j < count → other ≢ take j place) → finmap.get (with_folders content place count) other ≡ finmap.get content other
folders_other content place other zero none = refl
folders_other content place other (suc count) none =
    get-insert_other (with_folders content place count) (take count place) other folder (none count (omega arith))
    ∙ folders_other content place other count (λ j less. none j (omega arith))

module _ (old new : Content) (place : Place) (bytes : List ℕ) (puts : Puts old new place (file bytes)) where
  shorter_front : (q : Place) → q ≢ place → IsPlaceFront q place → length q < length place
  shorter_front q differs is = elim (cases_lt (length q) (length place)) [
    | inl less ↦ less
    | inr most ↦ absurd (differs (sym is ∙ take_all (length q) place most))
  ]

  at_front : (q : Place) → q ≢ place → IsPlaceFront q place → finmap.get new q ≡ finmap.get (with_file old place bytes) q
  at_front q differs is =
      let shorter : length q < length place = shorter_front q differs is in
      puts.above q is shorter
      ∙ sym (get-insert_other (with_folders old place (length place)) place q (file bytes) differs ∙ folders_there old place q (length place) (length q) shorter (sym is))

  front_of : (q : Place) (j : ℕ) → j < length place → q ≡ take j place → IsPlaceFront q place
  front_of q j less is =
      let len : length q ≡ j = ap length is ∙ length-take-le j place (omega arith) in
      ap (λ n. take n place) len ∙ sym is

  elsewhere : (q : Place) → q ≢ place → ¬ (IsPlaceFront q place) → finmap.get new q ≡ finmap.get (with_file old place bytes) q
  elsewhere q differs no_front =
      puts.others q no_front
      ∙ sym (
      get-insert_other (with_folders old place (length place)) place q (file bytes) differs
      ∙ folders_other old place q (length place) (λ j less is. no_front (front_of q j less is)))

  same_at : (q : Place) → finmap.get new q ≡ finmap.get (with_file old place bytes) q
  same_at q = elim (cases_place q place) [
    | inl same ↦ subst (λ (p : Place). finmap.get new p ≡ finmap.get (with_file old place bytes) p) (sym same) (puts.there ∙ sym (get-insert_same (with_folders old place (length place)) place (file bytes)))
    | inr differs ↦ elim (cases_place (take (length q) place) q) [
      | inl is ↦ at_front q differs is
      | inr no_front ↦ elsewhere q differs no_front
    ]
  ]

  -- the file, and the folders that it is in
  pub puts_file : new ≡ with_file old place bytes
  puts_file = same_map place_cmp_total place_cmp-IsAntisymmetric new (with_file old place bytes) same_at
