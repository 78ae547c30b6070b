-- Exceptions that are found by their places, and which of them count.
use Rattle.std.proofs.Common.{◌≡◌, ◌∙◌, ℕ, suc, ◌+◌, ◌<◌, length, take, drop, take-append-drop, get_or, Bool, true, false, ◌&&◌, cond, List, [], ◌∷◌, ◌++◌, map, filter, Option, None, Some, refl, sym, ap, ap₂, subst, append-nil, append_assoc, length-append, arith, slice_get}
use Rattle.std.proofs.Math.Seq.{get_or-append_seam}
use Rattle.std.proofs.lemmas.Bool.{ltb-false, ltb-true}
use Rattle.std.proofs.lemmas.Option.{slice_get-get_or, slice_get_past, slice_get_read}
use Rattle.std.proofs.lemmas.List.{take_more}
use Rattle.std.proofs.lemmas.List.Concat.{flat_map-append}
use Rattle.std.proofs.lemmas.List.Elements.{filter-append}
use Rattle.std.proofs.lemmas.List.Sums.{fold-append}
use Rattle.std.specs.List.{flat_map, fold}
use Rattle.std.specs.Borrow.{Bor}
use Rattle.std.specs.Option.{option_copied, option_map_or, option_to_list}
use Rattle.std.specs.Slice.{IsItemAt}
use Rattle.tree_core.specs.Call.{Call}
use Rattle.tree_core.specs.Content.{Content}
use Rattle.graph_core.specs.Krate.{CrateRecord}
use Rattle.policy_parts.specs.declared.file_source.FileSource.{FileSource}
use Rattle.policy_parts.specs.spec.Index.{first_of, matching_places, places_from}
use Rattle.policy_parts.specs.spec.Matching.{spec_matches}
use Rattle.policy_parts.specs.spec.Spec.{Spec}
use Rattle.gather_license.specs.files.Calls.{GoesBy, IsFront, Starves}
use Rattle.gather_license.specs.files.KnownReads.{FolderReads, holds, looked_of}
use Rattle.gather_license.specs.files.NamedFile.{NamedFileView}
use Rattle.gather_license.specs.files.Pack.{first_spellings}
use Rattle.gather_license.specs.files.Steps.{Agrees, with_path}
use Rattle.gather_license.specs.files.View.{PackView, paths_read}
use Rattle.gather_license.proofs.files.CallLemmas.{front_looks, starves_then}
use Rattle.gather_core.specs.Entries.{placed_of}
use Rattle.gather_core.specs.Exceptions.{ExceptionEntry, ExceptionRules, counted_of, exception_specs, files_at, holding_at, holds_for, is_for, looked_at, named_by_each, named_for, named_in, named_of}
use Rattle.gather_core.specs.Laws.{FurtherExceptionsCountLast, OneExceptionCounts}

-- ---- the files that an exception names

pub named_of_placed : (files : List FileSource) → named_in (map placed_of files) ≡ map named_of files
named_of_placed [] = refl
named_of_placed (file ∷ files) = ap (λ (rest : List NamedFileView). named_of file ∷ rest) (named_of_placed files)

-- ---- their places

-- the exception behind a front
one_behind : (front : List ExceptionEntry) (one : ExceptionEntry) (rest : List ExceptionEntry) → slice_get (front ++ one ∷ rest) (length front) ≡ Some one
one_behind front one rest =
    let inside : length front < length (front ++ one ∷ rest) = omega (arith, length-append front (one ∷ rest)) in
    slice_get-get_or (front ++ one ∷ rest) (length front) one inside ∙ ap Some (get_or-append_seam front one rest one)

specs-mapped : (n : ℕ) (krate : CrateRecord) (entries : List ExceptionEntry) → places_from n (λ (spec : Spec). spec_matches spec krate) (exception_specs entries) ≡ places_from n (is_for krate) entries
specs-mapped n krate [] = refl
specs-mapped n krate (one ∷ entries) =
    elim (spec_matches one.spec krate) as (λ b.
    cond b (n ∷ places_from (suc n) (λ (spec : Spec). spec_matches spec krate) (exception_specs entries)) (places_from (suc n) (λ (spec : Spec). spec_matches spec krate) (exception_specs entries))
    ≡ cond b (n ∷ places_from (suc n) (is_for krate) entries) (places_from (suc n) (is_for krate) entries)) [
      | true ↦ ap (λ (places : List ℕ). n ∷ places) (specs-mapped (suc n) krate entries)
      | false ↦ specs-mapped (suc n) krate entries
    ]

pub places_for : (krate : CrateRecord) (entries : List ExceptionEntry) → matching_places (exception_specs entries) krate ≡ places_from 0 (is_for krate) entries
places_for krate entries = specs-mapped 0 krate entries

module _ (krate : CrateRecord) (known_reads : FolderReads) (all : List ExceptionEntry) where
  files_here : (front : List ExceptionEntry) (one : ExceptionEntry) (rest : List ExceptionEntry) (n : ℕ) → all ≡ front ++ one ∷ rest → n ≡ length front → files_at all n ≡ one.files
  files_here front one rest n is counted =
      ap (λ (found : Option ExceptionEntry). option_map_or (λ (one : ExceptionEntry). one.files) found [])
      (ap (λ (entries : List ExceptionEntry). slice_get entries n) is ∙ ap (slice_get (front ++ one ∷ rest)) counted ∙ one_behind front one rest)

  holding_from : (front rest : List ExceptionEntry) (n : ℕ) → all ≡ front ++ rest → n ≡ length front
      → holding_at known_reads all (places_from n (is_for krate) rest) ≡ places_from n (holds_for krate known_reads) rest
  holding_from front [] n is counted = refl
  holding_from front (one ∷ rest) n is counted =
      let more : suc n ≡ length (front ++ one ∷ []) = omega (arith, counted, length-append front (one ∷ [])) in
      let next = holding_from (front ++ one ∷ []) rest (suc n) (is ∙ sym (append_assoc front (one ∷ []) rest)) more in
      let here = files_here front one rest n is counted in
      let places = places_from (suc n) (is_for krate) rest in
      let held = places_from (suc n) (holds_for krate known_reads) rest in
      elim (spec_matches one.spec krate) as (λ b. holding_at known_reads all (cond b (n ∷ places) places) ≡ cond (b && holds known_reads one.files) (n ∷ held) held) [
        | true ↦
            ap (λ (files : List NamedFileView). cond (holds known_reads files) (n ∷ holding_at known_reads all places) (holding_at known_reads all places)) here
            ∙ ap (λ (found : List ℕ). cond (holds known_reads one.files) (n ∷ found) found) next
        | false ↦ next
      ]

  looked_from : (front rest : List ExceptionEntry) (n : ℕ) → all ≡ front ++ rest → n ≡ length front
      → looked_at known_reads all (places_from n (is_for krate) rest) ≡ named_by_each rest krate known_reads
  looked_from front [] n is counted = refl
  looked_from front (one ∷ rest) n is counted =
      let more : suc n ≡ length (front ++ one ∷ []) = omega (arith, counted, length-append front (one ∷ [])) in
      let next = looked_from (front ++ one ∷ []) rest (suc n) (is ∙ sym (append_assoc front (one ∷ []) rest)) more in
      let here = files_here front one rest n is counted in
      let places = places_from (suc n) (is_for krate) rest in
      let those = filter (is_for krate) rest in
      elim (spec_matches one.spec krate) as (λ b. looked_at known_reads all (cond b (n ∷ places) places) ≡ flat_map (λ (one : ExceptionEntry). looked_of known_reads one.files) (cond b (one ∷ those) those)) [
        | true ↦ ap₂ (λ (files : List NamedFileView) (paths : List (List ℕ)). looked_of known_reads files ++ paths) here next
        | false ↦ next
      ]

pub holding_each : (krate : CrateRecord) (known_reads : FolderReads) (entries : List ExceptionEntry)
    → holding_at known_reads entries (matching_places (exception_specs entries) krate) ≡ places_from 0 (holds_for krate known_reads) entries
holding_each krate known_reads entries = ap (holding_at known_reads entries) (places_for krate entries) ∙ holding_from krate known_reads entries [] entries 0 refl refl

pub looked_each : (krate : CrateRecord) (known_reads : FolderReads) (entries : List ExceptionEntry)
    → looked_at known_reads entries (matching_places (exception_specs entries) krate) ≡ named_by_each entries krate known_reads
looked_each krate known_reads entries = ap (looked_at known_reads entries) (places_for krate entries) ∙ looked_from krate known_reads entries [] entries 0 refl refl

-- what is found at a place, and where nothing is
pub item_at : (entries : List ExceptionEntry) (i : ℕ) (r : Option (Bor ExceptionEntry)) → IsItemAt entries i r → option_copied r ≡ slice_get entries i
item_at entries i None item = sym (slice_get_past entries i (ltb-false i (length entries) (sym item.0)))
item_at entries i (Some x) item = sym (slice_get_read entries (length entries) i x.now refl (ltb-true i (length entries) (sym item.0)) item.1)

pub files_found : (entries : List ExceptionEntry) (place : ℕ) (one : ExceptionEntry) (files : List NamedFileView) → files ≡ one.files → slice_get entries place ≡ Some one → files ≡ files_at entries place
files_found entries place one files are is = are ∙ sym (ap (λ (found : Option ExceptionEntry). option_map_or (λ (one : ExceptionEntry). one.files) found []) is)

pub files_unfound : (entries : List ExceptionEntry) (place : ℕ) → slice_get entries place ≡ None → files_at entries place ≡ []
files_unfound entries place is = ap (λ (found : Option ExceptionEntry). option_map_or (λ (one : ExceptionEntry). one.files) found []) is

-- ---- one more place

module _ (known_reads : FolderReads) (entries : List ExceptionEntry) (places : List ℕ) (i : ℕ) (inside : i < length places) where
  pub holding_more : holding_at known_reads entries (take (i + 1) places)
      ≡ holding_at known_reads entries (take i places) ++ cond (holds known_reads (files_at entries (get_or places i 0))) (get_or places i 0 ∷ []) []
  holding_more =
      ap (holding_at known_reads entries) (take_more places i 0 inside)
      ∙ filter-append (λ (place : ℕ). holds known_reads (files_at entries place)) (take i places) (get_or places i 0 ∷ [])

  pub looked_more : (start : List (List ℕ)) → fold with_path start (looked_at known_reads entries (take (i + 1) places))
      ≡ fold with_path (fold with_path start (looked_at known_reads entries (take i places))) (looked_of known_reads (files_at entries (get_or places i 0)))
  looked_more start =
      let so_far = looked_at known_reads entries (take i places) in
      let here = looked_of known_reads (files_at entries (get_or places i 0)) in
      ap (λ (those : List ℕ). fold with_path start (looked_at known_reads entries those)) (take_more places i 0 inside)
      ∙ ap (fold with_path start)
      (flat_map-append (λ (place : ℕ). looked_of known_reads (files_at entries place)) (take i places) (get_or places i 0 ∷ []) ∙ ap (λ (last : List (List ℕ)). so_far ++ last) (append-nil here))
      ∙ fold-append with_path start so_far here

-- what was looked at so far is looked at first
pub front_places : (known_reads : FolderReads) (entries : List ExceptionEntry) (places : List ℕ) (start : List (List ℕ)) (n : ℕ)
    → IsFront (fold with_path start (looked_at known_reads entries (take n places))) (fold with_path start (looked_at known_reads entries places))
front_places known_reads entries places start n =
    let first = looked_at known_reads entries (take n places) in
    let later = looked_at known_reads entries (drop n places) in
    subst (IsFront (fold with_path start first))
    (sym (ap (λ (those : List ℕ). fold with_path start (looked_at known_reads entries those)) (sym (take-append-drop n places))
    ∙ ap (fold with_path start) (flat_map-append (λ (place : ℕ). looked_of known_reads (files_at entries place)) (take n places) (drop n places))
    ∙ fold-append with_path start first later))
    (front_looks (fold with_path start first) later)

-- what is looked at of the next one
module _ (pack so_far : PackView) (entries : List ExceptionEntry) (places : List ℕ) (i : ℕ) (inside : i < length places)
    (looked : (known_reads : FolderReads) → Agrees known_reads so_far → paths_read so_far.reads ≡ fold with_path (paths_read pack.reads) (looked_at known_reads entries (take i places))) where
  pub looked_next : (known_reads : FolderReads) → Agrees known_reads so_far
      → fold with_path (paths_read so_far.reads) (looked_of known_reads (files_at entries (get_or places i 0))) ≡ fold with_path (paths_read pack.reads) (looked_at known_reads entries (take (i + 1) places))
  looked_next known_reads agrees =
      ap (λ (start : List (List ℕ)). fold with_path start (looked_of known_reads (files_at entries (get_or places i 0)))) (looked known_reads agrees)
      ∙ sym (looked_more known_reads entries places i inside (paths_read pack.reads))

  front_next : (known_reads : FolderReads) → Agrees known_reads so_far
      → IsFront (fold with_path (paths_read so_far.reads) (looked_of known_reads (files_at entries (get_or places i 0)))) (fold with_path (paths_read pack.reads) (looked_at known_reads entries places))
  front_next known_reads agrees =
      subst (λ (front : List (List ℕ)). IsFront front (fold with_path (paths_read pack.reads) (looked_at known_reads entries places))) (sym (looked_next known_reads agrees))
      (front_places known_reads entries places (paths_read pack.reads) (i + 1))

  -- memory was wanting as its files were looked up
  pub starves_holding : {told mid tells : Option Content} {before middle after : ℕ} {old between new : List Call} → GoesBy told mid before middle old between pack so_far
      → Starves mid tells middle after between new so_far (λ known_reads. fold with_path (paths_read so_far.reads) (looked_of known_reads (files_at entries (get_or places i 0))))
      → Starves told tells before after old new pack (λ known_reads. fold with_path (paths_read pack.reads) (looked_at known_reads entries places))
  starves_holding goes starves =
      starves_then pack so_far (λ known_reads. fold with_path (paths_read so_far.reads) (looked_of known_reads (files_at entries (get_or places i 0))))
      (λ known_reads. fold with_path (paths_read pack.reads) (looked_at known_reads entries places)) goes starves front_next

-- ---- whether each counts

module _ (all : ExceptionRules) (krate : CrateRecord) (known_reads : FolderReads) where
  pub counted_each : all.each_counts ≡ true → counted_of all krate known_reads ≡ places_from 0 (holds_for krate known_reads) all.entries
  counted_each on = ap (λ b. cond b (places_from 0 (holds_for krate known_reads) all.entries) (option_to_list (first_of (places_from 0 (is_for krate) all.entries)))) on

  pub counted_first : all.each_counts ≡ false → counted_of all krate known_reads ≡ option_to_list (first_of (places_from 0 (is_for krate) all.entries))
  counted_first off = ap (λ b. cond b (places_from 0 (holds_for krate known_reads) all.entries) (option_to_list (first_of (places_from 0 (is_for krate) all.entries)))) off

  pub named_each : all.each_counts ≡ true → named_for all krate known_reads ≡ named_by_each all.entries krate known_reads
  named_each on = ap (λ b. cond b (named_by_each all.entries krate known_reads) []) on

  pub named_none : all.each_counts ≡ false → named_for all krate known_reads ≡ []
  named_none off = ap (λ b. cond b (named_by_each all.entries krate known_reads) []) off

-- ---- laws

pub one_exception_counts : OneExceptionCounts
one_exception_counts rules krate known_reads off = (counted_first rules krate known_reads off, ap first_spellings (named_none rules krate known_reads off))

places_front : (n : ℕ) (test : ExceptionEntry → Bool) (entries more : List ExceptionEntry) → IsFront (places_from n test entries) (places_from n test (entries ++ more))
places_front n test [] more = (places_from n test more, refl)
places_front n test (one ∷ entries) more =
    let rest = places_front (suc n) test entries more in
    let few = places_from (suc n) test entries in
    let many = places_from (suc n) test (entries ++ more) in
    elim (test one) as (λ b. IsFront (cond b (n ∷ few) few) (cond b (n ∷ many) many)) [
      | true ↦ (rest.0, ap (λ (places : List ℕ). n ∷ places) rest.1)
      | false ↦ rest
    ]

first_front : (few rest : List ℕ) → IsFront (option_to_list (first_of few)) (option_to_list (first_of (few ++ rest)))
first_front [] rest = (option_to_list (first_of rest), refl)
first_front (place ∷ few) rest = ([], refl)

pub further_exceptions_count_last : FurtherExceptionsCountLast
further_exceptions_count_last rules one krate known_reads =
    let more = rules.entries ++ one ∷ [] in
    let first = places_front 0 (is_for krate) rules.entries (one ∷ []) in
    elim rules.each_counts as (λ b.
    IsFront (cond b (places_from 0 (holds_for krate known_reads) rules.entries) (option_to_list (first_of (places_from 0 (is_for krate) rules.entries))))
    (cond b (places_from 0 (holds_for krate known_reads) more) (option_to_list (first_of (places_from 0 (is_for krate) more))))) [
      | true ↦ places_front 0 (holds_for krate known_reads) rules.entries (one ∷ [])
      | false ↦
          subst (λ (places : List ℕ). IsFront (option_to_list (first_of (places_from 0 (is_for krate) rules.entries))) (option_to_list (first_of places))) (sym first.1)
          (first_front (places_from 0 (is_for krate) rules.entries) first.0)
    ]
