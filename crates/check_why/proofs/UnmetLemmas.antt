-- What does not hold by what the check has kept is what does not hold by what is read of the files: one of which nothing
-- is kept was not read, so nothing is there.
use Rattle.std.proofs.Common.{◌≡◌, ◌∙◌, ℕ, suc, ◌+◌, ◌<◌, Bool, true, false, ◌&&◌, not, cond, List, [], ◌∷◌, ◌++◌, append_assoc, length, length-append, map, filter, Option, Some, None, option_map, refl, sym, ap, ap₂, arith}
use Rattle.std.specs.Prelude.{find, slice_get}
use Rattle.std.specs.List.{cons_option, flat_map}
use Rattle.std.specs.Option.{option_map_or}
use Rattle.std.proofs.Math.Seq.{get_or-append_seam}
use Rattle.std.proofs.lemmas.Option.{slice_get-get_or}
use Rattle.deny_text.specs.Path.{components_of}
use Rattle.tree_core.specs.declared.reads.ReadKind.TheVariants.{LicenseFile}
use Rattle.tree_core.specs.file_reads.Heard.{ReadResult, failed, absent, wrong_kind, not_utf8, text, entries, is_kind, is_read}
use Rattle.tree_core.specs.file_reads.Read.{AnsweredRead, first_heard, read_heard, records_of_reads}
use Rattle.graph_core.specs.Krate.{CrateRecord}
use Rattle.diag_core.specs.File.{File}
use Rattle.policy_parts.specs.declared.file_source.FileSource.{FileSource}
use Rattle.policy_parts.specs.spec.Index.{matching_places, places_from}
use Rattle.policy_parts.specs.spec.Matching.{spec_matches}
use Rattle.policy_parts.specs.spec.Spec.{Spec}
use Rattle.policy_core.specs.declared.valid.policy.ValidClarification.{ValidClarification}
use Rattle.policy_core.specs.declared.valid.policy.ValidConfig.{ValidConfig}
use Rattle.policy_core.specs.declared.valid.policy.ValidException.{ValidException}
use Rattle.policy_core.specs.valid.Version.{is_version_3}
use Rattle.gather_license.specs.declared.expression.kept.KeptFile.{KeptFile}
use Rattle.gather_license.specs.expression.Kept.{file_kept, files_kept, kept_of}
use Rattle.gather_license.specs.expression.Scanned.{Scanner}
use Rattle.gather_license.specs.files.KnownReads.{FolderReads, has_hash, holds, known_reads_by, matches}
use Rattle.gather_license.specs.files.NamedFile.{NamedFileView}
use Rattle.gather_license.specs.files.Pack.{same_path}
use Rattle.gather_license.specs.files.View.{normal_heard, paths_read}
use Rattle.gather_license.proofs.files.PathLemmas.{parts_of_same}
use Rattle.gather_core.specs.Exceptions.{named_of}
use Rattle.check_why.specs.declared.answer.UnmetAnswer.{UnmetAnswer}
use Rattle.check_why.specs.declared.answer.Unmatched.{Unmatched}
use Rattle.check_why.specs.declared.answer.Unmatched.TheVariants as by
use Rattle.check_why.specs.Indexes.{exception_specs}
use Rattle.check_why.specs.Kept.{clarifications_unmet, exception_unmet, exceptions_unmet, file_unmatched, first_by, first_unmatched, kept_at, said_at, text_unmatched, unmet_answers, unmet_at, unmet_by, until_holds}
use Rattle.check_why.specs.Unmet as unmet
use Rattle.check_why.specs.Unmet.{AskingFiles, clarification_files, exception_files, unmatched_by, unmet_of}

-- ---- a file that is looked for

-- the file that is found has the same parts
found_same : (path : List ℕ) (paths : List (List ℕ)) (other : List ℕ) → find (same_path path) paths ≡ Some other → same_path path other ≡ true
found_same path [] other e = cc
found_same path (first ∷ paths) other e =
    elim (same_path path first) as (λ b. same_path path first ≡ b → cond b (Some first) (find (same_path path) paths) ≡ Some other → same_path path other ≡ true) [
      | true ↦ λ is same. ap (same_path path) (the_same first other same) ∙ is
      | false ↦ λ is rest. found_same path paths other rest
    ] refl e
  where
    the_same : (x y : List ℕ) → ◌≡◌ {A = Option (List ℕ)} (Some x) (Some y) → y ≡ x
    the_same x y same = cc

-- the first of two is no such file, and so are the others
not_first : (same : Bool) (path : List ℕ) (rest : Option (List ℕ)) (heard more : ReadResult) → (rest ≡ None → more ≡ absent) → cond same (Some path) rest ≡ None → cond same heard more ≡ absent
not_first true path rest heard more others none = cc
not_first false path rest heard more others none = others none

-- where none is found among those that were read, nothing is there
none_heard : (path : List ℕ) (reads : List AnsweredRead) → find (same_path path) (paths_read (records_of_reads reads)) ≡ None → first_heard (is_read LicenseFile (components_of path)) reads ≡ absent
none_heard path [] e = refl
none_heard path (read ∷ reads) e =
    let others = none_heard path reads in
    elim (is_kind LicenseFile read.recorded.kind)
    as (λ b. find (same_path path) (cons_option (cond b (Some read.recorded.path) None) (paths_read (records_of_reads reads))) ≡ None
    → cond (b && same_path path read.recorded.path) (read_heard read) (first_heard (is_read LicenseFile (components_of path)) reads) ≡ absent) [
      | true ↦ λ none.
          not_first (same_path path read.recorded.path) read.recorded.path (find (same_path path) (paths_read (records_of_reads reads))) (read_heard read)
          (first_heard (is_read LicenseFile (components_of path)) reads) others none
      | false ↦ λ none. others none
    ] e

-- ---- what is at places

-- the item behind a front
behind_front : {A : Type 0} (all front : List A) (x : A) (rest : List A) (n : ℕ) → all ≡ front ++ x ∷ rest → n ≡ length front → slice_get all n ≡ Some x
behind_front {A} all front x rest n is counted =
    let inside : length front < length (front ++ x ∷ rest) = omega (arith, length-append front (x ∷ rest)) in
    ap (λ (items : List A). slice_get items n) is ∙ ap (slice_get (front ++ x ∷ rest)) counted
    ∙ slice_get-get_or (front ++ x ∷ rest) (length front) x inside ∙ ap Some (get_or-append_seam front x rest x)

-- what is said of items, in order
abbrev said_of : {A : Type 0} → (Option UnmetAnswer → List UnmetAnswer → List UnmetAnswer) → (A → Option UnmetAnswer) → List A → List UnmetAnswer
said_of put tried [] = []
said_of put tried (x ∷ xs) = put (tried x) (said_of put tried xs)

module _ {A : Type 0} (spec_of : A → Spec) (krate : CrateRecord) (put : Option UnmetAnswer → List UnmetAnswer → List UnmetAnswer) (tried : A → Option UnmetAnswer) where
  abbrev is_for : A → Bool
  is_for x = spec_matches (spec_of x) krate

  abbrev tried_at : List A → ℕ → Option UnmetAnswer
  tried_at all place = option_map_or tried (slice_get all place) None

  -- at the places of the items that are for a crate what is said of these
  said_behind : (all front rest : List A) (n : ℕ) → all ≡ front ++ rest → n ≡ length front
      → said_at put (tried_at all) (places_from n (λ spec. spec_matches spec krate) (map spec_of rest)) ≡ said_of put tried (filter is_for rest)
  said_behind all front [] n is counted = refl
  said_behind all front (x ∷ rest) n is counted =
      let more : suc n ≡ length (front ++ x ∷ []) = omega (arith, counted, length-append front (x ∷ [])) in
      let next = said_behind all (front ++ x ∷ []) rest (suc n) (is ∙ sym (append_assoc front (x ∷ []) rest)) more in
      let here : tried_at all n ≡ tried x = ap (λ (found : Option A). option_map_or tried found None) (behind_front all front x rest n is counted) in
      let places = places_from (suc n) (λ spec. spec_matches spec krate) (map spec_of rest) in
      elim (is_for x) as (λ b. said_at put (tried_at all) (cond b (n ∷ places) places) ≡ said_of put tried (cond b (x ∷ filter is_for rest) (filter is_for rest))) [
        | true ↦ ap₂ put here next
        | false ↦ next
      ]

  said_matching : (all : List A) → said_at put (tried_at all) (matching_places (map spec_of all) krate) ≡ said_of put tried (filter is_for all)
  said_matching all = said_behind all [] all 0 refl refl

-- ---- one file

-- by what is kept of it
text_same : (scanner : Scanner) (wanted : ℕ) (heard : ReadResult)
    → text_unmatched wanted (kept_of scanner (normal_heard heard)) ≡ cond (has_hash wanted heard) None (Some (unmatched_by wanted heard))
text_same scanner wanted (failed before after) = refl
text_same scanner wanted absent = refl
text_same scanner wanted wrong_kind = refl
text_same scanner wanted not_utf8 = refl
text_same scanner wanted (text bytes) = refl
text_same scanner wanted (entries listed) = refl

module _ (scanner : Scanner) (all : List AnsweredRead) where
  abbrev known_reads : FolderReads
  known_reads = known_reads_by all

  abbrev read_paths : List (List ℕ)
  read_paths = paths_read (records_of_reads all)

  abbrev kept : List KeptFile
  kept = files_kept scanner known_reads (records_of_reads all)

  find_kept : (path : List ℕ) (paths : List (List ℕ))
      → kept_at (map (file_kept scanner known_reads) paths) path ≡ option_map (λ (other : List ℕ). kept_of scanner (normal_heard (known_reads.file (components_of other)))) (find (same_path path) paths)
  find_kept path [] = refl
  find_kept path (first ∷ paths) =
      elim (same_path path first)
      as (λ b. option_map (λ (file : KeptFile). file.kept) (cond b (Some (file_kept scanner known_reads first)) (find (λ (file : KeptFile). same_path path file.path) (map (file_kept scanner known_reads) paths)))
      ≡ option_map (λ (other : List ℕ). kept_of scanner (normal_heard (known_reads.file (components_of other)))) (cond b (Some first) (find (same_path path) paths))) [
        | true ↦ refl
        | false ↦ find_kept path paths
      ]

  abbrev why_not : FileSource → Unmatched
  why_not named = unmatched_by named.hash (known_reads.file (components_of named.path.value))

  by_found : (named : FileSource) (found : Option (List ℕ)) → find (same_path named.path.value) read_paths ≡ found
      → option_map_or (text_unmatched named.hash) (option_map (λ (other : List ℕ). kept_of scanner (normal_heard (known_reads.file (components_of other)))) found) (Some by.NotThere)
      ≡ cond (matches known_reads (named_of named)) None (Some (why_not named))
  by_found named None is =
      sym (ap (λ (heard : ReadResult). cond (has_hash named.hash heard) None (Some (unmatched_by named.hash heard))) (none_heard named.path.value all is))
  by_found named (Some other) is =
      text_same scanner named.hash (known_reads.file (components_of other))
      ∙ ap (λ (parts : List (List ℕ)). cond (has_hash named.hash (known_reads.file parts)) None (Some (unmatched_by named.hash (known_reads.file parts))))
      (sym (parts_of_same named.path.value other (found_same named.path.value read_paths other is)))

  file_same : (named : FileSource) → file_unmatched kept named ≡ cond (matches known_reads (named_of named)) None (Some (why_not named))
  file_same named =
      ap (λ (found : Option _). option_map_or (text_unmatched named.hash) found (Some by.NotThere)) (find_kept named.path.value read_paths)
      ∙ by_found named (find (same_path named.path.value) read_paths) refl

  -- ---- one that asks for files

  abbrev said : AskingFiles → List FileSource → List UnmetAnswer
  said one sources =
      option_map_or (λ (named : NamedFileView). unmet.unmet_by known_reads one named ∷ []) (unmet.first_unmatched known_reads (map named_of sources)) []

  -- in front of what is said behind it
  said_same : (one : AskingFiles) (sources : List FileSource) (rest more : List UnmetAnswer) → rest ≡ more → cons_option (unmet_by kept one sources) rest ≡ said one sources ++ more
  said_same one [] rest more same = same
  said_same one (named ∷ sources) rest more same =
      ap (λ (reason : Option Unmatched). cons_option (option_map (unmet_at one) (first_by named reason (first_unmatched kept sources))) rest) (file_same named)
      ∙ elim (matches known_reads (named_of named))
      as (λ b. cons_option (option_map (unmet_at one) (first_by named (cond b None (Some (why_not named))) (first_unmatched kept sources))) rest
      ≡ option_map_or (λ (named : NamedFileView). unmet.unmet_by known_reads one named ∷ []) (cond (not b) (Some (named_of named)) (unmet.first_unmatched known_reads (map named_of sources))) [] ++ more) [
        | true ↦ said_same one sources rest more same
        | false ↦ ap (λ (answers : List UnmetAnswer). unmet.unmet_by known_reads one (named_of named) ∷ answers) same
      ]

  -- up to the first that holds
  until_same : (one : AskingFiles) (sources : List FileSource) (rest more : List UnmetAnswer) → rest ≡ more
      → until_holds (unmet_by kept one sources) rest ≡ cond (holds known_reads (map named_of sources)) [] (said one sources ++ more)
  until_same one [] rest more same = refl
  until_same one (named ∷ sources) rest more same =
      ap (λ (reason : Option Unmatched). until_holds (option_map (unmet_at one) (first_by named reason (first_unmatched kept sources))) rest) (file_same named)
      ∙ elim (matches known_reads (named_of named))
      as (λ b. until_holds (option_map (unmet_at one) (first_by named (cond b None (Some (why_not named))) (first_unmatched kept sources))) rest
      ≡ cond (b && holds known_reads (map named_of sources)) []
      (option_map_or (λ (named : NamedFileView). unmet.unmet_by known_reads one named ∷ []) (cond (not b) (Some (named_of named)) (unmet.first_unmatched known_reads (map named_of sources))) [] ++ more)) [
        | true ↦ until_same one sources rest more same
        | false ↦ ap (λ (answers : List UnmetAnswer). unmet.unmet_by known_reads one (named_of named) ∷ answers) same
      ]

  -- ---- all of them

  module _ (files : List File) (krate : CrateRecord) where
    each_until : (ones : List ValidClarification)
        → said_of until_holds (λ (one : ValidClarification). unmet_by kept (clarification_files files one) one.license_files) ones ≡ unmet.unmet_until known_reads (map (clarification_files files) ones)
    each_until [] = refl
    each_until (one ∷ ones) =
        until_same (clarification_files files one) one.license_files (said_of until_holds (λ (one : ValidClarification). unmet_by kept (clarification_files files one) one.license_files) ones)
        (unmet.unmet_until known_reads (map (clarification_files files) ones)) (each_until ones)

    each_said : (ones : List ValidException)
        → said_of cons_option (λ (one : ValidException). unmet_by kept (exception_files files one) one.license_files) ones ≡ flat_map (λ (one : ValidException). unmet_of known_reads (exception_files files one)) ones
    each_said [] = refl
    each_said (one ∷ ones) =
        said_same (exception_files files one) one.license_files (said_of cons_option (λ (one : ValidException). unmet_by kept (exception_files files one) one.license_files) ones)
        (flat_map (λ (one : ValidException). unmet_of known_reads (exception_files files one)) ones) (each_said ones)

    clarifications_same : (policy : ValidConfig) → clarifications_unmet files policy krate kept ≡ unmet.clarifications_unmet files policy krate known_reads
    clarifications_same policy =
        said_matching (λ (one : ValidClarification). one.spec) krate until_holds (λ (one : ValidClarification). unmet_by kept (clarification_files files one) one.license_files) policy.clarifications
        ∙ each_until (filter (λ (one : ValidClarification). spec_matches one.spec krate) policy.clarifications)

    exceptions_same : (policy : ValidConfig) → exceptions_unmet files policy krate kept ≡ unmet.exceptions_unmet files policy krate known_reads
    exceptions_same policy =
        elim (is_version_3 policy.version)
        as (λ b. said_at cons_option (exception_unmet files policy kept) (cond b (matching_places (exception_specs policy.exceptions) krate) [])
        ≡ cond b (flat_map (λ (one : ValidException). unmet_of known_reads (exception_files files one)) (filter (λ (one : ValidException). spec_matches one.spec krate) policy.exceptions)) []) [
          | true ↦
              said_matching (λ (one : ValidException). one.spec) krate cons_option (λ (one : ValidException). unmet_by kept (exception_files files one) one.license_files) policy.exceptions
              ∙ each_said (filter (λ (one : ValidException). spec_matches one.spec krate) policy.exceptions)
          | false ↦ refl
        ]

    -- by what is kept of the files that were read as by what was read of them
    pub unmet_same : (policy : ValidConfig) → unmet_answers files policy krate kept ≡ unmet.unmet_answers files policy krate known_reads
    unmet_same policy = ap₂ (λ (front back : List UnmetAnswer). front ++ back) (clarifications_same policy) (exceptions_same policy)
