-- Equal known reads, equal verdicts.
use Rattle.std.proofs.Common.{◌≡◌, ◌∙◌, refl, sym, ap, ap₂, subst, ℕ, suc, Bool, true, false, ◌&&◌, cond, List, [], ◌∷◌, ◌++◌, map, Option, Some, None}
use Rattle.std.specs.Prelude.{filter, not, option_map, unwrap_or}
use Rattle.std.specs.List.{AllByRecursion, flat_map, fold}
use Rattle.std.specs.Ordering.{is_lt}
use Rattle.std.proofs.lemmas.List.Elements.{recursion_from_All}
use Rattle.deny_text.specs.Path.{components_of, path_order}
use Rattle.spdx_core.specs.Reading.{ExpressionView}
use Rattle.graph_core.specs.Krate.{CrateRecord}
use Rattle.spdx_core.specs.declared.certificates.verdict.Hit.{Hit}
use Rattle.spdx_core.specs.declared.certificates.verdict.Verdict.{Verdict}
use Rattle.spdx_core.specs.declared.certificates.verdict.Verdict.TheVariants.{Skipped, Unlicensed, Accepted, Rejected}
use Rattle.spdx_core.specs.certificates.Certificates.{hit_at}
use Rattle.tree_core.specs.file_reads.Heard.{ReadResult}
use Rattle.gather_license.specs.files.KnownReads.{FolderReads, has_hash, holds, looked_of, matches, tried_of}
use Rattle.gather_license.specs.files.NamedFile.{NamedFileView}
use Rattle.gather_license.specs.files.Pack.{first_spellings, license_files_in, in_path_order, pack_paths, paths_with, same_path, wanted_of}
use Rattle.gather_license.specs.files.View.{normal_heard}
use Rattle.gather_license.specs.expression.Scanned.{Scanner, file_scanned}
use Rattle.gather_license.specs.Clarification.{ClarificationView, named_files, held_in, named_in}
use Rattle.gather_license.specs.Priority.{LicenseAnswer, answer_in, by_seen, field_of, files_scanned, holding_clarification, priority_of, seen_by, settling_by}
use Rattle.gather_core.specs.Entries.{clarifications_of, entries_of}
use Rattle.gather_core.specs.Exceptions.{ExceptionEntry, ExceptionRules, counted_of, exception_rules, holds_for, is_for}
use Rattle.policy_parts.specs.spec.Index.{places_from}
use Rattle.policy_core.specs.valid.Policy.{Policy}
use Rattle.policy_core.specs.valid.View.{policy_of}
use Rattle.check_core.specs.evaluate.Evaluation.{term_hits}
use Rattle.check_core.proofs.LawLemmas.{same_test}
use Rattle.check_core.specs.Own.{HearTheSame, VerdictIsByKnownReads, VerdictIsOwn, known_reads_there, expression_by, paths_around, clarified_paths, excepted_paths, exception_paths}
use Rattle.check_core.specs.Verdicts.{skipped, unlicensed, accepted, rejected, IsCertifiedOrUnlicensed, IsVerdictShown, IsVerdict, is_skipped, judgement_in, verdict_of}

-- ---- lists

all_front : {A : Type 0} (P : A → Type 0) (xs ys : List A) → AllByRecursion P (xs ++ ys) → AllByRecursion P xs
all_front P [] ys all = tt
all_front P (x ∷ xs) ys all = (all.0, all_front P xs ys all.1)

all_behind : {A : Type 0} (P : A → Type 0) (xs ys : List A) → AllByRecursion P (xs ++ ys) → AllByRecursion P ys
all_behind P [] ys all = all
all_behind P (x ∷ xs) ys all = all_behind P xs ys all.1

all_both : {A : Type 0} (P : A → Type 0) (xs ys : List A) → AllByRecursion P xs → AllByRecursion P ys → AllByRecursion P (xs ++ ys)
all_both P [] ys first second = second
all_both P (x ∷ xs) ys first second = (first.0, all_both P xs ys first.1 second)

kept_if : {A : Type 0} (P : A → Type 0) (b : Bool) (x : A) (xs : List A) → P x → AllByRecursion P xs → AllByRecursion P (cond b (x ∷ xs) xs)
kept_if P true x xs first rest = (first, rest)
kept_if P false x xs first rest = rest

all_kept : {A : Type 0} (P : A → Type 0) (test : A → Bool) (xs : List A) → AllByRecursion P xs → AllByRecursion P (filter test xs)
all_kept P test [] all = tt
all_kept P test (x ∷ xs) all = kept_if P (test x) x (filter test xs) all.0 (all_kept P test xs all.1)

all_unless : {A : Type 0} (P : A → Type 0) (b : Bool) (xs : List A) → AllByRecursion P xs → AllByRecursion P (cond b [] xs)
all_unless P true xs all = tt
all_unless P false xs all = all

all_where : {A : Type 0} (P : A → Type 0) (b : Bool) (xs : List A) → AllByRecursion P xs → AllByRecursion P (cond b xs [])
all_where P true xs all = all
all_where P false xs all = tt

-- ---- paths in order

module _ (P : List ℕ → Type 0) where
  spelled : (paths : List (List ℕ)) → AllByRecursion P paths → AllByRecursion P (first_spellings paths)
  spelled [] all = tt
  spelled (path ∷ paths) all = (all.0, all_kept P (λ other. not (same_path path other)) (first_spellings paths) (spelled paths all.1))

  place_if : (b : Bool) (path next : List ℕ) (paths rest : List (List ℕ)) → P path → P next → AllByRecursion P paths → AllByRecursion P rest
      → AllByRecursion P (cond b (path ∷ next ∷ paths) (next ∷ rest))
  place_if true path next paths rest here there all more = (here, (there, all))
  place_if false path next paths rest here there all more = (there, more)

  place_one : (path : List ℕ) (paths : List (List ℕ)) → P path → AllByRecursion P paths → AllByRecursion P (paths_with path paths)
  place_one path [] here all = (here, tt)
  place_one path (next ∷ paths) here all =
      place_if (is_lt (path_order path next)) path next paths (paths_with path paths) here all.0 all.1 (place_one path paths here all.1)

  place_each : (sorted paths : List (List ℕ)) → AllByRecursion P sorted → AllByRecursion P paths → AllByRecursion P (fold (λ sorted path. paths_with path sorted) sorted paths)
  place_each sorted [] first all = first
  place_each sorted (path ∷ paths) first all = place_each (paths_with path sorted) paths (place_one path sorted all.0 first) all.1

-- what is read of a file, as it is kept
abbrev heard_by : FolderReads → List ℕ → List ℕ × ReadResult
heard_by known_reads path = (path, normal_heard (known_reads.file (components_of path)))

-- ---- what is read by two known reads

module _ (one other : FolderReads) where
  abbrev SameAt : List ℕ → Type 0
  SameAt path = one.file (components_of path) ≡ other.file (components_of path)

  abbrev SameFor : List NamedFileView → Type 0
  SameFor files = AllByRecursion (λ named. SameAt named.path) files

  same_match : (named : NamedFileView) → SameAt named.path → matches one named ≡ matches other named
  same_match named same = ap (has_hash named.hash) same

  same_holds : (files : List NamedFileView) → SameFor files → holds one files ≡ holds other files
  same_holds [] same = refl
  same_holds (named ∷ files) same = ap₂ (λ first rest. first && rest) (same_match named same.0) (same_holds files same.1)

  same_looked : (files : List NamedFileView) → SameFor files → looked_of one files ≡ looked_of other files
  same_looked [] same = refl
  same_looked (named ∷ files) same = ap₂ (λ b rest. named.path ∷ cond b rest []) (same_match named same.0) (same_looked files same.1)

  looked_same : (files : List NamedFileView) → SameFor files → AllByRecursion SameAt (looked_of one files)
  looked_same [] same = tt
  looked_same (named ∷ files) same = (same.0, all_where SameAt (matches one named) (looked_of one files) (looked_same files same.1))

  same_behind : (b : Bool) (xs ys : List (List NamedFileView)) → flat_map (looked_of one) xs ≡ flat_map (looked_of other) ys
      → flat_map (looked_of one) (cond b [] xs) ≡ flat_map (looked_of other) (cond b [] ys)
  same_behind true xs ys same = refl
  same_behind false xs ys same = same

  same_tried : (all : List (List NamedFileView)) → AllByRecursion SameFor all → flat_map (looked_of one) (tried_of one all) ≡ flat_map (looked_of other) (tried_of other all)
  same_tried [] same = refl
  same_tried (files ∷ more) same =
      ap₂ (λ first rest. first ++ rest) (same_looked files same.0)
      (same_behind (holds one files) (tried_of one more) (tried_of other more) (same_tried more same.1)
      ∙ ap (λ b. flat_map (looked_of other) (cond b [] (tried_of other more))) (same_holds files same.0))

  tried_behind : (b : Bool) (xs : List (List NamedFileView)) → AllByRecursion SameAt (flat_map (looked_of one) xs) → AllByRecursion SameAt (flat_map (looked_of one) (cond b [] xs))
  tried_behind true xs all = tt
  tried_behind false xs all = all

  tried_same : (all : List (List NamedFileView)) → AllByRecursion SameFor all → AllByRecursion SameAt (flat_map (looked_of one) (tried_of one all))
  tried_same [] same = tt
  tried_same (files ∷ more) same =
      all_both SameAt (looked_of one files) (flat_map (looked_of one) (cond (holds one files) [] (tried_of one more))) (looked_same files same.0)
      (tried_behind (holds one files) (tried_of one more) (tried_same more same.1))

  same_heard : (paths : List (List ℕ)) → AllByRecursion SameAt paths → map (heard_by one) paths ≡ map (heard_by other) paths
  same_heard [] same = refl
  same_heard (path ∷ paths) same =
      ap₂ (λ (heard : ReadResult) (rest : List (List ℕ × ReadResult)). let it : List ℕ × ReadResult = (path, normal_heard heard) in it ∷ rest) same.0 (same_heard paths same.1)

  same_holding : (clarifications : List ClarificationView) → AllByRecursion SameFor (named_files clarifications) → holding_clarification one clarifications ≡ holding_clarification other clarifications
  same_holding [] same = refl
  same_holding (first ∷ more) same = ap₂ (λ b rest. cond b (Some first) rest) (same_holds (named_in first) same.0) (same_holding more same.1)

  -- ---- by the paths that are named

  same_named : (files : List NamedFileView) → AllByRecursion SameAt (map (λ named. named.path) files) → SameFor files
  same_named [] same = tt
  same_named (named ∷ files) same = (same.0, same_named files same.1)

  same_each : (clarifications : List ClarificationView) → AllByRecursion SameAt (flat_map clarified_paths clarifications) → AllByRecursion SameFor (named_files clarifications)
  same_each [] same = tt
  same_each (first ∷ more) same = (
    same_named (named_in first) (all_front SameAt (clarified_paths first) (flat_map clarified_paths more) same),
    same_each more (all_behind SameAt (clarified_paths first) (flat_map clarified_paths more) same),
  )

  -- ---- exceptions

  -- the exceptions that are for the crate and whose files are read alike hold alike
  same_entry_by : (krate : CrateRecord) (entry : ExceptionEntry) (own : Bool) → AllByRecursion SameAt (cond own (map (λ named. named.path) entry.files) [])
      → (own && holds one entry.files) ≡ (own && holds other entry.files)
  same_entry_by krate entry true same = same_holds entry.files (same_named entry.files same)
  same_entry_by krate entry false same = refl

  same_places : (krate : CrateRecord) (n : ℕ) (entries : List ExceptionEntry) → AllByRecursion SameAt (flat_map (excepted_paths krate) entries)
      → places_from n (holds_for krate one) entries ≡ places_from n (holds_for krate other) entries
  same_places krate n [] same = refl
  same_places krate n (entry ∷ entries) same =
      ap₂ (λ (passes : Bool) (rest : List ℕ). cond passes (n ∷ rest) rest)
      (same_entry_by krate entry (is_for krate entry) (all_front SameAt (excepted_paths krate entry) (flat_map (excepted_paths krate) entries) same))
      (same_places krate (suc n) entries (all_behind SameAt (excepted_paths krate entry) (flat_map (excepted_paths krate) entries) same))

  counted_by : (krate : CrateRecord) (entries : List ExceptionEntry) (each : Bool) → AllByRecursion SameAt (cond each (flat_map (excepted_paths krate) entries) [])
      → counted_of (record { each_counts = each; entries = entries }) krate one ≡ counted_of (record { each_counts = each; entries = entries }) krate other
  counted_by krate entries true same = same_places krate 0 entries same
  counted_by krate entries false same = refl

  -- what is read for the licence, and what is read for exceptions
  all_around : (clarifications : List ClarificationView) (rules : ExceptionRules) (krate : CrateRecord) → HearTheSame clarifications rules krate one other
      → AllByRecursion SameAt (paths_around one.listing clarifications rules krate)
  all_around clarifications rules krate hear = recursion_from_All SameAt (paths_around one.listing clarifications rules krate) hear.files

  same_counted : (clarifications : List ClarificationView) (rules : ExceptionRules) (krate : CrateRecord) → HearTheSame clarifications rules krate one other
      → counted_of rules krate one ≡ counted_of rules krate other
  same_counted clarifications rules krate hear =
      counted_by krate rules.entries rules.each_counts
      (all_behind SameAt (license_files_in one.listing krate.license_file ++ flat_map clarified_paths clarifications) (exception_paths rules krate)
      (all_around clarifications rules krate hear))

  same_priority : (scanner : Scanner) (clarifications : List ClarificationView) (rules : ExceptionRules) (krate : CrateRecord) → HearTheSame clarifications rules krate one other
      → priority_of scanner clarifications krate one ≡ priority_of scanner clarifications krate other
  same_priority scanner clarifications rules krate hear =
      let found = license_files_in one.listing krate.license_file in
      let files = named_files clarifications in
      let all : AllByRecursion SameAt (found ++ flat_map clarified_paths clarifications) =
      all_front SameAt (found ++ flat_map clarified_paths clarifications) (exception_paths rules krate) (all_around clarifications rules krate hear) in
      let each : AllByRecursion SameFor files = same_each clarifications (all_behind SameAt found (flat_map clarified_paths clarifications) all) in
      let wanted_same : wanted_of one krate.license_file files ≡ wanted_of other krate.license_file files =
      ap₂ (λ listing rest. license_files_in listing krate.license_file ++ rest) hear.listing (same_tried files each) in
      let wanted_all : AllByRecursion SameAt (wanted_of one krate.license_file files) =
      all_both SameAt found (flat_map (looked_of one) (tried_of one files)) (all_front SameAt found (flat_map clarified_paths clarifications) all) (tried_same files each) in
      let pack = pack_paths one krate.license_file files in
      let pack_all : AllByRecursion SameAt pack =
      place_each SameAt [] (first_spellings (wanted_of one krate.license_file files)) tt (spelled SameAt (wanted_of one krate.license_file files) wanted_all) in
      let pack_same : pack ≡ pack_paths other krate.license_file files = ap (λ paths. in_path_order (first_spellings paths)) wanted_same in
      let heard_same : map (heard_by one) pack ≡ map (heard_by other) (pack_paths other krate.license_file files) =
      same_heard pack pack_all ∙ ap (map (heard_by other)) pack_same in
      let scanned_same : files_scanned scanner clarifications krate one ≡ files_scanned scanner clarifications krate other =
      ap (map (file_scanned scanner)) heard_same in
      let seen_same : seen_by one.listing (files_scanned scanner clarifications krate one) ≡ seen_by other.listing (files_scanned scanner clarifications krate other) =
      ap₂ seen_by hear.listing scanned_same in
      ap₂ (λ held seen. answer_in (settling_by (option_map held_in held) (field_of scanner.lists krate) (by_seen scanner.lists seen)))
      (same_holding clarifications each) seen_same

-- ---- a crate has one verdict

abbrev first_of : {A : Type 0} → A → List (Option A) → A
first_of other [] = other
first_of other (None ∷ rest) = other
first_of other (Some x ∷ rest) = x

abbrev rest_of : {A : Type 0} → List A → List A
rest_of [] = []
rest_of (x ∷ xs) = xs

same_items : {A : Type 0} (xs ys : List A) → map Some xs ≡ map Some ys → xs ≡ ys
same_items [] [] same = refl
same_items [] (y ∷ ys) same = let bad : [] ≡ Some y ∷ map Some ys = same in cc
same_items (x ∷ xs) [] same = let bad : Some x ∷ map Some xs ≡ [] = same in cc
same_items (x ∷ xs) (y ∷ ys) same = ap₂ (λ first rest. first ∷ rest) (ap (first_of x) same) (same_items xs ys (ap rest_of same))

same_accepted : (policy : Policy) (counted : List ℕ) (expression : Option ExpressionView) (choice places : List ℕ) (hits others : List Hit)
    → IsCertifiedOrUnlicensed policy counted expression (Accepted choice hits) → IsCertifiedOrUnlicensed policy counted expression (Accepted places others) → Accepted choice hits ≡ Accepted places others
same_accepted policy counted None choice places hits others first second = let bad : Accepted choice hits ≡ Unlicensed = first in cc
same_accepted policy counted (Some expression) choice places hits others first second =
    let choices : choice ≡ places = ap (λ o. unwrap_or o choice) (sym first.first ∙ second.first) in
    ap₂ Accepted choices
    (same_items hits others (first.place_by_place ∙ ap (map (hit_at (term_hits policy counted expression.terms))) choices ∙ sym second.place_by_place))

same_rejected : (policy : Policy) (counted : List ℕ) (expression : Option ExpressionView) (least fewest blocks others : List ℕ)
    → IsCertifiedOrUnlicensed policy counted expression (Rejected least blocks) → IsCertifiedOrUnlicensed policy counted expression (Rejected fewest others) → Rejected least blocks ≡ Rejected fewest others
same_rejected policy counted None least fewest blocks others first second = let bad : Rejected least blocks ≡ Unlicensed = first in cc
same_rejected policy counted (Some expression) least fewest blocks others first second =
    ap₂ Rejected (ap (λ o. unwrap_or o least) (sym first.least_is ∙ second.least_is)) (first.blocks_are ∙ sym second.blocks_are)

same_shown : (policy : Policy) (counted : List ℕ) (expression : Option ExpressionView) (first second : Verdict) → judgement_in first ≡ judgement_in second
    → IsVerdictShown (is_skipped first) policy counted expression first → IsVerdictShown (is_skipped second) policy counted expression second → first ≡ second
same_shown policy counted expression Skipped Skipped same shown also = refl
same_shown policy counted expression Skipped Unlicensed same shown also = let bad : skipped ≡ unlicensed = same in cc
same_shown policy counted expression Skipped (Accepted choice hits) same shown also = let bad : skipped ≡ accepted = same in cc
same_shown policy counted expression Skipped (Rejected least blocks) same shown also = let bad : skipped ≡ rejected = same in cc
same_shown policy counted expression Unlicensed Skipped same shown also = let bad : unlicensed ≡ skipped = same in cc
same_shown policy counted expression Unlicensed Unlicensed same shown also = refl
same_shown policy counted expression Unlicensed (Accepted choice hits) same shown also = let bad : unlicensed ≡ accepted = same in cc
same_shown policy counted expression Unlicensed (Rejected least blocks) same shown also = let bad : unlicensed ≡ rejected = same in cc
same_shown policy counted expression (Accepted choice hits) Skipped same shown also = let bad : accepted ≡ skipped = same in cc
same_shown policy counted expression (Accepted choice hits) Unlicensed same shown also = let bad : accepted ≡ unlicensed = same in cc
same_shown policy counted expression (Accepted choice hits) (Accepted places others) same shown also = same_accepted policy counted expression choice places hits others shown also
same_shown policy counted expression (Accepted choice hits) (Rejected least blocks) same shown also = let bad : accepted ≡ rejected = same in cc
same_shown policy counted expression (Rejected least blocks) Skipped same shown also = let bad : rejected ≡ skipped = same in cc
same_shown policy counted expression (Rejected least blocks) Unlicensed same shown also = let bad : rejected ≡ unlicensed = same in cc
same_shown policy counted expression (Rejected least blocks) (Accepted choice hits) same shown also = let bad : rejected ≡ accepted = same in cc
same_shown policy counted expression (Rejected least blocks) (Rejected fewest others) same shown also = same_rejected policy counted expression least fewest blocks others shown also

same_verdict : (policy : Policy) (krate : CrateRecord) (counted : List ℕ) (expression : Option ExpressionView) (first second : Verdict) → IsVerdict policy krate counted expression first
    → IsVerdict policy krate counted expression second → first ≡ second
same_verdict policy krate counted expression first second is also =
    let private : is.judged.private ≡ also.judged.private = same_test is.judged.private also.judged.private (λ p. p) (λ p. p) is.judged.tells also.judged.tells in
    same_shown policy counted expression first second
    (is.judged.is ∙ ap (λ (b : Bool). verdict_of b policy counted expression) private ∙ sym also.judged.is) is.shown also.shown

-- ---- laws

pub by_known_reads : VerdictIsByKnownReads
by_known_reads scanner policy krate one other first second hear is also =
    let rules = exception_rules policy in
    let same : expression_by scanner policy krate one ≡ expression_by scanner policy krate other =
    ap (λ answer. option_map (λ (one : LicenseAnswer). one.expression) answer) (same_priority one other scanner (clarifications_of krate (entries_of policy)) rules krate hear) in
    let count : counted_of rules krate one ≡ counted_of rules krate other = same_counted one other (clarifications_of krate (entries_of policy)) rules krate hear in
    same_verdict (policy_of policy) krate (counted_of rules krate one) (expression_by scanner policy krate one) first second is
    (subst (λ (counted : List ℕ). IsVerdict (policy_of policy) krate counted (expression_by scanner policy krate one) second) (sym count)
    (subst (λ (e : Option ExpressionView). IsVerdict (policy_of policy) krate (counted_of rules krate other) e second) (sym same) also))

pub by_own : VerdictIsOwn
by_own scanner policy krate one other = by_known_reads scanner policy krate (known_reads_there krate one) (known_reads_there krate other)
