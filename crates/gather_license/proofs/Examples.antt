-- Crates and where their licences come from, worked out by hand from the rules.
use Rattle.std.proofs.Common.{◌≡◌, ℕ, true, false, cond, List, [], ◌∷◌, ◌++◌, map, Option, Some, None, codes, refl}
use Rattle.std.specs.Path.{path_components, path_join, path_names, path_parent, rsplit_once, split_last_component, trim_trailing}
use Rattle.std.specs.Str.{bytes_eq, chars, is_utf8}
use lib.Utf8.{encode}
use Rattle.std.specs.Cmp.Lexicographic.{pointwise}
use Rattle.deny_text.specs.Hash.{xxh32_of, mixed_hash, of_groups, with_word, with_byte}
use Rattle.deny_text.specs.Normal.{normal_of}
use Rattle.deny_text.specs.Path.{components_of}
use Rattle.deny_text.specs.declared.span.Span.{Span}
use Rattle.tree_core.specs.Call as call
use Rattle.tree_core.specs.declared.reads.ReadAnswer.{ReadAnswer}
use Rattle.tree_core.specs.declared.reads.ReadAnswer.TheVariants as answer
use Rattle.tree_core.specs.declared.reads.ReadKind.TheVariants.{Listing, LicenseFile}
use Rattle.tree_core.specs.declared.reads.ReadRecord.{ReadRecord}
use Rattle.spdx_core.specs.Grammar.{leaf}
use Rattle.spdx_core.specs.Reading.{ExpressionView}
use Rattle.graph_core.specs.Krate.{CrateRecord}
use Rattle.tree_core.specs.file_reads.Answered.{call_of}
use Rattle.tree_core.specs.file_reads.Heard.{ReadResult, failed, absent, not_utf8, text, entries, file_heard}
use Rattle.tree_core.specs.file_reads.Read.{AreReads, AnsweredRead, call_lost, calls_in, records_of_reads}
use Rattle.gather_license.specs.files.KnownReads.{FolderReads, known_reads_by}
use Rattle.gather_license.specs.expression.Scanned.{Scanner}
use Rattle.gather_license.specs.Clarification.{ClarificationView}
use Rattle.gather_license.specs.Priority.{LicenseAnswer, folder_of, overlay_override, user_override, priority_of, records_of}
use Rattle.gather_license.specs.Settled.{missing_of}

-- no text is identified
abbrev scanner : Scanner
scanner = record {
  lists = record { licenses = []; exceptions = []; imprecise = [] };
  match_of = λ normal. record { name = None; score = 0 };
  threshold = 80;
  keeps = false;
}

-- a crate in the folder `/w`, without a field
abbrev krate : Option (List ℕ) → CrateRecord
krate license_file = record {
  name = codes "a";
  id = codes "a";
  version = (1, 0, 0, [], []);
  source = None;
  authors = [];
  repository = None;
  description = None;
  manifest_path = codes "/w/Cargo.toml";
  license = None;
  license_file = license_file;
  features = [];
  publish = None;
  rust_version = None;
}

-- what is read of one file; of any other, nothing is there
abbrev known_reads : ReadResult → List ℕ → ReadResult → FolderReads
known_reads listing path heard = record { listing = listing; file = λ parts. cond (pointwise bytes_eq (components_of path) parts) heard absent }

abbrev listed : ReadResult
listed = entries ((codes "LICENSE", true) ∷ [])

abbrev isc : ExpressionView
isc = record { text = codes "ISC"; terms = []; tree = leaf 0 }

-- where the policy writes the path
abbrev at_path : Span
at_path = record { start = 7; end = 9 }

-- a clarification of a file that is to have the hash of one LF, as `xxhsum -H0` has it
abbrev clarified : List ℕ → List ClarificationView
clarified path = record { expression = isc; file = 0; overlay = false; offset = 0; whole = None; files = record { named = record { path = path; hash = 0x81c9d352 }; span = at_path } ∷ [] } ∷ []

abbrev by_policy : Option LicenseAnswer
by_policy = Some (record { expression = isc; source = user_override; notes = [] })

abbrev listing_read : ReadAnswer → ReadRecord
listing_read came = record { path = codes "/w"; kind = Listing; answer = came }

abbrev license_read : ReadAnswer → ReadRecord
license_read came = record { path = codes "LICENSE"; kind = LicenseFile; answer = came }

-- the file has the hash
holds : priority_of scanner (clarified (codes "LICENSE")) (krate None) (known_reads listed (codes "LICENSE") (text (10 ∷ []))) ≡ by_policy
unfolding path_components path_names xxh32_of mixed_hash of_groups with_word with_byte normal_of
holds = refl

reads_of_holds : records_of scanner (clarified (codes "LICENSE")) (krate None) (known_reads listed (codes "LICENSE") (text (10 ∷ [])))
    ≡ listing_read answer.Got ∷ license_read answer.Got ∷ []
unfolding path_components path_names path_parent split_last_component trim_trailing rsplit_once xxh32_of mixed_hash of_groups with_word with_byte normal_of
reads_of_holds = refl

-- a clarification of the exceptions file, number 1, behind one of the policy
abbrev laid_over : List ℕ → List ℕ → List ClarificationView
laid_over own path =
    clarified own ++ map {A = ClarificationView} {B = ClarificationView} (λ one. record one { file = 1; overlay = true }) (clarified path)

-- it settles where the policy's does not hold, and is told as what it is; where the policy's holds, that does
by_overlay : (priority_of scanner (laid_over (codes "COPYING") (codes "LICENSE")) (krate None) (known_reads listed (codes "LICENSE") (text (10 ∷ [])))
    ≡ Some (record { expression = isc; source = overlay_override; notes = [] }))
    × (priority_of scanner (laid_over (codes "LICENSE") (codes "LICENSE")) (krate None) (known_reads listed (codes "LICENSE") (text (10 ∷ []))) ≡ by_policy)
unfolding path_components path_names xxh32_of mixed_hash of_groups with_word with_byte normal_of
by_overlay = (refl, refl)

-- what is not there is told in the file of each
both_missing : missing_of (known_reads listed (codes "x") (text [])) (laid_over (codes "A") (codes "B")) ≡ record { file = 0; span = at_path } ∷ record { file = 1; span = at_path } ∷ []
unfolding path_components path_names
both_missing = refl

-- it has it, and the listing failed
holds_unlisted : priority_of scanner (clarified (codes "LICENSE")) (krate (Some (codes "COPYING"))) (known_reads (failed 0 1) (codes "LICENSE") (text (10 ∷ []))) ≡ by_policy
unfolding path_components path_names xxh32_of mixed_hash of_groups with_word with_byte normal_of
holds_unlisted = refl

reads_unlisted : records_of scanner (clarified (codes "LICENSE")) (krate (Some (codes "COPYING"))) (known_reads (failed 0 1) (codes "LICENSE") (text (10 ∷ [])))
    ≡ listing_read (answer.Failed 0 1) ∷ license_read answer.Got ∷ []
unfolding path_components path_names path_parent split_last_component trim_trailing rsplit_once xxh32_of mixed_hash of_groups with_word with_byte normal_of
reads_unlisted = refl

-- a file that is no text; and where the listing failed nothing else is read
not_a_text : priority_of scanner [] (krate None) (known_reads listed (codes "LICENSE") not_utf8) ≡ None
unfolding path_components path_names xxh32_of mixed_hash of_groups with_word with_byte normal_of
not_a_text = refl

reads_not_a_text : records_of scanner [] (krate None) (known_reads listed (codes "LICENSE") not_utf8) ≡ listing_read answer.Got ∷ license_read answer.NotUtf8 ∷ []
unfolding path_components path_names path_parent split_last_component trim_trailing rsplit_once
reads_not_a_text = refl

reads_no_listing : records_of scanner [] (krate (Some (codes "LICENSE"))) (known_reads (failed 0 1) (codes "LICENSE") (text [])) ≡ listing_read (answer.Failed 0 1) ∷ []
unfolding path_components path_names path_parent split_last_component trim_trailing rsplit_once
reads_no_listing = refl

-- ---- files that are not there

-- nothing is there, and the place of the path is reported
not_there : missing_of (known_reads listed (codes "COPYING") (text [])) (clarified (codes "LICENSE")) ≡ record { file = 0; span = at_path } ∷ []
unfolding path_components path_names
not_there = refl

-- a file of another hash, and one whose read failed, are there
another_hash : missing_of (known_reads listed (codes "LICENSE") (text [])) (clarified (codes "LICENSE")) ≡ []
unfolding path_components path_names xxh32_of mixed_hash of_groups with_word with_byte normal_of
another_hash = refl

read_failed : missing_of (known_reads listed (codes "LICENSE") (failed 0 1)) (clarified (codes "LICENSE")) ≡ []
unfolding path_components path_names
read_failed = refl

-- ---- by the answers to the crate's own reads

-- no clarification and no field: the folder is listed, and the file that is found is read
abbrev were_read : List AnsweredRead
were_read =
    record { recorded = listing_read answer.Got; answer = call.entries ((codes "LICENSE", true) ∷ []) }
    ∷ record { recorded = license_read answer.Got; answer = call.bytes (10 ∷ []) }
    ∷ []

own_reads : records_of scanner [] (krate None) (known_reads_by were_read) ≡ records_of_reads were_read
unfolding path_components path_names path_parent split_last_component trim_trailing rsplit_once is_utf8 chars encode file_heard
own_reads = refl

own_calls : calls_in (folder_of (krate None)) were_read
    ≡ call_of call.list (codes "/w") (call.entries ((codes "LICENSE", true) ∷ [])) ∷ call_of call.read (codes "/w/LICENSE") (call.bytes (10 ∷ [])) ∷ []
unfolding path_components path_names path_parent split_last_component trim_trailing rsplit_once path_join
own_calls = refl

-- the listing fails as the first call that does: its record has the counts 0 and 1, and no file is read
abbrev unlisted : List AnsweredRead
unlisted = record { recorded = listing_read (answer.Failed 0 1); answer = call.failed } ∷ []

unlisted_reads : records_of scanner [] (krate (Some (codes "LICENSE"))) (known_reads_by unlisted) ≡ records_of_reads unlisted
unfolding path_components path_names path_parent split_last_component trim_trailing rsplit_once
unlisted_reads = refl

unlisted_counts : AreReads 0 unlisted
unlisted_counts = (record { heard = failed 0 1; hears = refl; tells = refl }, tt)

-- memory is wanting in the call of the file: with it, the listing is all that would be read
abbrev first_read : List AnsweredRead
first_read = record { recorded = listing_read answer.Got; answer = call.entries ((codes "LICENSE", true) ∷ []) } ∷ []

next_read : records_of scanner [] (krate None) (known_reads_by first_read) ≡ records_of_reads first_read ++ license_read answer.Absent ∷ []
unfolding path_components path_names path_parent split_last_component trim_trailing rsplit_once
next_read = refl

lost_call : call_lost (folder_of (krate None)) (Some (license_read answer.Absent)) ≡ call_of call.read (codes "/w/LICENSE") call.no_memory ∷ []
unfolding path_components path_names path_parent split_last_component trim_trailing rsplit_once path_join
lost_call = refl
