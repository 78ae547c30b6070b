-- Files of crates, worked out by hand from the rules.
use Rattle.std.proofs.Common.{◌≡◌, ℕ, true, false, cond, List, [], ◌∷◌, Some, None, codes, refl}
use Rattle.std.specs.Path.{path_components, path_names}
use Rattle.std.specs.Str.{bytes_eq, chars, is_utf8}
use lib.Utf8.{encode}
use Rattle.std.specs.Cmp.Lexicographic.{pointwise}
use Rattle.deny_text.specs.Hash.{xxh32_of, mixed_hash, of_groups, with_word, with_byte}
use Rattle.deny_text.specs.Normal.{normal_of}
use Rattle.deny_text.specs.Path.{components_of}
use Rattle.tree_core.specs.Call as call
use Rattle.tree_core.specs.Call.{CallAnswer}
use Rattle.tree_core.specs.Content.{ListedEntry}
use Rattle.tree_core.specs.declared.reads.ReadAnswer.{ReadAnswer}
use Rattle.tree_core.specs.declared.reads.ReadAnswer.TheVariants as answer
use Rattle.tree_core.specs.declared.reads.ReadKind.{ReadKind}
use Rattle.tree_core.specs.declared.reads.ReadKind.TheVariants.{Listing, LicenseFile}
use Rattle.tree_core.specs.file_reads.Heard.{ReadResult, failed, absent, text, entries, file_heard}
use Rattle.tree_core.specs.file_reads.Read.{AnsweredRead}
use Rattle.gather_license.specs.files.NamedFile.{NamedFileView}
use Rattle.gather_license.specs.files.KnownReads.{FolderReads, known_reads_by, has_hash, holds, tried_of}
use Rattle.gather_license.specs.files.Pack.{license_files_in, reads_of, pack_paths}

-- ---- what is read of some files, by their paths; of any other, nothing is there

abbrev files : List (List ℕ × ReadResult) → List (List ℕ) → ReadResult
files [] parts = absent
files (one ∷ more) parts = cond (pointwise bytes_eq (components_of one.0) parts) one.1 (files more parts)

abbrev known_reads : ReadResult → List (List ℕ × ReadResult) → FolderReads
known_reads listing told = record { listing = listing; file = files told }

abbrev named : List ℕ → ℕ → NamedFileView
named path hash = record { path = path; hash = hash }

abbrev file : List ℕ → ListedEntry
file name = (name, true)

-- the hash of one LF, as `xxhsum -H0` has it
abbrev of_feed : ℕ
of_feed = 0x81c9d352

-- ---- hashes

-- one LF, and CR LF, have the hash of one LF
a_feed : has_hash of_feed (text (10 ∷ [])) ≡ true
unfolding xxh32_of mixed_hash of_groups with_word with_byte normal_of
a_feed = refl

a_return_and_a_feed : has_hash of_feed (text (13 ∷ 10 ∷ [])) ≡ true
unfolding xxh32_of mixed_hash of_groups with_word with_byte normal_of
a_return_and_a_feed = refl

-- nothing has the hash 0x02cc5d05, another one
nothing_there : has_hash of_feed (text []) ≡ false
unfolding xxh32_of mixed_hash of_groups with_word with_byte normal_of
nothing_there = refl

-- ---- what is found

-- names in the order of the listing; `license`, `MYLICENSE` and a folder `LICENSES` are none
by_name : license_files_in (entries (file (codes "COPYING.md") ∷ file (codes "LICENSE") ∷ (codes "LICENSES", false) ∷ file (codes "MYLICENSE") ∷ file (codes "license") ∷ [])) None
    ≡ codes "COPYING.md" ∷ codes "LICENSE" ∷ []
by_name = refl

abbrev beside : List ℕ → List (List ℕ)
beside license_file = license_files_in (entries (file (codes "LICENSE") ∷ [])) (Some license_file)

-- `LICENSE` ends with itself and with nothing at all, but neither with `./LICENSE` nor with `x/LICENSE`
itself : beside (codes "LICENSE") ≡ codes "LICENSE" ∷ []
unfolding path_components path_names
itself = refl

with_a_dot : beside (codes "./LICENSE") ≡ codes "LICENSE" ∷ codes "./LICENSE" ∷ []
unfolding path_components path_names
with_a_dot = refl

in_a_folder : beside (codes "x/LICENSE") ≡ codes "LICENSE" ∷ codes "x/LICENSE" ∷ []
unfolding path_components path_names
in_a_folder = refl

empty_beside_a_name : beside [] ≡ codes "LICENSE" ∷ []
unfolding path_components path_names
empty_beside_a_name = refl

-- an empty `license_file` is a file to be read where no name is found
empty_alone : license_files_in (entries []) (Some []) ≡ [] ∷ []
unfolding path_components path_names
empty_alone = refl

-- without a listing nothing is found
not_listed : license_files_in (failed 0 1) (Some (codes "LICENSE")) ≡ []
not_listed = refl

-- ---- clarifications

-- `A-TERMS` has another hash than the clarification's, so `LICENSE-B` is not looked up; the found `LICENSE-Z` is read first
abbrev terms_differ : FolderReads
terms_differ = known_reads (entries (file (codes "A-TERMS") ∷ file (codes "LICENSE-Z") ∷ [])) ((codes "A-TERMS", text (codes "MIT")) ∷ (codes "LICENSE-Z", text (codes "z")) ∷ [])

abbrev of_terms : List NamedFileView
of_terms = named (codes "A-TERMS") of_feed ∷ named (codes "LICENSE-B") of_feed ∷ []

ends_at_the_mismatch : reads_of terms_differ None (of_terms ∷ []) ≡ codes "LICENSE-Z" ∷ codes "A-TERMS" ∷ []
unfolding path_components path_names xxh32_of mixed_hash of_groups with_word with_byte normal_of
ends_at_the_mismatch = refl

in_path_order : pack_paths terms_differ None (of_terms ∷ []) ≡ codes "A-TERMS" ∷ codes "LICENSE-Z" ∷ []
unfolding path_components path_names xxh32_of mixed_hash of_groups with_word with_byte normal_of
in_path_order = refl

-- a clarification without files holds, and the found files are read all the same; no later one is tried
without_files : tried_of terms_differ ([] ∷ of_terms ∷ []) ≡ [] ∷ []
without_files = refl

reads_without_files : reads_of terms_differ None ([] ∷ of_terms ∷ []) ≡ codes "LICENSE-Z" ∷ []
unfolding path_components path_names
reads_without_files = refl

-- where the listing failed, a clarification may hold by its own files
abbrev unlisted : FolderReads
unlisted = known_reads (failed 0 1) ((codes "LICENSE", text (10 ∷ [])) ∷ [])

holds_unlisted : holds unlisted (named (codes "LICENSE") of_feed ∷ []) ≡ true
unfolding path_components path_names xxh32_of mixed_hash of_groups with_word with_byte normal_of
holds_unlisted = refl

reads_unlisted : reads_of unlisted (Some (codes "COPYING")) ((named (codes "LICENSE") of_feed ∷ []) ∷ []) ≡ codes "LICENSE" ∷ []
unfolding path_components path_names xxh32_of mixed_hash of_groups with_word with_byte normal_of
reads_unlisted = refl

-- a file that could not be read does not match, and ends the clarification
failed_file : holds (known_reads (entries []) ((codes "LICENSE", failed 0 1) ∷ [])) (named (codes "LICENSE") of_feed ∷ []) ≡ false
unfolding path_components path_names
failed_file = refl

-- `s/.//T` is the path `s/T`, of which the first spelling stays
abbrev both_spellings : List NamedFileView
both_spellings = named (codes "s/T") of_feed ∷ named (codes "s/.//T") of_feed ∷ named (codes "a") of_feed ∷ []

first_spelling : reads_of (known_reads (entries []) ((codes "s/T", text (10 ∷ [])) ∷ [])) None (both_spellings ∷ []) ≡ codes "s/T" ∷ codes "a" ∷ []
unfolding path_components path_names xxh32_of mixed_hash of_groups with_word with_byte normal_of
first_spelling = refl

first_spelling_in_order : pack_paths (known_reads (entries []) ((codes "s/T", text (10 ∷ [])) ∷ [])) None (both_spellings ∷ []) ≡ codes "a" ∷ codes "s/T" ∷ []
unfolding path_components path_names xxh32_of mixed_hash of_groups with_word with_byte normal_of
first_spelling_in_order = refl

-- ---- by the answers to reads

abbrev read_so : ReadKind → List ℕ → ReadAnswer → CallAnswer → AnsweredRead
read_so kind path came answered = record { recorded = record { path = path; kind = kind; answer = came }; answer = answered }

-- two names were listed; one file was read, and the read of the other failed
abbrev were_read : List AnsweredRead
were_read =
    read_so Listing (codes "/w") answer.Got (call.entries (file (codes "COPYING") ∷ file (codes "LICENSE") ∷ []))
    ∷ read_so LicenseFile (codes "COPYING") (answer.Failed 0 1) call.failed
    ∷ read_so LicenseFile (codes "LICENSE") answer.Got (call.bytes (10 ∷ []))
    ∷ []

listing_answered : (known_reads_by were_read).listing ≡ entries (file (codes "COPYING") ∷ file (codes "LICENSE") ∷ [])
listing_answered = refl

text_answered : (known_reads_by were_read).file (components_of (codes "LICENSE")) ≡ text (10 ∷ [])
unfolding path_components path_names is_utf8 chars encode file_heard
text_answered = refl

failure_answered : (known_reads_by were_read).file (components_of (codes "COPYING")) ≡ failed 0 1
unfolding path_components path_names
failure_answered = refl

-- what was not read is not there
not_answered : (known_reads_by were_read).file (components_of (codes "NOTICE")) ≡ absent
unfolding path_components path_names
not_answered = refl

-- these are the reads that their answers ask for
asked_by_answers : reads_of (known_reads_by were_read) (Some (codes "x/LICENSE")) ((named (codes "LICENSE") of_feed ∷ []) ∷ []) ≡ codes "COPYING" ∷ codes "LICENSE" ∷ codes "x/LICENSE" ∷ []
unfolding path_components path_names is_utf8 chars encode file_heard xxh32_of mixed_hash of_groups with_word with_byte normal_of
asked_by_answers = refl
