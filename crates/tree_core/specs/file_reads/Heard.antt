-- What is read of a crate's files, and what a content has of them.
use Rattle.std.specs.Prelude.{ℕ, Bool, true, false, ◌&&◌, List, [], Option, Some, None, if◌then◌else◌}
use Rattle.std.specs.FinMap as map
use Rattle.std.specs.List.{fold}
use Rattle.std.specs.Ordering.{eq_by_cmp}
use Rattle.std.specs.Cmp.Lexicographic.{slice_cmp}
use Rattle.std.specs.Str.{is_utf8}
use Rattle.deny_text.specs.Path.{components_of, part_cmp}
use Rattle.tree_core.specs.Content.{Content, TreeNode, file, folder, Place, step, entries_in, ListedEntry}
use Rattle.tree_core.specs.declared.reads.ReadAnswer.{ReadAnswer}
use Rattle.tree_core.specs.declared.reads.ReadAnswer.TheVariants as answer
use Rattle.tree_core.specs.declared.reads.ReadKind.{ReadKind}
use Rattle.tree_core.specs.declared.reads.ReadKind.TheVariants.{Manifest, Listing, LicenseFile}
use Rattle.tree_core.specs.declared.reads.ReadRecord.{ReadRecord}

-- What is read by a read: that it failed, with the tree's counts of faults right before and right after it; that
-- nothing is there, or a folder in place of a file and the other way round; that the bytes are no UTF-8; a text; or, of
-- a listing, the entries in byte order of their names.
pub data ReadResult : Type 0 where
  failed : ℕ → ℕ → ReadResult
  absent : ReadResult
  wrong_kind : ReadResult
  not_utf8 : ReadResult
  text : List ℕ → ReadResult
  entries : List ListedEntry → ReadResult

-- ---- what is in a tree

-- bytes as a text
abbrev pub text_heard : List ℕ → ReadResult
text_heard bytes = if is_utf8 bytes then text bytes else not_utf8

-- of what is there, read as a text
unfoldable pub file_heard : Option TreeNode → ReadResult
file_heard None = absent
file_heard (Some folder) = wrong_kind
file_heard (Some (file bytes)) = text_heard bytes

-- of what is at a place, listed
abbrev pub listing_by : Content → Place → Option TreeNode → ReadResult
listing_by content place None = absent
listing_by content place (Some folder) = entries (entries_in content place)
listing_by content place (Some (file bytes)) = wrong_kind

unfoldable pub listing_heard : Content → Place → ReadResult
listing_heard content place = listing_by content place (map.get content place)

-- ---- records of a kind and of a path

abbrev pub is_kind : ReadKind → ReadKind → Bool
is_kind Manifest Manifest = true
is_kind Listing Listing = true
is_kind LicenseFile LicenseFile = true
is_kind _ _ = false

-- whether the parts of a path are the same
abbrev pub same_parts : List (List ℕ) → List (List ℕ) → Bool
same_parts = eq_by_cmp (slice_cmp part_cmp)

-- whether a read is of this kind, at a path of these parts
abbrev pub is_read : ReadKind → List (List ℕ) → ReadRecord → Bool
is_read kind parts read = is_kind kind read.kind && same_parts parts (components_of read.path)

-- the counts of a read that failed
abbrev pub counts_in : ReadAnswer → Option (ℕ × ℕ)
counts_in answer.Got = None
counts_in answer.Absent = None
counts_in answer.WrongKind = None
counts_in answer.NotUtf8 = None
counts_in (answer.Failed before after) = Some (before, after)

-- ---- what is where a read looks

-- where a read looks: a licence file is by the crate's folder, a manifest and a listing by the root
abbrev pub read_place : ReadKind → Place → List (List ℕ) → Place
read_place Manifest base parts = fold step [] parts
read_place Listing base parts = fold step [] parts
read_place LicenseFile base parts = fold step base parts

-- what the content says there
abbrev pub there_heard : ReadKind → Content → Place → ReadResult
there_heard Manifest content place = file_heard (map.get content place)
there_heard Listing content place = listing_heard content place
there_heard LicenseFile content place = file_heard (map.get content place)

-- what is there, but for a failure
abbrev pub or_there : Option (ℕ × ℕ) → ReadResult → ReadResult
or_there None there = there
or_there (Some counts) there = failed counts.0 counts.1

-- ---- what a record tells of it

-- a text and entries were got
abbrev pub read_answer_of : ReadResult → ReadAnswer
read_answer_of (failed before after) = answer.Failed before after
read_answer_of absent = answer.Absent
read_answer_of wrong_kind = answer.WrongKind
read_answer_of not_utf8 = answer.NotUtf8
read_answer_of (text bytes) = answer.Got
read_answer_of (entries listed) = answer.Got

-- the record of a read
abbrev pub read_record_of : ReadKind → List ℕ → ReadResult → ReadRecord
read_record_of kind path heard = record { path = path; kind = kind; answer = read_answer_of heard }
