-- Which exceptions count, and which files are looked at for that, worked out by hand from the rules.
use Rattle.std.proofs.Common.{◌≡◌, ℕ, true, false, cond, List, [], ◌∷◌, None, codes, refl}
use Rattle.std.specs.Path.{path_components, path_names}
use Rattle.std.specs.Str.{bytes_eq}
use Rattle.std.specs.Cmp.Lexicographic.{pointwise}
use Rattle.deny_text.specs.Hash.{xxh32_of, mixed_hash, of_groups, with_word, with_byte}
use Rattle.deny_text.specs.Normal.{normal_of}
use Rattle.deny_text.specs.Path.{components_of}
use Rattle.graph_core.specs.Krate.{CrateRecord}
use Rattle.tree_core.specs.file_reads.Heard.{ReadResult, failed, absent, wrong_kind, not_utf8, text}
use Rattle.gather_license.specs.files.KnownReads.{FolderReads}
use Rattle.gather_license.specs.files.NamedFile.{NamedFileView}
use Rattle.gather_core.specs.Exceptions.{ExceptionEntry, ExceptionRules, counted_of, further_paths, looked_for}

-- the crate `a`
abbrev krate : CrateRecord
krate = record {
  name = codes "a";
  id = codes "a";
  version = (1, 0, 0, [], []);
  source = None;
  authors = [];
  repository = None;
  description = None;
  manifest_path = codes "/w/Cargo.toml";
  license = None;
  license_file = None;
  features = [];
  publish = None;
  rust_version = None;
}

-- what is read of some files, by their paths; of any other, nothing is there
abbrev files : List (List ℕ × ReadResult) → List (List ℕ) → ReadResult
files [] parts = absent
files (one ∷ more) parts = cond (pointwise bytes_eq (components_of one.0) parts) one.1 (files more parts)

abbrev reads : List (List ℕ × ReadResult) → FolderReads
reads told = record { listing = absent; file = files told }

-- an exception for the crates of a name, with files
abbrev one_for : List ℕ → List NamedFileView → ExceptionEntry
one_for name named = record { spec = record { name = name; span = record { start = 0; end = 0 }; requirement = None }; files = named }

abbrev named : List ℕ → ℕ → NamedFileView
named path hash = record { path = path; hash = hash }

-- the hash of the empty text, as `xxhsum -H0` has it
abbrev of_nothing : ℕ
of_nothing = 0x02cc5d05

abbrev each : List ExceptionEntry → ExceptionRules
each entries = record { each_counts = true; entries = entries }

abbrev one_alone : List ExceptionEntry → ExceptionRules
one_alone entries = record { each_counts = false; entries = entries }

abbrev plain : List ExceptionEntry
plain = one_for (codes "a") [] ∷ one_for (codes "b") [] ∷ one_for (codes "a") [] ∷ []

-- ---- without files

all_for_it : counted_of (each plain) krate (reads []) ≡ 0 ∷ 2 ∷ []
all_for_it = refl

the_first_alone : counted_of (one_alone plain) krate (reads []) ≡ 0 ∷ []
the_first_alone = refl

none_for_it : counted_of (each (one_for (codes "b") [] ∷ [])) krate (reads []) ≡ []
none_for_it = refl

-- ---- with a file

abbrev with_license : ℕ → List ExceptionEntry
with_license hash = one_for (codes "a") (named (codes "LICENSE") hash ∷ []) ∷ one_for (codes "a") [] ∷ []

it_has_the_hash : counted_of (each (with_license of_nothing)) krate (reads ((codes "LICENSE", text []) ∷ [])) ≡ 0 ∷ 1 ∷ []
unfolding path_components path_names xxh32_of mixed_hash of_groups with_word with_byte normal_of
it_has_the_hash = refl

another_hash : counted_of (each (with_license 1)) krate (reads ((codes "LICENSE", text []) ∷ [])) ≡ 1 ∷ []
unfolding path_components path_names xxh32_of mixed_hash of_groups with_word with_byte normal_of
another_hash = refl

it_is_absent : counted_of (each (with_license of_nothing)) krate (reads []) ≡ 1 ∷ []
unfolding path_components path_names
it_is_absent = refl

it_is_no_text : counted_of (each (with_license of_nothing)) krate (reads ((codes "LICENSE", not_utf8) ∷ [])) ≡ 1 ∷ []
unfolding path_components path_names
it_is_no_text = refl

it_is_a_folder : counted_of (each (with_license of_nothing)) krate (reads ((codes "LICENSE", wrong_kind) ∷ [])) ≡ 1 ∷ []
unfolding path_components path_names
it_is_a_folder = refl

its_read_failed : counted_of (each (with_license of_nothing)) krate (reads ((codes "LICENSE", failed 0 1) ∷ [])) ≡ 1 ∷ []
unfolding path_components path_names
its_read_failed = refl

-- the first counts whatever its file is, where it counts alone, and the file is not looked at
whatever_its_file : counted_of (one_alone (with_license 1)) krate (reads []) ≡ 0 ∷ []
whatever_its_file = refl

not_looked_at : looked_for (one_alone (with_license 1)) krate (reads []) ≡ []
not_looked_at = refl

-- ---- which files are looked at

-- up to and with the first that does not match
up_to_a_mismatch : looked_for (each (one_for (codes "a") (named (codes "A") of_nothing ∷ named (codes "B") of_nothing ∷ named (codes "C") of_nothing ∷ []) ∷ [])) krate
    (reads ((codes "A", text []) ∷ (codes "C", text []) ∷ []))
    ≡ codes "A" ∷ codes "B" ∷ []
unfolding path_components path_names xxh32_of mixed_hash of_groups with_word with_byte normal_of
up_to_a_mismatch = refl

-- equal parts are one path, by its first spelling; `./A` and `A` are two
equal_parts : looked_for (each (one_for (codes "a") (named (codes "s/./A") 1 ∷ []) ∷ one_for (codes "a") (named (codes "s/A") 1 ∷ []) ∷ [])) krate (reads []) ≡ codes "s/./A" ∷ []
unfolding path_components path_names
equal_parts = refl

other_parts : looked_for (each (one_for (codes "a") (named (codes "./A") 1 ∷ []) ∷ one_for (codes "a") (named (codes "A") 1 ∷ []) ∷ [])) krate (reads []) ≡ codes "./A" ∷ codes "A" ∷ []
unfolding path_components path_names
other_parts = refl

-- of an exception for another crate none is
of_another_crate : looked_for (each (one_for (codes "b") (named (codes "A") 1 ∷ []) ∷ [])) krate (reads []) ≡ []
of_another_crate = refl

-- what was read before is not read again
read_before : further_paths (codes "s/A" ∷ []) (codes "s/./A" ∷ codes "B" ∷ []) ≡ codes "B" ∷ []
unfolding path_components path_names
read_before = refl
