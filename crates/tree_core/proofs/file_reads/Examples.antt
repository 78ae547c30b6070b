-- What is read, worked out by hand from the rules.
use Rattle.std.proofs.Common.{◌≡◌, ap, ◌∙◌, ℕ, List, [], ◌∷◌, true, false, codes, refl}
use Rattle.std.specs.FinMap as map
use Rattle.std.specs.List.{filter_map}
use Rattle.std.specs.Path.{path_components, path_join, path_names}
use Rattle.std.specs.Str.{is_utf8, chars}
use lib.Utf8.{encode}
use Rattle.tree_core.specs.Call as call
use Rattle.tree_core.specs.Call.{CallAnswer}
use Rattle.tree_core.specs.Content.{Content, Place, TreeNode, file, folder, resolve, place_cmp, entry_in}
use Rattle.tree_core.specs.declared.reads.ReadAnswer.TheVariants.{Failed}
use Rattle.tree_core.specs.declared.reads.ReadKind.TheVariants.{Manifest, Listing, LicenseFile}
use Rattle.deny_text.specs.Path.{components_of}
use Rattle.tree_core.specs.file_reads.Answered.{call_of}
use Rattle.tree_core.specs.file_reads.Read.{AnsweredRead, calls_in, first_heard, read_heard}
use Rattle.tree_core.specs.file_reads.Heard.{ReadResult, failed, absent, wrong_kind, not_utf8, text, entries, file_heard, is_read, listing_by, listing_heard, read_place, there_heard}

-- `/w` holds the file `LICENSE` of one LF, the file `COPYING` of the byte FF, and the folder `LICENSES`; `/T` is a file
abbrev stored : List (Place × TreeNode)
stored =
    ([], folder)
    ∷ (codes "T" ∷ [], file (codes "t"))
    ∷ (codes "w" ∷ [], folder)
    ∷ (codes "w" ∷ codes "COPYING" ∷ [], file (255 ∷ []))
    ∷ (codes "w" ∷ codes "LICENSE" ∷ [], file (10 ∷ []))
    ∷ (codes "w" ∷ codes "LICENSES" ∷ [], folder)
    ∷ []

abbrev tree : Content
tree = map.from_sorted stored

-- what it has of a licence file of the crate in `/w`
abbrev there : List ℕ → ReadResult
there path = there_heard LicenseFile tree (read_place LicenseFile (resolve (codes "/w")) (components_of path))

-- what is there is what is stored
looks : (path : List ℕ) → there path ≡ file_heard (map.find place_cmp (read_place LicenseFile (resolve (codes "/w")) (components_of path)) stored)
looks path = ap file_heard (map.get-from_sorted place_cmp stored (read_place LicenseFile (resolve (codes "/w")) (components_of path)) tt)

-- a file is a text
a_text : there (codes "LICENSE") ≡ text (10 ∷ [])
unfolding path_components path_names is_utf8 chars encode file_heard
a_text = looks (codes "LICENSE")

-- FF is in no UTF-8
no_utf8 : there (codes "COPYING") ≡ not_utf8
unfolding path_components path_names is_utf8 chars encode file_heard
no_utf8 = looks (codes "COPYING")

a_folder : there (codes "LICENSES") ≡ wrong_kind
unfolding path_components path_names is_utf8 chars encode file_heard
a_folder = looks (codes "LICENSES")

nothing : there (codes "NOTICE") ≡ absent
unfolding path_components path_names is_utf8 chars encode file_heard
nothing = looks (codes "NOTICE")

-- the empty path is the crate's folder
empty_path : there [] ≡ wrong_kind
unfolding path_components path_names is_utf8 chars encode file_heard
empty_path = looks []

-- a path may leave the folder, or begin at the root
above : there (codes "../T") ≡ text (codes "t")
unfolding path_components path_names is_utf8 chars encode file_heard
above = looks (codes "../T")

at_root : there (codes "/T") ≡ text (codes "t")
unfolding path_components path_names is_utf8 chars encode file_heard
at_root = looks (codes "/T")

-- a listing is found by the root, whatever folder the crate is in
a_listing : there_heard Listing tree (read_place Listing (resolve (codes "/w")) (components_of (codes "/w")))
    ≡ entries ((codes "COPYING", true) ∷ (codes "LICENSE", true) ∷ (codes "LICENSES", false) ∷ [])
unfolding path_components path_names listing_heard
a_listing =
    ap (listing_by tree (codes "w" ∷ [])) (map.get-from_sorted place_cmp stored (codes "w" ∷ []) tt)
    ∙ ap (λ all. entries (filter_map (λ (e : Place × TreeNode). entry_in (codes "w" ∷ []) e.0 e.1) all)) (map.entries-from_sorted place_cmp stored tt)

-- ---- reads with the answers of their calls

abbrev file_read : CallAnswer → AnsweredRead
file_read answered = record { recorded = record { path = codes "LICENSE"; kind = LicenseFile; answer = Failed 4 5 }; answer = answered }

abbrev listing_read : CallAnswer → AnsweredRead
listing_read answered = record { recorded = record { path = codes "/w"; kind = Listing; answer = Failed 4 5 }; answer = answered }

abbrev manifest_read : CallAnswer → AnsweredRead
manifest_read answered = record { recorded = record { path = codes "/w/Cargo.toml"; kind = Manifest; answer = Failed 4 5 }; answer = answered }

-- the folder is listed and the manifest read by their own paths, the licence file by its path from the folder
their_calls : calls_in (codes "/w") (listing_read (call.entries []) ∷ file_read call.absent ∷ manifest_read call.failed ∷ [])
    ≡ call_of call.list (codes "/w") (call.entries []) ∷ call_of call.read (codes "/w/LICENSE") call.absent ∷ call_of call.read (codes "/w/Cargo.toml") call.failed ∷ []
unfolding path_join
their_calls = refl

-- what the answers say
heard_text : read_heard (file_read (call.bytes (10 ∷ []))) ≡ text (10 ∷ [])
unfolding is_utf8 chars encode file_heard
heard_text = refl

heard_failure : read_heard (file_read call.failed) ≡ failed 4 5
heard_failure = refl

heard_listing : read_heard (listing_read (call.entries ((codes "LICENSE", true) ∷ []))) ≡ entries ((codes "LICENSE", true) ∷ [])
heard_listing = refl

-- entries are no answer to a read, nor are bytes to a listing
heard_nothing : read_heard (file_read (call.entries [])) ≡ absent
heard_nothing = refl

listed_nothing : read_heard (listing_read (call.bytes [])) ≡ absent
listed_nothing = refl

-- the first that is asked for counts
the_first : first_heard (is_read LicenseFile (components_of (codes "LICENSE"))) (listing_read (call.entries []) ∷ file_read call.wrong_kind ∷ file_read call.absent ∷ []) ≡ wrong_kind
unfolding path_components path_names
the_first = refl

-- and what was not read is not there
not_read : first_heard (is_read LicenseFile (components_of (codes "COPYING"))) (file_read call.wrong_kind ∷ []) ≡ absent
unfolding path_components path_names
not_read = refl
