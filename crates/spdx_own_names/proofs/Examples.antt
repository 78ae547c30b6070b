-- Files and folders that were worked out by hand from the rules.
use Rattle.std.proofs.Common.{◌≡◌, ℕ, List, [], ◌∷◌, ◌++◌, map, replicate, true, false, codes, Option, Some, None, Ok, Err, refl}
use Rattle.std.specs.Str.{is_utf8, chars}
use Rattle.std.specs.Str.Lossy.{utf8_valid_len}
use lib.Utf8.{encode}
use Rattle.tree_core.specs.Call as call
use Rattle.tree_core.specs.texts.Heard.{heard_of}
use Rattle.spdx_own_names.specs.File.{catalog_of, fault_in, first_fault, lines_of, lists_of}
use Rattle.spdx_own_names.specs.Folder.{store_answered, text_file, texts_of}
use Rattle.spdx_own_names.specs.Form.{form_of, decimal_of, marks_of}
use Rattle.spdx_own_names.specs.declared.error.StoreFault.TheVariants.{Failed, Absent, NotFolder, NotUtf8}

abbrev faults : List (List ℕ) → List (Option ℕ)
faults texts = map (λ text. fault_in (lines_of text)) texts

-- the first line has a fault
abbrev first_rows : List (List ℕ)
first_rows =
    codes "license MIT 01 10\n"
    ∷ codes "license MIT 1 010\n"
    ∷ codes "license  MIT 1 10\n"
    ∷ codes "license MIT 1 10 \n"
    ∷ (codes "license MIT 1 10" ++ 13 ∷ 10 ∷ [])
    ∷ codes " # x\n"
    ∷ codes "license MIT 1 10 later later\n"
    ∷ codes "license MIT 1 10 gnu later\n"
    ∷ codes "license MIT 4294967296 10\n"
    ∷ codes "license MIT -1 10\n"
    ∷ codes "license MIT +1 10\n"
    ∷ codes "license MIT 1\n"
    ∷ codes "license and 1 10\n"
    ∷ codes "license With 1 10\n"
    ∷ codes "license a_b 1 10\n"
    ∷ codes "license LicenseRef-x 1 10\n"
    ∷ codes "License MIT 1 10\n"
    ∷ codes "license\n"
    ∷ codes "x\n"
    ∷ codes "exception or\n"
    ∷ codes "exception a b\n"
    ∷ codes "imprecise MIT\n"
    ∷ codes "imprecise MIT mit\n"
    ∷ codes "license MIT 1 10"
    ∷ codes "x"
    ∷ []

first_line : faults first_rows ≡ replicate 25 (Some 1)
unfolding form_of decimal_of marks_of lists_of
first_line = refl

-- the second has the first one
abbrev second_rows : List (List ℕ)
second_rows =
    codes "license MIT 1 10\nimprecise MIT \n"
    ∷ codes "license MIT 1 10\nimprecise MIT a/b\n"
    ∷ codes "license MIT 1 10\nimprecise MIT a  b\n"
    ∷ codes "license MIT 1 10\nlicense MIT 2 10\n"
    ∷ codes "exception x\nexception x\n"
    ∷ codes "# x\nlicense MIT 1 10"
    ∷ codes "\n "
    ∷ []

second_line : faults second_rows ≡ replicate 7 (Some 2)
unfolding form_of decimal_of marks_of lists_of
second_line = refl

-- the third has it
abbrev third_rows : List (List ℕ)
third_rows =
    codes "license MIT 1 10\nimprecise MIT a b\nimprecise MIT A B\n"
    ∷ codes "license MIT 1 10\n\nx\ny\n"
    ∷ []

third_line : faults third_rows ≡ replicate 2 (Some 3)
unfolding form_of decimal_of marks_of lists_of
third_line = refl

-- there is none
abbrev no_rows : List (List ℕ)
no_rows =
    codes ""
    ∷ codes "\n"
    ∷ codes "# ours\n\nlicense MIT 1 10\n"
    ∷ codes "license MIT 1 10\nexception MIT\n"
    ∷ codes "license MIT 1 10\nlicense Mit 1 10\n"
    ∷ codes "license MIT 4294967295 4294967295\n"
    ∷ codes "license MIT 0 0\n"
    ∷ codes "imprecise MIT mit\nlicense MIT 1 10\n"
    ∷ codes "license MIT 1 10\nimprecise MIT a and b\nimprecise MIT LicenseRef-x\n"
    ∷ codes "license A-1.0-only 7 10 later deprecated gnu\n"
    ∷ []

no_line : faults no_rows ≡ replicate 10 None
unfolding form_of decimal_of marks_of lists_of
no_line = refl

-- bytes that are no UTF-8 are reported before a fault in a line above them
no_utf8 : map first_fault ((255 ∷ []) ∷ (codes "#\n#\n# " ++ 255 ∷ []) ∷ (codes "x\n" ++ 255 ∷ codes "\n") ∷ []) ≡ Some 1 ∷ Some 3 ∷ Some 2 ∷ []
unfolding first_fault is_utf8 chars encode utf8_valid_len form_of decimal_of marks_of lists_of
no_utf8 = refl

-- a catalogue of three lines
a_catalog : catalog_of (codes "imprecise A-2.0 a two\nlicense A-2.0 7 20 later gnu\nexception x\n") ≡ Some (record {
  licenses = (codes "A-2.0", record { family = 7; rank = 20; later = true; deprecated = false; gnu = true }) ∷ [];
  exceptions = codes "x" ∷ [];
  imprecise = (codes "a two", codes "A-2.0") ∷ [];
})
unfolding first_fault is_utf8 chars encode utf8_valid_len form_of decimal_of marks_of lists_of
a_catalog = refl

-- ---- folders

-- files whose names end `.txt` are texts, in the order of the entries
some_texts : texts_of ((codes ".txt", true) ∷ (codes "ISC.txt", true) ∷ (codes "MIT", true) ∷ (codes "MIT.TXT", true) ∷ (codes "MIT.txt", true) ∷ (codes "a.txt", false) ∷ []) ≡
    text_file (codes ".txt") [] ∷ text_file (codes "ISC.txt") (codes "ISC") ∷ text_file (codes "MIT.txt") (codes "MIT") ∷ []
some_texts = refl

-- each text is as it was read
texts_as_read : store_answered 0 0 (call.entries ((codes "ISC.txt", true) ∷ (codes "b", true) ∷ (codes "b.txt", true) ∷ [])) (call.bytes (codes "x") ∷ call.bytes [] ∷ []) ≡
    Some (Ok (record { name = codes "ISC"; body = codes "x" } ∷ record { name = codes "b"; body = [] } ∷ []))
unfolding heard_of is_utf8 chars encode
texts_as_read = refl

-- the first that is not found is reported, and none is read behind it
first_bad : store_answered 0 0 (call.entries ((codes "b.txt", true) ∷ (codes "c.txt", true) ∷ [])) (call.bytes (255 ∷ []) ∷ []) ≡ Some (Err (NotUtf8 (codes "b.txt")))
unfolding heard_of is_utf8 chars encode
first_bad = refl

one_too_many : store_answered 0 0 (call.entries ((codes "b.txt", true) ∷ (codes "c.txt", true) ∷ [])) (call.bytes (255 ∷ []) ∷ call.bytes [] ∷ []) ≡ None
unfolding heard_of is_utf8 chars encode
one_too_many = refl

second_fails : store_answered 3 4 (call.entries ((codes "b.txt", true) ∷ (codes "c.txt", true) ∷ [])) (call.bytes [] ∷ call.failed ∷ []) ≡ Some (Err (Failed 3 4))
unfolding heard_of is_utf8 chars encode
second_fails = refl

is_no_more : store_answered 0 0 (call.entries ((codes "b.txt", true) ∷ [])) (call.absent ∷ []) ≡ Some (Err Absent)
is_no_more = refl

no_folder : store_answered 0 0 call.absent [] ≡ Some (Err Absent)
no_folder = refl

a_file : store_answered 0 0 call.wrong_kind [] ≡ Some (Err NotFolder)
a_file = refl
