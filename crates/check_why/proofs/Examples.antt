-- Computed examples: each row holds as it is there.
use Rattle.std.proofs.Common.{◌≡◌, ℕ, List, [], ◌∷◌, ◌++◌, codes, Some, None, refl}
use Rattle.std.specs.Fmt.{char_count, digits, padded_integral}
use Rattle.json.specs.Print.{escape_byte}
use Rattle.tree_core.specs.declared.reads.ReadKind.TheVariants.{Manifest, Listing}
use Rattle.tree_core.specs.file_reads.Heard.{absent, not_utf8, wrong_kind}
use Rattle.check_why.specs.declared.answer.Asking.TheVariants.{Clarification, Exception}
use Rattle.check_why.specs.declared.answer.CrateAnswer.{CrateAnswer}
use Rattle.check_why.specs.declared.answer.CrateTitle.{CrateTitle}
use Rattle.check_why.specs.declared.answer.ReadSaid.TheVariants as said
use Rattle.check_why.specs.declared.answer.TermAnswer.{TermAnswer}
use Rattle.check_why.specs.declared.answer.TermHit.TheVariants as hit
use Rattle.check_why.specs.declared.answer.Unmatched.TheVariants as by
use Rattle.check_why.specs.declared.answer.VerdictAnswer.TheVariants as verdict
use Rattle.check_why.specs.Lines.{answer_lines, certificate_lines, needed_text, read_line, texts_at, unchecked_lines, unmet_line}
use Rattle.check_why.specs.Object.{answer_object, unchecked_object}
use Rattle.check_why.specs.Reads.{wrong_said}
use Rattle.check_why.specs.Unmet.{unmatched_by}

abbrev globe : CrateTitle
globe = record { id = codes "path+file:///project/globe#1.0.0"; name = codes "globe"; version = codes "1.0.0" }

abbrev pages : CrateTitle
pages = record { id = codes "pages 0.2.0"; name = codes "pages"; version = codes "0.2.0" }

abbrev terms_of_globe : List TermAnswer
terms_of_globe =
    record { text = codes "MIT"; hit = hit.Allowed (codes "/project/deny.toml:3:11") }
    ∷ record { text = codes "Apache-2.0"; hit = hit.NotAllowed }
    ∷ record { text = codes "GPL-2.0-only"; hit = hit.NotAllowed }
    ∷ []

abbrev globe_answer : CrateAnswer
globe_answer = record {
  title = globe;
  verdict = verdict.Rejected (1 ∷ []) (1 ∷ 2 ∷ []);
  license = Some (record {
    text = codes "MIT AND (Apache-2.0 OR GPL-2.0-only)";
    source = codes "Cargo.toml `license`";
    place = codes "/project/globe/Cargo.toml:5:12";
  });
  terms = terms_of_globe;
  needed_by = [];
  reads = record { path = codes "/project/globe/Cargo.toml"; said = said.Read } ∷ [];
  unmet = [];
  notes = [];
}

-- ---- lines

rejected_globe : answer_lines globe_answer
    ≡ codes "globe 1.0.0\n"
    ++ codes "  id: path+file:///project/globe#1.0.0\n"
    ++ codes "  verdict: rejected\n"
    ++ codes "  license: MIT AND (Apache-2.0 OR GPL-2.0-only)\n"
    ++ codes "  from: Cargo.toml `license`, /project/globe/Cargo.toml:5:12\n"
    ++ codes "  MIT: allowed, /project/deny.toml:3:11\n"
    ++ codes "  Apache-2.0: not allowed\n"
    ++ codes "  GPL-2.0-only: not allowed\n"
    ++ codes "  to accept it, allow: Apache-2.0\n"
    ++ codes "  rejected as long as none is allowed of: Apache-2.0, GPL-2.0-only\n"
    ++ codes "  needed by: a root\n"
    ++ codes "  read: /project/globe/Cargo.toml\n"
rejected_globe = refl

not_checked : unchecked_lines pages (codes "left out by --exclude")
    ≡ codes "pages 0.2.0\n  id: pages 0.2.0\n  verdict: not checked\n  left out by --exclude\n"
not_checked = refl

-- a line feed in a text is a blank
feed_in_a_name : unchecked_lines (record { id = codes "a\nb"; name = codes "a"; version = codes "1.0.0" }) (codes "x")
    ≡ codes "a 1.0.0\n  id: a b\n  verdict: not checked\n  x\n"
feed_in_a_name = refl

-- `(MIT OR ISC) AND MIT`, of which ISC is not allowed: the terms that print the same are told once
equal_terms : certificate_lines
    (record { text = codes "MIT"; hit = hit.Allowed (codes "d:1:1") } ∷ record { text = codes "ISC"; hit = hit.NotAllowed }
    ∷ record { text = codes "MIT"; hit = hit.Allowed (codes "d:1:1") } ∷ [])
    (verdict.Accepted (0 ∷ 2 ∷ [])) ≡ codes "  rests on: MIT\n"
equal_terms = refl

in_the_order_of_places : texts_at terms_of_globe (2 ∷ 0 ∷ 2 ∷ 1 ∷ []) ≡ codes "GPL-2.0-only" ∷ codes "MIT" ∷ codes "Apache-2.0" ∷ []
in_the_order_of_places = refl

needed_by_two : needed_text (globe ∷ pages ∷ []) ≡ codes "globe 1.0.0 > pages 0.2.0"
needed_by_two = refl

known_text : read_line (record { path = codes "/p/LICENSE"; said = said.Known (codes "MIT") 100 }) ≡ codes "  read: /p/LICENSE (MIT, 100)\n"
unfolding digits
known_text = refl

unknown_text : read_line (record { path = codes "/p/TERMS"; said = said.Unknown 0 }) ≡ codes "  read: /p/TERMS (no known text, 0)\n"
unfolding digits
unknown_text = refl

folder_there : read_line (record { path = codes "/p/LICENSE"; said = said.Folder }) ≡ codes "  read: /p/LICENSE (a folder)\n"
folder_there = refl

wrong_hash : unmet_line (record {
  asking = Clarification;
  place = codes "/project/deny.toml:9:3";
  path = codes "TERMS";
  by = by.Hash 489429786 4220868196;
}) ≡ codes "  clarification at /project/deny.toml:9:3 does not hold: TERMS has hash 0x1d2c1b1a, and 0xfb955664 is wanted\n"
unfolding padded_integral digits char_count
wrong_hash = refl

absent_file : unmet_line (record { asking = Exception; place = codes "e:1:1"; path = codes "COPYING"; by = by.NotThere })
    ≡ codes "  exception at e:1:1 does not hold: COPYING is not there\n"
absent_file = refl

-- ---- objects

object_of_globe : answer_object globe_answer
    ≡ codes "{\"allow\":[1],\"because\":null,\"blocks\":[1,2],\"choice\":null,\"id\":\"path+file:///project/globe#1.0.0\","
    ++ codes "\"license\":\"MIT AND (Apache-2.0 OR GPL-2.0-only)\",\"name\":\"globe\",\"needed_by\":[],\"notes\":[],"
    ++ codes "\"place\":\"/project/globe/Cargo.toml:5:12\","
    ++ codes "\"reads\":[{\"answer\":\"read\",\"name\":null,\"path\":\"/project/globe/Cargo.toml\",\"score\":null}],"
    ++ codes "\"source\":\"Cargo.toml `license`\","
    ++ codes "\"terms\":[{\"hit\":\"allowed\",\"place\":\"/project/deny.toml:3:11\",\"text\":\"MIT\"},"
    ++ codes "{\"hit\":\"none\",\"place\":null,\"text\":\"Apache-2.0\"},{\"hit\":\"none\",\"place\":null,\"text\":\"GPL-2.0-only\"}],"
    ++ codes "\"unmet\":[],\"verdict\":\"rejected\",\"version\":\"1.0.0\"}\n"
unfolding escape_byte digits
object_of_globe = refl

object_of_pages : unchecked_object pages (codes "only dev-dependencies lead to it")
    ≡ codes "{\"because\":\"only dev-dependencies lead to it\",\"id\":\"pages 0.2.0\",\"name\":\"pages\","
    ++ codes "\"verdict\":\"not checked\",\"version\":\"0.2.0\"}\n"
unfolding escape_byte
object_of_pages = refl

-- ---- what came of a read

listing_of_a_file : wrong_said Listing ≡ said.NoFolder
listing_of_a_file = refl

manifest_that_is_a_folder : wrong_said Manifest ≡ said.Folder
manifest_that_is_a_folder = refl

absent_one : unmatched_by 7 absent ≡ by.NotThere
absent_one = refl

folder_in_its_place : unmatched_by 7 wrong_kind ≡ by.NoText
folder_in_its_place = refl

no_utf8 : unmatched_by 7 not_utf8 ≡ by.NoText
no_utf8 = refl
