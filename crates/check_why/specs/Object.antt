-- What `why` prints for a program: a line with a JSON object (RFC 8259), compact, its keys sorted.
use Rattle.std.specs.Prelude.{ℕ, List, [], ◌++◌, Option, Some, None, codes, map, option_map}
use Rattle.serde_json.specs.Data.{Data, null, number, unsigned, string, array, object, member, no_members}
use Rattle.serde_json.specs.View.{items_of}
use Rattle.serde_json.specs.Written.{compact_text}
use Rattle.check_why.specs.declared.answer.CrateAnswer.{CrateAnswer}
use Rattle.check_why.specs.declared.answer.CrateTitle.{CrateTitle}
use Rattle.check_why.specs.declared.answer.LicenseAnswer.{LicenseAnswer}
use Rattle.check_why.specs.declared.answer.ReadAnswer.{ReadAnswer}
use Rattle.check_why.specs.declared.answer.ReadSaid.{ReadSaid}
use Rattle.check_why.specs.declared.answer.ReadSaid.TheVariants as said
use Rattle.check_why.specs.declared.answer.TermAnswer.{TermAnswer}
use Rattle.check_why.specs.declared.answer.TermHit.{TermHit}
use Rattle.check_why.specs.declared.answer.TermHit.TheVariants as hit
use Rattle.check_why.specs.declared.answer.Unmatched.{Unmatched}
use Rattle.check_why.specs.declared.answer.Unmatched.TheVariants as by
use Rattle.check_why.specs.declared.answer.UnmetAnswer.{UnmetAnswer}
use Rattle.check_why.specs.declared.answer.VerdictAnswer.{VerdictAnswer}
use Rattle.check_why.specs.declared.answer.VerdictAnswer.TheVariants as verdict
use Rattle.check_why.specs.Lines.{asking_word, hash_word, verdict_word}

-- a list, number by number, and text by text
abbrev pub numbers_data : List ℕ → Data
numbers_data numbers = array (items_of (map (λ one. number (unsigned one)) numbers))

abbrev pub texts_data : List (List ℕ) → Data
texts_data texts = array (items_of (map string texts))

-- ---- the expression

abbrev pub optional_text : Option (List ℕ) → Data
optional_text None = null
optional_text (Some text) = string text

abbrev pub part_data : (LicenseAnswer → List ℕ) → Option LicenseAnswer → Data
part_data part license = optional_text (option_map part license)

abbrev pub hit_word : TermHit → List ℕ
hit_word (hit.Allowed place) = codes "allowed"
hit_word (hit.Excepted place) = codes "exception"
hit_word hit.NotAllowed = codes "none"

abbrev pub hit_place : TermHit → Data
hit_place (hit.Allowed place) = string place
hit_place (hit.Excepted place) = string place
hit_place hit.NotAllowed = null

abbrev pub term_data : TermAnswer → Data
term_data term =
    object (member (codes "hit") (string (hit_word term.hit)) (member (codes "place") (hit_place term.hit)
    (member (codes "text") (string term.text) no_members)))

-- ---- what shows the verdict, as the numbers of terms

abbrev pub choice_data : VerdictAnswer → Data
choice_data (verdict.Accepted choice) = numbers_data choice
choice_data _ = null

abbrev pub allow_data : VerdictAnswer → Data
allow_data (verdict.Rejected allow blocks) = numbers_data allow
allow_data _ = null

abbrev pub blocks_data : VerdictAnswer → Data
blocks_data (verdict.Rejected allow blocks) = numbers_data blocks
blocks_data _ = null

-- ---- files

abbrev pub said_word : ReadSaid → List ℕ
said_word said.Read = codes "read"
said_word (said.Known name score) = codes "read"
said_word (said.Unknown score) = codes "read"
said_word said.NotThere = codes "not there"
said_word said.Folder = codes "a folder"
said_word said.NoFolder = codes "no folder"
said_word said.NotUtf8 = codes "not UTF-8"
said_word said.Failed = codes "could not be read"

abbrev pub name_data : ReadSaid → Data
name_data (said.Known name score) = string name
name_data _ = null

abbrev pub score_data : ReadSaid → Data
score_data (said.Known name score) = number (unsigned score)
score_data (said.Unknown score) = number (unsigned score)
score_data _ = null

abbrev pub read_data : ReadAnswer → Data
read_data read =
    object (member (codes "answer") (string (said_word read.said)) (member (codes "name") (name_data read.said)
    (member (codes "path") (string read.path) (member (codes "score") (score_data read.said) no_members))))

-- ---- what does not hold

abbrev pub reason_word : Unmatched → List ℕ
reason_word (by.Hash found wanted) = codes "another hash"
reason_word by.NotThere = codes "not there"
reason_word by.NoText = codes "no text"
reason_word by.Failed = codes "could not be read"

abbrev pub hash_data : ℕ → Data
hash_data hash = string (hash_word hash)

abbrev pub found_data : Unmatched → Data
found_data (by.Hash found wanted) = hash_data found
found_data _ = null

abbrev pub wanted_data : Unmatched → Data
wanted_data (by.Hash found wanted) = hash_data wanted
wanted_data _ = null

abbrev pub unmet_data : UnmetAnswer → Data
unmet_data one =
    object (member (codes "found") (found_data one.by) (member (codes "kind") (string (asking_word one.asking))
    (member (codes "path") (string one.path) (member (codes "place") (string one.place)
    (member (codes "reason") (string (reason_word one.by)) (member (codes "wanted") (wanted_data one.by)
    no_members))))))

-- ---- all of it

abbrev pub ids_data : List CrateTitle → Data
ids_data titles = array (items_of (map (λ (title : CrateTitle). string title.id) titles))

abbrev pub answer_data : CrateAnswer → Data
answer_data one =
    object (member (codes "allow") (allow_data one.verdict) (member (codes "because") null
    (member (codes "blocks") (blocks_data one.verdict) (member (codes "choice") (choice_data one.verdict)
    (member (codes "id") (string one.title.id)
    (member (codes "license") (part_data (λ (license : LicenseAnswer). license.text) one.license)
    (member (codes "name") (string one.title.name)
    (member (codes "needed_by") (ids_data one.needed_by)
    (member (codes "notes") (texts_data one.notes)
    (member (codes "place") (part_data (λ (license : LicenseAnswer). license.place) one.license)
    (member (codes "reads") (array (items_of (map read_data one.reads)))
    (member (codes "source") (part_data (λ (license : LicenseAnswer). license.source) one.license)
    (member (codes "terms") (array (items_of (map term_data one.terms)))
    (member (codes "unmet") (array (items_of (map unmet_data one.unmet)))
    (member (codes "verdict") (string (verdict_word one.verdict))
    (member (codes "version") (string one.title.version) no_members))))))))))))))))

abbrev pub unchecked_data : CrateTitle → List ℕ → Data
unchecked_data title because =
    object (member (codes "because") (string because) (member (codes "id") (string title.id)
    (member (codes "name") (string title.name) (member (codes "verdict") (string (codes "not checked"))
    (member (codes "version") (string title.version) no_members)))))

-- each with a line feed
abbrev pub answer_object : CrateAnswer → List ℕ
answer_object one = compact_text (answer_data one) ++ codes "\n"

abbrev pub unchecked_object : CrateTitle → List ℕ → List ℕ
unchecked_object title because = compact_text (unchecked_data title because) ++ codes "\n"
