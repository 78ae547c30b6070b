-- The line of a finding for a program: one JSON object (RFC 8259), compact, its keys sorted.
use Rattle.std.specs.Prelude.{ℕ, List, ◌++◌, Option, Some, None, codes, map}
use Rattle.serde_json.specs.Data.{Data, null, number, unsigned, string, array, object, member, no_members}
use Rattle.serde_json.specs.View.{items_of}
use Rattle.serde_json.specs.Written.{compact_text}
use Rattle.diag_core.specs.declared.label.Label.{Label}
use Rattle.diag_core.specs.declared.diagnostic.Diagnostic.{Diagnostic}
use Rattle.diag_core.specs.File.{File}
use Rattle.diag_print.specs.Human.{severity_word}
use Rattle.diag_print.specs.Places.{line_number, column_number, text_under}

-- the code as a string, or null
abbrev pub code_data : Option (List ℕ) → Data
code_data None = null
code_data (Some code) = string code

-- a label: its place, its message, and the text that it cuts out
abbrev pub label_data : List File → Label → Data
label_data files label =
    object (member (codes "column") (number (unsigned (column_number files label)))
    (member (codes "line") (number (unsigned (line_number files label)))
    (member (codes "message") (string label.message)
    (member (codes "span") (string (text_under files label)) no_members))))

-- what is found
abbrev pub fields_data : List File → Diagnostic → Data
fields_data files diag =
    object (member (codes "code") (code_data diag.code)
    (member (codes "labels") (array (items_of (map (label_data files) diag.labels)))
    (member (codes "message") (string diag.message)
    (member (codes "notes") (array (items_of (map string diag.notes)))
    (member (codes "severity") (string (severity_word diag.severity)) no_members)))))

-- the whole object
abbrev pub finding_data : List File → Diagnostic → Data
finding_data files diag =
    object (member (codes "fields") (fields_data files diag)
    (member (codes "type") (string (codes "diagnostic")) no_members))

-- its text, and a line feed
abbrev pub json_line : List File → Diagnostic → List ℕ
json_line files diag = compact_text (finding_data files diag) ++ codes "\n"
