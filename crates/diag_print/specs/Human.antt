-- The lines of a finding for a person.
use Rattle.std.specs.Prelude.{ℕ, ◌==◌, List, [], ◌++◌, length, Option, Some, None, codes, decimal, map, if◌then◌else◌}
use Rattle.std.specs.List.{flat_map}
use Rattle.diag_core.specs.declared.severity.Severity.{Severity}
use Rattle.diag_core.specs.declared.severity.Severity.TheVariants.{Help, Note, Warning, Error, Bug}
use Rattle.diag_core.specs.declared.label.Label.{Label}
use Rattle.diag_core.specs.declared.label.LabelStyle.{LabelStyle}
use Rattle.diag_core.specs.declared.label.LabelStyle.TheVariants.{Primary, Secondary}
use Rattle.diag_core.specs.declared.diagnostic.Diagnostic.{Diagnostic}
use Rattle.diag_core.specs.File.{File}
use Rattle.diag_core.specs.Position.{is_line_feed}
use Rattle.diag_print.specs.Places.{file_under, line_number, column_number}

-- the severity in a word
abbrev pub severity_word : Severity → List ℕ
severity_word Help = codes "help"
severity_word Note = codes "note"
severity_word Warning = codes "warning"
severity_word Error = codes "error"
severity_word Bug = codes "bug"

-- a space in place of a line feed
abbrev pub flat_byte : ℕ → ℕ
flat_byte byte = if is_line_feed byte then 32 else byte

-- the text with a space in place of each line feed
abbrev pub flat_text : List ℕ → List ℕ
flat_text text = map flat_byte text

-- the code in brackets, where there is one
abbrev pub in_brackets : Option (List ℕ) → List ℕ
in_brackets None = []
in_brackets (Some code) = codes "[" ++ flat_text code ++ codes "]"

-- the message behind a colon, where it is not empty
abbrev pub behind_colon : List ℕ → List ℕ
behind_colon message = if length message == 0 then [] else codes ": " ++ flat_text message

-- the first line: severity, code and message
abbrev pub headline_of : Diagnostic → List ℕ
headline_of diag = severity_word diag.severity ++ in_brackets diag.code ++ behind_colon diag.message ++ codes "\n"

-- what points to the place of a label
abbrev pub pointer_of : LabelStyle → List ℕ
pointer_of Primary = codes "-->"
pointer_of Secondary = codes ":::"

-- the file, the line and the column of a label
abbrev pub place_text : List File → Label → List ℕ
place_text files label =
    flat_text (file_under files label) ++ codes ":" ++ decimal (line_number files label) ++ codes ":"
    ++ decimal (column_number files label)

-- the line of a label: its place and its message
abbrev pub label_line : List File → Label → List ℕ
label_line files label =
    codes "  " ++ pointer_of label.style ++ codes " " ++ place_text files label ++ behind_colon label.message
    ++ codes "\n"

-- the line of a note
abbrev pub note_line : List ℕ → List ℕ
note_line note = codes "  = " ++ flat_text note ++ codes "\n"

-- the first line, a line for each label, and a line for each note
abbrev pub human_lines : List File → Diagnostic → List ℕ
human_lines files diag = headline_of diag ++ flat_map (label_line files) diag.labels ++ flat_map note_line diag.notes
