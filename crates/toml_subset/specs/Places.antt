-- Places in a text, counted in bytes from 0: what is at one, and how far a run goes from it
-- (TOML 1.0: Spec on white space and line ends, Comment).
use Rattle.std.specs.Prelude.{ℕ, zero, suc, ◌+◌, Bool, false, not, ◌&&◌, ◌==◌, if◌then◌else◌, List, [], ◌∷◌, Option}
use Rattle.std.specs.Prelude.{Some, None, length, take, drop}
use Rattle.std.specs.List.{prefix_len}
use Rattle.deny_text.specs.declared.span.Span.{Span}
use Rattle.deny_text.specs.Character.{goes_on}
use Rattle.toml_subset.specs.Bytes.{line_feed, carriage_return, hash, is_blank, is_bare, is_run, is_digit, is_point}
use Rattle.toml_subset.specs.Bytes.{is_e, may_stand}
use Rattle.toml_subset.specs.declared.scan.RunKind.{RunKind}
use Rattle.toml_subset.specs.declared.scan.RunKind.TheVariants as run

-- the places from one up to another
abbrev pub from_to : ℕ → ℕ → Span
from_to i j = record { start = i; end = j }

-- whether there is a byte at the front that passes
abbrev pub front_is : (ℕ → Bool) → List ℕ → Bool
front_is p [] = false
front_is p (c ∷ cs) = p c

-- whether a byte that passes is at a place
abbrev pub passes_at : (ℕ → Bool) → List ℕ → ℕ → Bool
passes_at p text i = front_is p (drop i text)

-- whether this byte is at a place
abbrev pub stands : List ℕ → ℕ → ℕ → Bool
stands text i c = passes_at (λ b. b == c) text i

-- whether a byte belongs to a run of a kind
abbrev pub belongs : RunKind → ℕ → Bool
belongs run.Blanks = is_blank
belongs run.Bare = is_bare
belongs run.Number = is_run
belongs run.Comment = may_stand
belongs run.Character = goes_on
belongs run.Digits = is_digit
belongs run.Whole = λ c. not (is_point c)
belongs run.Mantissa = λ c. not (is_e c)

-- the place behind the longest run of bytes that pass
abbrev pub run_end : (ℕ → Bool) → List ℕ → ℕ → ℕ
run_end p text i = i + prefix_len p (drop i text)

-- the longest run itself
abbrev pub run_at : (ℕ → Bool) → List ℕ → ℕ → List ℕ
run_at p text i = take (prefix_len p (drop i text)) (drop i text)

abbrev pub after_blanks : List ℕ → ℕ → ℕ
after_blanks = run_end is_blank

-- the place behind a line end, where one is there: LF, or CR LF
abbrev pub behind_line_end : List ℕ → ℕ → Option ℕ
behind_line_end text i =
    if stands text i line_feed then Some (i + 1)
    else (if stands text i carriage_return && stands text (i + 1) line_feed then Some (i + 2) else None)

-- A comment runs from `#` over all that may be in it. Where none begins, the place itself.
abbrev pub after_comment : List ℕ → ℕ → ℕ
after_comment text i = if stands text i hash then run_end may_stand text (i + 1) else i

-- The place where the next line begins, if blanks and a comment alone are before this line's end. The text may
-- end in place of a line.
abbrev pub next_line : List ℕ → ℕ → Option ℕ
next_line text i =
    let j = after_comment text (after_blanks text i) in
    if j == length text then Some j else behind_line_end text j

-- blanks and a comment, as they may be before a line's end between the tokens of an array
abbrev pub after_blanks_and_comment : List ℕ → ℕ → ℕ
after_blanks_and_comment text i = after_comment text (after_blanks text i)

-- The place behind lines of which `over` goes over all: where the last line begins that it does not reach the end of.
-- The number bounds how many lines there are.
abbrev pub lines_over : (List ℕ → ℕ → ℕ) → ℕ → List ℕ → ℕ → ℕ
lines_over over zero text i = i
lines_over over (suc n) text i =
    elim (behind_line_end text (over text i)) [ Some next ↦ lines_over over n text next | None ↦ i ]

abbrev pub after_lines_of : (List ℕ → ℕ → ℕ) → List ℕ → ℕ → ℕ
after_lines_of over text = lines_over over (length text) text

-- the place behind white space, line ends and comments, as they may be between the tokens of an array
abbrev pub after_space : List ℕ → ℕ → ℕ
after_space text i = after_blanks_and_comment text (after_lines_of after_blanks_and_comment text i)

-- whether they end within a comment
abbrev pub in_comment : List ℕ → ℕ → Bool
in_comment text i = stands text (after_blanks text (after_lines_of after_blanks_and_comment text i)) hash

-- the place behind white space and line ends, as they may be behind a backslash at a line's end
abbrev pub after_white : List ℕ → ℕ → ℕ
after_white text i = after_blanks text (after_lines_of after_blanks text i)

-- the place behind the character that begins at a place
abbrev pub char_end : List ℕ → ℕ → ℕ
char_end text i = run_end goes_on text (i + 1)
