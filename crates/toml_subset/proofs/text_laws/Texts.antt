-- The value of a text lies in it.
use Rattle.std.proofs.Common.{◌≡◌, ℕ, ◌+◌, List, [], ◌∷◌, length, Some, option_map, sym, subst, arith}
use Rattle.std.proofs.lemmas.Str.{IsCharBoundary-start, IsCharBoundary-end}
use Rattle.std.specs.Str.{IsUtf8}
use Rattle.toml_subset.specs.Bytes.{open_bracket, close_bracket}
use Rattle.toml_subset.specs.Data.{Toml}
use Rattle.toml_subset.specs.Lines.{Statement, blank_line, pair, table_header, array_header, Document, IsStatement, AreLines, after_line, after_lines, no_lines}
use Rattle.toml_subset.specs.Places.{from_to, after_blanks}
use Rattle.toml_subset.specs.Tables.{Branches, closed, implicit, branches_with_value, edit_along, through_any, open_table, open_array, edit_within, meant}
use Rattle.toml_subset.specs.Text.{IsText}
use Rattle.toml_subset.specs.declared.string.Key.{Key}
use Rattle.toml_subset.proofs.Law.Basics.{map_some, then_some, is_some}
use Rattle.toml_subset.proofs.Law.Whole.{statement_goes}
use Rattle.deny_text.specs.Spans.{LiesBetween}
use Rattle.toml_subset.specs.text_laws.Placed.{IsPlaced}
use Rattle.toml_subset.proofs.text_laws.Edits.{put_placed, within_placed, header_placed, array_header_placed}
use Rattle.toml_subset.proofs.text_laws.Trees.{AreBranchesPlaced, branches_entries}
use Rattle.toml_subset.proofs.text_laws.Written.{from_places, at_byte, closes, keys_placed, value_placed}

module _ (text : List ℕ) (utf8 : IsUtf8 text) where
  abbrev with : Branches → List Key → Document
  with root section = record { root = root; section = section }

  line_placed : (i : ℕ) (line : Statement) (next : ℕ) (document new : Document) → IsStatement text i line next → AreBranchesPlaced text document.root
      → after_line line document ≡ Some new → AreBranchesPlaced text new.root
  line_placed i blank_line next document new is are e = subst (λ (d : Document). AreBranchesPlaced text d.root) (is_some document new e) are
  line_placed i (pair keys span raw) next document new is are e =
      let first = then_some (λ content. option_map (λ root. with root document.section) (edit_within document.section (branches_with_value keys (closed span content)) document.root)) (meant raw) new e in
      let edit = map_some (λ root. with root document.section) (edit_within document.section (branches_with_value keys (closed span first.0)) document.root) new first.2 in
      let here = value_placed text utf8 (after_blanks text (after_blanks text is.0 + 1)) span raw next first.0 is.3 first.1 in
      let keep = put_placed text keys (closed span first.0) (keys_placed text utf8 i keys is.0 is.1) here in
      subst (λ (d : Document). AreBranchesPlaced text d.root) edit.2 (within_placed text document.section (branches_with_value keys (closed span first.0)) keep document.root edit.0 are edit.1)
  line_placed i (table_header span keys) next document new is are e =
      let edit = map_some (λ root. with root keys) (edit_along implicit through_any (open_table span) keys document.root) new e in
      let goes = statement_goes text i (table_header span keys) next is in
      let start = at_byte text utf8 i open_bracket (omega arith) is.0 in
      let end = closes text utf8 (after_blanks text is.2.0) close_bracket next (omega arith) is.2.2 is.2.3 in
      let lies = from_places text utf8 i next span goes start end is.2.4 in
      subst (λ (d : Document). AreBranchesPlaced text d.root) edit.2
      (header_placed text span lies keys (keys_placed text utf8 (after_blanks text (i + 1)) keys is.2.0 is.2.1) document.root edit.0 are edit.1)
  line_placed i (array_header span keys) next document new is are e =
      let edit = map_some (λ root. with root keys) (edit_along implicit through_any (open_array span) keys document.root) new e in
      let goes = statement_goes text i (array_header span keys) next is in
      let start = at_byte text utf8 i open_bracket (omega arith) is.0 in
      let second = after_blanks text is.2.0 + 1 in
      let place : next ≡ second + 1 = (let ends = is.2.4 in omega arith) in
      let end = closes text utf8 second close_bracket next (omega arith) is.2.3 place in
      let lies = from_places text utf8 i next span goes start end is.2.5 in
      subst (λ (d : Document). AreBranchesPlaced text d.root) edit.2
      (array_header_placed text span lies keys (keys_placed text utf8 (after_blanks text (i + 2)) keys is.2.0 is.2.1) document.root edit.0 are edit.1)

  lines_placed : (i : ℕ) (lines : List Statement) (document new : Document) → AreLines text i lines → AreBranchesPlaced text document.root
      → after_lines lines document ≡ Some new → AreBranchesPlaced text new.root
  lines_placed i [] document new is are e = subst (λ (d : Document). AreBranchesPlaced text d.root) (is_some document new e) are
  lines_placed i (line ∷ more) document new is are e =
      let first = then_some (after_lines more) (after_line line document) new e in
      let next = is.1.0 in
      let stands_there = is.1.1 in
      let here = line_placed (after_blanks text i) line stands_there.0 document first.0 stands_there.1 are first.1 in
      lines_placed next more first.0 new is.1.2 here first.2

pub text_placed : (text : List ℕ) → IsUtf8 text → (value : Toml) → IsText text value → IsPlaced text value
text_placed text utf8 value is =
    let are = lines_placed text utf8 0 is.lines no_lines is.document is.stand tt is.makes in
    let lies : LiesBetween text (from_to 0 (length text)) =
    record { ordered = omega arith; start_border = IsCharBoundary-start text utf8; end_border = IsCharBoundary-end text } in
    subst (IsPlaced text) (sym is.is) (lies, branches_entries text is.document.root are)
