-- The first fault of a text: no prefix of whole lines that ends behind its beginning has a value.
use Rattle.std.proofs.Common.{◌≡◌, ℕ, zero, suc, ◌+◌, ◌<◌, ◌≤◌, ⊎_elim, true, eqb, nat_lt, List, [], ◌∷◌, length, take, Some, Ok, Err, ap, sym, subst, ◌∙◌, arith, length-take}
use Rattle.std.proofs.lemmas.Bool.Decides.{nat_tests}
use Rattle.std.specs.Str.{IsCharBoundary, IsUtf8}
use Rattle.toml_subset.specs.Answer.{TomlReading, then_read}
use Rattle.toml_subset.specs.Bytes.{line_feed, is_blank}
use Rattle.toml_subset.specs.Data.{Toml, depth_limit}
use Rattle.toml_subset.specs.Faults.{IsFirstFault}
use Rattle.toml_subset.specs.Lines.{Statement, Document, AreLines, after_line, after_lines, no_lines}
use Rattle.toml_subset.specs.Places.{stands, after_blanks}
use Rattle.toml_subset.specs.Reading.{LineFound, line_from, read_lines, root_value, read_text}
use Rattle.toml_subset.specs.Text.{IsText}
use Rattle.toml_subset.specs.declared.error.SyntaxError.{SyntaxError}
use Rattle.toml_subset.proofs.Escapes.{behind_byte}
use Rattle.toml_subset.proofs.Law.Basics.{is_some, not_ok, then_some, if_true}
use Rattle.toml_subset.proofs.Law.Depths.{depth}
use Rattle.toml_subset.proofs.Law.Forward.{next_line_goes, lines_inside}
use Rattle.toml_subset.proofs.Law.Fronts.{passes_inside}
use Rattle.toml_subset.proofs.Law.Values.{run_stops}
use Rattle.toml_subset.proofs.Law.Whole.{statement_goes, line_read, lines_grow, text_complete}
use Rattle.toml_subset.proofs.text_laws.Front.{Ends, line_spells_on}
use Rattle.toml_subset.proofs.text_laws.LineFaults.{Lines, lines_are, text_fault}

module _ (text : List ℕ) (m : ℕ) (ends : Ends text m) where
  abbrev front : List ℕ
  front = take (suc m) text

  -- reading goes through the lines of the front
  walk : (lines : List Statement) (i g : ℕ) (document new : Document) → AreLines front i lines → after_lines lines document ≡ Some new → depth new.root ≤ depth_limit → length text < i + g
      → (h : ℕ) × (read_lines g text i document ≡ read_lines h text (suc m) new)
  walk [] i g document new is mean low room =
      let inside = ends.inside in
      let size = length-take (suc m) text in
      let at : i ≡ suc m = omega (arith, is) in
      (g, ap (λ (k : ℕ). read_lines g text k document) at ∙ ap (λ (d : Document). read_lines g text (suc m) d) (is_some document new mean))
  walk (s ∷ more) i zero document new is mean low room =
      let inside = is.0 in let size = length-take (suc m) text in let within = ends.inside in absurd (omega arith)
  walk (s ∷ more) i (suc g) document new is mean low room =
      let within = is.0 in
      let size = length-take (suc m) text in
      let inside = ends.inside in
      let next = is.1.0 in
      let line = line_spells_on text m ends i s next (omega arith) is.1.1 in
      let rest_inside = lines_inside front next more is.1.2 in
      let ends_at = next_line_goes text line.0 next line.2 in
      let statement = statement_goes text (after_blanks text i) s line.0 line.1 in
      let within_text : line.0 ≤ length text = ⊎_elim (λ h. omega arith) (λ h. let at = h.0 in let le = h.1 in omega arith) ends_at in
      let goes : i < next = ⊎_elim (λ h. omega arith) (λ h. let at = h.0 in omega arith) ends_at in
      let less : nat_lt i (length text) ≡ true = grind (arith, nat_tests) in
      let first = then_some (after_lines more) (after_line s document) new mean in
      let grown = lines_grow more first.0 new first.2 in
      let rest = walk more next g first.0 new is.1.2 first.2 low (omega arith) in (
        rest.0,
        if_true (nat_lt i (length text)) (then_read (λ (x : LineFound). read_lines g text x.1 x.0) (line_from text document (after_blanks text i))) (Ok document) less
            ∙ ap (then_read (λ (x : LineFound). read_lines g text x.1 x.0))
            (line_read text (after_blanks text i) document first.0 s line.0 next (run_stops is_blank text i) line.1 line.2 first.1 (omega arith) within_text)
            ∙ rest.1,
      )

err_same : (a b : SyntaxError) → ◌≡◌ {A = TomlReading Toml} (Err a) (Err b) → ◌≡◌ {A = TomlReading Document} (Err a) (Err b)
err_same a b e = let same : a ≡ b = cc in ap (λ (f : SyntaxError). Err f) same

lines_fault : (text : List ℕ) (fault : SyntaxError) (o : TomlReading Document) → then_read (λ (document : Document). Ok (root_value text document)) o ≡ Err fault → o ≡ Err fault
lines_fault text fault (Ok document) e = absurd (not_ok fault (root_value text document) (sym e))
lines_fault text fault (Err other) e = err_same other fault e

no_front : (text : List ℕ) → IsUtf8 text → (fault : SyntaxError) → read_text text ≡ Err fault → (i : ℕ) (value : Toml) → fault.span.start ≤ i → stands text i line_feed ≡ true
    → IsText (take (i + 1) text) value → ⊥
no_front text utf8 fault e i value le lf is =
    let inside = passes_inside (λ b. eqb b line_feed) text i lf in
    let ends : Ends text i = record { lf = lf; inside = inside } in
    let whole_front : i + 1 ≡ suc i = omega arith in
    let stood = subst (λ (k : ℕ). AreLines (take k text) 0 is.lines) whole_front is.stand in
    let on = walk text i ends is.lines 0 (suc (length text)) no_lines is.document stood is.makes is.shallow (omega arith) in
    let read = sym on.1 ∙ lines_fault text fault (read_lines (suc (length text)) text 0 no_lines) e in
    let border = subst (λ (k : ℕ). IsCharBoundary text k) whole_front (behind_byte text utf8 i line_feed (omega arith) lf).1 in
    let at = subst (Lines text utf8 (suc i)) read (lines_are text utf8 on.0 (suc i) is.document border (λ within. lf)) in
    let begins = at.begins in
    absurd (omega arith)

pub first_fault : (text : List ℕ) (fault : SyntaxError) → IsUtf8 text → read_text text ≡ Err fault → IsFirstFault text fault
first_fault text fault utf8 e = record {
  is_fault = text_fault text utf8 fault e;
  outside = λ value is. not_ok fault value (sym e ∙ text_complete text value is);
  fronts = no_front text utf8 fault e;
}
