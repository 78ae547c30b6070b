use Rattle.std.proofs.Common.{◌≡◌, ℕ, ◌+◌, Err, true, sym, ap, subst, ◌∙◌}
use Rattle.toml_subset.specs.Answer.{stop_error, fault_or}
use Rattle.toml_subset.specs.Bytes.{close_bracket}
use Rattle.toml_subset.specs.Places.{stands, after_blanks, from_to}
use Rattle.toml_subset.specs.Reading.{with_root}
use Rattle.toml_subset.specs.TableFaults.{header_fault}
use Rattle.toml_subset.specs.Tables.{edit_along, implicit, through_any, open_table}
use Rattle.toml_subset.proofs.frames.Levels.{table_way}
use Rattle.toml_value.specs.LevelViews.{cursor_view, IsLineRead}
use Rattle.toml_value.proofs.ReaderLemmas.{line_if_true}
use Rattle.toml_value.proofs.reader.behind_parts.Goals as goal

pub returns-clause-answer : goal.returns-clause-answer
returns-clause-answer c seen way =
    let text = c.args.text.now in
    let start = c.args.start in
    let keys = c.args.keys in
    let j = after_blanks text c.args.place in
    let bytes = c.as_bytes-bytes.ensures.value in
    let close : c.after_blanks-close.result ≡ j = c.after_blanks-close.ensures.end ∙ ap (λ b. after_blanks b c.args.place) bytes in
    let first : stands text j close_bracket ≡ true =
    sym (c.stands.ensures ∙ ap (λ b. stands b c.after_blanks-close.result close_bracket) bytes ∙ ap (λ (i : ℕ). stands text i close_bracket) close)
    ∙ c.if-not-stands.false in
    line_if_true (stands text j close_bracket) _ (Err (stop_error text j)) c.opened_line.result first
    (subst (λ (i : ℕ). IsLineRead (fault_or (header_fault keys seen.root)
    (with_root text (i + 1) keys (edit_along implicit through_any (open_table (from_to start (i + 1))) keys seen.root))) c.opened_line.result) close
    (c.opened_line.ensures.answer (header_fault keys seen.root)
    (edit_along implicit through_any (open_table (from_to start (c.after_blanks-close.result + 1))) keys seen.root)
    (table_way seen (cursor_view c.args.document) way (from_to start (c.after_blanks-close.result + 1)) keys c.requires.some)))
