use Rattle.std.proofs.Common.{◌≡◌, ◌∙◌, ap, sym, drop, take, unwrap_or, length}
use Rattle.std.specs.Char.{is_ascii_alphanumeric}
use Rattle.std.specs.List.{position_or_len}
use Rattle.spdx_terms.specs.catalog.TextWords.{is_between}
use Rattle.spdx_terms.proofs.catalog.PlaceLemmas.{found_or_len, none_found, place_found}
use Rattle.spdx_terms.proofs.catalog.RunLemmas.{first_run, no_runs, rest_shorter}
use Rattle.spdx_terms.proofs.catalog.text_words.next_run.Goals as goal

pub returns-in_err-start-clause-run : goal.returns-in_err-start-clause-run
returns-in_err-start-clause-run c =
    rw c.from_residual.ensures (no_runs c.args.line.now (none_found is_ascii_alphanumeric c.args.line.now (sym c.in_err-start.was ∙ c.run_start.ensures)))

pub returns-clause-run : goal.returns-clause-run
returns-clause-run c =
    let line = c.args.line.now in
    let left = c.split_at.result.1.now in
    let start = place_found is_ascii_alphanumeric line c.in_ok-start.start (sym c.in_ok-start.was ∙ c.run_start.ensures) in
    let end : c.unwrap_or-end.result ≡ position_or_len is_between left = c.unwrap_or-end.ensures ∙ ap (λ place. unwrap_or place (length left)) c.run_end.ensures ∙ found_or_len is_between left in
    first_run line left c.split_at-2.result.0.now c.split_at-2.result.1.now
    (record {
      some = start.1;
      left_is = c.split_at.ensures.back ∙ ap (λ n. drop n line) start.0;
      run_is = c.split_at-2.ensures.front ∙ ap (λ n. take n left) end;
      rest_is = c.split_at-2.ensures.back ∙ ap (λ n. drop n left) end;
    })

pub returns-clause-shorter : goal.returns-clause-shorter
returns-clause-shorter c =
    let line = c.args.line.now in
    let left = c.split_at.result.1.now in
    let start = place_found is_ascii_alphanumeric line c.in_ok-start.start (sym c.in_ok-start.was ∙ c.run_start.ensures) in
    let end : c.unwrap_or-end.result ≡ position_or_len is_between left = c.unwrap_or-end.ensures ∙ ap (λ place. unwrap_or place (length left)) c.run_end.ensures ∙ found_or_len is_between left in
    rest_shorter line left c.split_at-2.result.0.now c.split_at-2.result.1.now
    (record {
      some = start.1;
      left_is = c.split_at.ensures.back ∙ ap (λ n. drop n line) start.0;
      run_is = c.split_at-2.ensures.front ∙ ap (λ n. take n left) end;
      rest_is = c.split_at-2.ensures.back ∙ ap (λ n. drop n left) end;
    })
