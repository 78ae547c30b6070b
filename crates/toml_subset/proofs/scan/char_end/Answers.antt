use Rattle.std.proofs.Common.{◌≡◌, ◌+◌, arith}
use Rattle.deny_text.specs.Character.{goes_on}
use Rattle.toml_subset.proofs.Runs.{run_end_stops, begins_character}
use Rattle.toml_subset.proofs.scan.char_end.Goals as goal

pub returns-clause-border : goal.returns-clause-border
returns-clause-border c =
    let text = c.args.text.now in
    let same : c.as_bytes.result.now ≡ text = c.as_bytes.ensures.value in
    let ends = rw same at c.run_end.ensures.end in (
      omega (arith, c.run_end.ensures.within, c.as_bytes.ensures.len),
      λ inside high.
          begins_character _ (rw ends (run_end_stops goes_on text (c.args.place + 1) (omega arith) (omega (arith, ends)))) high,
    )
