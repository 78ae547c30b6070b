use Rattle.std.proofs.Common.{◌≡◌, true, false, sym, ◌∙◌, arith}
use Rattle.toml_subset.specs.StringViews.{kind_of, is_plain_part}
use Rattle.toml_subset.specs.Strings.{part_at}
use Rattle.toml_subset.proofs.PlainRuns.{plain_border, plain_inside, run_extended}
use Rattle.toml_subset.proofs.strings.plain_end.Goals as goal

pub bytes-smaller : goal.bytes-smaller
bytes-smaller c =
    let here : is_plain_part (part_at (kind_of c.args.quotes) c.as_bytes-bytes.result.now c.bytes.end) ≡ true = sym c.is_plain.ensures ∙ c.bytes-test.true in
    let inside = plain_inside (kind_of c.args.quotes) c.as_bytes-bytes.result.now c.bytes.end here in
    omega arith

pub bytes-preserved : goal.bytes-preserved
bytes-preserved c =
    let here : is_plain_part (part_at (kind_of c.args.quotes) c.as_bytes-bytes.result.now c.bytes.end) ≡ true = sym c.is_plain.ensures ∙ c.bytes-test.true in
    let inside = plain_inside (kind_of c.args.quotes) c.as_bytes-bytes.result.now c.bytes.end here in
    (omega arith, run_extended (kind_of c.args.quotes) c.as_bytes-bytes.result.now c.args.place c.bytes.end c.bytes.invariant.1 here)

pub returns-clause-border : goal.returns-clause-border
returns-clause-border c =
    let same = c.as_bytes-bytes.ensures.value in
    let stops : is_plain_part (part_at (kind_of c.args.quotes) c.as_bytes-bytes.result.now c.bytes.end) ≡ false = sym c.is_plain.ensures ∙ c.bytes-test.false in
    rw same at (plain_border (kind_of c.args.quotes) c.as_bytes-bytes.result.now c.bytes.end c.bytes.invariant.0 stops)
