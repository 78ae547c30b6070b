use Rattle.std.proofs.Common.{◌≡◌}
use Rattle.toml_subset.specs.Bytes.{is_bare}
use Rattle.toml_subset.specs.Places.{run_end}
use Rattle.toml_subset.proofs.KeyRuns.{bare_borders}
use Rattle.toml_subset.proofs.keys.bare_key.Goals as goal

pub range-requires-clause-end_boundary : goal.range-requires-clause-end_boundary
range-requires-clause-end_boundary c =
    let same = c.as_bytes.ensures.value in
    let ends : c.run_end-end.result ≡ run_end is_bare c.args.text.now c.args.place = rw same at c.run_end-end.ensures.end in
    rw ends (bare_borders c.args.text.now c.utf8.text c.args.place c.requires.begins).2
