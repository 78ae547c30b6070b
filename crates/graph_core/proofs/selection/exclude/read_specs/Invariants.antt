use Rattle.std.proofs.Common.{◌≡◌, ◌++◌, map, drop}
use Rattle.std.specs.List.{filter_map}
use Rattle.deny_text.specs.Fronts.{StandsInFront}
use Rattle.graph_core.specs.selection.Choice.{exclude_spec_of, spec_read}
use Rattle.graph_core.proofs.selection.exclude.read_specs.Given as goal

-- the specs so far, and those of the texts that are left; those at the start stay in front
abbrev pub invariant-texts : goal.invariant-texts
invariant-texts l =
    (map exclude_spec_of l.specs ++ filter_map spec_read (drop l.text-index l.texts) ≡ map exclude_spec_of l.fn.specs ++ filter_map spec_read l.texts)
    × StandsInFront l.fn.specs l.specs
