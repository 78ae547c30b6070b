use Rattle.std.proofs.Common.{◌≡◌, map, take}
use Rattle.policy_toml.specs.Readings.{rows_of}
use Rattle.policy_toml.proofs.deserialize.names_of.Given as goal

abbrev pub invariant-rows : goal.invariant-rows
invariant-rows g l = l.names ≡ map (λ row. row.0) (rows_of (take l.known-index l.table))
