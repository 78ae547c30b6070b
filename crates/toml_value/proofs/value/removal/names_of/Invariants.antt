use Rattle.std.proofs.Common.{◌≡◌, map, take}
use Rattle.toml_value.proofs.value.removal.names_of.Given as goal

abbrev pub invariant-entries : goal.invariant-entries
invariant-entries l = l.names ≡ map (λ p. p.0.name.text) (take l.key-index l.entries)
