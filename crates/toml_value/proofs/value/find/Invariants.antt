use Rattle.std.proofs.Common.{◌≡◌, ◌≤◌, ◌-◌, map, length, drop}
use Rattle.toml_value.specs.Lookup.{value_at}
use Rattle.toml_value.specs.Views.{value_view, entries_from_list}
use Rattle.toml_value.proofs.value.find.Given as goal

-- the entry is among the rest
abbrev pub invariant-entries : goal.invariant-entries
invariant-entries l =
    (l.place ≤ length l.entries)
    × (value_at l.name (entries_from_list (map (λ p. (p.0, value_view p.1)) l.entries))
    ≡ value_at l.name (entries_from_list (map (λ p. (p.0, value_view p.1)) (drop l.place l.entries))))

abbrev pub decreases-entries : goal.decreases-entries
decreases-entries l = length l.entries - l.place
