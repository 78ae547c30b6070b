use Rattle.std.proofs.Common.{◌≡◌, ◌++◌, flat_map, string_bytes}
use Rattle.run_sample.specs.Metadata.{numbers, node_text}
use Rattle.run_sample.proofs.metadata.push_nodes.Given as goal

abbrev pub invariant-crates : goal.invariant-crates
invariant-crates l = string_bytes l.out ≡ string_bytes l.fn.out ++ flat_map (node_text l.count) (numbers l.i)
