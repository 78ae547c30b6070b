use Rattle.std.proofs.Common.{◌≡◌, ◌++◌, flat_map, string_bytes}
use Rattle.run_sample.specs.Metadata.{numbers, package_text}
use Rattle.run_sample.proofs.metadata.push_packages.Given as goal

abbrev pub invariant-crates : goal.invariant-crates
invariant-crates l = string_bytes l.out ≡ string_bytes l.fn.out ++ flat_map package_text (numbers l.i)
