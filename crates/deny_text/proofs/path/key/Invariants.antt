use Rattle.std.proofs.Common.{◌≡◌, ◌++◌, codes, length, string_bytes}
use Rattle.std.specs.List.{flat_map}
use Rattle.deny_text.specs.Path.{key_of}
use Rattle.deny_text.proofs.path.key.Given as goal

-- what was written, and the parts that are left with their slashes, are the whole
abbrev pub invariant-parts : goal.invariant-parts
invariant-parts l = string_bytes l.key ++ flat_map (λ part. part ++ codes "/") l.parts ≡ key_of l.path

abbrev pub decreases-parts : goal.decreases-parts
decreases-parts l = length l.parts
