-- The version of a policy. With version 3 each exception that holds for a crate counts, and may name files.
use Rattle.std.specs.Prelude.{ℤ, pos, Bool}
use Rattle.std.specs.Ordering.{int_eq}

abbrev pub is_version_3 : ℤ → Bool
is_version_3 version = int_eq version (pos 3)
