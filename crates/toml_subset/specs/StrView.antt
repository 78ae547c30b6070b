-- What a string of the program stands for: one that borrows the text has no escape.
use Rattle.std.specs.Prelude.{true, false}
use Rattle.toml_subset.specs.Written.{WrittenString}
use Rattle.toml_subset.specs.declared.string.HeldText.{HeldText}
use Rattle.toml_subset.specs.declared.string.HeldText.TheVariants.{Borrowed, Owned}
use Rattle.toml_subset.specs.declared.string.Str.TheInside.{Inside}

abbrev pub held_view : HeldText → WrittenString
held_view (Borrowed s) = record { text = s.now; escaped = false }
held_view (Owned s) = record { text = s; escaped = true }

abbrev pub str_view : Inside → WrittenString
str_view s = held_view s.held
