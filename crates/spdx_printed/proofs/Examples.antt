-- Texts and how they are printed, worked out by hand from the rules.
use Rattle.std.proofs.Common.{◌≡◌, refl, ℕ, Bool, true, false, List, Option, Some, codes}
use Rattle.std.specs.Option.{option_map}
use Rattle.spdx_terms.specs.catalog.Table.{table_lists, single_names, families, gnu_families, table_exceptions, table_imprecise}
use Rattle.spdx_terms.specs.declared.mode.ParseMode.{ParseMode}
use Rattle.spdx_core.specs.Reading.{expression_of_text}
use Rattle.spdx_printed.specs.Printed.{printed_of}

-- with deprecated names, `+` behind GNU names, imprecise texts and the slash, or with none of them
mode_with : Bool → ParseMode
mode_with lax = record {
  allow_deprecated = lax;
  allow_imprecise_license_names = lax;
  allow_postfix_plus_on_gpl = lax;
  allow_slash_as_or_operator = lax;
}

-- the printed form of what a text is read as, over the built-in catalogue
printed_text : Bool → List ℕ → Option (List ℕ)
printed_text lax text = option_map (λ read. printed_of read.terms read.tree) (expression_of_text (mode_with lax) table_lists text)

-- a text is printed as it is
IsKept : List ℕ → Type 0
IsKept text = printed_text false text ≡ Some text

-- ---- printed as they are

one : IsKept (codes "MIT")
unfolding IsKept printed_text mode_with single_names families gnu_families table_exceptions table_imprecise
one = refl

with_plus : IsKept (codes "Zlib+")
unfolding IsKept printed_text mode_with single_names families gnu_families table_exceptions table_imprecise
with_plus = refl

or_in_and : IsKept (codes "(MIT OR ISC) AND Zlib")
unfolding IsKept printed_text mode_with single_names families gnu_families table_exceptions table_imprecise
or_in_and = refl

or_behind_and : IsKept (codes "Zlib AND (MIT OR ISC)")
unfolding IsKept printed_text mode_with single_names families gnu_families table_exceptions table_imprecise
or_behind_and = refl

and_behind_and : IsKept (codes "MIT AND (ISC AND Zlib)")
unfolding IsKept printed_text mode_with single_names families gnu_families table_exceptions table_imprecise
and_behind_and = refl

three : IsKept (codes "MIT AND ISC AND Zlib")
unfolding IsKept printed_text mode_with single_names families gnu_families table_exceptions table_imprecise
three = refl

or_behind_or : IsKept (codes "MIT OR (ISC OR Zlib)")
unfolding IsKept printed_text mode_with single_names families gnu_families table_exceptions table_imprecise
or_behind_or = refl

with_exception : IsKept (codes "Apache-2.0 WITH LLVM-exception")
unfolding IsKept printed_text mode_with single_names families gnu_families table_exceptions table_imprecise
with_exception = refl

two : IsKept (codes "X11 OR MIT")
unfolding IsKept printed_text mode_with single_names families gnu_families table_exceptions table_imprecise
two = refl

with_reference : IsKept (codes "MIT OR LicenseRef-x")
unfolding IsKept printed_text mode_with single_names families gnu_families table_exceptions table_imprecise
with_reference = refl

both_sides : IsKept (codes "(MIT OR ISC) AND (X11 OR Zlib)")
unfolding IsKept printed_text mode_with single_names families gnu_families table_exceptions table_imprecise
both_sides = refl

nested : IsKept (codes "DocumentRef-d:LicenseRef-x AND (MIT AND (ISC OR Zlib))")
unfolding IsKept printed_text mode_with single_names families gnu_families table_exceptions table_imprecise
nested = refl

-- ---- parentheses that change nothing, a slash, other spellings

grouped_name : printed_text false (codes "((MIT))") ≡ Some (codes "MIT")
unfolding printed_text mode_with single_names families gnu_families table_exceptions table_imprecise
grouped_name = refl

or_before_or : printed_text false (codes "(MIT OR ISC) OR Zlib") ≡ Some (codes "MIT OR ISC OR Zlib")
unfolding printed_text mode_with single_names families gnu_families table_exceptions table_imprecise
or_before_or = refl

and_behind_or : printed_text false (codes "MIT OR (ISC AND Zlib)") ≡ Some (codes "MIT OR ISC AND Zlib")
unfolding printed_text mode_with single_names families gnu_families table_exceptions table_imprecise
and_behind_or = refl

and_before_and : printed_text false (codes "(MIT AND ISC) AND Zlib") ≡ Some (codes "MIT AND ISC AND Zlib")
unfolding printed_text mode_with single_names families gnu_families table_exceptions table_imprecise
and_before_and = refl

slash : printed_text true (codes "MIT/Apache-2.0 AND ISC") ≡ Some (codes "MIT OR Apache-2.0 AND ISC")
unfolding printed_text mode_with single_names families gnu_families table_exceptions table_imprecise
slash = refl

imprecise : printed_text true (codes "mit license") ≡ Some (codes "MIT")
unfolding printed_text mode_with single_names families gnu_families table_exceptions table_imprecise
imprecise = refl

gnu_plus : printed_text true (codes "GPL-2.0+") ≡ Some (codes "GPL-2.0+")
unfolding printed_text mode_with single_names families gnu_families table_exceptions table_imprecise
gnu_plus = refl
