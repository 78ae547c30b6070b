-- Package specs, worked out by hand from the rules.
use Rattle.std.proofs.Common.{◌≡◌, ℕ, ◌+◌, true, false, List, [], ◌∷◌, length, Option, Some, None, Ok, Err, codes, pos, refl}
use Rattle.std.specs.declared.cmp.Ordering.TheVariants.{Less, Equal, Greater}
use Rattle.deny_text.specs.declared.span.Span.{Span}
use Rattle.semver.specs.Parse.{Held, digits_from, req_from, scan, strip_spaces}
use Rattle.semver.specs.declared.Op.TheVariants as op
use Rattle.toml_subset.specs.Data.{TomlContent, Entries, Toml, string, integer, table, array, no_item, boolean, no_entry, entry}
use Rattle.toml_subset.specs.Written.{WrittenString}
use Rattle.toml_subset.specs.shapes.Shaped.{ShapeReading}
use Rattle.toml_subset.specs.shapes.Shapes.{fault_alone, missing, wanted}
use Rattle.policy_parts.specs.spec.Grammar.{spec_of_string, bad_requirement}
use Rattle.policy_parts.specs.spec.Matching.{version_matches}
use Rattle.policy_parts.specs.spec.Order.{spec_order}
use Rattle.policy_parts.specs.spec.Reading.{spec_of, rest_of_spec}
use Rattle.policy_parts.specs.spec.Same.{same_spec}
use Rattle.policy_parts.specs.spec.Spec.{Spec}

abbrev at : ℕ → ℕ → Span
at from to = record { start = from; end = to }

abbrev plain : List ℕ → WrittenString
plain text = record { text = text; escaped = false }

-- what a string that begins at 10 is read as
abbrev read : List ℕ → ShapeReading Spec
read text = spec_of_string (plain text) (at 10 (10 + length text))

abbrev spec : List ℕ → Span → Option (List Held) → Spec
spec name span requirement = record { name = name; span = span; requirement = requirement }

-- ---- strings

a_name : read (codes "a") ≡ Ok (spec (codes "a") (at 10 11) None)
a_name = refl

behind_an_at_sign : read (codes "a@1.2") ≡ Ok (spec (codes "a") (at 10 15) (Some ((op.Exact, 1, Some 2, None, []) ∷ [])))
unfolding digits_from req_from scan strip_spaces
behind_an_at_sign = refl

behind_a_colon : read (codes "a:1.2") ≡ Ok (spec (codes "a") (at 10 15) (Some ((op.Caret, 1, Some 2, None, []) ∷ [])))
unfolding digits_from req_from scan strip_spaces
behind_a_colon = refl

any_version : (read (codes "a@*") ≡ Ok (spec (codes "a") (at 10 13) (Some [])))
    × (read (codes "a@x") ≡ Ok (spec (codes "a") (at 10 13) (Some [])))
unfolding digits_from req_from scan strip_spaces
any_version = (refl, refl)

the_first_alone_is_exact : read (codes "a@1.2, <2")
    ≡ Ok (spec (codes "a") (at 10 19) (Some ((op.Exact, 1, Some 2, None, []) ∷ (op.Less, 2, None, None, []) ∷ [])))
unfolding digits_from req_from scan strip_spaces
the_first_alone_is_exact = refl

a_wildcard_becomes_exact : read (codes "a@1.*") ≡ Ok (spec (codes "a") (at 10 15) (Some ((op.Exact, 1, None, None, []) ∷ [])))
unfolding digits_from req_from scan strip_spaces
a_wildcard_becomes_exact = refl

the_at_sign_first : read (codes "a:b@1") ≡ Ok (spec (codes "a:b") (at 10 15) (Some ((op.Exact, 1, None, None, []) ∷ [])))
unfolding digits_from req_from scan strip_spaces
the_at_sign_first = refl

the_first_at_sign : read (codes "a@1@2") ≡ Err (bad_requirement (at 12 15))
unfolding digits_from req_from scan strip_spaces
the_first_at_sign = refl

nothing_behind : read (codes "a@") ≡ Err (bad_requirement (at 12 12))
unfolding digits_from req_from scan strip_spaces
nothing_behind = refl

-- with escapes the fault is reported at the whole string
escapes : spec_of_string (record { text = codes "a@1@2"; escaped = true }) (at 10 30) ≡ Err (bad_requirement (at 10 30))
unfolding digits_from req_from scan strip_spaces
escapes = refl

-- ---- values

abbrev value : TomlContent → Span → Toml
value content span = record { content = content; span = span }

abbrev key : List ℕ → TomlContent → Span → Entries → Entries
key name content span more = entry (record { name = plain name; span = at 0 0 }) span content more

abbrev text : List ℕ → TomlContent
text written = string (plain written)

a_string : (spec_of (value (text (codes "b")) (at 1 2)) ≡ Ok (spec (codes "b") (at 1 2) None))
    × (rest_of_spec (value (text (codes "b")) (at 1 2)) ≡ value (boolean false) (at 1 2))
a_string = (refl, refl)

-- `crate` is split, and `name` and `version` stay; a table of other keys keeps them in order
abbrev with_crate : Entries
with_crate = key (codes "allow") (array no_item) (at 1 2) (key (codes "crate") (text (codes "b")) (at 3 4)
    (key (codes "name") (text (codes "b")) (at 5 6) (key (codes "version") (text (codes "1")) (at 7 8) no_entry)))

a_crate : (spec_of (value (table with_crate) (at 0 9)) ≡ Ok (spec (codes "b") (at 3 4) None))
    × (rest_of_spec (value (table with_crate) (at 0 9))
    ≡ value (table (key (codes "allow") (array no_item) (at 1 2) (key (codes "name") (text (codes "b")) (at 5 6)
    (key (codes "version") (text (codes "1")) (at 7 8) no_entry)))) (at 0 9))
a_crate = (refl, refl)

-- a name is never split
abbrev with_name : Entries
with_name = key (codes "version") (text (codes "1")) (at 1 2) (key (codes "allow") (array no_item) (at 3 4)
    (key (codes "name") (text (codes "b@2")) (at 5 8) no_entry))

a_name_and_version : (spec_of (value (table with_name) (at 0 9)) ≡ Ok (spec (codes "b@2") (at 5 8) (Some ((op.Caret, 1, None, None, []) ∷ []))))
    × (rest_of_spec (value (table with_name) (at 0 9)) ≡ value (table (key (codes "allow") (array no_item) (at 3 4) no_entry)) (at 0 9))
unfolding digits_from req_from scan strip_spaces
a_name_and_version = (refl, refl)

refused : (spec_of (value (integer (pos 3)) (at 1 2)) ≡ Err (fault_alone (wanted (codes "a string or table") (codes "an integer")) (at 1 2)))
    × (spec_of (value (table no_entry) (at 1 2)) ≡ Err (fault_alone (missing (codes "crate")) (at 1 2)))
    × (spec_of (value (table (key (codes "crate") (integer (pos 1)) (at 3 4) no_entry)) (at 1 5))
    ≡ Err (fault_alone (wanted (codes "a crate spec") (codes "an integer")) (at 3 4)))
    × (spec_of (value (table (key (codes "name") (text (codes "b")) (at 3 4) (key (codes "version") (integer (pos 1)) (at 5 6) no_entry))) (at 1 7))
    ≡ Err (fault_alone (wanted (codes "a string") (codes "an integer")) (at 5 6)))
refused = (refl, refl, refl, refl)

-- ---- order, equality, matching

abbrev a_exact : Spec
a_exact = spec (codes "a") (at 0 1) (Some ((op.Exact, 1, Some 2, None, []) ∷ []))

abbrev a_caret : Spec
a_caret = spec (codes "a") (at 0 1) (Some ((op.Caret, 1, Some 2, None, []) ∷ []))

abbrev a_any : Spec
a_any = spec (codes "a") (at 0 1) None

in_order : (spec_order a_exact a_caret ≡ Less) × (spec_order a_caret a_any ≡ Less) × (spec_order a_any (spec (codes "a") (at 7 8) None) ≡ Equal)
    × (spec_order (spec (codes "a") (at 0 1) (Some [])) a_exact ≡ Less) × (spec_order a_any (spec (codes "B") (at 0 1) None) ≡ Greater)
in_order = (refl, refl, refl, refl, refl)

equal_ones : (same_spec a_any (spec (codes "a") (at 7 8) None) ≡ true) × (same_spec a_exact a_caret ≡ false) × (same_spec a_any (spec (codes "a") (at 0 1) (Some [])) ≡ false)
equal_ones = (refl, refl, refl)

-- `b:1` and `b` on 1.0.0-rc.1, `b@1.2` on 1.2.7
matched : (version_matches (Some ((op.Caret, 1, None, None, []) ∷ [])) (1, 0, 0, codes "rc.1", []) ≡ false)
    × (version_matches None (1, 0, 0, codes "rc.1", []) ≡ true)
    × (version_matches (Some ((op.Exact, 1, Some 2, None, []) ∷ [])) (1, 2, 7, [], []) ≡ true)
matched = (refl, refl, refl)
