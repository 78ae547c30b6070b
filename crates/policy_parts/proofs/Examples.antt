-- Parts of a policy, worked out by hand from the table of keys. A key is at 1..2, a value at the place of its row.
use Rattle.std.proofs.Common.{◌≡◌, ℕ, ◌^◌, true, false, List, [], ◌∷◌, Some, None, Ok, Err, codes, pos, negsuc, refl}
use Rattle.spdx_terms.specs.catalog.Catalog.{CatalogLists}
use Rattle.deny_text.specs.declared.span.Span.{Span}
use Rattle.toml_subset.specs.Data.{TomlContent, Entries, Toml, string, integer, boolean, table, array, no_item, item, no_entry, entry}
use Rattle.toml_subset.specs.shapes.Shapes.{fault_alone, missing, wanted, unexpected_keys, unexpected_value, out_of_range}
use Rattle.policy_parts.specs.Names.{scope_of, agreement_of, lint_of}
use Rattle.policy_parts.specs.Tables.{private_of, output_of, graph_config_of}
use Rattle.policy_parts.specs.entries.Exceptions.{exception_of}
use Rattle.policy_parts.specs.spec.Spec.{Spec}
use Rattle.policy_parts.specs.Values.{file_source_of, target_of, left_of_target, reason_of, left_of_reason}
use Rattle.policy_parts.specs.declared.names.BlanketAgreement.TheVariants as agreement
use Rattle.policy_parts.specs.declared.names.LintLevel.TheVariants as lint
use Rattle.policy_parts.specs.declared.names.Scope.TheVariants as scope

abbrev at : ℕ → ℕ → Span
at from to = record { start = from; end = to }

abbrev text : List ℕ → TomlContent
text bytes = string (record { text = bytes; escaped = false })

abbrev value : TomlContent → Toml
value content = record { content = content; span = at 3 9 }

abbrev row : List ℕ → Span → TomlContent → Entries → Entries
row name span content more = entry (record { name = record { text = name; escaped = false }; span = at 1 2 }) span content more

-- a table at 3..9
abbrev rows : Entries → Toml
rows entries = value (table entries)

-- ---- private crates

nothing_private : private_of (rows no_entry) ≡ Ok (record { ignore = false; ignore_sources = []; registries = [] })
nothing_private = refl

-- each key in its field, whatever their order is
all_private : private_of (rows (row (codes "registries") (at 20 30) (array (item (at 21 22) (text (codes "r")) no_item))
    (row (codes "ignore") (at 40 44) (boolean true)
    (row (codes "ignore-sources") (at 50 60) (array (item (at 51 52) (text (codes "u")) (item (at 53 54) (text (codes "v")) no_item))) no_entry))))
    ≡ Ok (record {
      ignore = true;
      registries = codes "r" ∷ [];
      ignore_sources = record { value = codes "u"; span = at 51 52 } ∷ record { value = codes "v"; span = at 53 54 } ∷ [];
    })
all_private = refl

-- faults in the order of the rows, each item's by itself, and other keys last, in the order of the text
wrong_private : private_of (rows (row (codes "z") (at 10 11) (integer (pos 1)) (row (codes "registries") (at 20 21) (integer (pos 2))
    (row (codes "ignore-sources") (at 30 40) (array (item (at 31 32) (integer (pos 1)) (item (at 33 34) (boolean true) no_item)))
    (row (codes "ignore") (at 50 51) (text (codes "x")) (row (codes "a b") (at 60 61) (integer (pos 1)) no_entry))))))
    ≡ Err (record { reason = wanted (codes "a boolean") (codes "a string"); span = at 50 51 }
    ∷ record { reason = wanted (codes "a string") (codes "an integer"); span = at 31 32 }
    ∷ record { reason = wanted (codes "a string") (codes "a boolean"); span = at 33 34 }
    ∷ record { reason = wanted (codes "an array") (codes "an integer"); span = at 20 21 }
    ∷ record { reason = unexpected_keys (codes "z" ∷ codes "a b" ∷ []); span = at 3 9 } ∷ [])
wrong_private = refl

no_table : private_of (value (integer (pos 1))) ≡ Err (fault_alone (wanted (codes "a table") (codes "an integer")) (at 3 9))
no_table = refl

-- ---- what is printed

-- a depth is below 2^32
depths : (output_of (rows no_entry) ≡ Ok (record { feature_depth = None }))
    × (output_of (rows (row (codes "feature-depth") (at 10 11) (integer (pos 3)) no_entry)) ≡ Ok (record { feature_depth = Some 3 }))
    × (output_of (rows (row (codes "feature-depth") (at 10 11) (integer (pos (2 ^ 32))) no_entry))
    ≡ Err (fault_alone (out_of_range (codes "u32")) (at 10 11)))
    × (output_of (rows (row (codes "feature_depth") (at 10 11) (integer (pos 3)) no_entry))
    ≡ Err (fault_alone (unexpected_keys (codes "feature_depth" ∷ [])) (at 3 9)))
depths = (refl, refl, refl, refl)

-- ---- the graph

all_of_graph : graph_config_of (rows (row (codes "targets") (at 10 20) (array (item (at 11 12) (text (codes "t"))
    (item (at 13 19) (table (row (codes "features") (at 14 15) (array (item (at 14 15) (text (codes "f")) no_item))
    (row (codes "triple") (at 16 17) (text (codes "u")) no_entry))) no_item)))
    (row (codes "exclude") (at 21 22) (array (item (at 21 22) (text (codes "e")) no_item))
    (row (codes "features") (at 23 24) (array (item (at 23 24) (text (codes "g")) no_item))
    (row (codes "all-features") (at 25 26) (boolean true) (row (codes "no-default-features") (at 25 26) (boolean true)
    (row (codes "exclude-dev") (at 25 26) (boolean true) (row (codes "exclude-unpublished") (at 25 26) (boolean true) no_entry))))))))
    ≡ Ok (record {
      targets = record { filter = record { value = codes "t"; span = at 11 12 }; features = [] }
          ∷ record { filter = record { value = codes "u"; span = at 16 17 }; features = codes "f" ∷ [] } ∷ [];
      exclude = codes "e" ∷ [];
      features = codes "g" ∷ [];
      all_features = true;
      no_default_features = true;
      exclude_dev = true;
      exclude_unpublished = true;
    })
all_of_graph = refl

no_graph : graph_config_of (rows no_entry) ≡ Ok (record {
  targets = [];
  exclude = [];
  features = [];
  all_features = false;
  no_default_features = false;
  exclude_dev = false;
  exclude_unpublished = false;
})
no_graph = refl

-- ---- targets

-- a target that misses its triple tells that alone; what is wrong with its features is reported with other keys behind
targets : (target_of (value (text (codes "t"))) ≡ Ok (record { filter = record { value = codes "t"; span = at 3 9 }; features = [] }))
    × (target_of (rows (row (codes "features") (at 10 11) (integer (pos 1)) no_entry)) ≡ Err (fault_alone (missing (codes "triple")) (at 3 9)))
    × (target_of (rows (row (codes "z") (at 10 11) (integer (pos 1)) (row (codes "features") (at 12 13) (integer (pos 1))
    (row (codes "triple") (at 14 15) (text (codes "t")) no_entry))))
    ≡ Err (record { reason = wanted (codes "an array") (codes "an integer"); span = at 12 13 } ∷ fault_alone (unexpected_keys (codes "z" ∷ [])) (at 3 9)))
    × (target_of (value (array no_item)) ≡ Err (fault_alone (wanted (codes "a string or table") (codes "an array")) (at 3 9)))
    × (left_of_target (value (text (codes "t"))) ≡ value (boolean false)) × (left_of_target (value (array no_item)) ≡ value (array no_item))
targets = (refl, refl, refl, refl, refl, refl)

-- ---- files

-- a needed key that is missing or faulty ends its table
files : (file_source_of (rows (row (codes "hash") (at 10 12) (integer (pos 7)) (row (codes "path") (at 13 14) (text (codes "p")) no_entry)))
    ≡ Ok (record { path = record { value = codes "p"; span = at 13 14 }; hash = 7 }))
    × (file_source_of (rows (row (codes "hash") (at 10 12) (integer (negsuc 0)) (row (codes "z") (at 13 14) (text (codes "p")) no_entry)))
    ≡ Err (fault_alone (missing (codes "path")) (at 3 9)))
    × (file_source_of (rows (row (codes "path") (at 10 12) (integer (pos 7)) no_entry))
    ≡ Err (fault_alone (wanted (codes "a string") (codes "an integer")) (at 10 12)))
    × (file_source_of (rows (row (codes "z") (at 8 9) (integer (pos 1)) (row (codes "path") (at 10 12) (text (codes "p"))
    (row (codes "hash") (at 13 14) (integer (negsuc 0)) no_entry)))) ≡ Err (fault_alone (out_of_range (codes "u32")) (at 13 14)))
    × (file_source_of (rows (row (codes "path") (at 10 12) (text (codes "p")) no_entry)) ≡ Err (fault_alone (missing (codes "hash")) (at 3 9)))
files = (refl, refl, refl, refl, refl)

-- ---- exceptions

abbrev no_names : CatalogLists
no_names = record { licenses = []; exceptions = []; imprecise = [] }

-- an exception for the crate `a` that allows nothing, and other keys of its table
abbrev excepted : Entries → Toml
excepted more = rows (row (codes "crate") (at 10 12) (text (codes "a")) (row (codes "allow") (at 13 14) (array no_item) more))

abbrev of_a : Spec
of_a = record { name = codes "a"; span = at 10 12; requirement = None }

-- it says whether it names files, also none; what is wrong with its files is told, unless it allows nothing
exceptions : (exception_of no_names (excepted no_entry) ≡ Ok (record { spec = of_a; allow = []; license_files = None }))
    × (exception_of no_names (excepted (row (codes "license-files") (at 15 16) (array no_item) no_entry))
    ≡ Ok (record { spec = of_a; allow = []; license_files = Some [] }))
    × (exception_of no_names (excepted (row (codes "license-files") (at 15 29)
    (array (item (at 16 28) (table (row (codes "path") (at 17 18) (text (codes "p")) (row (codes "hash") (at 19 20) (integer (pos 7)) no_entry))) no_item)) no_entry))
    ≡ Ok (record { spec = of_a; allow = []; license_files = Some (record { path = record { value = codes "p"; span = at 17 18 }; hash = 7 } ∷ []) }))
    × (exception_of no_names (excepted (row (codes "license-files") (at 15 16) (integer (pos 1)) no_entry))
    ≡ Err (fault_alone (wanted (codes "an array") (codes "an integer")) (at 15 16)))
    × (exception_of no_names (excepted (row (codes "license-files") (at 15 29)
    (array (item (at 16 28) (table (row (codes "path") (at 17 18) (text (codes "p")) no_entry)) no_item)) no_entry))
    ≡ Err (fault_alone (missing (codes "hash")) (at 16 28)))
    × (exception_of no_names (rows (row (codes "crate") (at 10 12) (text (codes "a")) (row (codes "license-files") (at 15 16) (integer (pos 1))
    (row (codes "z") (at 17 18) (integer (pos 1)) no_entry)))) ≡ Err (fault_alone (missing (codes "allow")) (at 3 9)))
exceptions = (refl, refl, refl, refl, refl, refl)

-- ---- reasons

abbrev with_reason : Entries
with_reason =
    row (codes "a") (at 10 11) (integer (pos 1)) (row (codes "reason") (at 12 14) (text (codes "why"))
    (row (codes "b") (at 15 16) (integer (pos 2)) no_entry))

-- the other keys go back, in their order
reasons : (reason_of (rows with_reason) ≡ Ok (record { 0 = record { value = codes "why"; span = at 12 14 } }))
    × (left_of_reason (rows with_reason) ≡ rows (row (codes "a") (at 10 11) (integer (pos 1)) (row (codes "b") (at 15 16) (integer (pos 2)) no_entry)))
    × (reason_of (rows no_entry) ≡ Err (fault_alone (missing (codes "reason")) (at 3 9)))
    × (reason_of (rows (row (codes "reason") (at 12 14) (boolean false) no_entry))
    ≡ Err (fault_alone (wanted (codes "a string") (codes "a boolean")) (at 12 14)))
    × (reason_of (value (text (codes "why"))) ≡ Err (fault_alone (wanted (codes "a table") (codes "a string")) (at 3 9)))
reasons = (refl, refl, refl, refl, refl)

-- ---- names

scopes : (scope_of (value (text (codes "all"))) ≡ Ok scope.All) × (scope_of (value (text (codes "workspace"))) ≡ Ok scope.Workspace)
    × (scope_of (value (text (codes "transitive"))) ≡ Ok scope.Transitive) × (scope_of (value (text (codes "none"))) ≡ Ok scope.None)
    × (scope_of (value (text (codes "None")))
    ≡ Err (fault_alone (unexpected_value (codes "all" ∷ codes "workspace" ∷ codes "transitive" ∷ codes "none" ∷ [])) (at 3 9)))
    × (scope_of (value (boolean true)) ≡ Err (fault_alone (wanted (codes "Scope") (codes "a boolean")) (at 3 9)))
scopes = (refl, refl, refl, refl, refl, refl)

agreements : (agreement_of (value (text (codes "both"))) ≡ Ok agreement.Both) × (agreement_of (value (text (codes "either"))) ≡ Ok agreement.Either)
    × (agreement_of (value (text (codes "osi"))) ≡ Ok agreement.Osi) × (agreement_of (value (text (codes "fsf"))) ≡ Ok agreement.Fsf)
    × (agreement_of (value (text (codes "osi-only"))) ≡ Ok agreement.OsiOnly) × (agreement_of (value (text (codes "fsf-only"))) ≡ Ok agreement.FsfOnly)
    × (agreement_of (value (text (codes "neither"))) ≡ Ok agreement.Neither)
    × (agreement_of (value (table no_entry)) ≡ Err (fault_alone (wanted (codes "BlanketAgreement") (codes "a table")) (at 3 9)))
agreements = (refl, refl, refl, refl, refl, refl, refl, refl)

lints : (lint_of (value (text (codes "allow"))) ≡ Ok lint.Allow) × (lint_of (value (text (codes "warn"))) ≡ Ok lint.Warn)
    × (lint_of (value (text (codes "deny"))) ≡ Ok lint.Deny)
    × (lint_of (value (text (codes ""))) ≡ Err (fault_alone (unexpected_value (codes "allow" ∷ codes "warn" ∷ codes "deny" ∷ [])) (at 3 9)))
    × (lint_of (value (integer (pos 1))) ≡ Err (fault_alone (wanted (codes "LintLevel") (codes "an integer")) (at 3 9)))
lints = (refl, refl, refl, refl, refl)
