-- A request of which all is carried.
use Rattle.std.proofs.Common.{◌≡◌, ◌∙◌, refl, sym, ap, ℕ, Bool, true, false, cond, List, [], Option, Some, None, ◌||◌}
use Rattle.std.specs.Prelude.{is_none}
use Rattle.std.specs.List.{list_any}
use Rattle.graph_core.specs.selection.Choice.{is_unsupported}
use Rattle.graph_workspace.specs.declared.error.UnsupportedPart.{UnsupportedPart}
use Rattle.graph_workspace.specs.declared.error.UnsupportedPart.TheVariants as what
use Rattle.diag_print.specs.declared.context.LogContext.{LogContext}
use Rattle.run_context.specs.Asked.{unsupported_part}
use Rattle.run_request.specs.declared.context.KrateContext.{KrateContext}
use Rattle.run_request.specs.declared.level.LintLevels.{LintLevels}
use Rattle.run_found.proofs.CarriedLemmas.{all_none, path_there}
use Rattle.run_command.specs.Carried.{no_levels, parts_of, plain_options, unsupported_of}
use Rattle.run_command.specs.Given.{CommandOptions}

-- metadata is named, and no spec has such a sign
carried_by : (unnamed spec : Bool) → cond unnamed (Some what.MetadataPath) (cond (spec || false) (Some what.ExcludeSpec) None) ≡ None → (unnamed ≡ false) × (spec ≡ false)
carried_by true spec e = absurd (cc)
carried_by false true e = absurd (cc)
carried_by false false e = (refl, refl)

carried_parts : (context : KrateContext) → unsupported_part context [] ≡ None → (is_none context.metadata_path ≡ false) × (list_any is_unsupported context.exclude ≡ false)
carried_parts context carried = carried_by (is_none context.metadata_path) (list_any is_unsupported context.exclude) carried

-- it names metadata
pub path_carried : (context : KrateContext) → unsupported_part context [] ≡ None → (path : List ℕ) × (context.metadata_path ≡ Some path)
path_carried context carried = path_there context.metadata_path (carried_parts context carried).0

carried_with : (context : KrateContext) (exclude : List (List ℕ)) → is_none context.metadata_path ≡ false → list_any is_unsupported context.exclude ≡ false → list_any is_unsupported exclude ≡ false
    → unsupported_part context exclude ≡ None
carried_with context exclude named own specs =
    ap (λ b. cond b (Some what.MetadataPath) (cond (list_any is_unsupported context.exclude || list_any is_unsupported exclude) (Some what.ExcludeSpec) None)) named
    ∙ ap (λ b. cond (b || list_any is_unsupported exclude) (Some what.ExcludeSpec) None) own
    ∙ ap (λ b. cond b (Some what.ExcludeSpec) None) specs

-- with the specs of a policy that are carried, all that its crates ask for is
pub carried_behind : (context : KrateContext) (exclude : List (List ℕ)) → unsupported_part context [] ≡ None → list_any is_unsupported exclude ≡ false → unsupported_part context exclude ≡ None
carried_behind context exclude carried specs =
    let parts = carried_parts context carried in carried_with context exclude parts.0 parts.1 specs

-- a request of which no part is left unsupported by a command
pub carried_of_parts : (context : KrateContext) → is_none context.metadata_path ≡ false → list_any is_unsupported context.exclude ≡ false → unsupported_part context [] ≡ None
carried_of_parts context named own = carried_with context [] named own refl

pub plain_carried : (log : LogContext) (context : KrateContext) → unsupported_of log context ≡ None → unsupported_part context [] ≡ None
plain_carried log context carried =
    let none = all_none (parts_of log context) carried in carried_of_parts context none.0 none.1.1.1.0

-- ---- the options of a command that has none of its own

-- but for what is not carried and the levels
abbrev plain_with : Option UnsupportedPart → LintLevels → CommandOptions
plain_with unsupported levels = record { unsupported = unsupported; levels = levels; with_flags = true; threshold = None; keeps = false }

-- all of its request is carried
pub plain_use : (log : LogContext) (context : KrateContext) (levels : LintLevels) → levels ≡ no_levels → unsupported_of log context ≡ None → plain_with None levels ≡ plain_options log context
plain_use log context levels none carried = ap (plain_with None) none ∙ ap (λ own. plain_with own no_levels) (sym carried)
