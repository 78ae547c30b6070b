-- What of a request for a check is not carried.
use Rattle.std.specs.Prelude.{Bool, true, false, not, ◌&&◌, ◌==◌, List, [], ◌∷◌, find, length, is_none, is_some, Option}
use Rattle.std.specs.Prelude.{option_map}
use Rattle.std.specs.List.{list_all, list_any}
use Rattle.graph_core.specs.selection.Choice.{is_unsupported}
use Rattle.diag_print.specs.declared.context.LogContext.{LogContext}
use Rattle.run_request.specs.declared.check.CheckArgs.{CheckArgs}
use Rattle.run_request.specs.declared.context.KrateContext.{KrateContext}
use Rattle.run_request.specs.declared.level.WhichCheck.{WhichCheck}
use Rattle.run_request.specs.declared.level.WhichCheck.TheVariants as which
use Rattle.graph_workspace.specs.declared.error.UnsupportedPart.{UnsupportedPart}
use Rattle.graph_workspace.specs.declared.error.UnsupportedPart.TheVariants as what
use Rattle.run_found.specs.Carried.{is_sarif}

abbrev pub is_licenses : WhichCheck → Bool
is_licenses which.Advisories = false
is_licenses which.Bans = false
is_licenses which.Licenses = true
is_licenses which.Sources = false
is_licenses which.All = false

-- licences are named, once or more, and nothing else
abbrev pub names_licenses : List WhichCheck → Bool
names_licenses checks = not (length checks == 0) && list_all is_licenses checks

-- whether a part of the request is so that it is not carried, part after part
abbrev pub parts_of : LogContext → CheckArgs → KrateContext → List (Bool × UnsupportedPart)
parts_of log args context =
    (is_none context.metadata_path, what.MetadataPath)
    ∷ (not (names_licenses args.which), what.Which)
    ∷ (is_sarif log.format, what.Format)
    ∷ (not (length context.targets == 0), what.Target)
    ∷ (is_some args.graph, what.Graph)
    ∷ (args.audit_compatible_output, what.Audit)
    ∷ (list_any is_unsupported context.exclude, what.ExcludeSpec)
    ∷ []

-- the first such part
abbrev pub unsupported_of : LogContext → CheckArgs → KrateContext → Option UnsupportedPart
unsupported_of log args context = option_map (λ part. part.1) (find (λ part. part.0) (parts_of log args context))
