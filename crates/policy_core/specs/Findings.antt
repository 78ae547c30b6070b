-- What is reported of a policy that loads all the same.
use Rattle.std.specs.Prelude.{ℕ, List, [], ◌∷◌, ◌++◌, map, codes, Option, Some, None}
use Rattle.std.specs.Option.{option_to_list}
use Rattle.deny_text.specs.declared.span.Span.{Span}
use Rattle.diag_core.specs.Diagnostic.{plain_diagnostic}
use Rattle.diag_core.specs.GeneralCode.{general_code_name}
use Rattle.diag_core.specs.Label.{label_at}
use Rattle.diag_core.specs.declared.diagnostic.Diagnostic.{Diagnostic}
use Rattle.diag_core.specs.declared.general.Code.TheVariants.{Deprecated}
use Rattle.diag_core.specs.declared.label.LabelStyle.TheVariants.{Primary}
use Rattle.diag_core.specs.declared.severity.Severity.TheVariants.{Warning}
use Rattle.policy_parts.specs.declared.target.Target.{Target}
use Rattle.policy_core.specs.declared.config.root.RootConfig.{RootConfig}

-- a policy that is absent, by the path where it was to be
abbrev pub absence_finding : Option (List ℕ) → Diagnostic
absence_finding (Some path) =
    record (plain_diagnostic Warning) {
      message = codes "config path '" ++ path ++ codes "' doesn't exist, falling back to default config";
    }
absence_finding None =
    record (plain_diagnostic Warning) { message = codes "unable to find a config path, falling back to default config" }

-- a target, which has no effect
abbrev pub target_finding : ℕ → Target → Diagnostic
target_finding file target =
    record (plain_diagnostic Warning) {
      message = codes "no platform filter is applied";
      labels = label_at Primary file target.filter.span [] ∷ [];
    }

-- a key that is in a table now
abbrev pub moved_key_finding : List ℕ → ℕ → Span → Diagnostic
moved_key_finding table file key =
    record (plain_diagnostic Warning) {
      code = Some (general_code_name Deprecated);
      message = codes "this key has been moved to [" ++ table ++ codes "]";
      labels = label_at Primary file key [] ∷ [];
    }

-- one for each target, in order
abbrev pub target_findings : ℕ → RootConfig → List Diagnostic
target_findings file root = map (target_finding file) root.graph.targets

-- one for each key, in the order of the table of keys
abbrev pub graph_key_findings : ℕ → RootConfig → List Diagnostic
graph_key_findings file root = map (moved_key_finding (codes "graph") file) root.graph_deprecated

abbrev pub output_key_findings : ℕ → RootConfig → List Diagnostic
output_key_findings file root = map (moved_key_finding (codes "output") file) (option_to_list root.output_deprecated)
