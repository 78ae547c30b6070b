-- Keys of a policy that are no longer wanted.
use Rattle.std.specs.Prelude.{ℕ, List, [], ◌∷◌, ◌++◌, Some, None, codes}
use Rattle.diag_core.specs.declared.severity.Severity.{Severity}
use Rattle.diag_core.specs.declared.severity.Severity.TheVariants as severity
use Rattle.diag_core.specs.declared.label.LabelStyle.TheVariants.{Primary}
use Rattle.diag_core.specs.declared.diagnostic.Diagnostic.{Diagnostic}
use Rattle.diag_core.specs.declared.general.Code.TheVariants as general
use Rattle.diag_core.specs.declared.deprecated.Deprecated.{Deprecated}
use Rattle.diag_core.specs.declared.deprecated.DeprecationReason.{DeprecationReason}
use Rattle.diag_core.specs.declared.deprecated.DeprecationReason.TheVariants.{WillBeRemoved, Moved, Renamed}
use Rattle.diag_core.specs.declared.deprecated.DeprecationReason.TheVariants.{MovedAndRenamed, Removed}
use Rattle.diag_core.specs.GeneralCode.{general_code_name}
use Rattle.diag_core.specs.Label.{label_at}
use Rattle.diag_core.specs.Diagnostic.{plain_diagnostic}

-- what the reason says
abbrev pub reason_text : DeprecationReason → List ℕ
reason_text (WillBeRemoved None) = codes "this key will be removed in a future update"
reason_text (WillBeRemoved (Some url)) =
    codes "this key will be removed in a future update, see " ++ url.now ++ codes " for details"
reason_text (Moved table) = codes "this key has been moved to [" ++ table.now ++ codes "]"
reason_text (Renamed name) = codes "this key has been renamed to '" ++ name.now ++ codes "'"
reason_text (MovedAndRenamed table key) =
    codes "this key been moved to [" ++ (table.now ++ (codes "] and renamed to '" ++ (key.now ++ codes "'")))
reason_text (Removed url) = codes "this key has been removed, see " ++ url.now ++ codes " for migration information"

-- an error for a key that was removed, and else a warning
abbrev pub severity_of_reason : DeprecationReason → Severity
severity_of_reason (Removed url) = severity.Error
severity_of_reason (WillBeRemoved url) = severity.Warning
severity_of_reason (Moved table) = severity.Warning
severity_of_reason (Renamed name) = severity.Warning
severity_of_reason (MovedAndRenamed table key) = severity.Warning

-- what is reported of the key: the reason's text, at the key
abbrev pub deprecation_of : Deprecated → Diagnostic
deprecation_of key =
    record (plain_diagnostic (severity_of_reason key.reason)) {
      code = Some (general_code_name general.Deprecated);
      message = reason_text key.reason;
      labels = label_at Primary key.file_id key.key [] ∷ [];
    }
