use Rattle.std.proofs.Common.{codes, refl, subst}
use Rattle.toml_subset.specs.shapes.Shaped.{AnswersShape}
use Rattle.policy_toml.specs.HelperState.{state_of}
use Rattle.policy_toml.specs.Readings.{list_of}
use Rattle.policy_parts.specs.Values.{file_source_of}
use Rattle.policy_parts.specs.entries.Clarifications.{written_of}
use Rattle.policy_parts.proofs.entries.TwoKeys.{both_read, second_refused}
use Rattle.policy_parts.proofs.entries.clarification.ClarificationKeysFromKeys.read_keys.Goals as goal

pub returns-in-Ok-required : goal.returns-in-Ok-required
returns-in-Ok-required g c =
    subst (λ read. AnswersShape read c.finish.result)
    (both_read (codes "expression") (codes "license-files") written_of (list_of file_source_of) (λ expression files. record { expression = expression; license_files = files })
    (state_of c.args.table) (state_of c.required.new.self) (state_of c.required-2.new.self) c.in-Ok.expression c.in-Ok-required.license_files
    refl c.requires c.in-Ok.ensures.read c.in-Ok.ensures.ok c.in-Ok-required.ensures.read c.in-Ok-required.ensures.ok)
    c.finish.ensures

pub returns-in-Err-required : goal.returns-in-Err-required
returns-in-Err-required g c =
    second_refused (codes "expression") (codes "license-files") written_of (list_of file_source_of) (λ expression files. record { expression = expression; license_files = files })
    (state_of c.args.table) (state_of c.required.new.self) c.in-Ok.expression c.in-Err-required.error
    refl c.requires c.in-Ok.ensures.read c.in-Ok.ensures.ok c.in-Err-required.ensures.read
