use Rattle.std.proofs.Common.{◌∙◌, ◌++◌, ◌∷◌, [], List, get_or, ap}
use Rattle.std.proofs.lemmas.List.Elements.{All-get_or}
use Rattle.spdx_terms.specs.declared.error.ParseError.{ParseError}
use Rattle.spdx_terms.specs.declared.error.ParseReason.TheVariants.{Empty}
use Rattle.diag_core.specs.declared.pack.Diag.{Diag}
use Rattle.gather_core.specs.findings.Findings as spec
use Rattle.gather_core.specs.findings.Findings.{FaultFits}
use Rattle.gather_core.proofs.findings.FindingLemmas.{map_more}
use Rattle.gather_core.proofs.findings.findings.push_faults.Goals as goal

-- what would be past the last fault
abbrev past : ParseError
past = record { reason = Empty; span = record { start = 0; end = 0 } }

pub field_fault-requires : goal.field_fault-requires
field_fault-requires c = All-get_or (FaultFits c.args.field) c.args.faults.now c.faults.fault-index past c.faults-test.true c.requires

pub faults-preserved : goal.faults-preserved
faults-preserved c =
    let make = spec.field_fault c.args.field in
    c.in_ok-push.ensures.ok ∙ ap (λ (finding : Diag). c.faults.diags ++ finding ∷ []) c.in_ok-finding.ensures
    ∙ ap (λ (so_far : List Diag). so_far ++ make (get_or c.args.faults.now c.faults.fault-index past) ∷ []) c.faults.invariant
    ∙ map_more make c.args.diags.now c.args.faults.now c.faults.fault-index past c.faults-test.true
