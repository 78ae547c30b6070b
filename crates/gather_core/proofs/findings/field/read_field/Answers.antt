use Rattle.std.proofs.Common.{List, subst, sym}
use Rattle.spdx_terms.specs.declared.error.ParseError.{ParseError}
use Rattle.gather_core.specs.findings.Premises.{FaultsLie}
use Rattle.gather_core.proofs.findings.FieldLemmas.{faults_lie}
use Rattle.gather_core.proofs.findings.field.read_field.Goals as goal

pub returns-clause-inside : goal.returns-clause-inside
returns-clause-inside g c =
    let field = c.args.field.now in
    subst (λ (faults : List ParseError). FaultsLie field faults) (sym c.in_ok-read.ensures.faults)
    (faults_lie (g.C.Catalog.lists c.args.catalog.now) field (g.met.C.Catalog.lawful c.args.catalog.now) c.utf8.field)
