use Rattle.spdx_core.proofs.laws.faults_lie_in_the_text.Goals as goal
use Rattle.spdx_core.proofs.FaultSpans.{fault_lies, licensee_fault_lies}

pub returns-clause-expressions : goal.returns-clause-expressions
returns-clause-expressions c = λ mode lists text fault laws utf8 is. fault_lies mode lists text fault laws utf8 is

pub returns-clause-licensees : goal.returns-clause-licensees
returns-clause-licensees c = λ mode lists text fault laws utf8 is. licensee_fault_lies mode lists text fault laws utf8 is
