-- Of the crates so far.
use Rattle.std.proofs.Common.{◌≤◌, take}
use Rattle.std.specs.List.{All}
use Rattle.gather_core.specs.declared.summary.KrateLicense.{KrateLicense}
use Rattle.check_core.specs.Summary.{IsExpressionIn, nodes_in}
use Rattle.check_core.proofs.check.most_nodes.Given as goal

abbrev pub invariant-licenses : goal.invariant-licenses
invariant-licenses l = record {
  most : All (λ (license : KrateLicense). nodes_in license.lic_info ≤ l.most) (take l.license-index l.licenses);
  facts : All (λ (license : KrateLicense). IsExpressionIn license.lic_info) (take l.license-index l.licenses);
}
