use Rattle.std.proofs.Common.{◌≡◌, All, map, take}
use Rattle.graph_core.specs.Metadata.{AreRising}
use Rattle.run_list_text.specs.Listed.{listed_of}
use Rattle.run_list_text.proofs.listed.listed_crates.Given as goal

abbrev pub invariant-licenses : goal.invariant-licenses
invariant-licenses l = (l.crates ≡ map listed_of (take l.license-index l.licenses)) × All (λ listed. AreRising listed.licenses) l.crates
