use Rattle.run_sample.specs.Metadata.{package_text}
use Rattle.run_sample.proofs.NumberLemmas.{text_more}
use Rattle.run_sample.proofs.metadata.push_packages.Goals as goal

pub crates-preserved : goal.crates-preserved
crates-preserved c = text_more package_text _ _ _ c.crates.i c.crates.invariant c.in_ok-push_package.ensures
