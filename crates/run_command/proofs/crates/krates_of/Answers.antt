use Rattle.std.proofs.Common.{refl}
use Rattle.std.proofs.lemmas.Result.{err_from_is_err_and}
use Rattle.graph_core.specs.selection.Choice.{choice_of}
use Rattle.run_command.proofs.MetadataLemmas.{build_ends}
use Rattle.run_command.proofs.crates.krates_of.Goals as goal

pub returns-in_err-build : goal.returns-in_err-build
returns-in_err-build c =
    let p = err_from_is_err_and c.from_residual.result c.from_residual.ensures.1 in
    rw (p.1, p.2) (build_ends (choice_of c.args.asked.selection) c.args.asked.metadata c.in_err-build.field-0.0 c.in_err-build.ensures.cause)

pub returns : goal.returns
returns c = record {
  graph = c.args.asked.metadata;
  tells = refl;
  rooted = c.in_ok-build.ensures.rooted;
  reached = c.in_ok-build.ensures.chosen;
}
