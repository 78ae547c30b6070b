use Rattle.policy_core.proofs.place_laws.PartLemmas.{private_stays, graph_stays, target_stays, file_source_stays, reason_stays, output_stays, scope_stays, agreement_stays, lint_stays}
use Rattle.policy_core.proofs.place_laws.parts.parts_keep_places.Goals as goal

pub returns : goal.returns
returns c = record {
  private = private_stays;
  graph = graph_stays;
  target = target_stays;
  file_source = file_source_stays;
  reason = reason_stays;
  output = output_stays;
  scope = scope_stays;
  agreement = agreement_stays;
  lint = lint_stays;
}
