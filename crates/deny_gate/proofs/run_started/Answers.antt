use Rattle.std.proofs.Common.{refl, ap}
use Rattle.spdx_terms.specs.catalog.Store.{match_of, text_of_store}
use Rattle.run_request.specs.Given.{texts}
use Rattle.deny_gate.proofs.run_started.Goals as goal

pub returns : goal.returns
returns g c = record {
  given = _;
  lists = refl;
  match_of = ap match_of c.requires;
  text_of = ap text_of_store c.requires;
  words_given = ap texts c.deref.ensures.value;
  folder_given = c.as_str.ensures;
  run = c.run.ensures;
}
