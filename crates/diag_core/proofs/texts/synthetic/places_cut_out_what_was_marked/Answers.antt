use Rattle.diag_core.proofs.texts.PlaceLemmas.{places_cut_out}
use Rattle.diag_core.proofs.texts.synthetic.places_cut_out_what_was_marked.Goals as goal

pub returns : goal.returns
returns c = places_cut_out
