-- The licences are counted.
use Rattle.std.proofs.Common.{sym}
use Rattle.refusal_help.proofs.TableLemmas.{built_in_are_counted}
use Rattle.refusal_help.proofs.words.built_in_words.Goals as goal

pub returns : goal.returns
returns c = sym built_in_are_counted
