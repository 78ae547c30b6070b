use Rattle.refusal_help.proofs.LineLemmas.{help_lines}
use Rattle.refusal_help.proofs.laws.help_has_its_lines.Goals as goal

pub returns : goal.returns
returns c = help_lines
