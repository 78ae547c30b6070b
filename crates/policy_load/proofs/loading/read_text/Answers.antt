use Rattle.policy_load.proofs.loading.read_text.Goals as goal

pub returns-clause-utf8 : goal.returns-clause-utf8
returns-clause-utf8 g c = c.utf8.text
