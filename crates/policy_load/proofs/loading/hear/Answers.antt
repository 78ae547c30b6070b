use Rattle.std.proofs.Common.{◌∙◌, Some, ap, sym}
use Rattle.policy_load.proofs.CallLemmas.{policy_read, policy_wanting}
use Rattle.policy_load.proofs.loading.hear.Goals as goal

pub returns-in-Some-clause-read : goal.returns-in-Some-clause-read
returns-in-Some-clause-read g c =
    policy_read c.args.begun _ _ _ c.args.path.now c.as_path.result.now c.read_file_text.result (c.in-Some.is ∙ ap Some (sym c.as_path.ensures)) c.read_file_text.ensures.read

pub returns-in-Some-clause-no_memory : goal.returns-in-Some-clause-no_memory
returns-in-Some-clause-no_memory g c =
    policy_wanting _ _ c.args.path.now c.as_path.result.now c.read_file_text.result (c.in-Some.is ∙ ap Some (sym c.as_path.ensures)) c.read_file_text.ensures.no_memory
