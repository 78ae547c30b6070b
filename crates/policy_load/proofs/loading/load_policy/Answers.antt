use Rattle.std.proofs.Common.{◌≡◌, subst, ap}
use Rattle.std.specs.Option.{option_copied}
use Rattle.std.specs.Prelude.{unwrap_or}
use Rattle.policy_core.specs.config.Config.{no_config}
use Rattle.policy_core.proofs.ExceptionLemmas.{grows_from, grows_itself}
use Rattle.policy_core.specs.Heard.{LoadState, TakesExceptions}
use Rattle.policy_load.specs.Heard.{IsReadOf, MayReadOf}
use Rattle.policy_load.proofs.HeardLemmas.{may_of, on_err, unread_of}
use Rattle.policy_load.proofs.LoadLemmas.{loads_policy}
use Rattle.policy_load.proofs.loading.load_policy.Goals as goal

pub returns-clause-read : goal.returns-clause-read
returns-clause-read g c =
    let lists = g.C.Catalog.lists c.args.catalog.now in
    let source = c.args.source.now in
    let before = g.T.Tree.fault_count c.args.tree.now in
    let after = g.T.Tree.fault_count c.hear_exceptions.new.tree in
    let calls = g.T.Tree.trace c.args.tree.now in
    let more = g.T.Tree.trace c.hear_exceptions.new.tree in
    let path = c.args.exceptions_path in
    let valid = c.in_ok-licenses.licenses in
    let heard = c.in_ok-heard.heard in
    let checked = c.validate_policy.new.found in
    let behind : LoadState = record { policy = c.take_exceptions.new.cfg; files = c.take_exceptions.new.files; found = c.take_exceptions.new.diags } in
    loads_policy lists (g.met.C.Catalog.lawful c.args.catalog.now) before after calls more source.file_id source.is_there (option_copied source.path) c.args.root path
    (unwrap_or c.take-said.result no_config) heard valid behind.policy c.args.files.now behind.files c.args.found.now checked behind.found c.tell_settings.new.found
    c.requires.placed (ap (λ said. unwrap_or said no_config) c.take-said.ensures.value) c.in_ok-licenses.ensures.valid c.in_ok-licenses.ensures.told
    (subst (λ known. IsReadOf before after calls more known path heard) c.validate_policy.ensures.files c.in_ok-heard.ensures.read) c.take_exceptions.ensures.text
    (subst (λ known. TakesExceptions lists heard (record { policy = valid; files = known; found = checked }) behind) c.validate_policy.ensures.files c.in_ok-take_exceptions.ensures.taken)
    c.in_ok-tell_settings.ensures.ok

pub returns-clause-labels : goal.returns-clause-labels
returns-clause-labels g c = (returns-clause-read g c).labels

pub returns-clause-places : goal.returns-clause-places
returns-clause-places g c = (returns-clause-read g c).places

pub returns-in_err-licenses-clause-no_memory : goal.returns-in_err-licenses-clause-no_memory
returns-in_err-licenses-clause-no_memory g c =
    on_err c.from_residual.result _ (unread_of (g.T.Tree.trace c.args.tree.now) c.args.files.now c.args.exceptions_path)

pub returns-in_err-heard-clause-no_memory : goal.returns-in_err-heard-clause-no_memory
returns-in_err-heard-clause-no_memory g c =
    on_err c.from_residual-in_err-heard.result _
    (subst (λ known. MayReadOf (g.T.Tree.trace c.args.tree.now) (g.T.Tree.trace c.hear_exceptions.new.tree) known c.args.exceptions_path) c.validate_policy.ensures.files
    c.in_err-heard.ensures.no_memory)

pub returns-in_err-take_exceptions-clause-no_memory : goal.returns-in_err-take_exceptions-clause-no_memory
returns-in_err-take_exceptions-clause-no_memory g c =
    on_err c.from_residual-in_err-take_exceptions.result _
    (subst (λ known. MayReadOf (g.T.Tree.trace c.args.tree.now) (g.T.Tree.trace c.hear_exceptions.new.tree) known c.args.exceptions_path) c.validate_policy.ensures.files
    (may_of _ _ _ _ _ c.args.exceptions_path c.in_ok-heard.heard c.in_ok-heard.ensures.read))

pub returns-in_err-tell_settings-clause-no_memory : goal.returns-in_err-tell_settings-clause-no_memory
returns-in_err-tell_settings-clause-no_memory g c =
    on_err c.from_residual-in_err-tell_settings.result _
    (subst (λ known. MayReadOf (g.T.Tree.trace c.args.tree.now) (g.T.Tree.trace c.hear_exceptions.new.tree) known c.args.exceptions_path) c.validate_policy.ensures.files
    (may_of _ _ _ _ _ c.args.exceptions_path c.in_ok-heard.heard c.in_ok-heard.ensures.read))

pub returns-clause-grows : goal.returns-clause-grows
returns-clause-grows g c =
    grows_from c.args.files.now c.validate_policy.new.files c.take_exceptions.new.files c.validate_policy.ensures.files c.take_exceptions.ensures.grows

pub returns-in_err-licenses-clause-grows : goal.returns-in_err-licenses-clause-grows
returns-in_err-licenses-clause-grows g c = grows_itself c.args.files.now c.validate_policy.new.files c.validate_policy.ensures.files

pub returns-in_err-heard-clause-grows : goal.returns-in_err-heard-clause-grows
returns-in_err-heard-clause-grows g c = grows_itself c.args.files.now c.validate_policy.new.files c.validate_policy.ensures.files

pub returns-in_err-take_exceptions-clause-grows : goal.returns-in_err-take_exceptions-clause-grows
returns-in_err-take_exceptions-clause-grows g c =
    grows_from c.args.files.now c.validate_policy.new.files c.take_exceptions.new.files c.validate_policy.ensures.files c.take_exceptions.ensures.grows

pub returns-in_err-tell_settings-clause-grows : goal.returns-in_err-tell_settings-clause-grows
returns-in_err-tell_settings-clause-grows g c =
    grows_from c.args.files.now c.validate_policy.new.files c.take_exceptions.new.files c.validate_policy.ensures.files c.take_exceptions.ensures.grows
