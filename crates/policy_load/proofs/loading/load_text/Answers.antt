use Rattle.std.proofs.Common.{◌∙◌, ◌⊎◌, inl, refl, sym, ap, subst, length, Err}
use Rattle.std.specs.Str.{IsUtf8}
use Rattle.policy_core.specs.text.Config.{AnswersConfig, config_of_text}
use Rattle.policy_core.specs.Places.{IsConfigPlaced}
use Rattle.policy_core.specs.Policy.{absence_findings}
use Rattle.policy_core.proofs.ExceptionLemmas.{grows_itself}
use Rattle.policy_load.specs.Answer.{Comes, IsUnprinted, LoadsRootBy, refused_by}
use Rattle.policy_load.specs.Heard.{MayReadOf}
use Rattle.policy_load.specs.Load.{policy_file, refusal_findings, with_policy}
use Rattle.diag_print.specs.Findings.{AreInside}
use Rattle.policy_load.specs.declared.error.LoadError.TheVariants.{Memory}
use Rattle.policy_load.proofs.CallLemmas.{grows_behind, reads_by_refusal, reads_by_root, unread_further}
use Rattle.policy_load.proofs.LoadLemmas.{handed_on}
use Rattle.policy_load.proofs.PlaceLemmas.{refusal_inside, root_in}
use Rattle.policy_load.proofs.loading.load_text.Goals as goal

pub load_root-requires-clause-placed : goal.load_root-requires-clause-placed
load_root-requires-clause-placed g c =
    let lists = g.C.Catalog.lists c.args.catalog.now in
    let old = c.args.files.now in
    let file = policy_file c.args.paths.policy c.args.found.text in
    let utf8 = subst IsUtf8 c.as_str.ensures c.read_text-config.ensures.utf8 in
    let told = ap (config_of_text lists) (sym c.as_str.ensures) ∙ c.in-Ok.ensures.told in
    subst (λ number. IsConfigPlaced c.add_policy.new.files number c.in-Ok.root) (sym c.in_ok-file_id.ensures.number)
    (subst (λ files. IsConfigPlaced files (length old) c.in-Ok.root) (sym c.in_ok-file_id.ensures.ok)
    (root_in old file utf8 c.in_ok-file_id.ensures.fits lists (g.met.C.Catalog.lawful c.args.catalog.now) c.in-Ok.root told))

pub refuse-requires : goal.refuse-requires
refuse-requires g c =
    let lists = g.C.Catalog.lists c.args.catalog.now in
    let old = c.args.files.now in
    let file = policy_file c.args.paths.policy c.args.found.text in
    let utf8 = subst IsUtf8 c.as_str.ensures c.read_text-config.ensures.utf8 in
    let told = subst (λ text. AnswersConfig (config_of_text lists text) (Err c.in-Err.refused)) c.as_str.ensures c.in-Err.ensures.told in
    subst (λ number. AreInside c.add_policy.new.files (refusal_findings number c.in-Err.refused)) (sym c.in_ok-file_id.ensures.number)
    (subst (λ files. AreInside files (refusal_findings (length old) c.in-Err.refused)) (sym c.in_ok-file_id.ensures.ok)
    (refusal_inside old file utf8 c.in_ok-file_id.ensures.fits lists (g.met.C.Catalog.lawful c.args.catalog.now) c.in-Err.refused told))

pub returns-in_err-file_id-clause-reads : goal.returns-in_err-file_id-clause-reads
returns-in_err-file_id-clause-reads g c =
    let lists = g.C.Catalog.lists c.args.catalog.now in
    let paths = c.args.paths in
    let text = c.args.found in
    inl (
      record { memory = handed_on c.from_residual.result Memory c.from_residual.ensures.1; same = refl },
      unread_further (g.T.Tree.trace c.args.tree.now) (with_policy c.args.files.now paths text) paths.exceptions (config_of_text lists text.text),
    )

pub returns-in-Ok-clause-reads : goal.returns-in-Ok-clause-reads
returns-in-Ok-clause-reads g c =
    let lists = g.C.Catalog.lists c.args.catalog.now in
    let mid = g.T.Tree.fault_count c.args.tree.now in
    let after = g.T.Tree.fault_count c.load_root.new.tree in
    let calls = g.T.Tree.trace c.args.tree.now in
    let more = g.T.Tree.trace c.load_root.new.tree in
    let held = g.S.Sink.written c.args.sink.now in
    let behind = g.S.Sink.written c.load_root.new.sink in
    let old = c.args.files.now in
    let new = c.load_root.new.files in
    let paths = c.args.paths in
    let text = c.args.found in
    let root = c.in-Ok.root in
    let result = c.load_root.result in
    reads_by_root lists c.args.context paths text mid after calls old new held behind more root result
    (ap (config_of_text lists) (sym c.as_str.ensures) ∙ c.in-Ok.ensures.told)
    (subst (λ file. (IsUnprinted held behind result × MayReadOf calls more (with_policy old paths text) paths.exceptions)
    ⊎ LoadsRootBy lists c.args.context file (absence_findings text.is_there paths.policy) root paths.exceptions mid after calls more (with_policy old paths text) new held behind result)
    c.in_ok-file_id.ensures.number
    (subst (λ files. (IsUnprinted held behind result × MayReadOf calls more files paths.exceptions)
    ⊎ LoadsRootBy lists c.args.context c.in_ok-file_id.file_id (absence_findings text.is_there paths.policy) root paths.exceptions mid after calls more files new held behind result)
    c.in_ok-file_id.ensures.ok c.load_root.ensures.reads))

pub returns-in-Err-clause-reads : goal.returns-in-Err-clause-reads
returns-in-Err-clause-reads g c =
    let lists = g.C.Catalog.lists c.args.catalog.now in
    let mid = g.T.Tree.fault_count c.args.tree.now in
    let calls = g.T.Tree.trace c.args.tree.now in
    let held = g.S.Sink.written c.args.sink.now in
    let behind = g.S.Sink.written c.refuse.new.sink in
    let old = c.args.files.now in
    let new = c.add_policy.new.files in
    let paths = c.args.paths in
    let text = c.args.found in
    let refused = c.in-Err.refused in
    let error = c.refuse.result in
    reads_by_refusal lists c.args.context paths text mid mid calls old new held behind refused error
    (subst (λ own. AnswersConfig (config_of_text lists own) (Err refused)) c.as_str.ensures c.in-Err.ensures.told)
    (subst (λ number. Comes (refused_by number refused) c.args.context (with_policy old paths text) new held behind (Err error)) c.in_ok-file_id.ensures.number
    (subst (λ files. Comes (refused_by c.in_ok-file_id.file_id refused) c.args.context files new held behind (Err error)) c.in_ok-file_id.ensures.ok c.refuse.ensures.comes))
    c.refuse.ensures.quiet

pub returns-in_err-file_id-clause-grows : goal.returns-in_err-file_id-clause-grows
returns-in_err-file_id-clause-grows g c = grows_itself c.args.files.now c.add_policy.new.files c.in_err-file_id.ensures.err

pub returns-in-Ok-clause-grows : goal.returns-in-Ok-clause-grows
returns-in-Ok-clause-grows g c =
    grows_behind c.args.files.now c.add_policy.new.files c.load_root.new.files _ c.in_ok-file_id.ensures.ok c.load_root.ensures.grows

pub returns-in-Err-clause-grows : goal.returns-in-Err-clause-grows
returns-in-Err-clause-grows g c = (_, c.in_ok-file_id.ensures.ok)
