use Rattle.std.proofs.Common.{subst}
use Rattle.policy_core.specs.ExceptionsText.{ReadsExceptions}
use Rattle.policy_core.proofs.AnswerLemmas.{taken}
use Rattle.policy_core.proofs.ExceptionLemmas.{grows_itself, no_more_entries}
use Rattle.policy_core.proofs.exceptions.take_text.Goals as goal

pub returns-in-Ok-clause-taken : goal.returns-in-Ok-clause-taken
returns-in-Ok-clause-taken g c =
    let lists = g.C.Catalog.lists c.args.catalog.now in
    let read = c.read_exceptions-read.result in
    taken c.keep_or_tell.result lists c.args.path c.args.text c.in-Ok.file read c.args.cfg.now c.args.files.now c.args.diags.now
    c.keep_or_tell.new.cfg c.add_indexed.new.self c.keep_or_tell.new.diags
    c.keep_or_tell.ensures.answered c.keep_or_tell.ensures.policy c.keep_or_tell.ensures.clarifications c.keep_or_tell.ensures.exceptions
    c.keep_or_tell.ensures.told
    (subst (λ text. ReadsExceptions lists text read) c.as_str.ensures c.read_exceptions-read.ensures.reads)
    c.in-Ok.ensures.number c.in-Ok.ensures.ok

pub returns-in-Ok-clause-grows : goal.returns-in-Ok-clause-grows
returns-in-Ok-clause-grows g c = (_, c.in-Ok.ensures.ok)

pub returns-in-Err-clause-grows : goal.returns-in-Err-clause-grows
returns-in-Err-clause-grows g c = grows_itself c.args.files.now c.add_indexed.new.self c.in-Err.ensures.err

pub returns-in-Err-clause-policy : goal.returns-in-Err-clause-policy
returns-in-Err-clause-policy g c = no_more_entries c.args.cfg.now
