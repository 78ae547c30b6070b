use Rattle.std.proofs.Common.{inl, inr, refl, sym, subst}
use Rattle.policy_core.proofs.ExceptionLemmas.{grows_itself}
use Rattle.tree_core.proofs.MadeLemmas.{some_joined}
use Rattle.policy_load.specs.Answer.{LoadsBy}
use Rattle.policy_load.specs.Load.{error_of_config}
use Rattle.policy_load.specs.declared.error.LoadError.TheVariants.{Memory}
use Rattle.policy_load.proofs.CallLemmas.{counts_of, reads_either, reads_refused}
use Rattle.policy_load.proofs.LoadLemmas.{handed_on}
use Rattle.policy_load.proofs.loading.load.Goals as goal

pub returns-in_err-heard-clause-reads : goal.returns-in_err-heard-clause-reads
returns-in_err-heard-clause-reads g c =
    inl (record {
      unprinted = record { memory = handed_on c.from_residual.result Memory c.from_residual.ensures.1; same = refl };
      calls_are = inl c.in_err-heard.ensures.no_memory;
    })

pub returns-in_err-found-clause-reads : goal.returns-in_err-found-clause-reads
returns-in_err-found-clause-reads g c =
    let lists = g.C.Catalog.lists c.args.catalog.now in
    let first = g.T.Tree.fault_count c.args.tree.now in
    let after = g.T.Tree.fault_count c.hear.new.tree in
    let calls = g.T.Tree.trace c.args.tree.now in
    let more = g.T.Tree.trace c.hear.new.tree in
    let held = g.S.Sink.written c.args.sink.now in
    let files = c.args.files.now in
    let refused = c.in_err-found.field-0.0 in
    inr (subst (λ result. LoadsBy lists c.args.context c.args.paths c.args.begun first after calls more files files held held result)
    (sym (handed_on c.from_residual-in_err-found.result (error_of_config refused) c.from_residual-in_err-found.ensures.1))
    (reads_refused lists c.args.context c.args.paths c.args.begun first after calls more files held c.in_ok-heard.heard refused (error_of_config refused)
    c.in_ok-heard.ensures.read (counts_of c.hear.ensures.made) (sym c.in_err-found.ensures.told) refl))

pub returns-clause-reads : goal.returns-clause-reads
returns-clause-reads g c =
    let lists = g.C.Catalog.lists c.args.catalog.now in
    let first = g.T.Tree.fault_count c.args.tree.now in
    let mid = g.T.Tree.fault_count c.hear.new.tree in
    let after = g.T.Tree.fault_count c.load_text.new.tree in
    let calls = g.T.Tree.trace c.args.tree.now in
    let between = g.T.Tree.trace c.hear.new.tree in
    let more = g.T.Tree.trace c.load_text.new.tree in
    let held = g.S.Sink.written c.args.sink.now in
    let behind = g.S.Sink.written c.load_text.new.sink in
    reads_either lists c.args.context c.args.paths c.in_ok-found.found mid after between more c.args.files.now c.args.begun first calls c.in_ok-heard.heard c.load_text.new.files held behind c.load_text.result
    (sym c.in_ok-found.ensures.told) c.in_ok-heard.ensures.read (counts_of c.hear.ensures.made) c.load_text.ensures.reads

pub returns-clause-made : goal.returns-clause-made
returns-clause-made g c = some_joined c.hear.ensures.made c.load_text.ensures.made

pub returns-in_err-heard-clause-grows : goal.returns-in_err-heard-clause-grows
returns-in_err-heard-clause-grows g c = grows_itself c.args.files.now c.args.files.now refl

pub returns-in_err-found-clause-grows : goal.returns-in_err-found-clause-grows
returns-in_err-found-clause-grows g c = grows_itself c.args.files.now c.args.files.now refl
