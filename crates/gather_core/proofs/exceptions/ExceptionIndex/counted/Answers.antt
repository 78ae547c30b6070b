use Rattle.std.proofs.Common.{◌≡◌, ◌∙◌, true, false, sym, ap, subst, rules}
use Rattle.std.proofs.lemmas.Result.{on_err_weaker}
use Rattle.std.specs.List.{fold}
use Rattle.graph_core.specs.Krate.{record_of}
use Rattle.gather_license.specs.files.Calls.{IsFront}
use Rattle.gather_license.specs.files.Steps.{with_path}
use Rattle.gather_license.specs.files.View.{paths_read}
use Rattle.gather_license.proofs.files.CallLemmas.{front_itself, front_looks, goes_itself, on_err, starves_as, starves_behind}
use Rattle.gather_core.specs.Exceptions.{named_by_each, named_for}
use Rattle.gather_core.proofs.ExceptionLemmas.{counted_first, named_each, named_none}
use Rattle.gather_core.proofs.exceptions.ExceptionIndex.counted.Goals as goal

pub returns-then-self-clause-no_memory : goal.returns-then-self-clause-no_memory
returns-then-self-clause-no_memory g c =
    let all = c.args.self.now in
    let krate = record_of c.args.krate.now in
    let on : all.each_counts ≡ true = search rules in
    let start = paths_read c.args.pack.reads in
    on_err_weaker c.each.result
    (λ starves. starves_as c.args.pack (λ known_reads. fold with_path start (named_by_each all.entries krate known_reads)) (λ known_reads. fold with_path start (named_for all krate known_reads)) starves
    (λ known_reads.
    subst (IsFront (fold with_path start (named_by_each all.entries krate known_reads))) (ap (fold with_path start) (sym (named_each all krate known_reads on)))
    (front_itself (fold with_path start (named_by_each all.entries krate known_reads)))))
    c.each.ensures.no_memory

pub returns-clause-places : goal.returns-clause-places
returns-clause-places g c = λ known_reads agrees.
    let all = c.args.self.now in
    let off : all.each_counts ≡ false = search rules in
    c.in_ok-places.ensures ∙ sym (counted_first all (record_of c.args.krate.now) known_reads off)

pub returns-clause-paths : goal.returns-clause-paths
returns-clause-paths g c = λ known_reads agrees.
    let all = c.args.self.now in
    let off : all.each_counts ≡ false = search rules in
    sym (ap (fold with_path (paths_read c.args.pack.reads)) (named_none all (record_of c.args.krate.now) known_reads off))

pub returns-clause-goes : goal.returns-clause-goes
returns-clause-goes g c =
    let count = g.T.Tree.fault_count c.args.tree.now in
    goes_itself (g.T.Tree.content c.args.tree.now) count (g.T.Tree.trace c.args.tree.now) c.args.pack

pub returns-in_err-places-clause-no_memory : goal.returns-in_err-places-clause-no_memory
returns-in_err-places-clause-no_memory g c =
    let all = c.args.self.now in
    let krate = record_of c.args.krate.now in
    let pack = c.args.pack in
    let start = paths_read pack.reads in
    let count = g.T.Tree.fault_count c.args.tree.now in
    on_err c.from_residual.result _
    (starves_behind pack pack (λ known_reads. fold with_path start (named_for all krate known_reads)) (goes_itself (g.T.Tree.content c.args.tree.now) count (g.T.Tree.trace c.args.tree.now) pack)
    (λ known_reads agrees. front_looks start (named_for all krate known_reads)))
