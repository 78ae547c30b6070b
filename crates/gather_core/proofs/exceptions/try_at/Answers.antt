use Rattle.std.proofs.Common.{◌≡◌, ◌∙◌, List, sym, ap, subst}
use Rattle.std.proofs.lemmas.Result.{IfOk-weaker, on_err_weaker}
use Rattle.std.specs.List.{fold}
use Rattle.std.specs.Prelude.{option_copied}
use Rattle.gather_license.specs.files.Calls.{IsFront}
use Rattle.gather_license.specs.files.KnownReads.{holds, looked_of}
use Rattle.gather_license.specs.files.NamedFile.{NamedFileView}
use Rattle.gather_license.specs.files.Steps.{with_path}
use Rattle.gather_license.specs.files.View.{paths_read}
use Rattle.gather_license.proofs.files.CallLemmas.{front_itself, goes_itself, starves_as}
use Rattle.gather_core.specs.Exceptions.{files_at, named_in}
use Rattle.gather_core.proofs.ExceptionLemmas.{files_found, files_unfound}
use Rattle.gather_core.proofs.exceptions.try_at.Goals as goal

pub returns-in-Some-clause-paths : goal.returns-in-Some-clause-paths
returns-in-Some-clause-paths g c =
    let are : named_in c.files.result.now ≡ files_at c.args.entries.now c.args.place = files_found c.args.entries.now c.args.place _ _ c.files.ensures (sym c.exception_at.ensures ∙ ap option_copied c.in-Some.is) in
    IfOk-weaker c.tries.result _ _
    (λ tried is known_reads agrees. is known_reads agrees ∙ ap (λ (files : List NamedFileView). fold with_path (paths_read c.args.pack.reads) (looked_of known_reads files)) are) c.tries.ensures.paths

pub returns-in-Some-clause-holds : goal.returns-in-Some-clause-holds
returns-in-Some-clause-holds g c =
    let are : named_in c.files.result.now ≡ files_at c.args.entries.now c.args.place = files_found c.args.entries.now c.args.place _ _ c.files.ensures (sym c.exception_at.ensures ∙ ap option_copied c.in-Some.is) in
    IfOk-weaker c.tries.result _ _ (λ tried is known_reads agrees. is known_reads agrees ∙ ap (holds known_reads) are) c.tries.ensures.holds

pub returns-in-Some-clause-no_memory : goal.returns-in-Some-clause-no_memory
returns-in-Some-clause-no_memory g c =
    let are : named_in c.files.result.now ≡ files_at c.args.entries.now c.args.place = files_found c.args.entries.now c.args.place _ _ c.files.ensures (sym c.exception_at.ensures ∙ ap option_copied c.in-Some.is) in
    let start = paths_read c.args.pack.reads in
    let named = named_in c.files.result.now in
    on_err_weaker c.tries.result
    (λ starves. starves_as c.args.pack (λ known_reads. fold with_path start (looked_of known_reads named)) (λ known_reads. fold with_path start (looked_of known_reads (files_at c.args.entries.now c.args.place))) starves
    (λ known_reads.
    subst (λ (files : List NamedFileView). IsFront (fold with_path start (looked_of known_reads named)) (fold with_path start (looked_of known_reads files))) are
    (front_itself (fold with_path start (looked_of known_reads named)))))
    c.tries.ensures.no_memory

pub returns-in-None-clause-paths : goal.returns-in-None-clause-paths
returns-in-None-clause-paths g c = λ known_reads agrees.
    sym (ap (λ (files : List NamedFileView). fold with_path (paths_read c.args.pack.reads) (looked_of known_reads files)) (files_unfound c.args.entries.now c.args.place (sym c.exception_at.ensures ∙ ap option_copied c.in-None.is)))

pub returns-in-None-clause-holds : goal.returns-in-None-clause-holds
returns-in-None-clause-holds g c = λ known_reads agrees. sym (ap (holds known_reads) (files_unfound c.args.entries.now c.args.place (sym c.exception_at.ensures ∙ ap option_copied c.in-None.is)))

pub returns-in-None-clause-goes : goal.returns-in-None-clause-goes
returns-in-None-clause-goes g c =
    let count = g.T.Tree.fault_count c.args.tree.now in
    goes_itself (g.T.Tree.content c.args.tree.now) count (g.T.Tree.trace c.args.tree.now) c.args.pack
