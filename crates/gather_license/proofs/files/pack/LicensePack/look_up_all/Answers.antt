use Rattle.std.specs.List.{fold}
use Rattle.std.proofs.Common.{◌+◌, List, ℕ, ap, sym, subst, ◌∙◌}
use Rattle.gather_license.specs.files.Calls.{IsFront}
use Rattle.gather_license.specs.files.Steps.{with_path}
use Rattle.gather_license.specs.files.View.{paths_read}
use Rattle.gather_license.proofs.files.CallLemmas.{front_taken, goes_then, on_err, starves_then}
use Rattle.gather_license.proofs.files.PackLemmas.{fold_more}
use Rattle.gather_license.proofs.files.pack.LicensePack.look_up_all.Goals as goal

pub paths-preserved : goal.paths-preserved
paths-preserved g c =
    let so_far = c.paths.invariant in
    record {
      goes_by = goes_then c.args.self c.paths.pack c.in_ok-looked.looked.pack so_far.goes_by c.in_ok-looked.ensures.goes;
      read =
          c.in_ok-looked.ensures.paths ∙ ap (λ paths. with_path paths c.path-item.result) so_far.read
          ∙ sym (fold_more (paths_read c.args.self.reads) c.args.paths.now c.paths.path-index c.path-item.result c.paths-test.true c.path-item.is);
    }

pub returns-in_err-looked-clause-no_memory : goal.returns-in_err-looked-clause-no_memory
returns-in_err-looked-clause-no_memory g c =
    let so_far = c.paths.invariant in
    let start = paths_read c.args.self.reads in
    let paths = c.args.paths.now in
    let n = c.paths.path-index in
    let path = c.path-item.result in
    on_err c.from_residual.result _ (starves_then c.args.self c.paths.pack (λ known_reads. with_path (paths_read c.paths.pack.reads) path) (λ known_reads. fold with_path start paths) so_far.goes_by c.in_err-looked.ensures.no_memory
    (λ known_reads agrees.
    subst (λ (front : List (List ℕ)). IsFront front (fold with_path start paths))
    (sym (ap (λ (before : List (List ℕ)). with_path before path) so_far.read ∙ sym (fold_more start paths n path c.paths-test.true c.path-item.is)))
    (front_taken start paths (n + 1))))
