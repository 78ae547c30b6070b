use Rattle.std.proofs.Common.{◌≡◌, true, false, cond, Some, None, [], ◌∷◌, map, drop, ap, sym, ◌∙◌, ◌+◌, rules}
use Rattle.std.specs.List.{fold}
use Rattle.std.proofs.lemmas.List.{at_drop_more}
use Rattle.gather_license.specs.files.KnownReads.{holds, looked_of, matches, missing_from}
use Rattle.gather_license.specs.files.Steps.{with_path}
use Rattle.gather_license.specs.files.View.{paths_read}
use Rattle.gather_license.proofs.files.CallLemmas.{agrees_before, goes_then, on_err, starves_looks}
use Rattle.gather_license.proofs.files.PackLemmas.{holds_on, holds_not, looks_on, looks_not, missing_here, missing_on}
use Rattle.gather_license.proofs.files.pack.LicensePack.tries.Goals as goal

pub returns-then-not-tried-clause-paths : goal.returns-then-not-tried-clause-paths
returns-then-not-tried-clause-paths g c = λ known_reads agrees.
    let named_of = g.F.NamedFile.named in
    let place = c.files.place in
    let item = c.index-files-place.result in
    let rest = drop (place + 1) c.args.files.now in
    let failed : c.in_ok-tried.tried.holds ≡ false = search rules in
    sym (c.files.invariant.looks_rest known_reads (agrees_before _ _ _ known_reads c.in_ok-tried.ensures.goes.takes agrees)
    ∙ at_drop_more (λ files. fold with_path (paths_read c.files.pack.reads) (looked_of known_reads (map named_of files))) c.args.files.now place item c.files-test.true
    ∙ ap (λ one. fold with_path (paths_read c.files.pack.reads) (looked_of known_reads (map named_of (one ∷ rest)))) (sym c.index-files-place.is)
    ∙ looks_not known_reads (paths_read c.files.pack.reads) (named_of item) (map named_of rest) c.in_ok-tried.tried.holds (c.in_ok-tried.ensures.holds known_reads agrees) failed
    ∙ sym c.in_ok-tried.ensures.paths)

pub returns-then-not-tried-clause-holds : goal.returns-then-not-tried-clause-holds
returns-then-not-tried-clause-holds g c = λ known_reads agrees.
    let named_of = g.F.NamedFile.named in
    let place = c.files.place in
    let item = c.index-files-place.result in
    let rest = drop (place + 1) c.args.files.now in
    let failed : c.in_ok-tried.tried.holds ≡ false = search rules in
    sym (c.files.invariant.holds_rest known_reads (agrees_before _ _ _ known_reads c.in_ok-tried.ensures.goes.takes agrees)
    ∙ at_drop_more (λ files. holds known_reads (map named_of files)) c.args.files.now place item c.files-test.true
    ∙ ap (λ one. holds known_reads (map named_of (one ∷ rest))) (sym c.index-files-place.is)
    ∙ holds_not known_reads (named_of item) (map named_of rest) c.in_ok-tried.tried.holds (c.in_ok-tried.ensures.holds known_reads agrees) failed)

pub returns-then-not-tried-clause-missing : goal.returns-then-not-tried-clause-missing
returns-then-not-tried-clause-missing g c = λ known_reads agrees.
    let named_of = g.F.NamedFile.named in
    let place = c.files.place in
    let item = c.index-files-place.result in
    let rest = drop (place + 1) c.args.files.now in
    let failed : c.in_ok-tried.tried.holds ≡ false = search rules in
    c.number_where.ensures
    ∙ sym (c.files.invariant.missing_rest known_reads (agrees_before _ _ _ known_reads c.in_ok-tried.ensures.goes.takes agrees)
    ∙ at_drop_more (λ files. missing_from known_reads place (map named_of files)) c.args.files.now place item c.files-test.true
    ∙ ap (λ one. missing_from known_reads place (map named_of (one ∷ rest))) (sym c.index-files-place.is)
    ∙ missing_here known_reads place (named_of item) (map named_of rest) c.in_ok-tried.tried.holds (c.in_ok-tried.ensures.holds known_reads agrees) failed
    ∙ ap (λ b. cond b (Some place) None) (sym (c.in_ok-tried.ensures.absent known_reads agrees)))

pub files-preserved : goal.files-preserved
files-preserved g c =
    let so_far = c.files.invariant in
    let named_of = g.F.NamedFile.named in
    let place = c.files.place in
    let item = c.index-files-place.result in
    let rest = drop (place + 1) c.args.files.now in
    let new = c.in_ok-tried.tried.pack in
    let passed : c.in_ok-tried.tried.holds ≡ true = search rules in
    record {
      goes_by = goes_then c.args.self c.files.pack new so_far.goes_by c.in_ok-tried.ensures.goes;
      holds_rest = λ known_reads agrees.
          so_far.holds_rest known_reads (agrees_before _ _ _ known_reads c.in_ok-tried.ensures.goes.takes agrees)
          ∙ at_drop_more (λ files. holds known_reads (map named_of files)) c.args.files.now place item c.files-test.true
          ∙ ap (λ one. holds known_reads (map named_of (one ∷ rest))) (sym c.index-files-place.is)
          ∙ holds_on known_reads (named_of item) (map named_of rest) c.in_ok-tried.tried.holds (c.in_ok-tried.ensures.holds known_reads agrees) passed;
      looks_rest = λ known_reads agrees.
          so_far.looks_rest known_reads (agrees_before _ _ _ known_reads c.in_ok-tried.ensures.goes.takes agrees)
          ∙ at_drop_more (λ files. fold with_path (paths_read c.files.pack.reads) (looked_of known_reads (map named_of files))) c.args.files.now place item c.files-test.true
          ∙ ap (λ one. fold with_path (paths_read c.files.pack.reads) (looked_of known_reads (map named_of (one ∷ rest)))) (sym c.index-files-place.is)
          ∙ looks_on known_reads (paths_read c.files.pack.reads) (named_of item) (map named_of rest) c.in_ok-tried.tried.holds (c.in_ok-tried.ensures.holds known_reads agrees) passed
          ∙ ap (λ paths. fold with_path paths (looked_of known_reads (map named_of rest))) (sym c.in_ok-tried.ensures.paths);
      missing_rest = λ known_reads agrees.
          so_far.missing_rest known_reads (agrees_before _ _ _ known_reads c.in_ok-tried.ensures.goes.takes agrees)
          ∙ at_drop_more (λ files. missing_from known_reads place (map named_of files)) c.args.files.now place item c.files-test.true
          ∙ ap (λ one. missing_from known_reads place (map named_of (one ∷ rest))) (sym c.index-files-place.is)
          ∙ missing_on known_reads place (named_of item) (map named_of rest) c.in_ok-tried.tried.holds (c.in_ok-tried.ensures.holds known_reads agrees) passed;
    }

pub returns-then-not-tried-clause-goes : goal.returns-then-not-tried-clause-goes
returns-then-not-tried-clause-goes g c = goes_then c.args.self c.files.pack c.in_ok-tried.tried.pack c.files.invariant.goes_by c.in_ok-tried.ensures.goes

pub returns-in_err-tried-clause-no_memory : goal.returns-in_err-tried-clause-no_memory
returns-in_err-tried-clause-no_memory g c =
    let named_of = g.F.NamedFile.named in
    let place = c.files.place in
    let item = c.index-files-place.result in
    let rest = drop (place + 1) c.args.files.now in
    on_err c.from_residual.result _ (starves_looks c.args.self c.files.pack (named_of item).path (λ known_reads. fold with_path (paths_read c.args.self.reads) (looked_of known_reads (map named_of c.args.files.now)))
    c.files.invariant.goes_by c.in_err-tried.ensures.no_memory (λ known_reads. cond (matches known_reads (named_of item)) (looked_of known_reads (map named_of rest)) [])
    (λ known_reads agrees.
    c.files.invariant.looks_rest known_reads agrees
    ∙ at_drop_more (λ files. fold with_path (paths_read c.files.pack.reads) (looked_of known_reads (map named_of files))) c.args.files.now place item c.files-test.true
    ∙ ap (λ one. fold with_path (paths_read c.files.pack.reads) (looked_of known_reads (map named_of (one ∷ rest)))) (sym c.index-files-place.is)))
