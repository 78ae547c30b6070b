use Rattle.std.proofs.Common.{ℕ, List, ap, ◌∙◌}
use Rattle.deny_text.specs.Path.{components_of}
use Rattle.gather_license.specs.files.KnownReads.{has_hash, is_absent}
use Rattle.gather_license.proofs.files.CallLemmas.{on_err, starves_for}
use Rattle.gather_license.proofs.files.PackLemmas.{lacked, matched}
use Rattle.gather_license.proofs.files.pack.LicensePack.matches.Goals as goal

pub returns-clause-holds : goal.returns-clause-holds
returns-clause-holds g c = λ known_reads agrees.
    let named = g.F.NamedFile.named c.args.file.now in
    c.has_hash.ensures
    ∙ matched known_reads c.in_ok-looked.looked.pack c.path.result.now c.in_ok-looked.looked.told c.hash.result agrees c.in_ok-looked.ensures.told
    ∙ ap (λ (hash : ℕ). has_hash hash (known_reads.file (components_of c.path.result.now))) c.hash.ensures
    ∙ ap (λ (path : List ℕ). has_hash named.hash (known_reads.file (components_of path))) c.path.ensures

pub returns-clause-absent : goal.returns-clause-absent
returns-clause-absent g c = λ known_reads agrees.
    c.is_absent.ensures
    ∙ lacked known_reads c.in_ok-looked.looked.pack c.path.result.now c.in_ok-looked.looked.told agrees c.in_ok-looked.ensures.told
    ∙ ap (λ (path : List ℕ). is_absent (known_reads.file (components_of path))) c.path.ensures

pub returns-in_err-looked-clause-no_memory : goal.returns-in_err-looked-clause-no_memory
returns-in_err-looked-clause-no_memory g c =
    on_err c.from_residual.result _
    (starves_for c.args.self c.path.result.now (g.F.NamedFile.named c.args.file.now).path c.path.ensures c.in_err-looked.ensures.no_memory)
