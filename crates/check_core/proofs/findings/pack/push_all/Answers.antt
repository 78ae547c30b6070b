use Rattle.std.proofs.Common.{◌∙◌, sym, ap, List, [], ◌∷◌, ◌++◌, map, append_assoc}
use Rattle.std.proofs.lemmas.List.{map_push}
use Rattle.diag_core.specs.declared.pack.Diag.{Diag}
use Rattle.diag_core.specs.Pack.{PackOf, with_crate}
use Rattle.check_core.proofs.findings.pack.push_all.Goals as goal

pub findings-preserved : goal.findings-preserved
findings-preserved c =
    let old = c.args.pack.now in
    let about = with_crate old.kid in
    let finding = c.in-Some.finding in
    let done = map about c.findings.yielded in
    c.in_ok-push.ensures.ok
    ∙ ap (λ (pack : PackOf). record pack { findings = pack.findings ++ with_crate pack.kid finding ∷ [] }) c.findings.invariant
    ∙ ap (λ (l : List Diag). record old { findings = l })
    (append_assoc old.findings done (about finding ∷ [])
    ∙ ap (λ (l : List Diag). old.findings ++ l) (sym (map_push about c.findings.yielded finding)))
