use Rattle.std.proofs.Common.{OnOk, ◌≡◌, ◌∷◌, codes, subst}
use Rattle.diag_core.specs.texts.Manifest.{field_pieces}
use Rattle.diag_core.specs.texts.Synthetic.{PlacedText, marked, plain, written_all}
use Rattle.diag_core.proofs.texts.synthetic.Synthetic.write_manifest.Goals as goal

-- each write is the next piece
pub returns-clause-ok : goal.returns-clause-ok
returns-clause-ok c =
    let rest = field_pieces c.args.field.now in
    let behind = plain (codes "\"\nversion = \"") ∷ plain c.args.version.now ∷ rest in
    let Done : PlacedText → Type 0 = λ kept. OnOk c.write_field.result (c.write_field.new.self ≡ kept) in
    subst (λ kept. Done (written_all kept (marked c.args.name.now ∷ behind))) c.in_ok-write.ensures.ok
    (subst (λ kept. Done (written_all kept behind)) c.in_ok-write-2.ensures.ok
    (subst (λ kept. Done (written_all kept (plain c.args.version.now ∷ rest))) c.in_ok-write-3.ensures.ok
    (subst (λ kept. Done (written_all kept rest)) c.in_ok-write-4.ensures.ok c.write_field.ensures.ok)))
