use Rattle.std.proofs.Common.{◌≡◌, suc, ◌++◌, List, ◌∷◌, ℕ, false, string_bytes, All, subst, sym, ap, ◌∙◌, append_assoc, arith}
use Rattle.diag_print.specs.Places.{LabelsAreInside}
use Rattle.diag_print.specs.Printed.{is_printed, printed_at, all_printed_at}
use Rattle.diag_print.proofs.printer.DiagPrinter.push_pack_text.Goals as goal

first_of_all : {A : Type 0} (P : A → Type 0) (items rest : List A) (item : A) → items ≡ item ∷ rest → All P items → P item
first_of_all P items rest item cut all = subst (All P) cut all 0 item (omega arith)

rest_of_all : {A : Type 0} (P : A → Type 0) (items rest : List A) (item : A) → items ≡ item ∷ rest → All P items → All P rest
rest_of_all P items rest item cut all k d within = subst (All P) cut all (suc k) d (omega arith)

written_step : (old new piece rest whole : List ℕ) → new ≡ old ++ piece → old ++ (piece ++ rest) ≡ whole → new ++ rest ≡ whole
written_step old new piece rest whole more e = ap (λ text. text ++ rest) more ∙ append_assoc old piece rest ∙ e

pub push_text-requires : goal.push_text-requires
push_text-requires c = first_of_all (λ finding. LabelsAreInside c.args.files.now finding.diag) _ _ c.in-Some.finding.now c.in-Some.ensures.steps c.findings.invariant.3

pub findings-preserved : goal.findings-preserved
findings-preserved c =
    let old = string_bytes c.findings.out in
    let before = ap (λ findings. old ++ all_printed_at c.args.self.now c.args.files.now findings) (sym c.in-Some.ensures.steps) ∙ c.findings.invariant.2 in (
      tt,
      tt,
      written_step old _ (printed_at c.args.self.now c.args.files.now c.in-Some.finding.now.diag) _ _ c.in_ok-push_text.ensures.ok before,
      rest_of_all (λ finding. LabelsAreInside c.args.files.now finding.diag) _ _ c.in-Some.finding.now c.in-Some.ensures.steps c.findings.invariant.3,
      λ below. rest_of_all (λ finding. is_printed c.args.self.now.log_level finding.diag.severity ≡ false) _ _ c.in-Some.finding.now c.in-Some.ensures.steps (c.findings.invariant.4 below),
    )
