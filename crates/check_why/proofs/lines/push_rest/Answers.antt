use Rattle.std.proofs.Common.{◌∙◌, ◌++◌, List, ℕ, ap, append_assoc, codes, string_bytes}
use Rattle.check_why.specs.declared.answer.CrateTitle.{CrateTitle}
use Rattle.check_why.specs.Lines.{file_lines, line, needed_text}
use Rattle.check_why.proofs.lines.push_rest.Goals as goal

pub returns : goal.returns
returns c =
    let one = c.args.one.now in
    let before = string_bytes c.args.out.now in
    c.in_ok-push_files.ensures
    ∙ ap (λ (text : List ℕ). text ++ file_lines one)
    (c.in_ok-push_needed.ensures ∙ ap (λ (titles : List CrateTitle). before ++ line (codes "needed by: " ++ needed_text titles)) c.items.ensures)
    ∙ append_assoc before (line (codes "needed by: " ++ needed_text one.needed_by)) (file_lines one)
