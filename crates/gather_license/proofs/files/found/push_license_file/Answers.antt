use Rattle.std.proofs.Common.{◌≡◌, ℕ, true, false, List, option_copied, sym, ap, ◌∙◌, [], ◌∷◌, ◌++◌}
use Rattle.std.proofs.lemmas.Result.{on_ok_weaker}
use Rattle.std.specs.List.{list_any}
use Rattle.gather_license.specs.files.Pack.{ends_with_parts}
use Rattle.gather_license.proofs.files.FoundLemmas.{license_file_given}
use Rattle.gather_license.proofs.files.found.push_license_file.Goals as goal

pub returns-then-some_ends_with : goal.returns-then-some_ends_with
returns-then-some_ends_with c =
    let is : list_any (λ name. ends_with_parts name c.in-Some.file.now) c.args.names.now ≡ true =
    ap (λ (end : List ℕ). list_any (λ name. ends_with_parts name end) c.args.names.now) (sym c.as_path.ensures)
    ∙ ap (λ (names : List (List ℕ)). list_any (λ name. ends_with_parts name c.as_path.result.now) names) (sym c.items.ensures)
    ∙ sym c.some_ends_with.ensures ∙ c.if-some_ends_with.true in
    sym (license_file_given true _ c.in-Some.file.now c.args.names.now (ap option_copied c.in-Some.is) is)

pub returns : goal.returns
returns c =
    let is : list_any (λ name. ends_with_parts name c.in-Some.file.now) c.args.names.now ≡ false =
    ap (λ (end : List ℕ). list_any (λ name. ends_with_parts name end) c.args.names.now) (sym c.as_path.ensures)
    ∙ ap (λ (names : List (List ℕ)). list_any (λ name. ends_with_parts name c.as_path.result.now) names) (sym c.items.ensures)
    ∙ sym c.some_ends_with.ensures ∙ c.if-some_ends_with.false in
    on_ok_weaker c.push.result
    (λ pushed. pushed ∙ ap (λ (file : List ℕ). c.args.names.now ++ file ∷ []) (c.in_ok-file.ensures ∙ c.as_path-2.ensures)
    ∙ sym (license_file_given false _ c.in-Some.file.now c.args.names.now (ap option_copied c.in-Some.is) is))
    c.push.ensures.ok
