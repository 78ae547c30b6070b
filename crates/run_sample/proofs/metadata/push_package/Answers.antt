use Rattle.std.proofs.Common.{◌≡◌, ◌++◌, ◌∙◌, ◌%◌, OnOk, ap₂, append_assoc, string_bytes, subst}
use Rattle.run_sample.specs.Metadata.{license_text, package_head, package_tail}
use Rattle.run_sample.proofs.metadata.push_package.Goals as goal

pub returns : goal.returns
returns c =
    let i = c.args.i in
    subst (λ text. OnOk c.push_tail.result (string_bytes c.push_tail.new.out ≡ text))
    (ap₂ (λ before license. before ++ package_tail i license) c.in_ok-push_head.ensures c.license_text.ensures
    ∙ append_assoc (string_bytes c.args.out.now) (package_head i) (package_tail i (license_text (i % 4))))
    c.push_tail.ensures
