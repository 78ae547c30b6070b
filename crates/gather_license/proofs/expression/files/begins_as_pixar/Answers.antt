use Rattle.std.proofs.Common.{List, ℕ, nat_eq, codes, ap, ◌∙◌}
use Rattle.std.specs.List.{starts_with}
use Rattle.std.proofs.lemmas.Str.Pattern.{starts_text}
use Rattle.gather_license.proofs.expression.files.begins_as_pixar.Goals as goal

pub returns : goal.returns
returns c =
    starts_text c.starts_with.result (codes "Modified Apache 2.0 License") c.trim_start.result.now c.starts_with.ensures.cases
    ∙ ap (λ (text : List ℕ). starts_with nat_eq text (codes "Modified Apache 2.0 License")) c.trim_start.ensures.trim
