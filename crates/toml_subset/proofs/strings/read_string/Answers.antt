use Rattle.std.proofs.Common.{◌≡◌, Some, sym, ap, ◌∙◌}
use Rattle.toml_subset.specs.StringViews.{kind_of, quoting_start}
use Rattle.std.specs.Prelude.{option_map}
use Rattle.toml_subset.specs.Strings.{opening}
use Rattle.toml_subset.proofs.Escapes.{opening_border}
use Rattle.toml_subset.proofs.strings.read_string.Goals as goal

pub read_body-requires : goal.read_body-requires
read_body-requires c =
    let text = c.args.text.now in
    let is : opening text c.args.place ≡ Some (kind_of c.in-Some.quotes, c.in-Some.first) =
    sym (ap (λ s. opening s c.args.place) c.as_bytes.ensures.value) ∙ sym c.opening.ensures ∙ ap (option_map quoting_start) c.in-Some.is in
    opening_border text c.utf8.text c.args.place (kind_of c.in-Some.quotes, c.in-Some.first) is
