use Rattle.std.proofs.Common.{◌∙◌, ap}
use Rattle.std.specs.List.{position}
use Rattle.std.specs.Str.{bytes_eq}
use Rattle.toml_subset.specs.declared.string.Key.{Key}
use Rattle.toml_subset.specs.key_index.KeyPlaces.{first_key_place}
use Rattle.toml_subset.proofs.key_index.Lemmas.{position-place}
use Rattle.toml_subset.proofs.key_index.KeyIndex.find.Goals as goal

pub returns-then-len-le-FEW : goal.returns-then-len-le-FEW
returns-then-len-le-FEW c =
    let name = c.args.name.now in
    c.scan.ensures ∙ ap (λ (keys : _). position (λ (key : Key). bytes_eq name key.name.text) keys) c.deref.ensures.value
    ∙ position-place name c.self.inside.keys.items ∙ ap (first_key_place name) c.self.view_is
