-- The texts are by the report that was made, and by what is known of the metadata.
use Rattle.std.proofs.Common.{◌∙◌, refl, ap, map}
use Rattle.graph_core.specs.selection.Listed.{record_behind}
use Rattle.run_why.proofs.TellingLemmas.{tells_by}
use Rattle.run_why.proofs.telling.texts_told.Goals as goal

pub returns : goal.returns
returns c =
    tells_by _ c.args.format c.args.has_words c.args.told.now c.args.judged.now (map record_behind c.items.result.now) c.texts.result refl refl refl refl
    (ap (map record_behind) c.items.ensures ∙ c.in_ok-krates.ensures) c.texts.ensures
