use Rattle.std.proofs.Common.{◌∙◌, ap}
use Rattle.std.specs.List.{list_any}
use Rattle.std.specs.Str.{str_eq_ignore_ascii_case}
use Rattle.spdx_terms.specs.catalog.Catalog.{names_of}
use Rattle.spdx_own_names.specs.File.{is_among}
use Rattle.spdx_own_names.specs.IndexView.{meanings_listed, texts_lowered}
use Rattle.spdx_own_names.proofs.FormLemmas.{lowered_among}
use Rattle.spdx_own_names.proofs.IndexLemmas.{found_name}
use Rattle.spdx_own_names.proofs.meanings.MeaningList.has.Goals as goal

pub returns : goal.returns
returns c =
    let pairs = meanings_listed c.self.inside.listed in
    c.is_some.ensures
    ∙ found_name c.self.inside.lowered (texts_lowered pairs) c.as_str.result.now c.get.result c.self.invariant c.get.ensures
    ∙ ap (λ name. is_among name (texts_lowered pairs)) (c.as_str.ensures ∙ c.in_ok-lower.ensures)
    ∙ lowered_among c.args.text.now pairs
    ∙ ap (λ those. list_any (str_eq_ignore_ascii_case c.args.text.now) (names_of those)) c.self.view_is
