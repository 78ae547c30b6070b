use Rattle.std.proofs.Common.{◌≡◌, sym, ap, map, ◌∙◌}
use Rattle.std.proofs.lemmas.Result.{IfOk-weaker}
use Rattle.toml_value.specs.Removal.{names_in}
use Rattle.toml_value.specs.Views.{entries_view}
use Rattle.toml_value.proofs.RemovalLemmas.{names_in-list}
use Rattle.toml_value.proofs.ValueViews.{entries_view-is}
use Rattle.toml_value.proofs.value.Entries.names.Goals as goal

pub returns : goal.returns
returns c =
    let all = ap (map (λ p. p.0.name.text)) c.deref.ensures.value ∙ names_in-list _ ∙ ap names_in (sym (entries_view-is c.args.self.now)) in
    IfOk-weaker c.names_of.result _ (λ names. names ≡ names_in (entries_view c.args.self.now)) (λ names e. e ∙ all) c.names_of.ensures
