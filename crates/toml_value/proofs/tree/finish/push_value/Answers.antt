use Rattle.std.proofs.Common.{◌∷◌, sym, ap, ◌∙◌}
use Rattle.toml_value.specs.FinishViews.{joined_entries, left_of}
use Rattle.toml_value.specs.Views.{value_view, entries_view}
use Rattle.toml_value.proofs.FinishLemmas.{left_step}
use Rattle.toml_value.proofs.tree.finish.push_value.Goals as goal

pub returns-in_default : goal.returns-in_default
returns-in_default c node nodes is =
    let entries = entries_view c.args.entries.now in
    ap (λ ks. joined_entries entries (left_of ks (node ∷ nodes))) c.in_default.ensures.0 ∙ sym (ap (λ ks. joined_entries entries (left_of ks nodes)) c.in_default.ensures.1)

pub returns : goal.returns
returns c node nodes is =
    let entries = entries_view c.args.entries.now in
    ap (λ ks. joined_entries entries (left_of ks (node ∷ nodes))) c.in-Some.ensures
    ∙ left_step entries (entries_view c.push.new.self) c.in-Some.key node c.next.new.self nodes (value_view c.args.value) is c.in_ok-push.ensures.ok
