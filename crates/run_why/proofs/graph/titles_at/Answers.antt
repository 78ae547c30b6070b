-- One more place.
use Rattle.std.proofs.Common.{◌∙◌, ◌++◌, ap₂, sym, List, Option}
use Rattle.std.specs.Option.{option_to_list}
use Rattle.check_why.specs.declared.answer.CrateTitle.{CrateTitle}
use Rattle.run_why.proofs.GraphLemmas.{item_at, titles_more}
use Rattle.run_why.proofs.graph.titles_at.Goals as goal

pub places-preserved : goal.places-preserved
places-preserved c =
    let titles = c.args.titles.now in
    let places = c.args.places.now in
    let i = c.places.place-index in
    c.in_ok-push_title.ensures
    ∙ ap₂ (λ (front : List CrateTitle) (title : Option CrateTitle). front ++ option_to_list title) c.places.invariant (item_at titles _ c.get.result c.get.ensures.lookup)
    ∙ sym (titles_more titles places i c.places-test.true)
