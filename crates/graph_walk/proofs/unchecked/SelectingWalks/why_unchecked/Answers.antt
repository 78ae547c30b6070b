-- Of what is known of the crate.
use Rattle.std.proofs.Common.{◌≡◌, take, drop, map, sym, ◌∙◌, ap, subst}
use Rattle.std.proofs.lemmas.List.{take-map, drop-map}
use Rattle.graph_core.specs.Krate.{record_of}
use Rattle.graph_core.specs.selection.Choice.{Choice, choice_of, exclude_spec_of, is_excluded}
use Rattle.graph_core.specs.selection.Places.{is_unpublished_standing, standing_at, standings_in}
use Rattle.graph_walk.specs.Unchecked.{UncheckedIs, cause_by, led_by, unled_by}
use Rattle.graph_walk.proofs.UncheckedLemmas.{crate-is, told-is}
use Rattle.graph_walk.proofs.unchecked.SelectingWalks.why_unchecked.Goals as goal

pub returns : goal.returns
returns c = λ krate at.
    let graph = c.args.metadata.now in
    let choice : Choice = choice_of c.args.selection.now in
    let words = c.args.words in
    let place = c.args.place in
    let include = c.args.include in
    let walks = c.args.self.now in
    let specs = c.items.result.now in
    let same : record_of c.index-crates-place.result ≡ krate =
    crate-is graph c.crates.result.now place c.index-crates-place.result krate c.crates.ensures.value (sym c.index-crates-place.is) at in
    let by_words : c.is_left_out.result ≡ is_excluded (take words choice.exclude) krate =
    c.is_left_out.ensures
    ∙ (ap (is_excluded (map exclude_spec_of c.parts_of.result.0.now)) same
    ∙ (ap (λ list. is_excluded (map exclude_spec_of list) krate) (c.parts_of.ensures.first ∙ ap (take words) c.items.ensures)
    ∙ ap (λ list. is_excluded list krate) (sym (take-map exclude_spec_of words c.args.selection.now.exclude)))) in
    let by_policy : c.is_left_out-2.result ≡ is_excluded (drop words choice.exclude) krate =
    c.is_left_out-2.ensures
    ∙ (ap (is_excluded (map exclude_spec_of c.parts_of.result.1.now)) same
    ∙ (ap (λ list. is_excluded (map exclude_spec_of list) krate) (c.parts_of.ensures.rest ∙ ap (drop words) c.items.ensures)
    ∙ ap (λ list. is_excluded list krate) (sym (drop-map exclude_spec_of words c.args.selection.now.exclude)))) in
    let unpublished : c.is_unpublished.result ≡ is_unpublished_standing (standing_at (standings_in graph choice) place) =
    c.is_unpublished.ensures
    ∙ ap is_unpublished_standing (c.standing_at-standing.ensures ∙ ap (λ list. standing_at list place) c.requires.told) in
    let unled : c.unled.result ≡ unled_by include (led_by walks.all walks.without_dev walks.without_build place) =
    c.unled.ensures ∙ ap (unled_by include) c.led_of.ensures in
    let all : c.cause.result ≡ cause_by (is_excluded (take words choice.exclude) krate) (is_excluded (drop words choice.exclude) krate)
    (is_unpublished_standing (standing_at (standings_in graph choice) place))
    (unled_by include (led_by walks.all walks.without_dev walks.without_build place)) =
    c.cause.ensures
    ∙ (ap (λ b. cause_by b c.is_left_out-2.result c.is_unpublished.result c.unled.result) by_words
    ∙ (ap (λ b. cause_by (is_excluded (take words choice.exclude) krate) b c.is_unpublished.result c.unled.result) by_policy
    ∙ (ap (λ b. cause_by (is_excluded (take words choice.exclude) krate) (is_excluded (drop words choice.exclude) krate) b c.unled.result) unpublished
    ∙ ap (cause_by (is_excluded (take words choice.exclude) krate) (is_excluded (drop words choice.exclude) krate)
    (is_unpublished_standing (standing_at (standings_in graph choice) place))) unled))) in
    subst (UncheckedIs graph choice words include krate) (sym all)
    (told-is graph choice words include krate c.crates.ensures.rising place at walks.all walks.without_dev walks.without_build c.requires.walks)
