-- What was told so far, with the crate at the next place, and what is told from the one behind it on.
use Rattle.std.proofs.Common.{◌≡◌, ◌∙◌, ◌<◌, ◌++◌, sym, ap, subst, length, drop, map, arith, ◌+◌, ◌≤◌, List}
use Rattle.std.specs.Option.{option_copied, option_map}
use Rattle.std.specs.Prelude.{slice_get}
use Rattle.check_core.specs.declared.report.CrateReport.{CrateReport}
use Rattle.graph_core.specs.selection.Listed.{record_behind}
use Rattle.std.proofs.lemmas.Option.{slice_get-map}
use Rattle.run_why.specs.Steps.{cause_at, texts_from, texts_of}
use Rattle.run_why.proofs.GraphLemmas.{item_at}
use Rattle.run_why.proofs.TellingLemmas.{behind_next, texts_end, texts_more}
use Rattle.run_why.proofs.telling.Telling.texts.Goals as goal

pub places-preserved : goal.places-preserved
places-preserved c =
    let self = c.args.self.now in
    let krates = c.args.krates.now in
    let causes = self.told.now.causes.items in
    let place = c.places.place in
    let next = c.places.next in
    let here = c.places-test.true in
    let counted = c.len-count.ensures in
    let whole = c.requires.whole.causes in
    let within : place < length causes = omega (arith, here, counted, whole) in
    let before = c.places.invariant.next in
    let further = behind_next (cause_at causes place) next in
    record {
      texts =
          subst (λ n. c.push_at.new.texts ++ texts_from self (place + 1) n (drop (place + 1) causes) (map record_behind krates) self.report.now.crates ≡ texts_of self (map record_behind krates))
          (sym c.behind-next.ensures)
          (texts_more self place next c.places.texts c.push_at.new.texts (map record_behind krates) (option_map record_behind c.krate_at-krate.result) (option_copied c.get.result) (texts_of self (map record_behind krates))
          within (ap (option_map record_behind) c.krate_at-krate.ensures ∙ sym (slice_get-map record_behind krates next))
          (item_at c.items-reports.result.now next c.get.result c.get.ensures.lookup ∙ ap (λ (all : List CrateReport). slice_get all next) c.items-reports.ensures) c.in_ok-push_at.ensures c.places.invariant.texts);
      next = (let same = c.behind-next.ensures in omega (arith, before, further, same));
    }

pub returns : goal.returns
returns c =
    let self = c.args.self.now in
    let here = c.places-test.false in
    let counted = c.len-count.ensures in
    let whole = c.requires.whole.causes in
    let past : length self.told.now.causes.items ≤ c.places.place = omega (arith, here, counted, whole) in
    record { are = texts_end self c.places.place c.places.next c.places.texts (map record_behind c.args.krates.now) (texts_of self (map record_behind c.args.krates.now)) past c.places.invariant.texts }
