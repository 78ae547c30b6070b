-- What is known of each crate, part by part.
use Rattle.std.proofs.Common.{◌∙◌, refl, ap, map}
use Rattle.graph_core.specs.Krate.{record_of}
use Rattle.check_why.specs.Answer.{title_of}
use Rattle.run_why.specs.Named.{is_named}
use Rattle.run_why.proofs.GraphLemmas.{titles_are}
use Rattle.run_why.proofs.graph.GraphTold.of.Goals as goal

pub returns : goal.returns
returns c =
    let krates = c.crates-krates.result.now in
    record {
      titles = c.in_ok-titles.ensures ∙ titles_are krates ∙ ap (map title_of) c.crates-krates.ensures.value;
      causes = c.in_ok-causes.ensures;
      named = c.in_ok-named.ensures ∙ ap (λ words. map (is_named words) (map record_of krates)) c.items.ensures ∙ ap (map (is_named c.args.words.now)) c.crates-krates.ensures.value;
      walks = c.in_ok-walks.ensures;
      include_is = refl;
    }
