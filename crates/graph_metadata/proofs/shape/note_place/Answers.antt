-- An id that had a place has it again.
use Rattle.std.proofs.Common.{◌≡◌, option_copied, OnOk, sym, ◌∙◌, ap, subst}
use Rattle.std.specs.FinMap as finmap
use Rattle.graph_metadata.specs.Known.{given_back}
use Rattle.graph_metadata.specs.Shape.{with_place}
use Rattle.graph_metadata.proofs.KnownLemmas.{first_stays}
use Rattle.graph_metadata.proofs.shape.note_place.Goals as goal

pub returns : goal.returns
returns c =
    let known = c.args.known.now in
    let id = c.in-Some.id.now in
    let set : c.insert.new.self ≡ finmap.insert known id c.args.index =
    c.in_ok-first.ensures.ok ∙ ap (λ key. finmap.insert known key c.args.index) c.in_ok-copy.ensures in
    let was : c.in_ok-first.first ≡ finmap.get known id = c.in_ok-first.ensures.old ∙ ap (finmap.get known) c.in_ok-copy.ensures in
    let stays : given_back c.insert.new.self id c.in_ok-first.first ≡ with_place known c.args.index (option_copied c.args.id) =
    ap (λ held. given_back held id c.in_ok-first.first) set
    ∙ (first_stays known id c.args.index c.in_ok-first.first was
    ∙ ap (with_place known c.args.index) (sym (ap option_copied c.in-Some.is))) in
    subst (λ held. OnOk c.give_back.result (c.give_back.new.known ≡ held)) stays c.give_back.ensures
