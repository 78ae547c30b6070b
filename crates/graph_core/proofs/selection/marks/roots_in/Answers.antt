-- One root more is put.
use Rattle.std.proofs.Common.{suc, ◌+◌, List, drop, get_or, length, sym, ◌∙◌, ap, add-one}
use Rattle.std.proofs.lemmas.List.{at_drop_more}
use Rattle.graph_core.specs.declared.selection.standing.Standing.{Standing}
use Rattle.graph_core.specs.selection.Places.{FrontierView, no_standing, frontier_with, put_roots, frontier_of}
use Rattle.graph_core.proofs.selection.PutLemmas.{put-counted}
use Rattle.graph_core.proofs.selection.marks.roots_in.Goals as goal

pub roots-preserved : goal.roots-preserved
roots-preserved c =
    let standings = c.args.standings.now in
    let place = c.roots.place in
    let seen : FrontierView = frontier_of c.roots.found in
    let standing : Standing = get_or standings place no_standing in
    let rest : List Standing = drop (place + 1) standings in
    record {
      counted = ap (λ (s : FrontierView). length s.marks) c.in_ok-put.ensures
          ∙ (put-counted place c.is_root.result seen ∙ c.roots.invariant.counted);
      so_far = ap (put_roots (place + 1) rest) c.in_ok-put.ensures
          ∙ (ap (λ n. put_roots n rest (frontier_with place c.is_root.result seen)) (add-one place)
          ∙ (ap (λ b. put_roots (suc place) rest (frontier_with place b seen)) c.is_root.ensures
          ∙ (sym (at_drop_more (λ list. put_roots place list seen) standings place no_standing c.roots-test.true)
          ∙ c.roots.invariant.so_far)));
    }
