use Rattle.std.proofs.Common.{◌∷◌, [], ◌+◌, map, take, drop, arith}
use Rattle.std.proofs.lemmas.Result.{err_from_is_err_and}
use Rattle.std.specs.String.{string_bytes}
use Rattle.licence_hash.proofs.ToldLemmas.{names_more, names_parts, told_then}
use Rattle.licence_hash.proofs.told.tell_all.Goals as goal

pub paths-preserved : goal.paths-preserved
paths-preserved g c =
    let paths = c.args.paths.now in
    let place = c.paths.path-index in
    record {
      told = rw (names_more (λ one. string_bytes one) paths place c.path-item.result c.as_str.result.now c.paths-test.true c.path-item.is c.as_str.ensures.value, c.both-all.ensures)
          (told_then (map (λ one. string_bytes one) (take place paths)) (c.as_str.result.now ∷ [])
          (g.T.Tree.trace c.args.tree.now) (g.T.Tree.trace c.paths.tree) (g.T.Tree.trace c.tell.new.tree)
          (record { out = g.O.Sink.written c.args.out.now; err = g.E.Sink.written c.args.err.now })
          (record { out = g.O.Sink.written c.paths.out; err = g.E.Sink.written c.paths.err })
          (record { out = g.O.Sink.written c.tell.new.out; err = g.E.Sink.written c.tell.new.err })
          c.paths.all c.in_ok-one.one c.paths.invariant.told c.in_ok-one.ensures.told);
      later = (omega (arith, c.paths.invariant.later.0, c.in_ok-one.ensures.later.0), omega (arith, c.paths.invariant.later.1, c.in_ok-one.ensures.later.1));
    }

-- the files before the one at which it is given up
pub returns-in_err-one-clause-cut : goal.returns-in_err-one-clause-cut
returns-in_err-one-clause-cut g c =
    let paths = c.args.paths.now in
    let place = c.paths.path-index in
    let p = err_from_is_err_and c.from_residual.result c.from_residual.ensures.1 in
    rw (p.1, p.2)
    (record {
      earlier = map (λ one. string_bytes one) (take place paths);
      path = c.as_str.result.now;
      later = map (λ one. string_bytes one) (drop (place + 1) paths);
      parts = names_parts (λ one. string_bytes one) paths place c.path-item.result c.as_str.result.now c.paths-test.true c.path-item.is c.as_str.ensures.value;
      calls = g.T.Tree.trace c.paths.tree;
      texts = record { out = g.O.Sink.written c.paths.out; err = g.E.Sink.written c.paths.err };
      are_all = c.paths.all;
      told = c.paths.invariant.told;
      cut = c.in_err-one.ensures.cut;
    })
