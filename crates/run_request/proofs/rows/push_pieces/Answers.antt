use Rattle.std.proofs.Common.{◌≡◌, ◌∙◌, ◌++◌, length, drop, sym, ap, subst, arith, lit<, append-nil, [], ◌∷◌}
use Rattle.std.proofs.lemmas.Iterator.Splits.{YieldsList-from_str_split}
use Rattle.std.proofs.lemmas.Iterator.Consumers.{YieldsList-turn, YieldsList-end}
use Rattle.std.proofs.lemmas.List.{length_push, at_drop_all}
use Rattle.std.specs.List.{slice_split}
use Rattle.run_request.specs.Reading.{is_comma}
use Rattle.run_request.proofs.PieceLemmas.{piece_moves}
use Rattle.run_request.proofs.rows.push_pieces.Goals as goal

pub pieces-preserved : goal.pieces-preserved
pieces-preserved c =
    let pieces = slice_split is_comma c.args.word.now in
    let all = YieldsList-from_str_split {s = c.into_iter-piece-iterator.result} 44 c.args.word.now (lit< tt) (cc) (cc) (cc) in
    let turn = YieldsList-turn all c.pieces.yielded _ c.pieces.yielded_by _ _ c.in-Some.piece c.in-Some.is c.next.ensures.steps in
    let grows : c.push.new.self ≡ c.pieces.texts ++ c.in-Some.piece.now ∷ [] = cc (c.in_ok-push.ensures.ok, c.in_ok-text.ensures) in
    subst (λ n. c.push.new.self ++ drop n pieces ≡ c.args.texts.now ++ pieces)
    (sym (length_push c.pieces.yielded c.in-Some.piece))
    (piece_moves c.pieces.texts c.push.new.self pieces (length c.pieces.yielded) _ _ turn grows c.pieces.invariant)

pub returns : goal.returns
returns c =
    let pieces = slice_split is_comma c.args.word.now in
    let all = YieldsList-from_str_split {s = c.into_iter-piece-iterator.result} 44 c.args.word.now (lit< tt) (cc) (cc) (cc) in
    let end = YieldsList-end all c.pieces.yielded _ c.pieces.yielded_by _ _ c.in-None.is c.next.ensures.steps in
    sym (append-nil _) ∙ ap (λ left. c.pieces.texts ++ left) (sym (at_drop_all (λ left. left) pieces (length c.pieces.yielded) (omega (arith, end.1)))) ∙ c.pieces.invariant
