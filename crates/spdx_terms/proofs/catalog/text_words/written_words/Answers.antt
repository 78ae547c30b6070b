use Rattle.std.proofs.Common.{◌≡◌, ◌∙◌, ◌++◌, length, drop, sym, ap, subst, arith, lit<, append-nil}
use Rattle.std.proofs.lemmas.Iterator.Splits.{YieldsList-from_str_split}
use Rattle.std.proofs.lemmas.Iterator.Consumers.{YieldsList-turn, YieldsList-end}
use Rattle.std.proofs.lemmas.List.{length_push, at_drop_all}
use Rattle.std.specs.List.{flat_map, slice_split}
use Rattle.std.specs.Str.{str_to_ascii_lowercase}
use Rattle.spdx_terms.specs.catalog.TextWords.{is_line_end, line_words, words_with_spaces, words_of}
use Rattle.spdx_terms.proofs.catalog.LineLemmas.{grown, spelled-drop}
use Rattle.spdx_terms.proofs.catalog.text_words.written_words.Goals as goal

pub lines-preserved : goal.lines-preserved
lines-preserved c =
    let lines = slice_split is_line_end c.args.text.now in
    let all = YieldsList-from_str_split {s = c.into_iter-line-iterator.result} 10 c.args.text.now (lit< tt) (cc) (cc) (cc) in
    let turn = YieldsList-turn all c.lines.yielded _ c.lines.yielded_by _ _ c.in-Some.line c.in-Some.is c.next.ensures.steps in
    let pushed = c.in_ok-push_line.ensures ∙ ap (λ line. str_to_ascii_lowercase c.lines.words.items ++ words_with_spaces (line_words line)) c.as_bytes.ensures.value in
    subst (λ n. str_to_ascii_lowercase c.push_line.new.words.items ++ words_with_spaces (flat_map line_words (drop n lines)) ≡ words_with_spaces (words_of c.args.text.now))
    (sym (length_push c.lines.yielded c.in-Some.line))
    (grown _ _ _ _ _ _ pushed (spelled-drop lines (length c.lines.yielded) _ turn) c.lines.invariant)

pub returns : goal.returns
returns c =
    let lines = slice_split is_line_end c.args.text.now in
    let all = YieldsList-from_str_split {s = c.into_iter-line-iterator.result} 10 c.args.text.now (lit< tt) (cc) (cc) (cc) in
    let end = YieldsList-end all c.lines.yielded _ c.lines.yielded_by _ _ c.in-None.is c.next.ensures.steps in
    let rest = at_drop_all (λ lines. words_with_spaces (flat_map line_words lines)) lines (length c.lines.yielded) (omega (arith, end.1)) in
    sym (append-nil _) ∙ ap (λ left. str_to_ascii_lowercase c.lines.words.items ++ left) (sym rest) ∙ c.lines.invariant
