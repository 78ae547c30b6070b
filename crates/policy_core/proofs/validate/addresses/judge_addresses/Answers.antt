use Rattle.std.proofs.Common.{◌≡◌, ◌∙◌, sym, ap, ◌+◌, [], ◌∷◌, ◌++◌, take}
use Rattle.std.proofs.lemmas.List.{take_more}
use Rattle.policy_core.specs.validate.Valid.{address_judged, kept_by, findings_by_each}
use Rattle.policy_core.proofs.validate.JudgedLemmas.{held_more, found_more}
use Rattle.policy_core.proofs.validate.addresses.judge_addresses.Goals as goal

pub strings-preserved : goal.strings-preserved
strings-preserved c =
    let strings = c.args.strings.now in
    let i = c.strings.string-index in
    let string = c.string-item.result in
    let judge = address_judged c.args.file in
    let more : take i strings ++ string ∷ [] ≡ take (i + 1) strings =
    ap (λ one. take i strings ++ one ∷ []) c.string-item.is ∙ sym (take_more strings i string c.strings-test.true) in
    record {
      kept =
          held_more judge (take i strings) string c.in_ok-judged.judged c.strings.kept c.push_judged.new.kept
          c.in_ok-judged.ensures c.in_ok-push_judged.ensures.kept c.strings.invariant.kept
          ∙ ap (λ items. kept_by judge items) more;
      told =
          found_more judge (take i strings) string c.in_ok-judged.judged c.args.found.now c.strings.found c.push_judged.new.found
          c.in_ok-judged.ensures c.in_ok-push_judged.ensures.told c.strings.invariant.told
          ∙ ap (λ items. c.args.found.now ++ findings_by_each judge items) more;
    }
