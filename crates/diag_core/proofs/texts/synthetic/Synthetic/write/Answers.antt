use Rattle.std.proofs.Common.{◌≡◌, length, rules, subst}
use Rattle.std.specs.String.{string_bytes}
use Rattle.std.proofs.lemmas.Str.{IsUtf8-string_bytes}
use Rattle.deny_text.specs.Fronts.{StandsInFront}
use Rattle.diag_core.specs.texts.Synthetic.{PlacedText}
use Rattle.diag_core.proofs.texts.BorderLemmas.{between_marked, between_plain}
use Rattle.diag_core.proofs.texts.synthetic.Synthetic.write.Goals as goal

pub invariant_of-self-in-Plain : goal.invariant_of-self-in-Plain
invariant_of-self-in-Plain c =
    between_plain (string_bytes c.self.inside.text) c.in-Plain.text.now (string_bytes c.push_str.new.self) c.self.inside.spans.items
    (IsUtf8-string_bytes c.self.inside.text) (IsUtf8-string_bytes c.push_str.new.self) c.in_ok-push_str-in-Plain.ensures.bytes c.self.invariant

pub invariant_of-self-in-Marked : goal.invariant_of-self-in-Marked
invariant_of-self-in-Marked c =
    let starts : c.len-start.result ≡ length (string_bytes c.self.inside.text) = search rules in
    let ends : c.len-end.result ≡ length (string_bytes c.push_str-in-Marked.new.self) = search rules in
    between_marked (string_bytes c.self.inside.text) c.in-Marked.text.now (string_bytes c.push_str-in-Marked.new.self)
    c.self.inside.spans.items c.try_reserve.new.self.items c.push.new.self.items c.len-start.result c.len-end.result
    (IsUtf8-string_bytes c.self.inside.text) (IsUtf8-string_bytes c.push_str-in-Marked.new.self) c.in_ok-push_str-in-Marked.ensures.bytes
    starts ends c.in_ok-try_reserve-in-Marked.ensures.items c.in_ok-push-in-Marked.ensures.items c.self.invariant

-- what was there stays in front

pub returns-in_ok-push_str-in-Plain-clause-text : goal.returns-in_ok-push_str-in-Plain-clause-text
returns-in_ok-push_str-in-Plain-clause-text c =
    subst (λ (old : PlacedText). StandsInFront old.text (string_bytes c.push_str.new.self)) c.self.view_is
    (c.in-Plain.text.now, c.in_ok-push_str-in-Plain.ensures.bytes)

pub returns-in_ok-push-in-Marked-clause-text : goal.returns-in_ok-push-in-Marked-clause-text
returns-in_ok-push-in-Marked-clause-text c =
    subst (λ (old : PlacedText). StandsInFront old.text (string_bytes c.push_str-in-Marked.new.self)) c.self.view_is
    (c.in-Marked.text.now, c.in_ok-push_str-in-Marked.ensures.bytes)
