use Rattle.std.proofs.Common.{◌≡◌, None, sym, ap, ◌∙◌, rules}
use Rattle.std.specs.FinMap as finmap
use Rattle.deny_text.specs.TextMap.{entries_of_held}
use Rattle.deny_text.proofs.MapLemmas.{get-held, sorted-insert, insert-held}
use Rattle.deny_text.proofs.text_map.TextMap.insert.Goals as goal

pub returns-in_err-old-clause-full : goal.returns-in_err-old-clause-full
returns-in_err-old-clause-full g c =
    let none : finmap.get c.args.self.now c.args.key ≡ None =
    ap (λ m. finmap.get m c.args.key) (sym c.self.view_is)
    ∙ ap (finmap.get _) (sym c.into_string.ensures)
    ∙ get-held _ c.self.inside.held.entries c.self.invariant
    ∙ c.in_err-old.ensures.absent in
    search rules

pub invariant_of-self-2 : goal.invariant_of-self-2
invariant_of-self-2 g c = rw c.in_ok-old.ensures.entries (sorted-insert c.into_string.result c.args.value c.self.inside.held.entries c.self.invariant)

pub returns-clause-old : goal.returns-clause-old
returns-clause-old g c =
    c.in_ok-old.ensures.old
    ∙ sym (get-held _ c.self.inside.held.entries c.self.invariant)
    ∙ ap (finmap.get _) c.into_string.ensures
    ∙ ap (λ m. finmap.get m c.args.key) c.self.view_is

pub returns-clause-ok : goal.returns-clause-ok
returns-clause-ok g c =
    let before = finmap.from_sorted (entries_of_held c.self.inside.held.entries) in
    ap (λ es. finmap.from_sorted (entries_of_held es)) c.in_ok-old.ensures.entries
    ∙ insert-held c.into_string.result c.args.value c.self.inside.held.entries c.self.invariant
    ∙ ap (λ key. finmap.insert before key c.args.value) c.into_string.ensures
    ∙ ap (λ m. finmap.insert m c.args.key c.args.value) c.self.view_is
