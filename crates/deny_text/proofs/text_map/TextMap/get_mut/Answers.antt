use Rattle.std.proofs.Common.{◌≡◌, sym, ap, ◌∙◌}
use borrow.Follows.Closed.{read_of}
use Rattle.std.specs.Option.{ghost_name_of}
use Rattle.std.specs.FinMap as finmap
use Rattle.deny_text.specs.TextMap.{with_value, entries_of_held}
use Rattle.deny_text.proofs.MapLemmas.{get-held, sorted-set, map-set}
use Rattle.deny_text.proofs.text_map.TextMap.get_mut.Goals as goal

pub invariant_of-self-lent : goal.invariant_of-self-lent
invariant_of-self-lent g c r = (
  λ w. sorted-set c.args.key.now w c.self.inside.held.entries _ c.self.invariant (c.get_mut.follows.holds w).0,
  rw c.get_mut.follows.holds-at-none c.self.invariant,
)

pub returns : goal.returns
returns g c =
    let written : (w : g.row.V.Denot) → finmap.from_sorted (entries_of_held (c.get_mut.follows.lender w).entries) ≡ with_value c.args.self.now c.args.key.now w =
    λ w. map-set c.args.key.now w c.self.inside.held.entries _ c.self.invariant (c.get_mut.follows.holds w).0 ∙ ap (λ m. with_value m c.args.key.now w) c.self.view_is in
    let kept = ap (λ held. finmap.from_sorted (entries_of_held held.entries)) c.get_mut.follows.holds-at-none ∙ c.self.view_is in (
      λ i. read_of (ghost_name_of c.get_mut.result) (λ w. written w i) (kept i),
      c.get_mut.ensures.value ∙ sym (get-held c.args.key.now c.self.inside.held.entries c.self.invariant) ∙ ap (λ m. finmap.get m c.args.key.now) c.self.view_is,
    )
