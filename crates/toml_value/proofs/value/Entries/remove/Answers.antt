use Rattle.std.proofs.Common.{Some, sym, ap, ◌∙◌}
use Rattle.std.specs.List.{position}
use Rattle.std.specs.Prelude.{option_map}
use Rattle.toml_value.specs.Removal.{entry_at, entries_without}
use Rattle.toml_value.specs.declared.value.Entries.{out-Entries}
use Rattle.toml_value.proofs.RemovalLemmas.{seen, entries_of, has_name, finds-position, lacks-position}
use Rattle.toml_value.proofs.ValueViews.{entries_view-is, entries_view-roll}
use Rattle.toml_value.proofs.value.Entries.remove.Goals as goal

pub returns-in_err-place-clause-taken : goal.returns-in_err-place-clause-taken
returns-in_err-place-clause-taken c =
    let none = ap (position (has_name c.args.name.now)) (sym c.deref.ensures.value) ∙ sym (c.in_err-place.ensures) in
    ap (option_map seen) c.from_residual.ensures ∙ (lacks-position c.args.name.now _ none).entry ∙ ap (entry_at c.args.name.now) (sym (entries_view-is c.args.self.now))

pub returns-in_err-place-clause-left : goal.returns-in_err-place-clause-left
returns-in_err-place-clause-left c =
    let none = ap (position (has_name c.args.name.now)) (sym c.deref.ensures.value) ∙ sym (c.in_err-place.ensures) in
    entries_view-is c.args.self.now ∙ (lacks-position c.args.name.now _ none).rest ∙ ap (entries_without c.args.name.now) (sym (entries_view-is c.args.self.now))

pub returns-clause-taken : goal.returns-clause-taken
returns-clause-taken c =
    let found = ap (position (has_name c.args.name.now)) (sym c.deref.ensures.value) ∙ sym (c.in_ok-place.ensures) in
    ap (λ p. Some (seen p)) c.remove.ensures.value
    ∙ (finds-position c.args.name.now (out-Entries c.args.self.now).items.items c.in_ok-place.place c.remove.result found).entry
    ∙ ap (entry_at c.args.name.now) (sym (entries_view-is c.args.self.now))

pub returns-clause-left : goal.returns-clause-left
returns-clause-left c =
    let found = ap (position (has_name c.args.name.now)) (sym c.deref.ensures.value) ∙ sym (c.in_ok-place.ensures) in
    entries_view-roll _ ∙ ap entries_of c.remove.ensures.items
    ∙ (finds-position c.args.name.now (out-Entries c.args.self.now).items.items c.in_ok-place.place c.remove.result found).rest
    ∙ ap (entries_without c.args.name.now) (sym (entries_view-is c.args.self.now))
