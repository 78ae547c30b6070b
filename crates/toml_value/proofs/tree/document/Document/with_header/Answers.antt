use Rattle.std.proofs.Common.{◌∷◌, sym, ap, subst, ◌∙◌, length, arith}
use Rattle.toml_subset.proofs.frames.Levels.{part_low}
use Rattle.toml_subset.specs.frames.Levels.{at_root, into_parts}
use Rattle.toml_subset.specs.declared.frames.part.HeaderPart.TheVariants.{Through}
use Rattle.toml_value.specs.LevelViews.{cursor_view, IsShallowCursor}
use Rattle.toml_value.proofs.LevelLemmas.{header_step, header_stops, header_last}
use Rattle.toml_value.proofs.tree.document.Document.with_header.Goals as goal

pub returns-in_default : goal.returns-in_default
returns-in_default c =
    let none = ap length (sym c.new-parts.ensures ∙ c.in_default.ensures.0) in absurd (omega (arith, c.requires.some))

pub parts-init : goal.parts-init
parts-init c =
    let keys = sym c.new-parts.ensures ∙ c.in-Some.ensures in (
      ap (λ ks. into_parts c.args.last ks (at_root (cursor_view c.args.self))) keys
          ∙ ap (into_parts c.args.last (c.in-Some.first ∷ c.next.new.self)) (sym c.at_root-document.ensures),
      subst IsShallowCursor (sym c.at_root-document.ensures) c.requires.shallow,
    )

pub parts-preserved : goal.parts-preserved
parts-preserved c = (
  header_step c.args.last c.args.keys (cursor_view c.args.self) (cursor_view c.parts.document) (cursor_view c.in-Ok.inner) c.parts.key c.in-Some-next.next c.parts.parts c.next-in-parts.new.self
      c.parts.invariant.0 c.in-Some-next.ensures c.in-Ok.ensures,
  part_low Through c.parts.key (cursor_view c.parts.document) (cursor_view c.in-Ok.inner) c.parts.invariant.1 c.in-Ok.ensures,
)

pub returns-in-Err : goal.returns-in-Err
returns-in-Err c =
    header_stops (λ d. cursor_view d) c.args.last c.args.keys (cursor_view c.args.self) (cursor_view c.parts.document) c.parts.key c.in-Some-next.next c.parts.parts c.next-in-parts.new.self
    c.in-Err.error c.parts.invariant.0 c.in-Some-next.ensures c.in-Err.ensures

pub returns : goal.returns
returns c =
    header_last (λ d. cursor_view d) c.args.last c.args.keys (cursor_view c.args.self) (cursor_view c.parts.document) c.parts.key c.parts.parts c.enter-2.result
    c.parts.invariant.0 c.in_default-next.ensures.0 c.enter-2.ensures
