-- An edge is left by a kind other than the one named exactly where its kinds and those that count meet.
use Rattle.std.proofs.Common.{◌≡◌, ◌&&◌, ◌||◌, not, Bool, true, false, Option, Some, None, refl, sym, ◌∙◌}
use Rattle.graph_core.specs.declared.edge.DepKind.{DepKind}
use Rattle.graph_core.specs.declared.edge.DepKind.TheVariants.{Normal, Dev, Build}
use Rattle.graph_core.specs.declared.edge.Kinds.{Kinds}
use Rattle.graph_core.specs.Metadata.{Graph}
use Rattle.graph_core.specs.declared.selection.standing.Standing.{Standing}
use Rattle.graph_core.specs.selection.Choice.{Choice}
use Rattle.graph_core.specs.selection.Roots.{is_member}
use Rattle.graph_core.specs.selection.Listed.{has_kind}
use Rattle.graph_core.specs.selection.Places.{counting_at, meet, other_kinds}
use Rattle.graph_core.specs.selection.Walks.{IsLeft, IsLeftBy, IsOther, Step}
use Rattle.graph_core.proofs.selection.PutLemmas.{true-false, both-left, both-right, not-true}

pub both : (a b : Bool) → a ≡ true → b ≡ true → (a && b) ≡ true
both true b e h = h
both false b e h = absurd (true-false (sym e))

or-left : (a b : Bool) → a ≡ true → (a || b) ≡ true
or-left true b e = refl
or-left false b e = absurd (true-false (sym e))

or-right : (a b : Bool) → b ≡ true → (a || b) ≡ true
or-right true b e = refl
or-right false b e = e

false-not : (a : Bool) → a ≡ false → not a ≡ true
false-not true e = absurd (true-false e)
false-not false e = refl

-- ---- kinds that two sets have in common

meet-by : (kinds other : Kinds) (kind : DepKind) → has_kind kind kinds ≡ true → has_kind kind other ≡ true → meet kinds other ≡ true
meet-by kinds other Normal a b =
    or-left (kinds.normal && other.normal) ((kinds.dev && other.dev) || (kinds.build && other.build)) (both kinds.normal other.normal a b)
meet-by kinds other Dev a b =
    or-right (kinds.normal && other.normal) ((kinds.dev && other.dev) || (kinds.build && other.build))
    (or-left (kinds.dev && other.dev) (kinds.build && other.build) (both kinds.dev other.dev a b))
meet-by kinds other Build a b =
    or-right (kinds.normal && other.normal) ((kinds.dev && other.dev) || (kinds.build && other.build))
    (or-right (kinds.dev && other.dev) (kinds.build && other.build) (both kinds.build other.build a b))

abbrev Common : Kinds → Kinds → Type 0
Common kinds other = (kind : DepKind) × (has_kind kind kinds ≡ true) × (has_kind kind other ≡ true)

common-last : (kinds other : Kinds) (b : Bool) → (kinds.dev && other.dev) ≡ b → (b || (kinds.build && other.build)) ≡ true → Common kinds other
common-last kinds other true is e = (Dev, both-left kinds.dev other.dev is, both-right kinds.dev other.dev is)
common-last kinds other false is e = (Build, both-left kinds.build other.build e, both-right kinds.build other.build e)

common-first : (kinds other : Kinds) (b : Bool) → (kinds.normal && other.normal) ≡ b
    → (b || ((kinds.dev && other.dev) || (kinds.build && other.build))) ≡ true → Common kinds other
common-first kinds other true is e = (Normal, both-left kinds.normal other.normal is, both-right kinds.normal other.normal is)
common-first kinds other false is e = common-last kinds other (kinds.dev && other.dev) refl e

common-kind : (kinds other : Kinds) → meet kinds other ≡ true → Common kinds other
common-kind kinds other e = common-first kinds other (kinds.normal && other.normal) refl e

-- ---- kinds other than the one named

other-has : (named : Option DepKind) (kind : DepKind) → IsOther named kind → has_kind kind (other_kinds named) ≡ true
other-has None Normal other = refl
other-has None Dev other = refl
other-has None Build other = refl
other-has (Some Normal) Normal other = absurd (other refl)
other-has (Some Normal) Dev other = refl
other-has (Some Normal) Build other = refl
other-has (Some Dev) Normal other = refl
other-has (Some Dev) Dev other = absurd (other refl)
other-has (Some Dev) Build other = refl
other-has (Some Build) Normal other = refl
other-has (Some Build) Dev other = refl
other-has (Some Build) Build other = absurd (other refl)

other-is : (named : Option DepKind) (kind : DepKind) → has_kind kind (other_kinds named) ≡ true → IsOther named kind
other-is None Normal has = tt
other-is None Dev has = tt
other-is None Build has = tt
other-is (Some Normal) Normal has = absurd (true-false (sym has))
other-is (Some Normal) Dev has = λ (same : Dev ≡ Normal). cc
other-is (Some Normal) Build has = λ (same : Build ≡ Normal). cc
other-is (Some Dev) Normal has = λ (same : Normal ≡ Dev). cc
other-is (Some Dev) Dev has = absurd (true-false (sym has))
other-is (Some Dev) Build has = λ (same : Build ≡ Dev). cc
other-is (Some Build) Normal has = λ (same : Normal ≡ Build). cc
other-is (Some Build) Dev has = λ (same : Dev ≡ Build). cc
other-is (Some Build) Build has = absurd (true-false (sym has))

-- ---- edges that are left

module _ (graph : Graph) (choice : Choice) (named : Option DepKind) (step : Step) (standing : Standing)
    (member : standing.member ≡ is_member graph step.from) where
  counts : (kind : DepKind) → IsOther named kind → IsLeftBy graph choice step kind
      → (has_kind kind step.kinds ≡ true) × (has_kind kind (counting_at choice.exclude_dev (other_kinds named) standing) ≡ true)
  counts Normal other leaves = (leaves, other-has named Normal other)
  counts Build other leaves = (leaves, other-has named Build other)
  counts Dev other leaves = (
    leaves.0,
    both (other_kinds named).dev (standing.member && not choice.exclude_dev) (other-has named Dev other)
        (both standing.member (not choice.exclude_dev) (member ∙ leaves.1) (false-not choice.exclude_dev leaves.2)),
  )

  pub meets-if-left : IsLeft graph choice named step → meet step.kinds (counting_at choice.exclude_dev (other_kinds named) standing) ≡ true
  meets-if-left left =
      let has = counts left.kind left.other left.leaves in
      meet-by step.kinds (counting_at choice.exclude_dev (other_kinds named) standing) left.kind has.0 has.1

  left-by : (kind : DepKind) → has_kind kind step.kinds ≡ true
      → has_kind kind (counting_at choice.exclude_dev (other_kinds named) standing) ≡ true → IsLeft graph choice named step
  left-by Normal has counting = record { kind = Normal; other = other-is named Normal counting; leaves = has }
  left-by Build has counting = record { kind = Build; other = other-is named Build counting; leaves = has }
  left-by Dev has counting =
      let rest : (standing.member && not choice.exclude_dev) ≡ true =
      both-right (other_kinds named).dev (standing.member && not choice.exclude_dev) counting in
      record {
        kind = Dev;
        other = other-is named Dev (both-left (other_kinds named).dev (standing.member && not choice.exclude_dev) counting);
        leaves = (
          has,
          sym member ∙ both-left standing.member (not choice.exclude_dev) rest,
          not-true choice.exclude_dev (both-right standing.member (not choice.exclude_dev) rest),
        );
      }

  pub left-if-meets : meet step.kinds (counting_at choice.exclude_dev (other_kinds named) standing) ≡ true → IsLeft graph choice named step
  left-if-meets meets =
      let found = common-kind step.kinds (counting_at choice.exclude_dev (other_kinds named) standing) meets in
      left-by found.0 found.1 found.2
