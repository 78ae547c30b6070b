-- The marks of a synthetic manifest: the name's and the field's come first.
use Rattle.std.proofs.Common.{◌≡◌, ◌∙◌, ℕ, ◌+◌, ◌-◌, ◌^◌, ◌<◌, length, drop, map, List, [], ◌∷◌, ◌++◌, Option, Some, None, unwrap_or, codes, refl, sym, ap, subst, append-nil, append_assoc, arith}
use Rattle.std.specs.Option.{IfSome}
use Rattle.std.specs.List.{All}
use Rattle.std.proofs.lemmas.List.{length-drop, length-take-le}
use Rattle.std.proofs.lemmas.List.Elements.{All-weaker}
use Rattle.deny_text.specs.declared.span.Span.{Span}
use Rattle.deny_text.specs.Spans.{LiesBetween}
use Rattle.spdx_terms.specs.declared.error.ParseError.{ParseError}
use Rattle.diag_core.specs.declared.label.Coord.{Coord}
use Rattle.diag_core.specs.File.{File}
use Rattle.graph_core.specs.Krate.{CrateRecord}
use Rattle.semver.specs.Identifiers.{parts_text}
use Rattle.diag_core.specs.texts.Synthetic.{Bit, plain, marked, PlacedText, text_at, marked_of, nothing_kept, place_behind, with_piece, written_all}
use Rattle.diag_core.proofs.texts.PlaceLemmas.{places_cut_out}
use Rattle.gather_license.specs.location.Location.{PointsAt}
use Rattle.gather_core.specs.findings.Findings.{FaultFits, field_mark, field_place}
use Rattle.gather_core.specs.findings.Pieces.{SeenFilesView, crate_kept, crate_pieces, head_pieces, joined_pieces, seen_pieces}
use Rattle.gather_core.specs.findings.Premises.{FaultsLie}
use Rattle.gather_core.proofs.findings.PieceLemmas.{three_written}

-- ---- the marks in order

spans_grow : (kept : PlacedText) (pieces : List Bit) → (more : List Span) × ((written_all kept pieces).spans ≡ kept.spans ++ more)
spans_grow kept [] = ([], sym (append-nil kept.spans))
spans_grow kept (plain bytes ∷ pieces) = spans_grow (with_piece kept (plain bytes)) pieces
spans_grow kept (marked bytes ∷ pieces) =
    let rest = spans_grow (with_piece kept (marked bytes)) pieces in
    (place_behind kept.text bytes ∷ rest.0, rest.1 ∙ append_assoc kept.spans (place_behind kept.text bytes ∷ []) rest.0)

head_spans : (krate : CrateRecord) (folder : List ℕ) (joined : Option (List ℕ)) (seen : SeenFilesView)
    → (more : List Span) × ((crate_kept krate folder joined seen).spans ≡ (written_all nothing_kept (head_pieces krate)).spans ++ more)
head_spans krate folder joined seen =
    let head = written_all nothing_kept (head_pieces krate) in
    let first = spans_grow head (joined_pieces joined) in
    let second = spans_grow (written_all head (joined_pieces joined)) (seen_pieces folder seen) in (
      first.0 ++ second.0,
      ap (λ (kept : PlacedText). kept.spans) (sym (three_written nothing_kept (head_pieces krate) (joined_pieces joined) (seen_pieces folder seen)))
          ∙ second.1 ∙ ap (λ (spans : List Span). spans ++ second.0) first.1 ∙ append_assoc head.spans first.0 second.0,
    )

pub marked_of-append : (first second : List Bit) → marked_of (first ++ second) ≡ marked_of first ++ marked_of second
marked_of-append [] second = refl
marked_of-append (plain bytes ∷ first) second = marked_of-append first second
marked_of-append (marked bytes ∷ first) second = ap (λ (rest : List (List ℕ)). bytes ∷ rest) (marked_of-append first second)

-- the name, the field, and what is marked behind them
pub record AreMarks (krate : CrateRecord) (folder : List ℕ) (joined : Option (List ℕ)) (seen : SeenFilesView) : Type 0 where
  pub name : Span
  pub field : Span
  pub more : List Span
  pub spans : (crate_kept krate folder joined seen).spans ≡ name ∷ field ∷ more
  pub name_cut : text_at (crate_kept krate folder joined seen).text name ≡ krate.name
  pub field_cut : text_at (crate_kept krate folder joined seen).text field ≡ unwrap_or krate.license []
  pub more_cut : map (text_at (crate_kept krate folder joined seen).text) more ≡ marked_of (joined_pieces joined) ++ marked_of (seen_pieces folder seen)

record Two : Type 0 where
  name : Span
  field : Span

-- the places of the name and of the field
abbrev head_two : CrateRecord → Two
head_two krate = record {
  name = place_behind (codes "[package]\nname = \"") krate.name;
  field = place_behind ((((codes "[package]\nname = \"" ++ krate.name) ++ codes "\"\nversion = \"") ++ parts_text krate.version) ++ codes "\"\nlicense = \"") (unwrap_or krate.license []);
}

pub marks : (krate : CrateRecord) (folder : List ℕ) (joined : Option (List ℕ)) (seen : SeenFilesView) → AreMarks krate folder joined seen
marks krate folder joined seen =
    let kept = crate_kept krate folder joined seen in
    let head = head_spans krate folder joined seen in
    let spans = head_two krate in
    let whole : kept.spans ≡ spans.name ∷ spans.field ∷ head.0 = head.1 in
    let cuts = places_cut_out (crate_pieces krate folder joined seen) in
    let out : text_at kept.text spans.name ∷ text_at kept.text spans.field ∷ map (text_at kept.text) head.0
    ≡ krate.name ∷ unwrap_or krate.license [] ∷ marked_of (joined_pieces joined ++ seen_pieces folder seen) =
    ap (map (text_at kept.text)) (sym whole) ∙ cuts.cut_out in
    record {
      name = spans.name;
      field = spans.field;
      more = head.0;
      spans = whole;
      name_cut = cc;
      field_cut = cc;
      more_cut = (let rest : map (text_at kept.text) head.0 ≡ marked_of (joined_pieces joined ++ seen_pieces folder seen) = cc in rest)
          ∙ marked_of-append (joined_pieces joined) (seen_pieces folder seen);
    }

-- ---- places that fit

-- the field's mark is as long as the field
pub field_mark_long : (krate : CrateRecord) (folder : List ℕ) (joined : Option (List ℕ)) (seen : SeenFilesView) (file : ℕ)
    → IfSome (field_mark (record { file = file; spans = (crate_kept krate folder joined seen).spans }))
    (λ at. at.span.end ≡ at.span.start + length (unwrap_or krate.license []))
field_mark_long krate folder joined seen file =
    let spans = head_spans krate folder joined seen in
    subst (λ (l : List Span). IfSome (field_mark (record { file = file; spans = l })) (λ at. at.span.end ≡ at.span.start + length (unwrap_or krate.license []))) (sym spans.1) refl

-- and so is its location
points_long : (files : List File) (at : Coord) (field : List ℕ) → PointsAt files at field → at.span.end ≡ at.span.start + length field
points_long files at field points =
    let ordered = points.cuts.ordered in
    let inside = points.cuts.ends.0 in
    let tail = length-drop at.span.start points.source in
    let long : length field ≡ at.span.end - at.span.start =
    ap length (sym points.cuts.cut_out) ∙ length-take-le (at.span.end - at.span.start) (drop at.span.start points.source) (omega arith) in
    omega arith

-- places in a field fit where the field's end does
pub all_fit : (at : Coord) (field : List ℕ) (faults : List ParseError) → at.span.end ≡ at.span.start + length field → at.span.end < 2 ^ 64
    → FaultsLie field faults → All (FaultFits at) faults
all_fit at field faults is fits lie =
    All-weaker (λ (fault : ParseError). LiesBetween field fault.span) (FaultFits at)
    (λ fault within. let first = within.ordered in let second = within.end_border.0 in (omega arith, omega arith)) faults lie

pub location_fits : (files : List File) (at : Coord) (field : List ℕ) (faults : List ParseError) → PointsAt files at field → at.span.end < 2 ^ 64
    → FaultsLie field faults → All (FaultFits at) faults
location_fits files at field faults points fits lie = all_fit at field faults (points_long files at field points) fits lie

pub mark_fits : (krate : CrateRecord) (folder : List ℕ) (joined : Option (List ℕ)) (seen : SeenFilesView) (file : ℕ) (faults : List ParseError) (place : Option Coord)
    → place ≡ field_mark (record { file = file; spans = (crate_kept krate folder joined seen).spans }) → IfSome place (λ at. at.span.end < 2 ^ 64)
    → FaultsLie (unwrap_or krate.license []) faults → IfSome place (λ at. All (FaultFits at) faults)
mark_fits krate folder joined seen file faults None is fits lie = tt
mark_fits krate folder joined seen file faults (Some at) is fits lie =
    let long : at.span.end ≡ at.span.start + length (unwrap_or krate.license []) =
    subst (λ (o : Option Coord). IfSome o (λ at. at.span.end ≡ at.span.start + length (unwrap_or krate.license []))) (sym is)
    (field_mark_long krate folder joined seen file) in
    all_fit at (unwrap_or krate.license []) faults long fits lie

-- the location, where there is one, or else the mark
pub place_fits : (krate : CrateRecord) (folder : List ℕ) (joined : Option (List ℕ)) (seen : SeenFilesView) (files : List File) (file : ℕ) (faults : List ParseError) (location place : Option Coord)
    → place ≡ field_place location (field_mark (record { file = file; spans = (crate_kept krate folder joined seen).spans })) → IfSome place (λ at. at.span.end < 2 ^ 64)
    → IfSome location (λ at. PointsAt files at (unwrap_or krate.license [])) → FaultsLie (unwrap_or krate.license []) faults → IfSome place (λ at. All (FaultFits at) faults)
place_fits krate folder joined seen files file faults None place is fits points lie = mark_fits krate folder joined seen file faults place is fits lie
place_fits krate folder joined seen files file faults (Some at) place is fits points lie =
    let here : at.span.end < 2 ^ 64 = subst (λ (o : Option Coord). IfSome o (λ one. one.span.end < 2 ^ 64)) is fits in
    subst (λ (o : Option Coord). IfSome o (λ one. All (FaultFits one) faults)) (sym is)
    (location_fits files at (unwrap_or krate.license []) faults points here lie)
