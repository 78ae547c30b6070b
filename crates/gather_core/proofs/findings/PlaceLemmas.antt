-- Places that cut something out of a file of the table.
use Rattle.std.proofs.Common.{◌≡◌, ◌∙◌, ℕ, zero, suc, ◌+◌, ◌-◌, ◌<◌, ◌≤◌, ◌⊎◌, inl, inr, length, take, drop, get_or, List, [], ◌∷◌, ◌++◌, Option, Some, None, unwrap_or, refl, sym, ap, subst, arith}
use Rattle.std.specs.Str.{IsCharBoundary}
use Rattle.std.specs.Option.{IfSome}
use Rattle.std.proofs.Math.Nat.{eq-or-lt_of_le}
use Rattle.std.proofs.lemmas.List.{drop-drop, drop-take, get_or-drop, get_or-take, length-drop, length-take-le, take-take}
use Rattle.deny_text.specs.declared.span.Span.{Span}
use Rattle.diag_core.specs.declared.label.Coord.{Coord}
use Rattle.diag_core.specs.declared.label.LabelStyle.{LabelStyle}
use Rattle.diag_core.specs.File.{File, source_of_file}
use Rattle.diag_core.specs.Label.{label_at}
use Rattle.deny_text.specs.Spans.{LiesBetween}
use Rattle.diag_core.specs.texts.Synthetic.{text_at}
use Rattle.gather_license.specs.location.Location.{PointsAt}
use Rattle.gather_core.specs.findings.Cuts.{LabelLies}
use Rattle.gather_core.specs.findings.Findings.{fault_place}

-- ---- in a text

-- what a place in a field cuts out, where the field is in a text
cut_inside : (text field : List ℕ) (at fault : Span) → text_at text at ≡ field → at.start ≤ at.end → at.end ≤ length text → fault.start ≤ fault.end → fault.end ≤ length field
    → text_at text (record { start = at.start + fault.start; end = at.start + fault.end }) ≡ text_at field fault
cut_inside text field at fault same ordered inside first last =
    let size = at.end - at.start in
    let tail = drop at.start text in
    let width = fault.end - fault.start in
    let long : length field ≡ at.end - at.start = ap length (sym same) ∙ length-take-le size tail (omega (arith, length-drop at.start text)) in
    let whole : fault.start + (at.end - at.start - fault.start) ≡ at.end - at.start = omega arith in
    let shift : at.start + fault.end - (at.start + fault.start) ≡ fault.end - fault.start = omega arith in
    ap (λ n. take n (drop (at.start + fault.start) text)) shift
    ∙ sym (ap (λ (l : List ℕ). take width (drop fault.start l)) (sym same)
    ∙ ap (λ n. take width (drop fault.start (take n tail))) (sym whole)
    ∙ ap (take width) (drop-take fault.start (size - fault.start) tail)
    ∙ take-take width (size - fault.start) (drop fault.start tail) (omega arith)
    ∙ ap (take width) (drop-drop fault.start at.start text))

part_byte : (text : List ℕ) (at : Span) (i : ℕ) → i < at.end - at.start → get_or (text_at text at) i 0 ≡ get_or text (at.start + i) 0
part_byte text at i below = get_or-take (at.end - at.start) (drop at.start text) i 0 below ∙ get_or-drop at.start text i 0

-- a border of a part is one of the text
inner_by : (text : List ℕ) (at : Span) → at.start ≤ at.end → IsCharBoundary text at.end → (i : ℕ) → IsCharBoundary (text_at text at) i
    → length (text_at text at) ≡ at.end - at.start → ((i ≡ at.end - at.start) ⊎ (i < at.end - at.start)) → IsCharBoundary text (at.start + i)
inner_by text at ordered ends i border long (inl at_end) =
    let is : at.end ≡ at.start + i = omega arith in
    subst (IsCharBoundary text) is ends
inner_by text at ordered ends i border long (inr below) =
    let within = ends.0 in (
      omega arith,
      λ fits high.
          let lead = border.1 (omega arith) (subst (λ (n : ℕ). 128 ≤ n) (sym (part_byte text at i below)) high) in
          subst (λ (n : ℕ). 192 ≤ n) (part_byte text at i below) lead,
    )

inner_border : (text : List ℕ) (at : Span) → at.start ≤ at.end → IsCharBoundary text at.end → (i : ℕ) → IsCharBoundary (text_at text at) i → IsCharBoundary text (at.start + i)
inner_border text at ordered ends i border =
    let within : at.end ≤ length text = ends.0 in
    let long : length (text_at text at) ≡ at.end - at.start = length-take-le (at.end - at.start) (drop at.start text) (omega (arith, length-drop at.start text)) in
    let low : i ≤ at.end - at.start = (let b = border.0 in omega arith) in
    inner_by text at ordered ends i border long (eq-or-lt_of_le low)

-- ---- in a file

-- a place of a file's text
pub points : (files : List File) (id : ℕ) (source : List ℕ) (span : Span) (bytes : List ℕ) → source_of_file files id ≡ Some source → LiesBetween source span → text_at source span ≡ bytes
    → PointsAt files (record { file = id; span = span }) bytes
points files id source span bytes is lies same = record {
  source = source;
  is_source = is;
  cuts = record { ordered = lies.ordered; starts = lies.start_border; ends = lies.end_border; cut_out = same };
}

-- a fault in a field that is in a file
pub fault_points : (files : List File) (at : Coord) (field : List ℕ) (fault : Span) → PointsAt files at field → LiesBetween field fault
    → PointsAt files (fault_place at fault) (text_at field fault)
fault_points files at field fault stands lies =
    let border : (i : ℕ) → IsCharBoundary field i → IsCharBoundary stands.source (at.span.start + i) = λ i there.
    inner_border stands.source at.span stands.cuts.ordered stands.cuts.ends i (subst (λ (l : List ℕ). IsCharBoundary l i) (sym stands.cuts.cut_out) there) in
    record {
      source = stands.source;
      is_source = stands.is_source;
      cuts = record {
        ordered = (let o = lies.ordered in omega arith);
        starts = border fault.start lies.start_border;
        ends = border fault.end lies.end_border;
        cut_out = cut_inside stands.source field at.span fault stands.cuts.cut_out stands.cuts.ordered stands.cuts.ends.0 lies.ordered lies.end_border.0;
      };
    }

-- what a label at the place cuts out
pub points_cut : (files : List File) (at : Coord) (bytes : List ℕ) → PointsAt files at bytes → text_at (unwrap_or (source_of_file files at.file) []) at.span ≡ bytes
points_cut files at bytes stands = ap (λ (o : Option (List ℕ)). text_at (unwrap_or o []) at.span) stands.is_source ∙ stands.cuts.cut_out

no_some : {A G : Type 0} (x : A) → None ≡ Some x → G
no_some x e = cc

live_by : (files : List File) (id : ℕ) (source : List ℕ) → source_of_file files id ≡ Some source → id < length files
live_by [] zero source is = no_some source is
live_by [] (suc id) source is = no_some source is
live_by (file ∷ files) zero source is = omega arith
live_by (file ∷ files) (suc id) source is =
    let rest : id < length files = live_by files id source is in
    omega arith

-- and where it lies
pub points_lie : (files : List File) (at : Coord) (bytes : List ℕ) (style : LabelStyle) (message : List ℕ) → PointsAt files at bytes
    → LabelLies files (label_at style at.file at.span message)
points_lie files at bytes style message stands = record {
  live = live_by files at.file stands.source stands.is_source;
  ordered = stands.cuts.ordered;
  starts = subst (λ (o : Option (List ℕ)). IsCharBoundary (unwrap_or o []) at.span.start) (sym stands.is_source) stands.cuts.starts;
  ends = subst (λ (o : Option (List ℕ)). IsCharBoundary (unwrap_or o []) at.span.end) (sym stands.is_source) stands.cuts.ends;
}

-- ---- the table with one file more

pub last_source : (files : List File) (file : File) → source_of_file (files ++ file ∷ []) (length files) ≡ Some file.source
last_source [] file = refl
last_source (first ∷ files) file = last_source files file

kept_source : (files : List File) (file : File) (id : ℕ) (source : List ℕ) → source_of_file files id ≡ Some source → source_of_file (files ++ file ∷ []) id ≡ Some source
kept_source [] file zero source is = no_some source is
kept_source [] file (suc id) source is = no_some source is
kept_source (first ∷ files) file zero source is = is
kept_source (first ∷ files) file (suc id) source is = kept_source files file id source is

pub grown : (files : List File) (file : File) (location : Option Coord) (field : List ℕ) → IfSome location (λ at. PointsAt files at field)
    → IfSome location (λ at. PointsAt (files ++ file ∷ []) at field)
grown files file None field located = tt
grown files file (Some at) field located = record {
  source = located.source;
  is_source = kept_source files file at.file located.source located.is_source;
  cuts = located.cuts;
}
