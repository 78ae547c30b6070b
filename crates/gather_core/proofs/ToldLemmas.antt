-- Where what is reported of a crate is.
use Rattle.std.proofs.Common.{◌≡◌, ◌∙◌, ℕ, zero, suc, ◌+◌, ◌-◌, ◌^◌, ◌<◌, ◌≤◌, Bool, true, false, length, drop, List, [], ◌∷◌, Option, None, Some, unwrap_or, refl, sym, ap, subst, arith, length-drop}
use Rattle.std.specs.Prelude.{is_none, option_and_then, option_map}
use Rattle.std.specs.List.{All}
use Rattle.std.specs.Option.{option_map_or, option_or}
use Rattle.std.specs.Str.{IsCharBoundary}
use Rattle.std.proofs.lemmas.List.{length-take-le}
use Rattle.std.proofs.lemmas.List.Elements.{All-cons, All-head, All-nil, All-tail}
use Rattle.spdx_terms.specs.catalog.Catalog.{CatalogLists}
use Rattle.spdx_terms.specs.declared.mode.ParseMode.{ParseMode}
use Rattle.spdx_terms.specs.Faults.{first_fault}
use Rattle.spdx_terms.specs.Items.{items_of}
use Rattle.spdx_core.specs.Grammar.{ExpressionTree}
use Rattle.spdx_core.specs.Reading.{ExpressionView, ReaderState, after_items, expression_if, expression_of_text, level_tree, nothing_read}
use Rattle.graph_core.specs.Krate.{CrateRecord}
use Rattle.diag_core.specs.declared.label.Coord.{Coord}
use Rattle.diag_core.specs.File.{File, source_of_file}
use Rattle.gather_license.specs.expression.Taken.{field_read, lax_mode, strict_with_slash}
use Rattle.gather_license.specs.location.Location.{PointsAt}
use Rattle.gather_core.specs.findings.Cuts.{LabelLies, StandsAtCoord, labels_of}
use Rattle.gather_license.specs.declared.settling.FilesSeen.{FilesSeen}
use Rattle.gather_license.specs.declared.settling.LicenseBasis.{LicenseBasis}
use Rattle.gather_license.specs.declared.settling.LicenseBasis.TheVariants.{Clarified, Field, Files}
use Rattle.gather_license.specs.Clarification.{ClarificationView, held_in}
use Rattle.gather_license.specs.Priority.{by_seen, field_of, files_scanned, holding_clarification, seen_by, settling_by}
use Rattle.gather_core.specs.Premises.{ByStands, CoordLies, InfoStands, StandsIn, TextIs}
use Rattle.gather_core.specs.Told.{info_by, no_place}
use Rattle.gather_core.specs.Turns.{TurnInput, field_text, missing_findings, basis_in, text_settled}

-- ---- the expression of a field is its text

no_some : {A G : Type 0} (x : A) → None ≡ Some x → G
no_some x e = cc

by_tree : (words : List ℕ) (read : ReaderState) (tree : Option ExpressionTree) (e : ExpressionView)
    → option_map (λ (tree : ExpressionTree). let e : ExpressionView = record { text = words; terms = read.terms; tree = tree } in e) tree ≡ Some e → e.text ≡ words
by_tree words read None e is = no_some e is
by_tree words read (Some tree) e is = sym (ap (λ (o : Option ExpressionView). option_map_or (λ (e : ExpressionView). e.text) o words) is)

text_if : (fine : Bool) (words : List ℕ) (read : ReaderState) (e : ExpressionView) → expression_if fine words read ≡ Some e → e.text ≡ words
text_if false words read e is = no_some e is
text_if true words read e is = by_tree words read (level_tree read.level) e is

text_of : (mode : ParseMode) (lists : CatalogLists) (words : List ℕ) (e : ExpressionView) → expression_of_text mode lists words ≡ Some e → e.text ≡ words
text_of mode lists words e is = text_if (is_none (first_fault mode lists words)) words (after_items nothing_read (items_of mode lists words)) e is

either_text : (a b : Option ExpressionView) (words : List ℕ) (e : ExpressionView) → ((e : ExpressionView) → a ≡ Some e → e.text ≡ words) → ((e : ExpressionView) → b ≡ Some e → e.text ≡ words)
    → option_or a b ≡ Some e → e.text ≡ words
either_text None b words e one two is = two e is
either_text (Some x) b words e one two is = one e is

read_text : (lists : CatalogLists) (field : List ℕ) (e : ExpressionView) → field_read lists field ≡ Some e → e.text ≡ field
read_text lists [] e is = no_some e is
read_text lists (byte ∷ bytes) e is =
    either_text (expression_of_text strict_with_slash lists (byte ∷ bytes)) (expression_of_text lax_mode lists (byte ∷ bytes)) (byte ∷ bytes) e
    (text_of strict_with_slash lists (byte ∷ bytes)) (text_of lax_mode lists (byte ∷ bytes)) is

field_text_is : (lists : CatalogLists) (field : Option (List ℕ)) (e : ExpressionView) → option_and_then (field_read lists) field ≡ Some e → e.text ≡ unwrap_or field []
field_text_is lists None e is = no_some e is
field_text_is lists (Some field) e is = read_text lists field e is

text_by : (one : Option ClarificationView) (field : Option ExpressionView) (lists : CatalogLists) (seen : FilesSeen) (words : List ℕ) → ((e : ExpressionView) → field ≡ Some e → e.text ≡ words)
    → TextIs words (settling_by (option_map held_in one) field (by_seen lists seen))
text_by (Some one) field lists seen words is = tt
text_by None (Some e) lists seen words is = is e refl
text_by None None lists seen words is = tt

pub text_settles : (turn : TurnInput) → TextIs (field_text turn.krate) (basis_in turn)
text_settles turn =
    text_by (holding_clarification turn.known_reads turn.clarifications) (field_of turn.scanner.lists turn.krate) turn.scanner.lists
    (seen_by turn.known_reads.listing (files_scanned turn.scanner turn.clarifications turn.krate turn.known_reads)) (field_text turn.krate)
    (field_text_is turn.scanner.lists turn.krate.license)

-- ---- an expression that a place cuts out begins there

pub points_from : (files : List File) (at : Coord) (words : List ℕ) → PointsAt files at words → at.span.end < 2 ^ 64 → StandsIn files at.file at.span.start None words
points_from files at words points fits =
    let size = at.span.end - at.span.start in
    let rest = drop at.span.start points.source in
    let within : at.span.end ≤ length points.source = points.cuts.ends.0 in
    let long : length words ≡ size = ap length (sym points.cuts.cut_out) ∙ length-take-le size rest (omega (arith, length-drop at.span.start points.source)) in
    let end : at.span.end ≡ at.span.start + length words = (let ordered : at.span.start ≤ at.span.end = points.cuts.ordered in omega arith) in
    record {
      points = subst (λ (e : ℕ). PointsAt files (record { file = at.file; span = record { start = at.span.start; end = e } }) words) end points;
      fits = subst (λ (e : ℕ). e < 2 ^ 64) end fits;
    }

at_place : (files : List File) (place : Option Coord) (words : List ℕ) → StandsAtCoord files place (Some words) → (unwrap_or place no_place).span.end < 2 ^ 64
    → StandsIn files (unwrap_or place no_place).file (unwrap_or place no_place).span.start None words
at_place files None words stands fits = absurd stands
at_place files (Some at) words stands fits = points_from files at words stands fits

pub info_stands : (files : List File) (krate : CrateRecord) (location place : Option Coord) (by : LicenseBasis)
    → ByStands files by → TextIs (field_text krate) by → StandsAtCoord files place (text_settled krate by) → (unwrap_or place no_place).span.end < 2 ^ 64
    → InfoStands files (info_by location (unwrap_or place no_place) by)
info_stands files krate location place (Clarified held) held_stands words stands fits = held_stands
info_stands files krate location place (Field expression) held_stands words stands fits =
    at_place files place expression.text (subst (λ (words : List ℕ). StandsAtCoord files place (Some words)) (sym words) stands) fits
info_stands files krate location place (Files seen None) held_stands words stands fits = tt
info_stands files krate location place (Files seen (Some joined)) held_stands words stands fits = at_place files place joined.expression.text stands fits

-- ---- labels of files that are not there

live_by : (files : List File) (id : ℕ) (source : List ℕ) → source_of_file files id ≡ Some source → id < length files
live_by [] zero source is = no_some source is
live_by [] (suc id) source is = no_some source is
live_by (file ∷ files) zero source is = omega arith
live_by (file ∷ files) (suc id) source is =
    let rest : id < length files = live_by files id source is in
    omega arith

pub missing_labels : (files : List File) (missing : List Coord) → All (CoordLies files) missing → All (LabelLies files) (labels_of (missing_findings missing))
missing_labels files [] lie = All-nil (LabelLies files)
missing_labels files (at ∷ missing) lie =
    let here = All-head (CoordLies files) at missing lie in
    All-cons (LabelLies files) _ (labels_of (missing_findings missing))
    (record {
      live = live_by files at.file here.source here.is_source;
      ordered = here.ordered;
      starts = subst (λ (o : Option (List ℕ)). IsCharBoundary (unwrap_or o []) at.span.start) (sym here.is_source) here.starts;
      ends = subst (λ (o : Option (List ℕ)). IsCharBoundary (unwrap_or o []) at.span.end) (sym here.is_source) here.ends;
    })
    (missing_labels files missing (All-tail (CoordLies files) at missing lie))
