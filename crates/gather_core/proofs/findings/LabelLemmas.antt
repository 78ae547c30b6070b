-- What the labels of findings cut out, and where they lie.
use Rattle.std.proofs.Common.{◌≡◌, ◌∙◌, ℕ, ◌+◌, true, false, eqb, cond, length, map, List, [], ◌∷◌, ◌++◌, Option, Some, None, unwrap_or, codes, refl, sym, ap, subst, append-nil, arith}
use Rattle.std.specs.List.{All, filter_map, flat_map, zip, cons_option}
use Rattle.std.specs.Option.{IfSome, option_to_list}
use Rattle.std.proofs.lemmas.Bool.{eqb-true}
use Rattle.std.proofs.lemmas.List.{length-append, map-append}
use Rattle.std.proofs.lemmas.List.Concat.{flat_map-append}
use Rattle.std.proofs.lemmas.List.Elements.{All-append, All-cons, All-head, All-nil, All-tail}
use Rattle.deny_text.specs.declared.span.Span.{Span}
use Rattle.spdx_terms.specs.declared.error.ParseError.{ParseError}
use Rattle.spdx_terms.specs.Reasons.{reason_text}
use Rattle.diag_core.specs.declared.label.Coord.{Coord}
use Rattle.diag_core.specs.declared.label.LabelStyle.TheVariants.{Secondary}
use Rattle.diag_core.specs.declared.pack.Diag.{Diag}
use Rattle.diag_core.specs.File.{File, source_of_file}
use Rattle.graph_core.specs.Krate.{CrateRecord}
use Rattle.diag_core.specs.texts.Manifest.{closing_pieces, opening_pieces}
use Rattle.deny_text.specs.Spans.{LiesBetween}
use Rattle.diag_core.specs.texts.Synthetic.{text_at, marked_of}
use Rattle.gather_license.specs.location.Location.{PointsAt}
use Rattle.gather_license.specs.declared.expression.files.FileResult.{FileResult}
use Rattle.gather_license.specs.declared.expression.files.FileResult.TheVariants.{Bad, Unnamed, Low, Unknown, Joined}
use Rattle.gather_license.specs.declared.expression.files.ScannedFile.{ScannedFile}
use Rattle.gather_core.specs.findings.Cuts.{LabelLies, empty_texts, field_texts, labels_of, text_under}
use Rattle.gather_core.specs.findings.Findings.{empty_findings, failure, failure_of, failures_of, fault_findings, fault_place, field_fault, field_findings, label_of}
use Rattle.gather_core.specs.findings.Pieces.{SeenFilesView, unlisted, listed, file_pieces, list_pieces, seen_pieces}
use Rattle.gather_core.specs.findings.Premises.{FaultsLie}
use Rattle.gather_core.proofs.findings.MarkLemmas.{marked_of-append}
use Rattle.gather_core.proofs.findings.PlaceLemmas.{fault_points, points, points_cut, points_lie}

-- ---- one list behind another

labels_of-append : (first second : List Diag) → labels_of (first ++ second) ≡ labels_of first ++ labels_of second
labels_of-append first second = flat_map-append (λ (finding : Diag). finding.diag.labels) first second

pub texts-append : (files : List File) (first second : List Diag)
    → map (text_under files) (labels_of (first ++ second)) ≡ map (text_under files) (labels_of first) ++ map (text_under files) (labels_of second)
texts-append files first second = ap (map (text_under files)) (labels_of-append first second) ∙ map-append (text_under files) (labels_of first) (labels_of second)

pub lie-append : (files : List File) (first second : List Diag) → All (LabelLies files) (labels_of first) → All (LabelLies files) (labels_of second)
    → All (LabelLies files) (labels_of (first ++ second))
lie-append files first second one two =
    subst (All (LabelLies files)) (sym (labels_of-append first second)) (All-append (LabelLies files) (labels_of first) (labels_of second) one two)

-- ---- the faults of a field that is in a file

fault_cuts : (files : List File) (at : Coord) (field : List ℕ) → PointsAt files at field → (faults : List ParseError) → FaultsLie field faults
    → map (text_under files) (labels_of (map (field_fault at) faults)) ≡ map (λ (fault : ParseError). text_at field fault.span) faults
fault_cuts files at field stands [] lie = refl
fault_cuts files at field stands (fault ∷ faults) lie =
    let here = All-head (λ (one : ParseError). LiesBetween field one.span) fault faults lie in
    let rest = fault_cuts files at field stands faults (All-tail (λ (one : ParseError). LiesBetween field one.span) fault faults lie) in
    let first = points_cut files (fault_place at fault.span) (text_at field fault.span) (fault_points files at field fault.span stands here) in
    ap (λ (text : List ℕ). text ∷ map (text_under files) (labels_of (map (field_fault at) faults))) first
    ∙ ap (λ (texts : List (List ℕ)). text_at field fault.span ∷ texts) rest

fault_lies : (files : List File) (at : Coord) (field : List ℕ) → PointsAt files at field → (faults : List ParseError) → FaultsLie field faults
    → All (LabelLies files) (labels_of (map (field_fault at) faults))
fault_lies files at field stands [] lie = All-nil (LabelLies files)
fault_lies files at field stands (fault ∷ faults) lie =
    let here = All-head (λ (one : ParseError). LiesBetween field one.span) fault faults lie in
    let rest = fault_lies files at field stands faults (All-tail (λ (one : ParseError). LiesBetween field one.span) fault faults lie) in
    All-cons (LabelLies files) (label_of (fault_place at fault.span) (reason_text fault.reason)) (labels_of (map (field_fault at) faults))
    (points_lie files (fault_place at fault.span) (text_at field fault.span) Secondary (reason_text fault.reason) (fault_points files at field fault.span stands here)) rest

-- ---- what failed

-- as many marks as failures
pub failure_cuts : (files : List File) (id : ℕ) (source : List ℕ) → source_of_file files id ≡ Some source → (words : List (List ℕ)) (spans : List Span) → length words ≡ length spans
    → map (text_under files) (labels_of (map (failure id) (zip words spans))) ≡ map (text_at source) spans
failure_cuts files id source is [] [] same = refl
failure_cuts files id source is [] (span ∷ spans) same = absurd (omega arith)
failure_cuts files id source is (word ∷ words) [] same = absurd (omega arith)
failure_cuts files id source is (word ∷ words) (span ∷ spans) same =
    let fewer : length words ≡ length spans = omega arith in
    ap (λ (text : List ℕ). text ∷ map (text_under files) (labels_of (map (failure id) (zip words spans)))) (ap (λ (o : Option (List ℕ)). text_at (unwrap_or o []) span) is)
    ∙ ap (λ (texts : List (List ℕ)). text_at source span ∷ texts) (failure_cuts files id source is words spans fewer)

pub failure_lies : (files : List File) (id : ℕ) (source : List ℕ) → source_of_file files id ≡ Some source → (words : List (List ℕ)) (spans : List Span) → All (LiesBetween source) spans
    → All (LabelLies files) (labels_of (map (failure id) (zip words spans)))
failure_lies files id source is [] spans lie = All-nil (LabelLies files)
failure_lies files id source is (word ∷ words) [] lie = All-nil (LabelLies files)
failure_lies files id source is (word ∷ words) (span ∷ spans) lie =
    let here = All-head (LiesBetween source) span spans lie in
    let at : Coord = record { file = id; span = span } in
    All-cons (LabelLies files) (label_of at word) (labels_of (map (failure id) (zip words spans)))
    (points_lie files at (text_at source span) Secondary word (points files id source span (text_at source span) is here refl))
    (failure_lies files id source is words spans (All-tail (LiesBetween source) span spans lie))

one_mark : (folder : List ℕ) (path : List ℕ) (scanned : FileResult)
    → length (marked_of (file_pieces folder (record { path = path; scanned = scanned }))) ≡ length (option_to_list (failure_of scanned))
one_mark folder path (Bad error) = refl
one_mark folder path (Unnamed hash score) = refl
one_mark folder path (Low hash score name) = refl
one_mark folder path (Unknown hash score name) = refl
one_mark folder path (Joined hash name deprecated) = refl

cons_length : {A : Type 0} (o : Option A) (rest : List A) → length (cons_option o rest) ≡ length (option_to_list o) + length rest
cons_length None rest = omega arith
cons_length (Some x) rest = omega arith

marks_of_files : (folder : List ℕ) (files : List ScannedFile)
    → length (marked_of (flat_map (file_pieces folder) files)) ≡ length (filter_map (λ (file : ScannedFile). failure_of file.scanned) files)
marks_of_files folder [] = refl
marks_of_files folder (file ∷ files) =
    let rest = marks_of_files folder files in
    let one = one_mark folder file.path file.scanned in
    let split : length (marked_of (file_pieces folder file ++ flat_map (file_pieces folder) files))
    ≡ length (marked_of (file_pieces folder file)) + length (marked_of (flat_map (file_pieces folder) files)) =
    ap length (marked_of-append (file_pieces folder file) (flat_map (file_pieces folder) files))
    ∙ length-append (marked_of (file_pieces folder file)) (marked_of (flat_map (file_pieces folder) files)) in
    let counted = cons_length (failure_of file.scanned) (filter_map (λ (other : ScannedFile). failure_of other.scanned) files) in
    omega (arith, split, one, rest, counted)

marks_of_list : (folder : List ℕ) (files : List ScannedFile) → marked_of (list_pieces folder files) ≡ marked_of (flat_map (file_pieces folder) files)
marks_of_list folder files =
    marked_of-append (opening_pieces ++ flat_map (file_pieces folder) files) closing_pieces
    ∙ append-nil (marked_of (opening_pieces ++ flat_map (file_pieces folder) files))

no_files : (files : List ScannedFile) → length files ≡ 0 → length (failures_of (listed files)) ≡ 0
no_files [] none = refl
no_files (file ∷ files) none = absurd (omega arith)

pub as_many : (folder : List ℕ) (seen : SeenFilesView) → length (failures_of seen) ≡ length (marked_of (seen_pieces folder seen))
as_many folder (unlisted error) = refl
as_many folder (listed files) =
    elim (eqb (length files) 0) as (λ b. eqb (length files) 0 ≡ b → length (failures_of (listed files)) ≡ length (marked_of (cond b [] (list_pieces folder files)))) [
      | true ↦ λ none. no_files files (eqb-true (length files) 0 none)
      | false ↦ λ _. sym (ap length (marks_of_list folder files) ∙ marks_of_files folder files)
    ] refl

-- ---- by the field

nothing_in : (field : List ℕ) → length field ≡ 0 → field ≡ []
nothing_in [] none = refl
nothing_in (byte ∷ field) none = absurd (omega arith)

empty_cuts : (files : List File) (krate : CrateRecord) (location : Option Coord) (field : List ℕ) → IfSome location (λ at. PointsAt files at field) → field ≡ []
    → map (text_under files) (labels_of (empty_findings krate location)) ≡ empty_texts location
empty_cuts files krate None field located is = refl
empty_cuts files krate (Some at) field located is = ap (λ (text : List ℕ). text ∷ []) (points_cut files at field located ∙ is)

empty_lies : (files : List File) (krate : CrateRecord) (location : Option Coord) (field : List ℕ) → IfSome location (λ at. PointsAt files at field)
    → All (LabelLies files) (labels_of (empty_findings krate location))
empty_lies files krate None field located = All-nil (LabelLies files)
empty_lies files krate (Some at) field located =
    let said = codes "empty field" in
    All-cons (LabelLies files) (label_of at said) [] (points_lie files at field Secondary said located) (All-nil (LabelLies files))

-- the findings of a field that is at a place, and at its location where it has one
pub field_cuts : (files : List File) (krate : CrateRecord) (location : Option Coord) (faults : List ParseError) (place : Coord) (license : Option (List ℕ))
    → IfSome location (λ at. PointsAt files at (unwrap_or license [])) → PointsAt files place (unwrap_or license []) → FaultsLie (unwrap_or license []) faults
    → map (text_under files) (labels_of (field_findings krate location faults (Some place) license)) ≡ field_texts location faults license
field_cuts files krate location faults place None located stands lie = refl
field_cuts files krate location faults place (Some field) located stands lie =
    elim (eqb (length field) 0) as (λ b. eqb (length field) 0 ≡ b
    → map (text_under files) (labels_of (cond b (empty_findings krate location) (fault_findings (Some place) faults)))
    ≡ cond b (empty_texts location) (map (λ (fault : ParseError). text_at field fault.span) faults)) [
      | true ↦ λ none. empty_cuts files krate location field located (nothing_in field (eqb-true (length field) 0 none))
      | false ↦ λ _. fault_cuts files place field stands faults lie
    ] refl

pub field_lies : (files : List File) (krate : CrateRecord) (location : Option Coord) (faults : List ParseError) (place : Coord) (license : Option (List ℕ))
    → IfSome location (λ at. PointsAt files at (unwrap_or license [])) → PointsAt files place (unwrap_or license []) → FaultsLie (unwrap_or license []) faults
    → All (LabelLies files) (labels_of (field_findings krate location faults (Some place) license))
field_lies files krate location faults place None located stands lie = All-nil (LabelLies files)
field_lies files krate location faults place (Some field) located stands lie =
    elim (eqb (length field) 0) as (λ b. All (LabelLies files) (labels_of (cond b (empty_findings krate location) (fault_findings (Some place) faults)))) [
      | true ↦ empty_lies files krate location field located
      | false ↦ fault_lies files place field stands faults lie
    ]
