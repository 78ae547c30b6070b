-- What the labels of all findings of a crate cut out, and where they and the expression are.
use Rattle.std.proofs.Common.{◌≡◌, ◌∙◌, ℕ, length, map, List, [], ◌∷◌, ◌++◌, Option, Some, None, unwrap_or, refl, sym, ap, subst}
use Rattle.std.specs.List.{All}
use Rattle.std.specs.Option.{IfSome}
use Rattle.std.proofs.lemmas.List.{length-map}
use Rattle.std.proofs.lemmas.List.Elements.{All-cons, All-head, All-nil, All-tail}
use Rattle.deny_text.specs.declared.span.Span.{Span}
use Rattle.spdx_terms.specs.declared.error.ParseError.{ParseError}
use Rattle.diag_core.specs.declared.label.Coord.{Coord}
use Rattle.diag_core.specs.declared.label.LabelStyle.TheVariants.{Primary}
use Rattle.diag_core.specs.declared.pack.Diag.{Diag}
use Rattle.diag_core.specs.File.{File, source_of_file}
use Rattle.diag_core.specs.Label.{label_at}
use Rattle.graph_core.specs.Krate.{CrateRecord}
use Rattle.deny_text.specs.Spans.{LiesBetween}
use Rattle.diag_core.specs.texts.Synthetic.{text_at, marked_of}
use Rattle.gather_license.specs.location.Location.{PointsAt}
use Rattle.gather_core.specs.findings.Cuts.{CutOutBy, ExpressionStandsBy, LabelLies, LabelsLieBy, MarksLie, StandsAtCoord, failed_texts, field_texts, labels_of, name_texts, text_under}
use Rattle.gather_core.specs.findings.Findings.{UnclarifiedCrateView, MarksView, ExpressionBasisView, by_field, by_files, failure_findings, failure_marks, failures_of, field_findings, field_mark, field_place, joined_place, unlicensed_findings}
use Rattle.gather_core.specs.findings.Pieces.{SeenFilesView, listed, crate_kept, joined_pieces, seen_pieces, synthetic_file}
use Rattle.gather_core.specs.findings.Premises.{FaultsLie}
use Rattle.gather_core.proofs.findings.LabelLemmas.{as_many, failure_cuts, failure_lies, field_cuts, field_lies, lie-append, texts-append}
use Rattle.gather_core.proofs.findings.MarkLemmas.{marks}
use Rattle.gather_core.proofs.findings.PlaceLemmas.{grown, last_source, points, points_cut, points_lie}

-- ---- a synthetic manifest in the table

-- its text and its marks, each where it cuts out what it marks
record Made (table : List File) (id : ℕ) (krate : CrateRecord) (folder : List ℕ) (joined : Option (List ℕ)) (seen : SeenFilesView) : Type 0 where
  text : List ℕ
  is_text : source_of_file table id ≡ Some text
  name : Span
  field : Span
  more : List Span
  spans : (crate_kept krate folder joined seen).spans ≡ name ∷ field ∷ more
  named : PointsAt table (record { file = id; span = name }) krate.name
  stands : PointsAt table (record { file = id; span = field }) (unwrap_or krate.license [])
  more_lie : All (LiesBetween text) more
  more_cut : map (text_at text) more ≡ marked_of (joined_pieces joined) ++ marked_of (seen_pieces folder seen)

made : (files : List File) (krate : CrateRecord) (folder : List ℕ) (joined : Option (List ℕ)) (seen : SeenFilesView)
    → All (LiesBetween (crate_kept krate folder joined seen).text) (crate_kept krate folder joined seen).spans
    → Made (files ++ synthetic_file krate (crate_kept krate folder joined seen) ∷ []) (length files) krate folder joined seen
made files krate folder joined seen lie =
    let kept = crate_kept krate folder joined seen in
    let table = files ++ synthetic_file krate kept ∷ [] in
    let are = marks krate folder joined seen in
    let source : source_of_file table (length files) ≡ Some kept.text = last_source files (synthetic_file krate kept) in
    let all : All (LiesBetween kept.text) (are.name ∷ are.field ∷ are.more) = subst (All (LiesBetween kept.text)) are.spans lie in
    let rest : All (LiesBetween kept.text) (are.field ∷ are.more) = All-tail (LiesBetween kept.text) are.name (are.field ∷ are.more) all in
    record {
      text = kept.text;
      is_text = source;
      name = are.name;
      field = are.field;
      more = are.more;
      spans = are.spans;
      named = points table (length files) kept.text are.name krate.name source (All-head (LiesBetween kept.text) are.name (are.field ∷ are.more) all) are.name_cut;
      stands = points table (length files) kept.text are.field (unwrap_or krate.license []) source (All-head (LiesBetween kept.text) are.field are.more rest) are.field_cut;
      more_lie = All-tail (LiesBetween kept.text) are.field are.more rest;
      more_cut = are.more_cut;
    }

abbrev marks_of : ℕ → Span → Span → List Span → MarksView
marks_of id name field more = record { file = id; spans = name ∷ field ∷ more }

-- where the field is: at its location, or at its mark
record Placed (files : List File) (location mark : Option Coord) (field : List ℕ) : Type 0 where
  place : Coord
  is_place : field_place location mark ≡ Some place
  stands : PointsAt files place field

placed : (files : List File) (location : Option Coord) (mark : Coord) (field : List ℕ) → IfSome location (λ at. PointsAt files at field) → PointsAt files mark field
    → Placed files location (Some mark) field
placed files None mark field located stands = record { place = mark; is_place = refl; stands = stands }
placed files (Some at) mark field located stands = record { place = at; is_place = refl; stands = located }

-- the marks of what failed are those behind the others
failed_marks : (joined : Option (List ℕ)) (id : ℕ) (name field : Span) (more : List Span) (text : List ℕ) (failed : List (List ℕ))
    → map (text_at text) more ≡ marked_of (joined_pieces joined) ++ failed → map (text_at text) (failure_marks joined (marks_of id name field more)) ≡ failed
failed_marks None id name field more text failed is = is
failed_marks (Some expression) id name field [] text failed is = cc
failed_marks (Some expression) id name field (mark ∷ more) text failed is = cc

failed_lie : (joined : Option (List ℕ)) (id : ℕ) (name field : Span) (more : List Span) (text : List ℕ) → All (LiesBetween text) more
    → All (LiesBetween text) (failure_marks joined (marks_of id name field more))
failed_lie None id name field more text lie = lie
failed_lie (Some expression) id name field [] text lie = All-nil (LiesBetween text)
failed_lie (Some expression) id name field (mark ∷ more) text lie = All-tail (LiesBetween text) mark more lie

name_cuts : (files : List File) (joined : Option (List ℕ)) (krate : CrateRecord) (id : ℕ) (name field : Span) (more : List Span)
    → PointsAt files (record { file = id; span = name }) krate.name
    → map (text_under files) (labels_of (unlicensed_findings joined (marks_of id name field more))) ≡ name_texts krate joined
name_cuts files None krate id name field more named = ap (λ (one : List ℕ). one ∷ []) (points_cut files (record { file = id; span = name }) krate.name named)
name_cuts files (Some expression) krate id name field more named = refl

name_lies : (files : List File) (joined : Option (List ℕ)) (krate : CrateRecord) (id : ℕ) (name field : Span) (more : List Span)
    → PointsAt files (record { file = id; span = name }) krate.name
    → All (LabelLies files) (labels_of (unlicensed_findings joined (marks_of id name field more)))
name_lies files None krate id name field more named =
    All-cons (LabelLies files) (label_at Primary id name []) [] (points_lie files (record { file = id; span = name }) krate.name Primary [] named) (All-nil (LabelLies files))
name_lies files (Some expression) krate id name field more named = All-nil (LabelLies files)

-- ---- by the licence files

abbrev all_findings : CrateRecord → Option Coord → List ParseError → SeenFilesView → Option (List ℕ) → MarksView → List Diag
all_findings krate location faults seen joined marks =
    field_findings krate location faults (field_place location (field_mark marks)) krate.license ++ failure_findings seen joined marks ++ unlicensed_findings joined marks

module _ (files : List File) (krate : CrateRecord) (folder : List ℕ) (location : Option Coord) (faults : List ParseError) (seen : SeenFilesView) (joined : Option (List ℕ)) (id : ℕ)
    (is : Made files id krate folder joined seen) (located : IfSome location (λ at. PointsAt files at (unwrap_or krate.license [])))
    (lie : FaultsLie (unwrap_or krate.license []) faults) where
  files_cut : map (text_under files) (labels_of (all_findings krate location faults seen joined (marks_of id is.name is.field is.more)))
      ≡ field_texts location faults krate.license ++ failed_texts folder seen ++ name_texts krate joined
  files_cut =
      let marks : MarksView = marks_of id is.name is.field is.more in
      let mark : Coord = record { file = id; span = is.field } in
      let at = placed files location mark (unwrap_or krate.license []) located is.stands in
      let first = field_findings krate location faults (field_place location (Some mark)) krate.license in
      let second = failure_findings seen joined marks in
      let third = unlicensed_findings joined marks in
      let failed = failed_marks joined id is.name is.field is.more is.text (marked_of (seen_pieces folder seen)) is.more_cut in
      let counted : length (failures_of seen) ≡ length (failure_marks joined marks) =
      as_many folder seen ∙ sym (ap length failed) ∙ length-map (failure_marks joined marks) (text_at is.text) in
      let one : map (text_under files) (labels_of first) ≡ field_texts location faults krate.license =
      ap (λ (place : Option Coord). map (text_under files) (labels_of (field_findings krate location faults place krate.license))) at.is_place
      ∙ field_cuts files krate location faults at.place krate.license located at.stands lie in
      let two : map (text_under files) (labels_of second) ≡ failed_texts folder seen =
      failure_cuts files id is.text is.is_text (failures_of seen) (failure_marks joined marks) counted ∙ failed in
      let three : map (text_under files) (labels_of third) ≡ name_texts krate joined = name_cuts files joined krate id is.name is.field is.more is.named in
      texts-append files (first ++ second) third
      ∙ ap (λ (texts : List (List ℕ)). texts ++ map (text_under files) (labels_of third)) (texts-append files first second)
      ∙ ap (λ (texts : List (List ℕ)). texts ++ map (text_under files) (labels_of second) ++ map (text_under files) (labels_of third)) one
      ∙ ap (λ (texts : List (List ℕ)). field_texts location faults krate.license ++ texts ++ map (text_under files) (labels_of third)) two
      ∙ ap (λ (texts : List (List ℕ)). field_texts location faults krate.license ++ failed_texts folder seen ++ texts) three

  files_lie : All (LabelLies files) (labels_of (all_findings krate location faults seen joined (marks_of id is.name is.field is.more)))
  files_lie =
      let marks : MarksView = marks_of id is.name is.field is.more in
      let mark : Coord = record { file = id; span = is.field } in
      let at = placed files location mark (unwrap_or krate.license []) located is.stands in
      let first = field_findings krate location faults (field_place location (Some mark)) krate.license in
      let second = failure_findings seen joined marks in
      let third = unlicensed_findings joined marks in
      let one : All (LabelLies files) (labels_of first) =
      subst (λ (place : Option Coord). All (LabelLies files) (labels_of (field_findings krate location faults place krate.license))) (sym at.is_place)
      (field_lies files krate location faults at.place krate.license located at.stands lie) in
      let two : All (LabelLies files) (labels_of second) =
      failure_lies files id is.text is.is_text (failures_of seen) (failure_marks joined marks) (failed_lie joined id is.name is.field is.more is.text is.more_lie) in
      let three : All (LabelLies files) (labels_of third) = name_lies files joined krate id is.name is.field is.more is.named in
      lie-append files (first ++ second) third (lie-append files first second one two) three

joined_stands : (files : List File) (folder : List ℕ) (joined : Option (List ℕ)) (seen : SeenFilesView) (id : ℕ) (text : List ℕ) (name field : Span) (more : List Span)
    → source_of_file files id ≡ Some text → All (LiesBetween text) more → map (text_at text) more ≡ marked_of (joined_pieces joined) ++ marked_of (seen_pieces folder seen)
    → StandsAtCoord files (joined_place joined (marks_of id name field more)) joined
joined_stands files folder None seen id text name field more is lie cuts = tt
joined_stands files folder (Some expression) seen id text name field [] is lie cuts = cc
joined_stands files folder (Some expression) seen id text name field (mark ∷ more) is lie cuts =
    let own : text_at text mark ≡ expression = cc in
    points files id text mark expression is (All-head (LiesBetween text) mark more lie) own

-- ---- whatever settles the licence

module _ (krate : CrateRecord) (folder : List ℕ) (faults : List ParseError) (settled : ExpressionBasisView) (files : List File) where
  abbrev case_of : Option Coord → UnclarifiedCrateView
  case_of location = record { krate = krate; folder = folder; location = location; faults = faults; outcome = settled }

  abbrev table_of : Option (List ℕ) → SeenFilesView → List File
  table_of joined seen = files ++ synthetic_file krate (crate_kept krate folder joined seen) ∷ []

  pub cuts_by : (location : Option Coord) (outcome : ExpressionBasisView) → IfSome location (λ at. PointsAt files at (unwrap_or krate.license []))
      → FaultsLie (unwrap_or krate.license []) faults → MarksLie (case_of location) outcome → CutOutBy (case_of location) files outcome
  cuts_by None by_field located lie between =
      let is = made files krate folder None (listed []) between in
      subst (λ (spans : List Span). map (text_under (table_of None (listed [])))
      (labels_of (field_findings krate None faults (field_mark (record { file = length files; spans = spans })) krate.license))
      ≡ field_texts None faults krate.license) (sym is.spans)
      (field_cuts (table_of None (listed [])) krate None faults (record { file = length files; span = is.field }) krate.license tt is.stands lie)
  cuts_by (Some at) by_field located lie between = field_cuts files krate (Some at) faults at krate.license located located lie
  cuts_by location (by_files seen joined) located lie between =
      let is = made files krate folder joined seen between in
      let there = grown files (synthetic_file krate (crate_kept krate folder joined seen)) location (unwrap_or krate.license []) located in
      subst (λ (spans : List Span). map (text_under (table_of joined seen))
      (labels_of (all_findings krate location faults seen joined (record { file = length files; spans = spans })))
      ≡ field_texts location faults krate.license ++ failed_texts folder seen ++ name_texts krate joined) (sym is.spans)
      (files_cut (table_of joined seen) krate folder location faults seen joined (length files) is there lie)

  pub lie_by : (location : Option Coord) (outcome : ExpressionBasisView) → IfSome location (λ at. PointsAt files at (unwrap_or krate.license []))
      → FaultsLie (unwrap_or krate.license []) faults → MarksLie (case_of location) outcome → LabelsLieBy (case_of location) files outcome
  lie_by None by_field located lie between =
      let is = made files krate folder None (listed []) between in
      subst (λ (spans : List Span). All (LabelLies (table_of None (listed [])))
      (labels_of (field_findings krate None faults (field_mark (record { file = length files; spans = spans })) krate.license))) (sym is.spans)
      (field_lies (table_of None (listed [])) krate None faults (record { file = length files; span = is.field }) krate.license tt is.stands lie)
  lie_by (Some at) by_field located lie between = field_lies files krate (Some at) faults at krate.license located located lie
  lie_by location (by_files seen joined) located lie between =
      let is = made files krate folder joined seen between in
      let there = grown files (synthetic_file krate (crate_kept krate folder joined seen)) location (unwrap_or krate.license []) located in
      subst (λ (spans : List Span). All (LabelLies (table_of joined seen))
      (labels_of (all_findings krate location faults seen joined (record { file = length files; spans = spans })))) (sym is.spans)
      (files_lie (table_of joined seen) krate folder location faults seen joined (length files) is there lie)

  pub stands_by : (location : Option Coord) (outcome : ExpressionBasisView) → IfSome location (λ at. PointsAt files at (unwrap_or krate.license []))
      → MarksLie (case_of location) outcome → ExpressionStandsBy (case_of location) files outcome
  stands_by None by_field located between =
      let is = made files krate folder None (listed []) between in
      subst (λ (spans : List Span). StandsAtCoord (table_of None (listed [])) (field_mark (record { file = length files; spans = spans })) (Some (unwrap_or krate.license [])))
      (sym is.spans) is.stands
  stands_by (Some at) by_field located between = located
  stands_by location (by_files seen joined) located between =
      let is = made files krate folder joined seen between in
      subst (λ (spans : List Span). StandsAtCoord (table_of joined seen) (joined_place joined (record { file = length files; spans = spans })) joined)
      (sym is.spans) (joined_stands (table_of joined seen) folder joined seen (length files) is.text is.name is.field is.more is.is_text is.more_lie is.more_cut)
