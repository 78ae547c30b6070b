-- What is told of each crate is its text: of a checked one by its turn, its report and the walk to it, of another one by
-- its first cause.
use Rattle.std.proofs.Common.{◌≡◌, ◌∙◌, inl, inr, refl, sym, ap, ap₂, subst, ℕ, zero, suc, ◌-◌, ◌<◌, nat_cmp, Bool, true, false, cond, List, [], ◌∷◌, ◌++◌, append_assoc, length, map, filter, take, All, Option, Some, None, option_map, IfSome, bytes_eq, arith}
use Rattle.std.specs.Prelude.{find, slice_get, unwrap_or}
use Rattle.std.specs.List.{AllByRecursion, AllZip, cons_option}
use Rattle.std.specs.Option.{option_map_or}
use Rattle.std.proofs.lemmas.List.{length-append, length-map}
use Rattle.std.proofs.lemmas.List.Elements.{All-take, recursion_from_All}
use Rattle.std.proofs.lemmas.Option.{get_or_from_slice_get, slice_get-map}
use Rattle.std.proofs.lemmas.Slice.Eq.{bytes_eq-Decides}
use Rattle.std.specs.Cmp.Lexicographic.{slice_cmp}
use Rattle.std.specs.List.Sorted.{IsStrictlySortedBy}
use Rattle.std.specs.declared.cmp.Ordering.TheVariants.{Less}
use Rattle.graph_core.specs.Krate.{CrateRecord}
use Rattle.graph_core.specs.Metadata.{AreRising, CrateNode, Graph, id_of_node, ids_of}
use Rattle.graph_core.proofs.selection.Rising.{less-other, some_same}
use Rattle.graph_core.specs.declared.edge.DepKind.{DepKind}
use Rattle.graph_core.specs.declared.edge.DepKind.TheVariants.{Dev, Build}
use Rattle.graph_core.specs.declared.selection.selection.Include.{Include}
use Rattle.graph_core.specs.selection.Choice.{Choice, choice_of}
use Rattle.graph_core.specs.selection.Roots.{crates_of}
use Rattle.graph_core.specs.selection.Walks.{Reached, Selected}
use Rattle.graph_walk.specs.declared.unchecked.Unchecked.{Unchecked}
use Rattle.graph_walk.specs.Shortest.{AreShortest, ShortestWalk, before_end, ids_on, kind_left_out, walk_at}
use Rattle.graph_walk.specs.Unchecked.{UncheckedIs, unchecked_text}
use Rattle.gather_license.specs.expression.Kept.{kept_by}
use Rattle.gather_license.specs.expression.Scanned.{Scanner}
use Rattle.gather_license.specs.files.KnownReads.{known_reads_by}
use Rattle.gather_core.specs.Calls.{CrateTurn, HasOwnReads}
use Rattle.gather_core.specs.Turns.{records_in}
use Rattle.check_core.specs.declared.report.CrateReport.{CrateReport}
use Rattle.check_why.specs.declared.answer.CrateTitle.{CrateTitle}
use Rattle.check_why.specs.Answer.{title_of, titles_of}
use Rattle.check_why.specs.Made.{IsReportOn, answer_by}
use Rattle.check_why.proofs.MadeLemmas.{answer_same}
use Rattle.run_context.specs.declared.gather.AskedMetadata.{AskedMetadata}
use Rattle.run_check.specs.Headline.{is_against}
use Rattle.run_check.specs.Report.{TellsSource, TellsTurn, verdicts_in}
use Rattle.run_why.specs.declared.telling.Telling.{Telling}
use Rattle.run_why.specs.Named.{is_named}
use Rattle.run_why.specs.Steps.{IsGraphTold, because_texts, before_last, cause_at, checked_texts, copied_titles, followed, mark_at, needed_titles, next_texts, texts_from, title_at, unchecked_texts, walks_by}
use Rattle.run_why.specs.Why.{IsCheckedText, IsUncheckedText, IsWhyText, WhyBasis, answer_text, because_text, checked_in, crate_with, crates_against, crates_with}

-- ---- lists

-- the item behind so many others
pub slice_behind : {A : Type 0} (front : List A) (x : A) (rest : List A) → slice_get (front ++ x ∷ rest) (length front) ≡ Some x
slice_behind [] x rest = refl
slice_behind (first ∷ front) x rest = slice_behind front x rest

pub zip_append : {A B : Type 0} (R : A → B → Type 0) (xs more : List A) (ys others : List B) → AllZip R xs ys → AllZip R more others → AllZip R (xs ++ more) (ys ++ others)
zip_append R [] more [] others first second = second
zip_append R [] more (y ∷ ys) others first second = absurd first
zip_append R (x ∷ xs) more [] others first second = absurd first
zip_append R (x ∷ xs) more (y ∷ ys) others first second = (first.0, zip_append R xs more ys others first.1 second)

first_same : {A : Type 0} (x y : A) (xs ys : List A) → x ∷ xs ≡ y ∷ ys → x ≡ y
first_same x y xs ys e = cc

more_same : {A : Type 0} (x y : A) (xs ys : List A) → x ∷ xs ≡ y ∷ ys → xs ≡ ys
more_same x y xs ys e = cc

one_more : {A : Type 0} (b : Bool) (x : A) (rest : List A) → cond b (x ∷ []) [] ++ rest ≡ cond b (x ∷ rest) rest
one_more true x rest = refl
one_more false x rest = refl

place_within : {A : Type 0} (xs front : List A) (x : A) (rest : List A) (place : ℕ) → xs ≡ front ++ x ∷ rest → place ≡ length front → place < length xs
place_within {A = A} xs front x rest place parts is =
    subst (λ (all : List A). place < length all) (sym parts) (omega (arith, is, length-append front (x ∷ rest)))

-- ---- which crates are told

-- those without a cause
abbrev pub checked_among : List CrateRecord → List (Option Unchecked) → List CrateRecord
checked_among [] causes = []
checked_among (krate ∷ more) [] = []
checked_among (krate ∷ more) (Some cause ∷ causes) = checked_among more causes
checked_among (krate ∷ more) (None ∷ causes) = krate ∷ checked_among more causes

-- with words those that they name; else of the checked ones those that the check is against
abbrev pub picks : Bool → List (List ℕ) → List CrateRecord → List (Option Unchecked) → List CrateReport → List CrateRecord
picks has_words words [] causes reports = []
picks has_words words (krate ∷ more) [] reports = []
picks has_words words (krate ∷ more) (Some cause ∷ causes) reports = cond (is_named words krate) (krate ∷ []) [] ++ picks has_words words more causes reports
picks has_words words (krate ∷ more) (None ∷ causes) [] = picks has_words words more causes []
picks has_words words (krate ∷ more) (None ∷ causes) (report ∷ reports) =
    cond (cond has_words (is_named words krate) (is_against report.verdict)) (krate ∷ []) [] ++ picks has_words words more causes reports

abbrev pub krate_of_turn : CrateTurn → CrateRecord
krate_of_turn own = own.turn.krate

-- ---- ids and places

id_at : (nodes : List CrateNode) (place : ℕ) (krate : CrateRecord) → slice_get (map (λ (node : CrateNode). node.krate) nodes) place ≡ Some krate
    → unwrap_or (slice_get (map (λ (node : CrateNode). node.krate.id) nodes) place) [] ≡ krate.id
id_at [] zero krate is = absurd (cc is)
id_at [] (suc place) krate is = absurd (cc is)
id_at (node ∷ nodes) zero krate is = same_id node.krate krate is
  where
    same_id : (one other : CrateRecord) → ◌≡◌ {A = Option CrateRecord} (Some one) (Some other) → one.id ≡ other.id
    same_id one other e = cc
id_at (node ∷ nodes) (suc place) krate is = id_at nodes place krate is

pub at_within : {A : Type 0} (xs : List A) (place : ℕ) → place < length xs → (x : A) × (slice_get xs place ≡ Some x)
at_within [] place within = absurd (omega arith)
at_within (x ∷ xs) zero within = (x, refl)
at_within (x ∷ xs) (suc place) within = at_within xs place (omega arith)

taken_map : {A B : Type 0} (f : A → B) (n : ℕ) (xs : List A) → take n (map f xs) ≡ map f (take n xs)
taken_map f zero xs = refl
taken_map f (suc n) [] = refl
taken_map f (suc n) (x ∷ xs) = ap (λ rest. f x ∷ rest) (taken_map f n xs)

ids_rise : (nodes : List CrateNode) (place : ℕ) (krate : CrateRecord) (P : List ℕ → Type 0) → AllByRecursion P (map (λ (node : CrateNode). node.krate.id) nodes)
    → slice_get (map (λ (node : CrateNode). node.krate) nodes) place ≡ Some krate → P krate.id
ids_rise [] zero krate P all is = absurd (cc is)
ids_rise [] (suc place) krate P all is = absurd (cc is)
ids_rise (node ∷ nodes) zero krate P all is = subst (λ (one : CrateRecord). P one.id) (some_same node.krate krate is) all.0
ids_rise (node ∷ nodes) (suc place) krate P all is = ids_rise nodes place krate P all.1 is

-- another id is not the same text
apart_ids : (x y : List ℕ) → slice_cmp nat_cmp x y ≡ Less → bytes_eq x y ≡ false
apart_ids x y less =
    elim (bytes_eq x y) as (λ b. bytes_eq x y ≡ b → b ≡ false) [
      | true ↦ λ same. absurd (less-other x y less ((bytes_eq-Decides x y).0 same))
      | false ↦ λ e. refl
    ] refl

-- no two crates have one id
first_with : (nodes : List CrateNode) (place : ℕ) (krate : CrateRecord) → AreRising (map (λ (node : CrateNode). node.krate.id) nodes)
    → slice_get (map (λ (node : CrateNode). node.krate) nodes) place ≡ Some krate
    → find (λ (other : CrateRecord). bytes_eq other.id krate.id) (map (λ (node : CrateNode). node.krate) nodes) ≡ Some krate
unfolding IsStrictlySortedBy
first_with [] zero krate rising is = absurd (cc is)
first_with [] (suc place) krate rising is = absurd (cc is)
first_with (node ∷ nodes) zero krate rising is =
    ap (λ b. cond b (Some node.krate) (find (λ (other : CrateRecord). bytes_eq other.id krate.id) (map (λ (node : CrateNode). node.krate) nodes)))
    ((bytes_eq-Decides node.krate.id krate.id).1 (ap (λ (one : CrateRecord). one.id) (some_same node.krate krate is)))
    ∙ is
first_with (node ∷ nodes) (suc place) krate rising is =
    ap (λ b. cond b (Some node.krate) (find (λ (other : CrateRecord). bytes_eq other.id krate.id) (map (λ (node : CrateNode). node.krate) nodes)))
    (apart_ids node.krate.id krate.id (ids_rise nodes place krate (λ id. slice_cmp nat_cmp node.krate.id id ≡ Less) rising.0 is))
    ∙ first_with nodes place krate rising.1 is

-- ---- one crate

-- a report is on the crate of a turn, which goes by the crate's own reads
pub record IsTold (scanner : Scanner) (own : CrateTurn) (report : CrateReport) : Type 0 where
  pub turn : TellsTurn own report
  pub source : TellsSource own report
  pub own_reads : HasOwnReads own
  pub known : own.turn.known_reads ≡ known_reads_by own.reads
  pub by : own.turn.scanner ≡ scanner

pub report_on : (scanner : Scanner) (own : CrateTurn) (report : CrateReport) (needed_by : List CrateRecord) → IsTold scanner own report → IsReportOn scanner (checked_in own report.verdict needed_by) report
report_on scanner own report needed_by told = record {
  expression = told.turn.expression;
  source = told.source;
  place = told.turn.place;
  exceptions = told.turn.exceptions;
  notes = told.turn.notes;
  reads = told.turn.reads;
  kept = subst (λ (scanner : Scanner). report.kept ≡ kept_by scanner own.turn.known_reads (records_in own.turn)) told.by told.turn.kept;
  verdict = refl;
}

module _ (telling : Telling) (words : List (List ℕ)) (asked : AskedMetadata) (include : Include) (told : IsGraphTold words asked include telling.told.now) (scanner : Scanner) (keeps : scanner.keeps ≡ true) (turns : List CrateTurn) where
  abbrev graph : Graph
  graph = asked.metadata

  abbrev choice : Choice
  choice = choice_of asked.selection

  abbrev crates : List CrateRecord
  crates = crates_of graph

  abbrev pub basis : WhyBasis
  basis = record {
    format = telling.format;
    graph = graph;
    choice = choice;
    words_excluded = asked.own_specs;
    include = include;
    scanner = scanner;
    policy = telling.report.now.policy;
    files = telling.report.now.files;
    turns = turns;
    verdicts = verdicts_in telling.report.now;
  }

  -- ---- what is known at the place of a crate

  module _ (place : ℕ) (krate : CrateRecord) (is : slice_get crates place ≡ Some krate) where
    mark_is : mark_at telling.told.now.named.items place ≡ is_named words krate
    mark_is =
        ap (λ (marks : List Bool). mark_at marks place) told.named
        ∙ get_or_from_slice_get (map (is_named words) crates) place (is_named words krate) false
        (slice_get-map (is_named words) crates place ∙ ap (option_map (is_named words)) is)

    title_is : title_at telling.told.now.titles place ≡ Some (title_of krate)
    title_is = ap (λ (titles : List CrateTitle). slice_get titles place) told.titles ∙ slice_get-map title_of crates place ∙ ap (option_map title_of) is

    id_is : id_of_node graph place ≡ krate.id
    id_is = id_at graph.nodes place krate is

    -- the texts of a crate that is not checked
    unchecked_one : (cause : Unchecked) → cause_at telling.told.now.causes.items place ≡ Some cause
        → IsUncheckedText basis krate (because_text telling.format (title_of krate) (unchecked_text cause))
    unchecked_one cause at = record {
      cause = cause;
      is_cause = subst (UncheckedIs graph choice asked.own_specs include krate) at (told.causes.each place krate is);
      told = refl;
    }

    unchecked_all : (cause : Unchecked) → cause_at telling.told.now.causes.items place ≡ Some cause
        → AllZip (IsWhyText basis) (cond (is_named words krate) (krate ∷ []) []) (unchecked_texts telling place (unchecked_text cause))
    unchecked_all cause at =
        subst (λ (mark : Bool). AllZip (IsWhyText basis) (cond (is_named words krate) (krate ∷ []) []) (cond mark (by_title (title_at telling.told.now.titles place)) [])) (sym mark_is)
        (subst (λ (title : Option CrateTitle). AllZip (IsWhyText basis) (cond (is_named words krate) (krate ∷ []) []) (cond (is_named words krate) (by_title title) [])) (sym title_is)
        (elim (is_named words krate) as (λ b. AllZip (IsWhyText basis) (cond b (krate ∷ []) []) (cond b (by_title (Some (title_of krate))) [])) [
          | true ↦ (inr (unchecked_one cause at), tt)
          | false ↦ tt
        ]))
      where
        by_title : Option CrateTitle → List (List ℕ)
        by_title title = because_texts telling.format title (unchecked_text cause)

  -- ---- the walk to a crate

  followed_by : (dev build : Bool) → AreShortest graph choice (cond dev (cond build None (Some Build)) (Some Dev)) (walks_by telling.told.now (cond dev (cond build None (Some Build)) (Some Dev)))
  followed_by true true = told.walks.all_are
  followed_by true false = told.walks.without_build_are
  followed_by false build = told.walks.without_dev_are

  followed_are : AreShortest graph choice (kind_left_out include) (followed telling.told.now)
  followed_are = subst (λ (own : Include). AreShortest graph choice (kind_left_out include) (walks_by telling.told.now (kind_left_out own))) (sym told.include_is) (followed_by include.dev include.build)

  -- what is selected is reached by such a walk
  reached_by : (id : List ℕ) (dev build : Bool) → include.dev ≡ dev → include.build ≡ build → Selected graph choice include id → Reached graph choice (cond dev (cond build None (Some Build)) (Some Dev)) id
  reached_by id true true dev build selected = selected.reached
  reached_by id true false dev build selected = selected.without_build build
  reached_by id false build dev is selected = selected.without_dev dev

  -- ---- the crates of a walk

  module _ (rising : AreRising (ids_of graph)) where
    -- at the id of a crate is the crate, and its title is told
    title_on : (place : ℕ) → place < length graph.nodes → (krate : CrateRecord) × (title_at telling.told.now.titles place ≡ Some (title_of krate)) × (crate_with graph (id_of_node graph place) ≡ Some krate)
    title_on place within =
        let there = at_within crates place (subst (λ n. place < n) (sym (length-map graph.nodes (λ (node : CrateNode). node.krate))) within) in (
          there.0,
          title_is place there.0 there.1,
          ap (crate_with graph) (id_is place there.0 there.1) ∙ first_with graph.nodes place there.0 rising there.1,
        )

    titles_on : (places : List ℕ) → AllByRecursion (λ place. place < length graph.nodes) places
        → copied_titles telling.told.now.titles places ≡ titles_of (crates_with graph (map (id_of_node graph) places))
    titles_on [] all = refl
    titles_on (place ∷ places) all =
        let one = title_on place all.0 in
        ap (λ (title : Option CrateTitle). cons_option title (copied_titles telling.told.now.titles places)) one.1
        ∙ ap (λ (titles : List CrateTitle). title_of one.0 ∷ titles) (titles_on places all.1)
        ∙ sym (ap (λ (krate : Option CrateRecord). titles_of (cons_option krate (crates_with graph (map (id_of_node graph) places)))) one.2)

    before_are : (walk : List ℕ) → All (λ place. place < length graph.nodes) walk
        → copied_titles telling.told.now.titles (before_last walk) ≡ titles_of (crates_with graph (before_end (map (id_of_node graph) walk)))
    before_are walk all =
        titles_on (before_last walk) (recursion_from_All (λ place. place < length graph.nodes) (before_last walk) (All-take (λ place. place < length graph.nodes) (length walk - 1) walk all))
        ∙ ap (λ (ids : List (List ℕ)). titles_of (crates_with graph ids))
        (sym (ap (λ n. take (n - 1) (map (id_of_node graph) walk)) (length-map walk (id_of_node graph)) ∙ taken_map (id_of_node graph) (length walk - 1) walk))

    -- ---- a crate that is checked

    module _ (place : ℕ) (krate : CrateRecord) (is : slice_get crates place ≡ Some krate) (within : place < length graph.nodes) (selected : Selected graph choice include krate.id)
        (next : ℕ) (own : CrateTurn) (report : CrateReport) (is_own : slice_get turns next ≡ Some own) (is_report : slice_get telling.report.now.crates next ≡ Some report)
        (of_crate : own.turn.krate ≡ krate) (fits : IsTold scanner own report) where
      abbrev kind : Option DepKind
      kind = kind_left_out include

      shortest_by : (walk : Option (List ℕ)) → walk_at (followed telling.told.now) place ≡ walk → ShortestWalk graph choice kind krate.id (ids_on graph walk)
      shortest_by walk at =
          subst (λ (id : List ℕ). ShortestWalk graph choice kind id (ids_on graph walk)) (id_is place krate is)
          (subst (λ (walk : Option (List ℕ)). ShortestWalk graph choice kind (id_of_node graph place) (ids_on graph walk)) at (followed_are.each place within))

      text_by : (walk : Option (List ℕ)) → walk_at (followed telling.told.now) place ≡ walk
          → IsCheckedText basis krate
          (answer_text telling.format (answer_by telling.report.now.files telling.report.now.policy krate report (option_map_or (λ (walk : List ℕ). copied_titles telling.told.now.titles (before_last walk)) walk [])))
      text_by None at = absurd (shortest_by None at (reached_by krate.id include.dev include.build refl refl selected))
      text_by (Some walk) at =
          let ids = map (id_of_node graph) walk in
          let needed : List CrateRecord = crates_with graph (before_end ids) in
          let inside : All (λ place. place < length graph.nodes) walk =
          subst (λ (walk : Option (List ℕ)). IfSome walk (All (λ place. place < length graph.nodes))) at (followed_are.inside place within) in
          record {
            place = next;
            own = own;
            is_own = is_own;
            of_crate = of_crate;
            verdict = report.verdict;
            is_verdict = slice_get-map (λ (one : CrateReport). one.verdict) telling.report.now.crates next ∙ ap (option_map (λ (one : CrateReport). one.verdict)) is_report;
            walk = ids;
            shortest = shortest_by (Some walk) at;
            told =
                ap (answer_text telling.format)
                (ap (answer_by telling.report.now.files telling.report.now.policy krate report) (before_are walk inside)
                ∙ ap (λ (krate : CrateRecord). answer_by telling.report.now.files telling.report.now.policy krate report (titles_of needed)) (sym of_crate)
                ∙ answer_same telling.report.now.files scanner telling.report.now.policy (checked_in own report.verdict needed) own.reads keeps fits.known (sym fits.own_reads) report
                (report_on scanner own report needed fits));
          }

      checked_all : AllZip (IsWhyText basis) (cond (cond telling.has_words (is_named words krate) (is_against report.verdict)) (krate ∷ []) []) (checked_texts telling place krate report)
      checked_all =
          subst (λ (mark : Bool). AllZip (IsWhyText basis) (cond (cond telling.has_words (is_named words krate) (is_against report.verdict)) (krate ∷ []) []) (cond (cond telling.has_words mark (is_against report.verdict)) own_texts []))
          (sym (mark_is place krate is))
          (elim (cond telling.has_words (is_named words krate) (is_against report.verdict)) as (λ b. AllZip (IsWhyText basis) (cond b (krate ∷ []) []) (cond b own_texts [])) [
            | true ↦ (inl (text_by (walk_at (followed telling.told.now) place) refl), tt)
            | false ↦ tt
          ])
        where
          own_texts : List (List ℕ)
          own_texts = answer_text telling.format (answer_by telling.report.now.files telling.report.now.policy krate report (needed_titles telling.told.now place)) ∷ []

    -- ---- one crate after another

    -- where all lists are cut
    record AreCut (place next : ℕ) (front more : List CrateRecord) (before causes : List (Option Unchecked)) (earlier rest : List CrateTurn) (gone reports : List CrateReport) : Type 0 where
      crates_are : crates ≡ front ++ more
      causes_are : telling.told.now.causes.items ≡ before ++ causes
      turns_are : turns ≡ earlier ++ rest
      reports_are : telling.report.now.crates ≡ gone ++ reports
      place_front : place ≡ length front
      place_before : place ≡ length before
      next_earlier : next ≡ length earlier
      next_gone : next ≡ length gone
      counted : length causes ≡ length more

    cut_head : (place next : ℕ) (front more : List CrateRecord) (krate : CrateRecord) (before causes : List (Option Unchecked)) (cause : Option Unchecked) (earlier rest : List CrateTurn) (gone reports : List CrateReport)
        → AreCut place next front (krate ∷ more) before (cause ∷ causes) earlier rest gone reports
        → (slice_get crates place ≡ Some krate) × (cause_at telling.told.now.causes.items place ≡ cause)
    cut_head place next front more krate before causes cause earlier rest gone reports cut = (
      ap₂ (λ (all : List CrateRecord) (n : ℕ). slice_get all n) cut.crates_are cut.place_front ∙ slice_behind front krate more,
      get_or_from_slice_get telling.told.now.causes.items place cause None
          (ap₂ (λ (all : List (Option Unchecked)) (n : ℕ). slice_get all n) cut.causes_are cut.place_before ∙ slice_behind before cause causes),
    )

    one_longer : {A : Type 0} (n : ℕ) (front : List A) (x : A) → n ≡ length front → suc n ≡ length (front ++ x ∷ [])
    one_longer n front x is = omega (arith, is, length-append front (x ∷ []))

    all_texts : (place next : ℕ) (front more : List CrateRecord) (before causes : List (Option Unchecked)) (earlier rest : List CrateTurn) (gone reports : List CrateReport)
        → AreCut place next front more before causes earlier rest gone reports → checked_among more causes ≡ map krate_of_turn rest → AllZip (IsTold scanner) rest reports
        → AllZip (IsWhyText basis) (picks telling.has_words words more causes reports) (texts_from telling place next causes (map krate_of_turn turns) telling.report.now.crates)
    all_texts place next front [] before [] earlier rest gone reports cut among fits = tt
    all_texts place next front [] before (cause ∷ causes) earlier rest gone reports cut among fits = let counted = cut.counted in absurd (omega (arith, counted))
    all_texts place next front (krate ∷ more) before [] earlier rest gone reports cut among fits = let counted = cut.counted in absurd (omega (arith, counted))
    all_texts place next front (krate ∷ more) before (Some cause ∷ causes) earlier rest gone reports cut among fits =
        let head = cut_head place next front more krate before causes (Some cause) earlier rest gone reports cut in
        let counted = cut.counted in
        zip_append (IsWhyText basis) (cond (is_named words krate) (krate ∷ []) []) (picks telling.has_words words more causes reports)
        (unchecked_texts telling place (unchecked_text cause)) (texts_from telling (suc place) next causes (map krate_of_turn turns) telling.report.now.crates)
        (unchecked_all place krate head.0 cause head.1)
        (all_texts (suc place) next (front ++ krate ∷ []) more (before ++ Some cause ∷ []) causes earlier rest gone reports
        (record {
          crates_are = cut.crates_are ∙ sym (append_assoc front (krate ∷ []) more);
          causes_are = cut.causes_are ∙ sym (append_assoc before (Some cause ∷ []) causes);
          turns_are = cut.turns_are;
          reports_are = cut.reports_are;
          place_front = one_longer place front krate cut.place_front;
          place_before = one_longer place before (Some cause) cut.place_before;
          next_earlier = cut.next_earlier;
          next_gone = cut.next_gone;
          counted = omega (arith, counted);
        })
        among fits)
    all_texts place next front (krate ∷ more) before (None ∷ causes) earlier [] gone reports cut among fits = absurd (cc among)
    all_texts place next front (krate ∷ more) before (None ∷ causes) earlier (own ∷ rest) gone [] cut among fits = absurd fits
    all_texts place next front (krate ∷ more) before (None ∷ causes) earlier (own ∷ rest) gone (report ∷ reports) cut among fits =
        let head = cut_head place next front more krate before causes None earlier (own ∷ rest) gone (report ∷ reports) cut in
        let counted = cut.counted in
        let same : own.turn.krate ≡ krate = sym (first_same krate own.turn.krate (checked_among more causes) (map krate_of_turn rest) among) in
        let is_own : slice_get turns next ≡ Some own = ap₂ (λ (all : List CrateTurn) (n : ℕ). slice_get all n) cut.turns_are cut.next_earlier ∙ slice_behind earlier own rest in
        let is_report : slice_get telling.report.now.crates next ≡ Some report = ap₂ (λ (all : List CrateReport) (n : ℕ). slice_get all n) cut.reports_are cut.next_gone ∙ slice_behind gone report reports in
        let is_krate : slice_get (map krate_of_turn turns) next ≡ Some krate = slice_get-map krate_of_turn turns next ∙ ap (option_map krate_of_turn) is_own ∙ ap Some same in
        let within : place < length graph.nodes =
        subst (λ n. place < n) (length-map graph.nodes (λ (node : CrateNode). node.krate)) (place_within crates front krate more place cut.crates_are cut.place_front) in
        let selected : Selected graph choice include krate.id = subst (UncheckedIs graph choice asked.own_specs include krate) head.1 (told.causes.each place krate head.0) in
        zip_append (IsWhyText basis) (cond (cond telling.has_words (is_named words krate) (is_against report.verdict)) (krate ∷ []) []) (picks telling.has_words words more causes reports)
        (next_texts telling place (slice_get (map krate_of_turn turns) next) (slice_get telling.report.now.crates next))
        (texts_from telling (suc place) (suc next) causes (map krate_of_turn turns) telling.report.now.crates)
        (subst (AllZip (IsWhyText basis) (cond (cond telling.has_words (is_named words krate) (is_against report.verdict)) (krate ∷ []) []))
        (sym (ap₂ (next_texts telling place) is_krate is_report))
        (checked_all place krate head.0 within selected next own report is_own is_report same fits.0))
        (all_texts (suc place) (suc next) (front ++ krate ∷ []) more (before ++ None ∷ []) causes (earlier ++ own ∷ []) rest (gone ++ report ∷ []) reports
        (record {
          crates_are = cut.crates_are ∙ sym (append_assoc front (krate ∷ []) more);
          causes_are = cut.causes_are ∙ sym (append_assoc before (None ∷ []) causes);
          turns_are = cut.turns_are ∙ sym (append_assoc earlier (own ∷ []) rest);
          reports_are = cut.reports_are ∙ sym (append_assoc gone (report ∷ []) reports);
          place_front = one_longer place front krate cut.place_front;
          place_before = one_longer place before None cut.place_before;
          next_earlier = one_longer next earlier own cut.next_earlier;
          next_gone = one_longer next gone report cut.next_gone;
          counted = omega (arith, counted);
        })
        (more_same krate own.turn.krate (checked_among more causes) (map krate_of_turn rest) among) fits.1)

    -- all of them
    pub texts_are : checked_among crates telling.told.now.causes.items ≡ map krate_of_turn turns → AllZip (IsTold scanner) turns telling.report.now.crates
        → AllZip (IsWhyText basis) (picks telling.has_words words crates telling.told.now.causes.items telling.report.now.crates)
        (texts_from telling 0 0 telling.told.now.causes.items (map krate_of_turn turns) telling.report.now.crates)
    texts_are among fits =
        all_texts 0 0 [] crates [] telling.told.now.causes.items [] turns [] telling.report.now.crates
        (record {
          crates_are = refl;
          causes_are = refl;
          turns_are = refl;
          reports_are = refl;
          place_front = refl;
          place_before = refl;
          next_earlier = refl;
          next_gone = refl;
          counted = told.causes.counted;
        })
        among fits

-- ---- which crates these are

-- with words all crates that they name
pub picks_named : (words : List (List ℕ)) (crates : List CrateRecord) (causes : List (Option Unchecked)) (reports : List CrateReport) → length causes ≡ length crates
    → length (checked_among crates causes) ≡ length reports → picks true words crates causes reports ≡ filter (is_named words) crates
picks_named words [] causes reports counted many = refl
picks_named words (krate ∷ more) [] reports counted many = absurd (omega (arith, counted))
picks_named words (krate ∷ more) (Some cause ∷ causes) reports counted many =
    ap (λ (rest : List CrateRecord). cond (is_named words krate) (krate ∷ []) [] ++ rest) (picks_named words more causes reports (omega (arith, counted)) many)
    ∙ one_more (is_named words krate) krate (filter (is_named words) more)
picks_named words (krate ∷ more) (None ∷ causes) [] counted many = absurd (omega (arith, many))
picks_named words (krate ∷ more) (None ∷ causes) (report ∷ reports) counted many =
    ap (λ (rest : List CrateRecord). cond (is_named words krate) (krate ∷ []) [] ++ rest) (picks_named words more causes reports (omega (arith, counted)) (omega (arith, many)))
    ∙ one_more (is_named words krate) krate (filter (is_named words) more)

picks_none : (crates : List CrateRecord) (causes : List (Option Unchecked)) → picks false [] crates causes [] ≡ []
picks_none [] causes = refl
picks_none (krate ∷ more) [] = refl
picks_none (krate ∷ more) (Some cause ∷ causes) = picks_none more causes
picks_none (krate ∷ more) (None ∷ causes) = picks_none more causes

-- without words those of the turns that the check is against
pub picks_against : (crates : List CrateRecord) (causes : List (Option Unchecked)) (turns : List CrateTurn) (reports : List CrateReport) → checked_among crates causes ≡ map krate_of_turn turns
    → picks false [] crates causes reports ≡ crates_against turns (map (λ (report : CrateReport). report.verdict) reports)
picks_against [] causes [] reports among = refl
picks_against [] causes (own ∷ turns) reports among = absurd (cc among)
picks_against (krate ∷ more) [] [] reports among = refl
picks_against (krate ∷ more) [] (own ∷ turns) reports among = absurd (cc among)
picks_against (krate ∷ more) (Some cause ∷ causes) turns reports among = picks_against more causes turns reports among
picks_against (krate ∷ more) (None ∷ causes) [] reports among = absurd (cc among)
picks_against (krate ∷ more) (None ∷ causes) (own ∷ turns) [] among = picks_none more causes
picks_against (krate ∷ more) (None ∷ causes) (own ∷ turns) (report ∷ reports) among =
    let same = first_same krate own.turn.krate (checked_among more causes) (map krate_of_turn turns) among in
    let rest = more_same krate own.turn.krate (checked_among more causes) (map krate_of_turn turns) among in
    ap₂ (λ (one : CrateRecord) (rest : List CrateRecord). cond (is_against report.verdict) (one ∷ []) [] ++ rest) same (picks_against more causes turns reports rest)
    ∙ one_more (is_against report.verdict) own.turn.krate (crates_against turns (map (λ (report : CrateReport). report.verdict) reports))
