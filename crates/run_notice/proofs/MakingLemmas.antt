-- The notice of the crates that were judged.
use Rattle.std.proofs.Common.{◌≡◌, ◌∙◌, inl, inr, ℕ, ◌+◌, ◌<◌, ◌≤◌, take, get_or, true, false, cond, List, [], ◌∷◌, ◌++◌, find, length, map, slice_get, Option, Some, None, Err, refl, sym, ap, subst, append-nil}
use Rattle.std.proofs.lemmas.List.{length-map, length-take-le, map-append, take_more}
use Rattle.std.specs.Borrow.{Bor}
use Rattle.std.specs.Option.{option_map}
use Rattle.tree_core.proofs.MadeLemmas.{made_as}
use Rattle.graph_core.specs.Krate.{CrateRecord}
use Rattle.graph_core.specs.declared.krate.Krate.{Krate}
use Rattle.graph_core.specs.selection.Listed.{record_behind}
use Rattle.gather_core.specs.Calls.{ReadsOfCrate, calls_of_all}
use Rattle.check_core.specs.declared.report.CrateReport.{CrateReport}
use Rattle.check_notice.specs.Notice.{AnswersNotice, NoticedCrate, first_unaccepted, is_against, is_unaccepted, noticed_as}
use Rattle.run_found.specs.declared.error.Error.{Error}
use Rattle.run_found.specs.declared.error.Error.TheVariants.{Memory, NotAccepted}
use Rattle.run_found.specs.declared.reads.CrateRead.{CrateRead}
use Rattle.run_found.specs.Hearing.{MadeOn, TreeSeen}
use Rattle.run_found.specs.own_names.Given.{TextsGiven}
use Rattle.run_check.specs.declared.judged.JudgedCrates.{JudgedCrates}
use Rattle.run_check.specs.Judged.{crates_judged}
use Rattle.run_notice.specs.declared.making.MadeNotice.{MadeNotice}
use Rattle.run_notice.specs.declared.own.CrateTexts.{CrateTexts}
use Rattle.run_notice.specs.Noticed.{noticed_heard, unaccepted_id}
use Rattle.run_notice.specs.Own.{AreOwnReads, HaveOwnTexts, crates_in, own_heard, own_of, own_read_told, read_kept}
use Rattle.run_notice.specs.Steps.{IsMade, LacksOwn, MakesNotice, MakesOwn, RefusesUnaccepted, judged_sources, noticed_by, source_at}

-- by the texts that the answers give, crates are listed as they are read
noticed_same : (own : List ReadsOfCrate) (reports : List CrateReport) → noticed_by (crates_in own) reports (map own_of own) ≡ noticed_heard own reports
noticed_same [] reports = refl
noticed_same (one ∷ own) [] = refl
noticed_same (one ∷ own) (report ∷ reports) = ap (λ (rest : List NoticedCrate). noticed_as one.krate report (own_heard one) ∷ rest) (noticed_same own reports)

-- and so are the records of the reads
kept_same : (own : List ReadsOfCrate) → map read_kept (map own_of own) ≡ map own_read_told own
kept_same [] = refl
kept_same (one ∷ own) = ap (λ (rest : List CrateRead). own_read_told one ∷ rest) (kept_same own)

-- where no report is against a notice, no crate is
none_against : (crates : List CrateRecord) (reports : List CrateReport) (own : List CrateTexts) → find is_against reports ≡ None → first_unaccepted (noticed_by crates reports own) ≡ None
none_against [] reports own none = refl
none_against (krate ∷ crates) [] own none = refl
none_against (krate ∷ crates) (report ∷ reports) [] none = refl
none_against (krate ∷ crates) (report ∷ reports) (one ∷ own) none =
    elim (is_unaccepted report.verdict) as (λ b. cond b (Some report) (find is_against reports) ≡ None
    → cond b (Some (noticed_as krate report one.own.texts)) (first_unaccepted (noticed_by crates reports own)) ≡ None) [
      | true ↦ λ never. absurd (cc)
      | false ↦ λ rest. none_against crates reports own rest
    ] none

none_mapped : {A B : Type 0} (f : A → B) (found : Option A) → option_map f found ≡ None → found ≡ None
none_mapped f None none = refl
none_mapped f (Some x) none = absurd (cc)

pub all_accepted : (crates : List CrateRecord) (reports : List CrateReport) (own : List CrateTexts) → unaccepted_id reports ≡ None → first_unaccepted (noticed_by crates reports own) ≡ None
all_accepted crates reports own none = none_against crates reports own (none_mapped (λ (report : CrateReport). report.id) (find is_against reports) none)

module _ (texts : TextsGiven) (judged : JudgedCrates) (tree : TreeSeen) where
  pub made_by : (crates : List CrateRecord) (own : List CrateTexts) (made : MadeNotice) → crates ≡ crates_judged judged → HaveOwnTexts crates tree own
      → AnswersNotice (judged_sources texts judged) (noticed_by crates judged.report.crates own) made.made → made.own ≡ map read_kept own
      → MakesOwn judged tree (IsMade texts judged made)
  made_by crates own made crates_are has answers recorded =
      let noticed : noticed_by crates judged.report.crates own ≡ noticed_heard has.own judged.report.crates =
      ap (λ (mine : List CrateTexts). noticed_by crates judged.report.crates mine) has.texts_are
      ∙ ap (λ (those : List CrateRecord). noticed_by those judged.report.crates (map own_of has.own)) (sym has.are.crates_are)
      ∙ noticed_same has.own judged.report.crates in
      record {
        own = has.own;
        made = has.made;
        are = subst (λ (those : List CrateRecord). AreOwnReads those tree.count_before has.own) crates_are has.are;
        is_so = record {
          answers = subst (λ (those : List NoticedCrate). AnswersNotice (judged_sources texts judged) those made.made) noticed answers;
          own_reads = recorded ∙ ap (map read_kept) has.texts_are ∙ kept_same has.own;
        };
      }

  -- memory was wanting
  pub lacks_own : unaccepted_id judged.report.crates ≡ None → LacksOwn judged tree → MakesNotice texts judged tree (Err Memory)
  lacks_own accepted (inl none) = inl none
  lacks_own accepted (inr cut) = inr (record { accepted = accepted; cut = cut })

  -- behind all own reads
  pub lacks_behind : (IsSo : List ReadsOfCrate → Type 0) → unaccepted_id judged.report.crates ≡ None → MakesOwn judged tree IsSo → MakesNotice texts judged tree (Err Memory)
  lacks_behind IsSo accepted makes = inr (record {
    accepted = accepted;
    cut = record {
      own = makes.own;
      lost = [];
      made = made_as (sym (append-nil (calls_of_all makes.own))) makes.made;
      due = makes.are.due;
      among = ([], sym makes.are.crates_are ∙ sym (append-nil (crates_in makes.own)));
      ends = inl refl;
    };
  })

  -- a crate is rejected or has no licence
  pub refused_unaccepted : (id : List ℕ) (error : Error) → unaccepted_id judged.report.crates ≡ Some id → MadeOn tree [] → RefusesUnaccepted id judged error → MakesNotice texts judged tree (Err error)
  refused_unaccepted id Memory first made is = inl made
  refused_unaccepted id (NotAccepted own reads) first made is = record { made = made; first = first ∙ ap Some (sym is.0); reads_are = is.1 }
  refused_unaccepted id _ first made is = absurd is

-- ---- crates, one by one

-- one crate more
pub noticed_next : (crates : List CrateRecord) (krate : CrateRecord) (reports : List CrateReport) (own : List CrateTexts)
    → noticed_by (crates ++ krate ∷ []) reports own ≡ noticed_by crates reports own ++ source_at krate (slice_get reports (length crates)) (slice_get own (length crates))
noticed_next [] krate [] own = refl
noticed_next [] krate (report ∷ reports) [] = refl
noticed_next [] krate (report ∷ reports) (one ∷ own) = refl
noticed_next (first ∷ crates) krate [] own = refl
noticed_next (first ∷ crates) krate (report ∷ reports) [] = no_own (slice_get reports (length crates))
  where
    no_own : (found : Option CrateReport) → [] ≡ source_at krate found None
    no_own None = refl
    no_own (Some report) = refl
noticed_next (first ∷ crates) krate (report ∷ reports) (one ∷ own) = ap (λ (rest : List NoticedCrate). noticed_as first report one.own.texts ∷ rest) (noticed_next crates krate reports own)

-- the crates of lent ones, the first so many
pub lent_next : (krates : List (Bor Krate)) (place : ℕ) (krate : Bor Krate) → place < length krates → krate ≡ get_or krates place krate
    → map record_behind (take (place + 1) krates) ≡ map record_behind (take place krates) ++ record_behind krate ∷ []
lent_next krates place krate within at =
    ap (map record_behind) (take_more krates place krate within ∙ ap (λ (one : Bor Krate). take place krates ++ one ∷ []) (sym at))
    ∙ map-append record_behind (take place krates) (krate ∷ [])

pub lent_count : (krates : List (Bor Krate)) (place : ℕ) → place ≤ length krates → place ≡ length (map record_behind (take place krates))
lent_count krates place within = sym (length-map (take place krates) record_behind ∙ length-take-le place krates within)
