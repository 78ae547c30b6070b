-- The steps of a run for a notice, and its ends.
use Rattle.std.proofs.Common.{◌≡◌, ◌∙◌, ◌⊎◌, inl, inr, subst, sym, ap, refl, ℕ, List, [], ◌++◌, append-nil, Option, Result, Ok, Err, IfErr}
use Rattle.tree_core.specs.Call.{Call}
use Rattle.tree_core.specs.Content.{Content}
use Rattle.tree_core.proofs.MadeLemmas.{made_as, made_joined}
use Rattle.tree_core.specs.texts.Cause.{ReadCounts}
use Rattle.graph_core.specs.Krate.{CrateRecord}
use Rattle.gather_license.specs.files.Calls.{IsFront}
use Rattle.gather_core.specs.Calls.{ReadsOfCrate, calls_of_all}
use Rattle.run_found.specs.declared.error.Error.{Error}
use Rattle.run_found.specs.declared.error.Error.TheVariants.{Memory, NotAccepted, NoText}
use Rattle.run_found.specs.Error.{cause_of}
use Rattle.run_found.specs.Hearing.{MadeOn, TreeSeen, crates_heard, tree_seen}
use Rattle.run_found.specs.own_names.Given.{TextsGiven, texts_given}
use Rattle.run_found.specs.Written.{SinkSeen}
use Rattle.run_command.specs.Found.{calls_of}
use Rattle.run_command.specs.Given.{CommandArguments}
use Rattle.run_command.specs.Settled.{HearsSo}
use Rattle.run_command.specs.Stops.{Stops}
use Rattle.run_command.proofs.WrittenLemmas.{write_counts}
use Rattle.run_check.specs.declared.judged.JudgedCrates.{JudgedCrates}
use Rattle.run_check.specs.Judged.{Judges, crates_judged}
use Rattle.run_check.specs.Report.{IsReport}
use Rattle.run_check.proofs.ReportLemmas.{reported_stops}
use Rattle.run_notice.specs.declared.noticed.NoticedCrates.{NoticedCrates}
use Rattle.run_notice.specs.Noticed.{FindsNotice, HearsOwn, LacksMemory, Notices, TellsNotice}
use Rattle.run_notice.specs.Own.{AreOwnReads, IsOwnBegun, crates_in}
use Rattle.run_notice.specs.Pieces.{WritesNotice}
use Rattle.run_notice.specs.Steps.{MakesNotice, MakesOwn}
use Rattle.check_notice.specs.Written.{notice_text}

-- ---- a notice is found

module _ (text_of : List ℕ → Option (List ℕ)) (given : CommandArguments) (first middle tells : Option Content) (begun mid after : ℕ) (old between more : List Call) (err : SinkSeen)
    (judged : JudgedCrates) (judges : Judges given (tree_seen first middle begun mid old between) err (Ok judged)) where
  abbrev whole : TreeSeen
  whole = tree_seen first tells begun after old more

  abbrev behind : TreeSeen
  behind = tree_seen middle tells mid after between more

  -- where no own text was read
  abbrev hears_none : (IsSo : Type 0) → MadeOn behind [] → IsSo → HearsSo given whole err (λ hearing. IsReport given hearing judged.report × IsSo)
  hears_none IsSo made is_so = record {
    hearing = judges.hearing;
    heard = record { begun = judges.heard.begun; made = made_as (append-nil (calls_of given judges.hearing)) (made_joined judges.heard.made made) };
    written = judges.written;
    is_so = (judges.is_so.report, is_so);
  }

  -- where they were
  abbrev hears_own : (IsSo : List ReadsOfCrate → Type 0) (makes : MakesOwn judged behind IsSo) → AreOwnReads (crates_judged judged) mid makes.own
      → HearsOwn given whole err (λ hearing own. IsReport given hearing judged.report × IsSo own)
  hears_own IsSo makes are = record {
    hearing = judges.hearing;
    own = makes.own;
    begun = judges.heard.begun;
    made = made_joined judges.heard.made makes.made;
    are = subst (λ n. AreOwnReads (crates_heard judges.hearing) n makes.own) judges.heard.made.counts (subst (λ (crates : List CrateRecord). AreOwnReads crates mid makes.own) judges.is_so.crates are);
    written = judges.written;
    is_so = (judges.is_so.report, makes.is_so);
  }

  -- memory was wanting before them
  pub judged_stops : MadeOn behind [] → Stops given whole err Memory
  judged_stops made =
      let hears = hears_none (Unit {0}) made tt in
      reported_stops given whole err judged.report
      (record { hearing = hears.hearing; heard = hears.heard; written = hears.written; is_so = hears.is_so.0 })

  pub found_by : (result : Result NoticedCrates Error) → MakesNotice (texts_given given.match_of text_of) judged behind result → FindsNotice text_of given whole err result
  found_by (Ok noticed) makes =
      let hears = hears_own _ makes makes.are in
      record {
        hearing = hears.hearing;
        own = hears.own;
        begun = hears.begun;
        made = hears.made;
        are = hears.are;
        written = hears.written;
        is_so = record {
          report = judged.report;
          is = record { is = judges.is_so.report; accepted = makes.is_so.accepted };
          notice = makes.is_so.notice;
          reads = makes.is_so.reads;
          own_reads = makes.is_so.own_reads;
        };
      }
  found_by (Err Memory) (inl none) = inl (judged_stops none)
  found_by (Err Memory) (inr up) = inr (record {
    hearing = judges.hearing;
    report = judged.report;
    own = up.cut.own;
    lost = up.cut.lost;
    begun = judges.heard.begun;
    made = made_joined judges.heard.made up.cut.made;
    is = record { is = judges.is_so.report; accepted = up.accepted };
    due = up.cut.due;
    among = subst (IsFront (crates_in up.cut.own)) judges.is_so.crates up.cut.among;
    ends = subst (λ (crates : List CrateRecord). (up.cut.lost ≡ []) ⊎ IsOwnBegun crates (crates_in up.cut.own) up.cut.lost) judges.is_so.crates up.cut.ends;
    written = judges.written;
  })
  found_by (Err (NotAccepted id reads)) is =
      let hears = hears_none (Unit {0}) is.made tt in
      inr (record {
        hearing = hears.hearing;
        heard = hears.heard;
        written = hears.written;
        is_so = record { report = judged.report; is = judges.is_so.report; first = is.first; reads_are = is.reads_are };
      })
  found_by (Err (NoText id key reads own)) makes =
      let hears = hears_own _ makes makes.are in
      inr (record {
        hearing = hears.hearing;
        own = hears.own;
        begun = hears.begun;
        made = hears.made;
        are = hears.are;
        written = hears.written;
        is_so = record {
          report = judged.report;
          is = record { is = judges.is_so.report; accepted = makes.is_so.accepted };
          missing = makes.is_so.missing;
          reads_are = makes.is_so.reads_are;
          own_reads_are = makes.is_so.own_reads_are;
        };
      })
  found_by (Err _) is = absurd is

-- ---- what a refusal comes of

-- none has the counts of a read
pub notice_counts : (texts : TextsGiven) (judged : JudgedCrates) (tree : TreeSeen) (result : Result NoticedCrates Error) → MakesNotice texts judged tree result
    → (begun before after : ℕ) → IfErr result (λ error. ReadCounts begun before after (cause_of error))
notice_counts texts judged tree (Ok noticed) is begun before after = tt
notice_counts texts judged tree (Err Memory) is begun before after = tt
notice_counts texts judged tree (Err (NotAccepted id reads)) is begun before after = tt
notice_counts texts judged tree (Err (NoText id key reads own)) is begun before after = tt
notice_counts texts judged tree (Err _) is begun before after = absurd is

-- ---- it is written

module _ (text_of : List ℕ → Option (List ℕ)) (given : CommandArguments) (tree : TreeSeen) (err out : SinkSeen) (noticed : NoticedCrates)
    (hears : HearsOwn given tree err (TellsNotice text_of given noticed)) where
  -- memory was wanting behind all own reads
  lacks : LacksMemory given tree err
  lacks = record {
    hearing = hears.hearing;
    report = hears.is_so.report;
    own = hears.own;
    lost = [];
    begun = hears.begun;
    made = made_as (ap (λ more. calls_of given hears.hearing ++ more) (sym (append-nil (calls_of_all hears.own)))) hears.made;
    is = hears.is_so.is;
    due = hears.are.due;
    among = ([], sym hears.are.crates_are ∙ sym (append-nil (crates_in hears.own)));
    ends = inl refl;
    written = hears.written;
  }

  pub written_err : (error : Error) → WritesNotice (notice_text noticed.notice) out (Err error) → Notices text_of given tree err out (Err error)
  written_err error (inl wants) = subst (λ own. Notices text_of given tree err out (Err own)) (sym wants.0) (inl (inr lacks, wants.1))
  written_err error (inr cut) = inr (record { noticed = noticed; hears = hears; refused = cut.0; front = cut.1 })

pub write_notice_counts : (text : List ℕ) (out : SinkSeen) (error : Error) → WritesNotice text out (Err error) → (begun before after : ℕ) → ReadCounts begun before after (cause_of error)
write_notice_counts text out error (inl wants) begun before after = subst (λ own. ReadCounts begun before after (cause_of own)) (sym wants.0) tt
write_notice_counts text out error (inr cut) begun before after = write_counts out.before out.after error cut.0 begun before after
