-- What a yes of `verify` means, from what the run answers.
use Rattle.std.proofs.Common.{◌≡◌, ◌∙◌, refl, sym, ap, subst, ℕ, List, [], ◌∷◌, append_assoc, Option, Some, None, Result, Ok, Err}
use Rattle.tree_core.specs.Call as call
use Rattle.tree_core.specs.Call.{Call}
use Rattle.tree_core.specs.Content.{Content}
use Rattle.tree_core.specs.texts.Heard.{read_of}
use Rattle.tree_core.proofs.MadeLemmas.{made_as, made_joined}
use Rattle.check_verify.specs.declared.answer.VerifyAnswer.TheVariants.{Yes}
use Rattle.run_request.specs.declared.request.Request.{Request}
use Rattle.run_request.specs.declared.request.Subcommand.{Subcommand}
use Rattle.run_request.specs.declared.request.Subcommand.TheVariants.{Check, List as Listing, Sample, Record, Verify, Bill, Notice, Why}
use Rattle.run_found.specs.declared.error.Error.{Error}
use Rattle.run_found.specs.Hearing.{MadeOn, TreeSeen}
use Rattle.run_found.specs.Written.{SinkSeen}
use Rattle.run_found.specs.own_names.Given.{ListsGiven}
use Rattle.run_found.specs.own_names.Heard.{lists_calls}
use Rattle.run_command.specs.Carried.{plain_options}
use Rattle.run_command.specs.Found.{calls_of}
use Rattle.run_command.specs.Given.{CommandRequest, command_by, handed_in}
use Rattle.run_command.specs.Lawful.{CommandHearing, ComesBy, HasBegun, there_call}
use Rattle.run_command.specs.Prelude.{ComesTo, Runs, came, from_there, stopped, up_to}
use Rattle.run_command.proofs.PreludeLemmas.{comes_by}
use Rattle.run_record.specs.declared.verdicts.VerifiedCrates.{VerifiedCrates}
use Rattle.run_record.specs.Verified.{SettlesBy, Tells}
use Rattle.run_record.specs.Yes.{TellsRight}
use Rattle.run_record.proofs.YesLemmas.{yes_reads}
use Rattle.deny_run.specs.declared.outcome.Outcome.{Outcome}
use Rattle.deny_run.specs.declared.outcome.RunEnd.{RunEnd}
use Rattle.deny_run.specs.declared.outcome.RunEnd.TheVariants.{Checked, Listed, Sampled, Recorded, Verified, Billed, Noticed, Told, Shown, Usage}
use Rattle.deny_run.specs.Ends.{Answers, AnswersOf, IsOutcome, VerifiesAs, as_end, end_of}
use Rattle.deny_run.specs.Given.{RunArguments, asked_of}
use Rattle.deny_run.specs.Seen.{RunSeen, sink_to}
use Rattle.deny_run.specs.VerifiedYes.{AsksVerify, HasRightFile, SayOf, VerifiedYes, verify_calls}
use Rattle.deny_run.specs.Words.{AnswersNone, lost, mistaken, shown, unshown}

-- ---- an answer is that of `verify`

-- no other command ends so
abbrev IsNoVerify : {X : Type 0} → (X → RunEnd) → Type 0
IsNoVerify {X} end_by = (value : X) (crates : VerifiedCrates) → end_by value ≡ Verified crates → ⊥

checked_other : IsNoVerify Checked
checked_other value crates e = absurd (cc)

listed_other : IsNoVerify Listed
listed_other value crates e = absurd (cc)

sampled_other : IsNoVerify Sampled
sampled_other value crates e = absurd (cc)

recorded_other : IsNoVerify Recorded
recorded_other value crates e = absurd (cc)

billed_other : IsNoVerify Billed
billed_other value crates e = absurd (cc)

noticed_other : IsNoVerify Noticed
noticed_other value crates e = absurd (cc)

told_other : IsNoVerify Told
told_other value crates e = absurd (cc)

unverified : {X : Type 0} (end_by : X → RunEnd) → IsNoVerify end_by → (value : Result X Error) (crates : VerifiedCrates) → end_of (as_end end_by value) ≡ Verified crates → ⊥
unverified {X} end_by apart (Ok value) crates e = apart value crates e
unverified {X} end_by apart (Err error) crates e = absurd (cc)

verified_as : (value : Result VerifiedCrates Error) (crates : VerifiedCrates) → end_of (as_end Verified value) ≡ Verified crates → value ≡ Ok crates
verified_as (Ok own) crates e = with_same (same_crates e)
  where
    same_crates : Verified own ≡ Verified crates → own ≡ crates
    same_crates same = cc

    with_same : own ≡ crates → ◌≡◌ {A = Result VerifiedCrates Error} (Ok own) (Ok crates)
    with_same is = cc
verified_as (Err error) crates e = absurd (cc)

-- ---- the command

-- a file that was read in a run that came to its command, and is right
record IsRightFile (asked : CommandRequest) (path : List ℕ) (tree : TreeSeen) : Type 0 where
  hearing : CommandHearing
  had : ListsGiven
  begun : HasBegun hearing tree.count_before
  comes : ComesBy asked hearing had
  bytes : List ℕ
  made : MadeOn tree (verify_calls asked hearing had path bytes)
  tells : TellsRight (command_by asked.command had) hearing.found bytes

ok_apart : {crates : VerifiedCrates} {error : Error} → ◌≡◌ {A = Result VerifiedCrates Error} (Ok crates) (Err error) → ⊥
ok_apart e = absurd (cc)

module _ (asked : CommandRequest) (path : List ℕ) (tree : TreeSeen) (out err : SinkSeen) (crates : VerifiedCrates) (agree : crates.answer ≡ Yes) where
  by_file : (told : Option Content) (count : ℕ) (calls : List Call) (lists : ListsGiven) → ComesTo asked (up_to tree told count calls) (Ok lists)
      → SettlesBy (command_by asked.command lists) path (from_there tree told count calls) err (Tells (Ok crates)) → IsRightFile asked path tree
  by_file told count calls lists comes settles =
      let own = command_by asked.command lists in
      let by = comes_by asked (up_to tree told count calls) lists comes in
      let right = yes_reads own path (from_there tree told count calls) err crates settles agree in
      let read : List Call = read_of path (call.bytes right.text) ∷ [] in
      record {
        hearing = record { lists = by.hearing; found = right.hearing };
        had = lists;
        begun = record { lists = by.begun; found = right.begun ∙ by.still };
        comes = record { named = by.named; heard = by.heard };
        bytes = right.text;
        made = made_as
            (ap (λ (rest : List Call). there_call asked ∷ rest) (sym (append_assoc (lists_calls (handed_in asked) asked.own by.hearing) (calls_of own right.hearing) read)))
            (made_joined by.made right.made);
        tells = right.tells;
      }

  is_right : Runs asked (VerifiesAs path out err) tree err out (Ok crates) → IsRightFile asked path tree
  is_right (stopped error comes is silent silent_out) = absurd (ok_apart is)
  is_right (came told count calls lists comes verifies) = by_file told count calls lists comes verifies.0

-- ---- a run

-- the words ask for the verdict file at a path, which is right
record IsVerifyOf (given : RunArguments) (outcome : Outcome) (tree : TreeSeen) : Type 0 where
  path : List ℕ
  asked : CommandRequest
  asks : AsksVerify given outcome path asked
  right : IsRightFile asked path tree

module _ (given : RunArguments) (seen : RunSeen) (outcome : Outcome) (is : IsOutcome given seen outcome.request outcome.ended) where
  abbrev first : RunSeen
  first = record seen { err = sink_to seen.err is.written is.count }

  none_verified : AnswersNone given first is.answer → (crates : VerifiedCrates) → end_of is.answer ≡ Verified crates → ⊥
  none_verified (shown may text gained still own) crates e = shown_apart (sym (ap end_of own) ∙ e)
    where
      shown_apart : Shown ≡ Verified crates → ⊥
      shown_apart same = absurd (cc)
  none_verified (unshown may text error cut still own) crates e = refused_apart (sym (ap end_of own) ∙ e)
    where
      refused_apart : end_of (Err error) ≡ Verified crates → ⊥
      refused_apart same = absurd (cc)
  none_verified (mistaken may text line silent own) crates e = usage_apart (sym (ap end_of own) ∙ e)
    where
      usage_apart : Usage ≡ Verified crates → ⊥
      usage_apart same = absurd (cc)
  none_verified (lost silent still own) crates e = absurd (cc)

  module _ (crates : VerifiedCrates) (agree : crates.answer ≡ Yes) where
    by_answer : (told : Option Request) → outcome.request ≡ told → AnswersOf given told first is.answer → end_of is.answer ≡ Verified crates → IsVerifyOf given outcome seen.tree
    by_answer None told_is answers e = absurd (none_verified answers.1 crates e)
    by_answer (Some request) told_is answers e = by_command request.command refl answers.1
      where
        by_command : (command : Subcommand) → request.command ≡ command → Answers given.lists given.match_of given.text_of request command first is.answer → IsVerifyOf given outcome seen.tree
        by_command (Check args) command_is runs = absurd (unverified Checked checked_other runs.value crates (sym (ap end_of runs.is) ∙ e))
        by_command (Listing args) command_is runs = absurd (unverified Listed listed_other runs.value crates (sym (ap end_of runs.is) ∙ e))
        by_command (Sample size) command_is ends = absurd (unverified Sampled sampled_other ends.value crates (sym (ap end_of ends.is) ∙ e))
        by_command Record command_is runs = absurd (unverified Recorded recorded_other runs.value crates (sym (ap end_of runs.is) ∙ e))
        by_command (Bill args) command_is runs = absurd (unverified Billed billed_other runs.value crates (sym (ap end_of runs.is) ∙ e))
        by_command Notice command_is runs = absurd (unverified Noticed noticed_other runs.value crates (sym (ap end_of runs.is) ∙ e))
        by_command (Why words) command_is runs = absurd (unverified Told told_other runs.value crates (sym (ap end_of runs.is) ∙ e))
        by_command (Verify path) command_is runs =
            let asked = asked_of given request (plain_options request.log_ctx request.krate_ctx) in
            let value_is = verified_as runs.value crates (sym (ap end_of runs.is) ∙ e) in
            record {
              path = path;
              asked = asked;
              asks = record { request = request; of_words = answers.0; told = told_is; command = command_is; is = refl };
              right = is_right asked path seen.tree first.out first.err crates agree
                  (subst (λ value. Runs asked (VerifiesAs path first.out first.err) seen.tree first.err first.out value) value_is runs.is_so);
            }

    verify_of : outcome.ended ≡ Verified crates → IsVerifyOf given outcome seen.tree
    verify_of e = by_answer outcome.request refl is.answers (sym is.is ∙ e)

    -- of what is so of the calls that were made
    right_file : (IsSoOf : List Call → Type 0) → ((calls : List Call) → MadeOn seen.tree calls → IsSoOf calls) → outcome.ended ≡ Verified crates → HasRightFile given outcome seen.tree.count_before IsSoOf
    right_file IsSoOf so e =
        let own = verify_of e in
        let right = own.right in
        record {
          path = own.path;
          asked = own.asked;
          asks = own.asks;
          hearing = right.hearing;
          had = right.had;
          begun = right.begun;
          comes = right.comes;
          bytes = right.bytes;
          calls = so (verify_calls own.asked right.hearing right.had own.path right.bytes) right.made;
          tells = right.tells;
        }

  pub verified_yes : VerifiedYes given seen outcome
  verified_yes = record {
    read = λ crates e agree. right_file crates agree (MadeOn seen.tree) (λ calls made. made) e;
    told = λ content told crates e agree. right_file crates agree (SayOf content seen.tree) (λ calls made. record { counts = made.counts; says = made.says content told }) e;
  }
