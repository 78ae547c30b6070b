-- Lawful input is not refused, but for want of memory.
use Rattle.std.proofs.Common.{◌≡◌, ◌∙◌, ◌⊎◌, inl, sym, ap, subst, ℕ, List, [], ◌∷◌, ◌++◌, Some, Result}
use Rattle.std.proofs.lemmas.List.{append_cancel_left}
use Rattle.std.proofs.lemmas.List.Elements.{recursion_from_All}
use Rattle.tree_core.specs.Call as call
use Rattle.tree_core.specs.Call.{CallKind, CallAnswer, Call}
use Rattle.tree_core.specs.Content.{Content}
use Rattle.tree_core.specs.Faults.{Rose}
use Rattle.tree_core.specs.Trace.{Says}
use Rattle.tree_core.specs.texts.Cause.{Cause, no_memory, failed_read, refused_write}
use Rattle.tree_core.specs.texts.Cause as causes
use Rattle.run_found.specs.declared.error.Error.{Error}
use Rattle.run_found.specs.declared.error.Error.TheVariants.{Memory, NotCarried, ManifestPath, ManifestRead, CatalogRead, CatalogSyntax, StoreRead, ConfigRead, ConfigSyntax, ConfigShape, ConfigInvalid, OverrideTwice, MetadataRead, MetadataSyntax, MetadataShape, NoRoots, NoSuchCrate, NotAccepted, NoText, RecordRead, RecordSyntax, BillText, BillRead, BillSyntax, WriteFault}
use Rattle.run_found.specs.Error.{MayEndLawful, cause_of}
use Rattle.run_found.specs.Found.{PolicyAndGraph}
use Rattle.run_found.specs.Hearing.{RequestHearing, TellsContent, TreeSeen}
use Rattle.run_found.specs.Written.{SinkSeen, TextWritten}
use Rattle.run_found.proofs.AnsweredLemmas.{IsToldBy, all_fair, told_step}
use Rattle.run_command.specs.Complete.{IsLawfulIn, IsLawfulRead}
use Rattle.run_command.specs.Found.{HearsAllDue, IsHeard, calls_of, input_of, load_heard}
use Rattle.run_command.specs.Given.{CommandArguments}
use Rattle.run_command.specs.Stops.{Asks, IsRefusal, IsRefusedBy, Refuses, RefusesSelection, PolicyAndCrates, Stops}
use Rattle.run_command.proofs.AlikeLemmas.{IsSameContent}
use Rattle.run_command.proofs.FoundLemmas.{input_by_Asks}
use Rattle.run_command.proofs.HeardAlike.{finds_alike}

-- ---- by what is found

module _ (given : CommandArguments) (hearing : RequestHearing) (asked : PolicyAndCrates) (asks : Asks given hearing asked) where
  -- it has a selection
  selection_apart : (error : Error) → RefusesSelection given (record { policy = asked.policy; graph = asked.graph }) error → ⊥
  selection_apart Memory refuses = refuses
  selection_apart (NotCarried what) refuses = refuses
  selection_apart (ManifestPath path) refuses = refuses
  selection_apart (ManifestRead before after) refuses = refuses
  selection_apart (CatalogRead fault) refuses = refuses
  selection_apart (CatalogSyntax line) refuses = refuses
  selection_apart (StoreRead fault) refuses = refuses
  selection_apart (ConfigRead fault) refuses = refuses
  selection_apart (ConfigSyntax fault) refuses = refuses
  selection_apart (ConfigShape faults) refuses = refuses
  selection_apart (ConfigInvalid found) refuses = refuses
  selection_apart (OverrideTwice name first second) refuses = refuses
  selection_apart (MetadataRead fault) refuses = refuses
  selection_apart MetadataSyntax refuses = refuses
  selection_apart (MetadataShape fault) refuses = refuses
  selection_apart (NoRoots base excluded unpublished) refuses = refuses.none asks.root
  selection_apart (NoSuchCrate word) refuses = refuses
  selection_apart (NotAccepted id reads) refuses = refuses
  selection_apart (NoText id key reads own) refuses = refuses
  selection_apart (RecordRead fault reads) refuses = refuses
  selection_apart RecordSyntax refuses = refuses
  selection_apart (BillText id) refuses = refuses
  selection_apart (BillRead fault reads) refuses = refuses
  selection_apart BillSyntax refuses = refuses
  selection_apart (WriteFault before last) refuses = refuses

  -- what is found alike is not refused
  refuses_apart : (error : Error) (found : Result PolicyAndGraph Error) → found ≡ input_of given hearing → Refuses given found error → ⊥
  refuses_apart error found same refuses =
      selection_apart error (subst (λ own. Refuses given own error) (same ∙ input_by_Asks given hearing asked asks) refuses)

-- ---- by the calls

-- calls are these and then more
abbrev IsFollowed : List Call → List Call → List Call → Type 0
IsFollowed behind X Y = X ≡ Y ++ behind

-- the answer of the first one
first_answer : List Call → CallAnswer
first_answer [] = call.no_memory
first_answer (one ∷ calls) = one.answer

followed_step : (behind : List Call) (asked : CallKind) (path : List ℕ) (one other : CallAnswer) (X Y : List Call)
    → IsFollowed behind (record { asked = asked; path = path; answer = one } ∷ X) (record { asked = asked; path = path; answer = other } ∷ Y)
    → ((one ≡ other) ⊎ (other ≡ call.no_memory)) × IsFollowed behind X Y
unfolding first_answer
followed_step behind asked path one other X Y e = (inl (ap first_answer e), rest_same e)
  where
    rest_same : ◌≡◌ {A = List Call} (record { asked = asked; path = path; answer = one } ∷ X) (record { asked = asked; path = path; answer = other } ∷ (Y ++ behind)) → X ≡ Y ++ behind
    rest_same same = cc

module _ (given : CommandArguments) (hearing own : RequestHearing) (asked : PolicyAndCrates) (begun : own.begun ≡ hearing.begun) (due : HearsAllDue given hearing) (asks : Asks given hearing asked) (error : Error)
    (refusal : IsRefusal given own error) where
  -- a hearing of the same calls, and of more behind them, is not refused
  pub free_read : (behind : List Call) → calls_of given own ≡ calls_of given hearing ++ behind → ⊥
  free_read behind same =
      refuses_apart given hearing asked asks error (input_of given own)
      (finds_alike (IsFollowed behind) (followed_step behind) given own hearing begun refusal.due due same).input refusal.refused

  -- nor is one of the same content
  pub free_told : (content : Content) (count after : ℕ) → ¬ (Rose count after) → IsSameContent content count after (calls_of given hearing) (calls_of given own) → ⊥
  free_told content count after still same =
      let fair = all_fair content (calls_of given own) count same.says (subst (λ n. ¬ (Rose count n)) same.counts still) in
      refuses_apart given hearing asked asks error (input_of given own)
      (sym (finds_alike (IsToldBy content) (told_step content) given hearing own (sym begun) due refusal.due (same.tells, fair)).input) refusal.refused

-- ---- on a tree

-- no refusal of a command that was read on it comes of lawful input
abbrev pub NoRefusal : CommandArguments → TreeSeen → Type 0
NoRefusal given tree = (own : RequestHearing) (error : Error) → IsHeard given tree own → IsRefusal given own error → ⊥

pub no_refusal_read : (given : CommandArguments) (tree : TreeSeen) (hearing : RequestHearing) (behind : List Call) (asked : PolicyAndCrates) → IsLawfulRead given tree hearing behind asked → NoRefusal given tree
no_refusal_read given tree hearing behind asked lawful own error ran refusal =
    free_read given hearing own asked (ran.begun ∙ sym lawful.begun) lawful.due lawful.asks error refusal behind
    (append_cancel_left tree.calls_before (calls_of given own) (calls_of given hearing ++ behind) (sym ran.made.traced ∙ lawful.made.traced))

pub no_refusal_told : (given : CommandArguments) (content : Content) (tree : TreeSeen) (hearing : RequestHearing) (asked : PolicyAndCrates) → tree.told ≡ Some content → IsLawfulIn given content tree hearing asked
    → NoRefusal given tree
no_refusal_told given content tree hearing asked told lawful own error ran refusal =
    free_told given hearing own asked (ran.begun ∙ sym lawful.heard.begun) lawful.heard.due lawful.asks error refusal content tree.count_before tree.count_after lawful.still
    (record {
      tells = recursion_from_All (TellsContent content) (calls_of given hearing) lawful.heard.tells;
      says = recursion_from_All (Says content) (calls_of given own) (ran.made.says content told);
      counts = ran.made.counts;
    })

-- a command that is refused before it does its own is refused for want of memory, where no write was refused
module _ (given : CommandArguments) (tree : TreeSeen) (err : SinkSeen) (apart : NoRefusal given tree) (quiet : Rose err.before err.after → ⊥) (error : Error) (stops : Stops given tree err error) where
  by_cause : (cause : Cause) → IsRefusedBy given tree stops.hearing error cause → TextWritten (load_heard given stops.hearing) err.old err.new err.before err.after cause → MayEndLawful cause
  by_cause no_memory refused written = tt
  by_cause causes.told refused written = absurd (apart stops.hearing error refused.0 refused.1)
  by_cause (failed_read first last) refused written = absurd (apart stops.hearing error refused.0 refused.1)
  by_cause (refused_write first last) refused written = absurd (quiet written.2)

  pub stops_lawful : MayEndLawful (cause_of error)
  stops_lawful = by_cause (cause_of error) stops.refused stops.written
