-- Behind the crates of a policy, their licences: what was read, and what is so by that.
use Rattle.std.proofs.Common.{◌≡◌, ◌∙◌, inl, refl, sym, ap, subst, ℕ, ℤ, List, [], ◌++◌, map, append-nil, append_assoc, Option, Some, None, Ok}
use Rattle.tree_core.specs.Call.{Call}
use Rattle.tree_core.specs.Faults.{Gained}
use Rattle.tree_core.specs.Content.{Content}
use Rattle.tree_core.specs.Trace.{faults_after}
use Rattle.tree_core.proofs.MadeLemmas.{made_as, made_joined}
use Rattle.diag_core.specs.File.{File}
use Rattle.graph_core.specs.Krate.{CrateRecord}
use Rattle.graph_core.specs.selection.Listed.{IsListOf}
use Rattle.graph_core.specs.selection.Walks.{Selected}
use Rattle.tree_core.specs.file_reads.Read.{AreReads}
use Rattle.policy_core.specs.declared.valid.policy.ValidConfig.{ValidConfig}
use Rattle.gather_license.specs.expression.Scanned.{Scanner}
use Rattle.gather_core.specs.Calls.{AreTurnsBy, ReadsOfCrate, calls_of_all, reads_of_all}
use Rattle.gather_core.specs.Rules.{rules_of}
use Rattle.gather_core.specs.Gathered.{include_of, krate_of}
use Rattle.gather_core.specs.declared.summary.KrateLicense.{KrateLicense}
use Rattle.gather_core.proofs.CrateTurns.{krates_told, own_turns}
use Rattle.run_found.specs.declared.error.Error.TheVariants.{Memory}
use Rattle.run_found.specs.Finds.{hearing_of}
use Rattle.run_found.specs.Found.{count_metadata, files_loaded, policy_calls}
use Rattle.run_found.specs.Hearing.{RequestHearing, TreeSeen, crates_heard, read_calls, tree_seen}
use Rattle.run_found.specs.Licenses.{HaveTurns, IsGatherCut, IsGatheredOn, turns_heard}
use Rattle.run_found.specs.Selection.{included_in}
use Rattle.run_found.specs.Written.{SinkSeen}
use Rattle.run_found.proofs.ByteLemmas.{bytes_of_found, bytes_of_graph}
use Rattle.run_command.specs.declared.crates.CratesFound.{CratesFound}
use Rattle.run_command.specs.Crates.{HasCrates}
use Rattle.run_command.specs.Found.{AreSelected, HearsAllDue, IsHeard, at_threshold, calls_of, choice_in, input_of, load_heard, metadata_due, scanner_of_given, turns_in}
use Rattle.run_command.specs.Given.{CommandArguments}
use Rattle.run_command.specs.Settled.{HearsSo, IsSettled}
use Rattle.run_command.specs.Stops.{Stops, at_crates}
use Rattle.run_command.proofs.FoundLemmas.{asked-once, count_is, input-graph, input_by_Asks}
use Rattle.run_command.proofs.StopLemmas.{all_of, up_without}

-- the least score of a text leaves the crates that are looked at
pub include_at : (threshold : Option ℤ) (policy : ValidConfig) → include_of (at_threshold threshold policy) ≡ include_of policy
include_at None policy = refl
include_at (Some threshold) policy = refl

module _ (given : CommandArguments) (told middle tells : Option Content) (begun mid after : ℕ) (old between more : List Call) (err : SinkSeen) (files : List File) (found : CratesFound)
    (has : HasCrates given (tree_seen told middle begun mid old between) err files found) where
  abbrev whole : TreeSeen
  whole = tree_seen told tells begun after old more

  abbrev behind : TreeSeen
  behind = tree_seen middle tells mid after between more

  abbrev pub hears : List ReadsOfCrate → RequestHearing
  hears crates = hearing_of begun has.heard (Some has.answer) crates

  abbrev scanner : Scanner
  scanner = scanner_of_given given found.policy

  -- the calls, with those of the crates
  calls_at : (crates : List ReadsOfCrate) → calls_of given (hears []) ++ calls_of_all crates ≡ calls_of given (hears crates)
  calls_at crates =
      ap (λ own. own ++ calls_of_all crates)
      (append-nil (policy_calls given.request (hears []) ++ read_calls (metadata_due given (hears [])) (Some has.answer)))

  due_at : (crates : List ReadsOfCrate) → HearsAllDue given (hears crates)
  due_at crates = record {
    policy = record {
      looks = record { sought = has.due.policy.looks.sought; looks = has.due.policy.looks.looks };
      policy = has.due.policy.policy;
      exceptions = has.due.policy.exceptions;
    };
    metadata = has.due.metadata;
  }

  -- the count behind the metadata's read
  count_at : mid ≡ count_metadata given.request (hears [])
  count_at =
      has.made.counts
      ∙ ap (faults_after begun) (append-nil (policy_calls given.request (hears []) ++ read_calls (metadata_due given (hears [])) (Some has.answer)))
      ∙ count_is given (hears []) (due_at [])

  -- what the policy says of the crates, once its lists are in order
  same_flags : include_of found.policy ≡ included_in has.policy
  same_flags = ap include_of has.ordered.rest ∙ include_at given.options.threshold has.policy.licenses

  selected_at : (chosen : List CrateRecord) → IsListOf has.graph (Selected has.graph (choice_in given has.policy) (include_of found.policy)) chosen → AreSelected given has.policy has.graph chosen
  selected_at chosen selected = subst (λ include. IsListOf has.graph (Selected has.graph (choice_in given has.policy) include) chosen) same_flags selected

  input_at : (crates : List ReadsOfCrate) → input_of given (hears crates) ≡ Ok (record { policy = has.policy; graph = has.graph })
  input_at crates = input-graph given (hears crates) has.policy (asked-once given (hears crates) has.policy has.policy_is has.once) (Ok has.graph) has.graph_is

  -- ---- once all were settled

  module _ (carried : given.options.unsupported ≡ None) (last : List File) (licenses : List KrateLicense)
      (gathered : IsGatheredOn (scanner_of_given given found.policy) found.policy (tree_seen middle tells mid after between more) files last has.graph (choice_in given has.policy) licenses) where
    turned : AreTurnsBy (files_loaded given.request (hears gathered.crates)) (turns_in given (hears gathered.crates) found.policy) licenses last
    turned = subst (λ table. AreTurnsBy table (turns_heard scanner found.policy table gathered.crates) licenses last) has.files_are gathered.turns

    pub is_settled : IsSettled given (hears gathered.crates) found.policy licenses last
    is_settled = record {
      due = due_at gathered.crates;
      asked = record { policy = has.policy; graph = has.graph; crates = map krate_of licenses };
      asks = record {
        carried = carried;
        policy = bytes_of_found given.request (hears gathered.crates) has.policy has.policy_is;
        once = has.once;
        metadata = bytes_of_graph given.request (hears gathered.crates) has.graph has.graph_is;
        root = has.root;
        selected = selected_at (map krate_of licenses) gathered.selected;
      };
      ordered = has.ordered;
      crates = krates_told scanner (rules_of found.policy) (files_loaded given.request (hears gathered.crates)) gathered.crates licenses last turned;
      records = subst (λ n. AreReads n (reads_of_all gathered.crates)) count_at gathered.records;
      turns = turned;
    }

    -- what is so of the hearing is so of the tree
    pub hears_so : (IsSo : RequestHearing → Type 0) → IsSo (hears gathered.crates) → HearsSo given whole err IsSo
    hears_so IsSo is_so = record {
      hearing = hears gathered.crates;
      heard = record { begun = refl; made = made_as (calls_at gathered.crates) (made_joined has.made gathered.made) };
      written = has.written;
      is_so = is_so;
    }

  -- ---- where memory was wanting

  pub cut_stops : IsGatherCut scanner found.policy behind files has.graph (choice_in given has.policy) → Stops given whole err Memory
  cut_stops part = record {
    hearing = hears part.crates;
    refused = record {
      begun = refl;
      lost = part.lost;
      made = made_as (sym (append_assoc (calls_of given (hears [])) (calls_of_all part.crates) part.lost) ∙ ap (λ own. own ++ part.lost) (calls_at part.crates)) (made_joined has.made part.made);
      stops = at_crates (due_at part.crates) (record {
        found = record { policy = has.policy; graph = has.graph };
        is = input_at part.crates;
        policy = found.policy;
        ordered = has.ordered;
        chosen = part.checked;
        selected = selected_at part.checked part.selected;
        turns = subst (λ table. HaveTurns scanner found.policy table part.checked part.crates part.lost) has.files_are part.turns;
      });
    };
    written = all_of err.old err.new (load_heard given (hears part.crates)) has.written;
  }

-- ---- where memory was wanting behind them

module _ (given : CommandArguments) (tree : TreeSeen) (err : SinkSeen) where
  -- memory was wanting once the licences were settled
  pub settled_stops : (hearing : RequestHearing) → IsHeard given tree hearing → Gained err.old err.new (load_heard given hearing) → (policy : ValidConfig) (licenses : List KrateLicense) (last : List File)
      → IsSettled given hearing policy licenses last → Stops given tree err Memory
  settled_stops hearing heard written policy licenses last settled = record {
    hearing = hearing;
    refused = up_without given tree hearing heard.begun heard.made (at_crates settled.due (record {
      found = record { policy = settled.asked.policy; graph = settled.asked.graph };
      is = input_by_Asks given hearing settled.asked settled.asks;
      policy = policy;
      ordered = settled.ordered;
      chosen = settled.asked.crates;
      selected = settled.asks.selected;
      turns = record {
        earlier = hearing.crates;
        own = own_turns (files_loaded given.request hearing) (turns_in given hearing policy) licenses last settled.turns;
        ends = inl (refl, refl);
        among = ([], sym settled.crates ∙ sym (append-nil (crates_heard hearing)));
      };
    }));
    written = all_of err.old err.new (load_heard given hearing) written;
  }
