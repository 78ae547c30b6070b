-- What is known of metadata, and the crates that are chosen of it.
use Rattle.std.proofs.Common.{◌≡◌, ◌∙◌, refl, sym, ap, subst, ℕ, List, [], length, Option, Some, None}
use Rattle.std.proofs.lemmas.List.{length-map}
use Rattle.diag_core.specs.File.{File}
use Rattle.graph_core.specs.Krate.{CrateRecord}
use Rattle.graph_core.specs.Metadata.{CrateNode, Graph}
use Rattle.graph_core.specs.declared.edge.DepKind.{DepKind}
use Rattle.graph_core.specs.declared.edge.DepKind.TheVariants.{Normal, Dev, Build}
use Rattle.graph_core.specs.declared.selection.selection.Include.{Include}
use Rattle.graph_core.specs.selection.Choice.{Choice, choice_of}
use Rattle.graph_core.specs.selection.Listed.{IsListOf, selected_in}
use Rattle.graph_core.specs.selection.Roots.{crates_of}
use Rattle.graph_core.specs.selection.Walks.{Selected}
use Rattle.graph_core.proofs.selection.SelectedLemmas.{selected-lists}
use Rattle.graph_walk.specs.Shortest.{kind_left_out}
use Rattle.graph_walk.specs.Unchecked.{AreSelecting}
use Rattle.graph_workspace.specs.declared.error.KratesError.TheVariants as krates
use Rattle.gather_core.specs.Calls.{ReadsOfCrate}
use Rattle.gather_core.specs.Gathered.{include_of}
use Rattle.check_why.specs.Answer.{title_of}
use Rattle.run_context.specs.declared.gather.AskedMetadata.{AskedMetadata}
use Rattle.run_found.specs.declared.error.Error.TheVariants.{Memory}
use Rattle.run_found.specs.Finds.{hearing_of}
use Rattle.run_found.specs.Hearing.{TreeSeen}
use Rattle.run_found.specs.Selection.{included_in}
use Rattle.run_found.specs.Written.{SinkSeen}
use Rattle.run_found.proofs.ByteLemmas.{bytes_of_found, bytes_of_graph}
use Rattle.run_command.specs.declared.crates.CratesFound.{CratesFound}
use Rattle.run_command.specs.declared.crates.MetadataFound.{MetadataFound}
use Rattle.run_command.specs.Crates.{ChoosesCrates, HasCrates, HasMetadata, hearing_up_to}
use Rattle.run_command.specs.Found.{choice_in}
use Rattle.run_command.specs.Given.{CommandArguments}
use Rattle.run_command.specs.Settled.{HearsSo}
use Rattle.run_command.specs.Stops.{Asks, Stops}
use Rattle.run_command.proofs.MetadataLemmas.{crates_refused}
use Rattle.run_command.proofs.SettledLemmas.{include_at}
use Rattle.run_why.specs.declared.graph.GraphTold.{GraphTold}
use Rattle.run_why.specs.Given.{WhyArguments}
use Rattle.run_why.specs.Named.{first_unknown}
use Rattle.run_why.specs.Steps.{IsGraphTold, IsWhole, walks_by}
use Rattle.run_why.specs.Why.{IsNoSuchCrate}

-- ---- what is known of the metadata is whole

walks_counted : (graph : Graph) (choice : Choice) (told : GraphTold) (kind : Option DepKind) → AreSelecting graph choice told.walks.all told.walks.without_dev told.walks.without_build
    → length (walks_by told kind) ≡ length graph.nodes
walks_counted graph choice told None walks = walks.all_are.counted
walks_counted graph choice told (Some Normal) walks = walks.all_are.counted
walks_counted graph choice told (Some Dev) walks = walks.without_dev_are.counted
walks_counted graph choice told (Some Build) walks = walks.without_build_are.counted

pub whole_of : (words : List (List ℕ)) (asked : AskedMetadata) (include : Include) (told : GraphTold) → IsGraphTold words asked include told → IsWhole told
whole_of words asked include told is =
    let titles : length told.titles ≡ length (crates_of asked.metadata) = ap length is.titles ∙ length-map (crates_of asked.metadata) title_of in
    record {
      causes = is.causes.counted ∙ sym titles;
      walks =
          walks_counted asked.metadata (choice_of asked.selection) told (kind_left_out told.include) is.walks
          ∙ sym (length-map asked.metadata.nodes (λ (node : CrateNode). node.krate))
          ∙ sym titles;
    }

-- ---- the crates are chosen

module _ (given : CommandArguments) where
  -- memory was wanting once the metadata was read
  pub lost_told : (tree : TreeSeen) (err : SinkSeen) (files : List File) (found : MetadataFound) → HasMetadata given tree err files found → Stops given tree err Memory
  lost_told tree err files found has = crates_refused given tree err files found has krates.Memory tt

  -- what the policy says of the crates, once its lists are in order
  pub flags_same : (tree : TreeSeen) (err : SinkSeen) (files : List File) (crates : CratesFound) (has : HasCrates given tree err files crates) → include_of crates.policy ≡ included_in has.policy
  flags_same tree err files crates has = ap include_of has.ordered.rest ∙ include_at given.options.threshold has.policy.licenses

  module _ (carried : given.options.unsupported ≡ None) where
    -- what was read asks for these crates
    pub asks_at : (tree : TreeSeen) (err : SinkSeen) (files : List File) (crates : CratesFound) (has : HasCrates given tree err files crates) (later : List ReadsOfCrate) (those : List CrateRecord)
        → IsListOf has.graph (Selected has.graph (choice_in given has.policy) (include_of crates.policy)) those
        → Asks given (hearing_of tree.count_before has.heard (Some has.answer) later) (record { policy = has.policy; graph = has.graph; crates = those })
    asks_at tree err files crates has later those selected =
        let hearing = hearing_of tree.count_before has.heard (Some has.answer) later in
        record {
          carried = carried;
          policy = bytes_of_found given.request hearing has.policy has.policy_is;
          once = has.once;
          metadata = bytes_of_graph given.request hearing has.graph has.graph_is;
          root = has.root;
          selected = subst (λ (include : Include). IsListOf has.graph (Selected has.graph (choice_in given has.policy) include) those) (flags_same tree err files crates has) selected;
        }

-- a word names no crate
pub no_such_crate : (given : WhyArguments) → given.command.options.unsupported ≡ None → (tree : TreeSeen) (err : SinkSeen) (files : List File) (found : MetadataFound) (crates : CratesFound)
    (chosen : ChoosesCrates given.command tree err files found crates) (word : List ℕ) → first_unknown given.words (crates_of found.asked.metadata) ≡ Some word → HearsSo given.command tree err (IsNoSuchCrate given word)
no_such_crate given carried tree err files found crates chosen word at =
    let has = chosen.has in
    let those = selected_in (include_of crates.policy) crates.krates in
    record {
      hearing = hearing_up_to tree has.heard has.answer;
      heard = record { begun = refl; made = has.made };
      written = has.written;
      is_so = record {
        asked = record { policy = has.policy; graph = has.graph; crates = those };
        asks = asks_at given.command carried tree err files crates has [] those (selected-lists has.graph (choice_in given.command has.policy) crates.krates has.chosen (include_of crates.policy));
        unread = refl;
        first = ap (λ (graph : Graph). first_unknown given.words (crates_of graph)) chosen.graph ∙ at;
      };
    }
