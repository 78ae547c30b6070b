-- The crates behind a policy: what was read and answered where they were gathered, and where memory was wanting.
use Rattle.std.proofs.Common.{◌≡◌, ◌∙◌, ◌⊎◌, inl, inr, refl, sym, subst, ℕ, List, [], ◌∷◌, ◌++◌, map, append-nil, Option, Some, None, Result, Ok, Err}
use Rattle.tree_core.specs.Call.{CallAnswer, Call}
use Rattle.tree_core.specs.Content.{Content}
use Rattle.tree_core.specs.Hearing.{MadeSome}
use Rattle.tree_core.specs.Trace.{fault_behind}
use Rattle.tree_core.proofs.MadeLemmas.{made_as, made_these}
use Rattle.diag_core.specs.File.{File}
use Rattle.gather_license.specs.expression.Scanned.{Scanner}
use Rattle.graph_core.specs.Metadata.{Graph}
use Rattle.tree_core.specs.texts.Heard.{read_of, text_answered}
use Rattle.tree_core.specs.declared.texts.fault.ReadFault.{ReadFault}
use Rattle.graph_core.specs.selection.Choice.{Choice}
use Rattle.graph_core.specs.selection.Listed.{ReachedCrates}
use Rattle.policy_core.specs.declared.valid.policy.ValidConfig.{ValidConfig}
use Rattle.gather_core.specs.Calls.{ReadsOfCrate, calls_of_all}
use Rattle.gather_core.specs.Gathered.{krate_of}
use Rattle.gather_core.proofs.CrateTurns.{krates_told, own_turns}
use Rattle.gather_core.specs.Rules.{rules_of}
use Rattle.gather_core.specs.declared.summary.KrateLicense.{KrateLicense}
use Rattle.graph_workspace.specs.Krates.{AreFrom, GathersBy, IsCarried}
use Rattle.graph_workspace.specs.declared.error.KratesError.{KratesError}
use Rattle.graph_workspace.specs.declared.error.KratesError.TheVariants as krates
use Rattle.graph_workspace.specs.declared.error.UnsupportedPart.{UnsupportedPart}
use Rattle.run_request.specs.declared.context.KrateContext.{KrateContext}
use Rattle.run_context.specs.Asked.{IsRefused, unsupported_part}
use Rattle.run_found.specs.Gathering.{HasNoCrates, NoCratesBy, TellsGraph}
use Rattle.run_found.specs.Hearing.{TreeSeen, tree_seen}
use Rattle.run_found.specs.Licenses.{IsGatherCut, IsGatheredOn, turns_heard}

-- ---- the crates that were gathered

-- memory was wanting once they were
pub gather_cut : (scanner : Scanner) (policy : ValidConfig) (tree : TreeSeen) (files last : List File) (graph : Graph) (choice : Choice) (licenses : List KrateLicense)
    → IsGatheredOn scanner policy tree files last graph choice licenses → IsGatherCut scanner policy tree files graph choice
gather_cut scanner policy tree files last graph choice licenses gathered = record {
  crates = gathered.crates;
  lost = [];
  made = made_as (sym (append-nil (calls_of_all gathered.crates))) gathered.made;
  checked = map krate_of licenses;
  selected = gathered.selected;
  turns = record {
    earlier = gathered.crates;
    own = own_turns files (turns_heard scanner policy files gathered.crates) licenses last gathered.turns;
    ends = inl (refl, refl);
    among = (
      [],
      sym (krates_told scanner (rules_of policy) files gathered.crates licenses last gathered.turns)
          ∙ sym (append-nil (map (λ (one : ReadsOfCrate). one.krate) gathered.crates)),
    );
  };
}

-- ---- behind the metadata

-- a refusal of what is carried is none of what is not
pub carried_error : {X : Type 0} (context : KrateContext) (exclude : List (List ℕ)) (error : KratesError) → unsupported_part context exclude ≡ None → IsRefused {X = X} context exclude (Err error) → IsCarried error
carried_error {X = X} context exclude krates.Memory carried refused = tt
carried_error {X = X} context exclude (krates.NotCarried what) carried refused = apart (sym carried ∙ (refused what).0 refl)
  where
    apart : ◌≡◌ {A = Option UnsupportedPart} None (Some what) → ⊥
    apart e = absurd (cc)
carried_error {X = X} context exclude (krates.MetadataRead fault) carried refused = tt
carried_error {X = X} context exclude krates.MetadataSyntax carried refused = tt
carried_error {X = X} context exclude (krates.MetadataShape fault) carried refused = tt
carried_error {X = X} context exclude (krates.NoRoots base excluded unpublished) carried refused = tt

-- crates come of what was read
pub gathers_chosen : (choice : Choice) (begun after : ℕ) (old new : List Call) (path : List ℕ) (chosen : ReachedCrates)
    → ((◌≡◌ {A = Result ReachedCrates KratesError} (Ok chosen) (Err krates.Memory)) × (new ≡ old)) ⊎ GathersBy choice begun after old new path (Ok chosen)
    → GathersBy choice begun after old new path (Ok chosen)
gathers_chosen choice begun after old new path chosen (inl none) = absurd (apart none.0)
  where
    apart : ◌≡◌ {A = Result ReachedCrates KratesError} (Ok chosen) (Err krates.Memory) → ⊥
    apart e = absurd (cc)
gathers_chosen choice begun after old new path chosen (inr gathers) = gathers

module _ (choice : Choice) (told middle tells : Option Content) (before mid after : ℕ) (old between new : List Call) (begun : ℕ) (path : List ℕ)
    (made : MadeSome told middle before mid old between) (chosen : ReachedCrates) (gathers : GathersBy choice begun mid old between path (Ok chosen)) where
  abbrev tree : TreeSeen
  tree = tree_seen told tells before after old new

  -- the count behind the metadata's read
  pub mid_is : mid ≡ fault_behind before gathers.read.answer
  mid_is = (made_these made gathers.read.made).counts

  pub graph_told : TellsGraph choice tree begun gathers.read.answer gathers.from.graph
  graph_told = record {
    heard = gathers.heard;
    hears = subst (λ n. text_answered begun n gathers.read.answer ≡ Some gathers.heard) mid_is gathers.read.hears;
    tells = gathers.from.tells;
    rooted = gathers.from.rooted;
  }

-- the metadata's read alone
module _ (choice : Choice) (told tells : Option Content) (before after : ℕ) (old new : List Call) (begun : ℕ) (path : List ℕ)
    (made : MadeSome told tells before after old new) where
  abbrev Refuses : KratesError → Type 0
  Refuses error = NoCratesBy choice (tree_seen told tells before after old new) begun path error

  refused_by : (error : KratesError) (heard : Result (List ℕ) ReadFault) (answer : CallAnswer) → new ≡ old ++ read_of path answer ∷ [] → text_answered begun after answer ≡ Some heard
      → AreFrom choice heard (Err error) → HasNoCrates choice (tree_seen told tells before after old new) begun path error
  refused_by error heard answer traced hears from =
      let own = made_these made traced in
      record {
        answer = answer;
        heard = heard;
        made = own;
        hears = subst (λ n. text_answered begun n answer ≡ Some heard) own.counts hears;
        from = from;
      }

  memory_of : (error : KratesError) → ◌≡◌ {A = Result ReachedCrates KratesError} (Err error) (Err krates.Memory) → krates.Memory ≡ error
  memory_of error e = cc

  gathered_by : (error : KratesError) → IsCarried error → GathersBy choice begun after old new path (Err error) → Refuses error
  gathered_by krates.Memory carried gathers = (Some gathers.0, made_these made gathers.1)
  gathered_by (krates.NotCarried what) carried gathers = absurd carried
  gathered_by (krates.MetadataRead fault) carried gathers = refused_by (krates.MetadataRead fault) gathers.heard gathers.read.answer gathers.read.made gathers.read.hears gathers.from
  gathered_by krates.MetadataSyntax carried gathers = refused_by krates.MetadataSyntax gathers.heard gathers.read.answer gathers.read.made gathers.read.hears gathers.from
  gathered_by (krates.MetadataShape fault) carried gathers = refused_by (krates.MetadataShape fault) gathers.heard gathers.read.answer gathers.read.made gathers.read.hears gathers.from
  gathered_by (krates.NoRoots base excluded unpublished) carried gathers =
      refused_by (krates.NoRoots base excluded unpublished) gathers.heard gathers.read.answer gathers.read.made gathers.read.hears gathers.from

  pub no_crates_by : (error : KratesError) → IsCarried error
      → ((◌≡◌ {A = Result ReachedCrates KratesError} (Err error) (Err krates.Memory)) × (new ≡ old)) ⊎ GathersBy choice begun after old new path (Err error)
      → Refuses error
  no_crates_by error carried (inl none) =
      let given_up : Refuses krates.Memory = (None, made_these made (none.1 ∙ sym (append-nil old))) in
      subst Refuses (memory_of error none.0) given_up
  no_crates_by error carried (inr gathers) = gathered_by error carried gathers
