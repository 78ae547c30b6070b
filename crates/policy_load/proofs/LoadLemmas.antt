-- What comes of a load, from what its steps answered.
use Rattle.std.proofs.Common.{◌≡◌, ◌∙◌, refl, sym, ap, subst, ℕ, Bool, List, [], ◌++◌, Option, None, Some, Result, Ok, Err, append-nil}
use Rattle.std.specs.Result.{IsErrAnd}
use Rattle.spdx_terms.specs.catalog.Catalog.{CatalogLists, IsCatalog}
use Rattle.tree_core.specs.Call.{Call}
use Rattle.tree_core.specs.Faults.{Gained, GainedPrefix}
use Rattle.diag_core.specs.File.{File}
use Rattle.diag_core.specs.declared.diagnostic.Diagnostic.{Diagnostic}
use Rattle.diag_print.specs.declared.context.LogContext.{LogContext}
use Rattle.policy_core.specs.declared.text.error.ConfigError.{ConfigError}
use Rattle.policy_core.specs.declared.text.error.ConfigError.TheVariants as config
use Rattle.policy_core.specs.declared.config.config.Config.{Config}
use Rattle.policy_core.specs.declared.config.root.RootConfig.{RootConfig}
use Rattle.policy_core.specs.place_laws.Policies.{ConfigKeeps}
use Rattle.policy_core.specs.declared.valid.policy.ValidConfig.{ValidConfig}
use Rattle.policy_core.specs.validate.Order.{PutsPolicyInOrder}
use Rattle.policy_core.specs.validate.Valid.{valid_part, validation_findings}
use Rattle.policy_core.specs.Findings.{target_findings, graph_key_findings, output_key_findings}
use Rattle.policy_core.specs.Heard.{IsTextHeard, LoadState, TakesExceptions, heard_file_of}
use Rattle.policy_core.specs.Places.{IsConfigPlaced, PointInto}
use Rattle.policy_core.specs.Policy.{absence_findings, licenses_in}
use Rattle.policy_core.specs.declared.exceptions.ExceptionsHeard.{ExceptionsHeard}
use Rattle.policy_core.specs.declared.load.LoadedPolicy.{LoadedPolicy}
use Rattle.policy_core.proofs.KeptLemmas.{exceptions_places, validated_stands}
use Rattle.policy_core.proofs.LoadLemmas.{keeps_policy}
use Rattle.policy_core.proofs.PlaceLemmas.{checked_labels, exceptions_labels, no_config_keeps, placed_more, settings_labels}
use Rattle.policy_load.specs.Answer.{Comes, LoadsPolicyBy}
use Rattle.policy_load.specs.Heard.{IsReadOf}
use Rattle.policy_load.specs.Load.{error_of_config}
use Rattle.policy_load.specs.declared.error.LoadError.{LoadError}

pub gained_nothing : (old : Option (List ℕ)) (text : List ℕ) → text ≡ [] → Gained old old text
gained_nothing None text none = refl
gained_nothing (Some held) text none = ap Some (sym (append-nil held) ∙ ap (λ more. held ++ more) (sym none))

pub front_of_any : (held : Option (List ℕ)) (text : List ℕ) → GainedPrefix held held text
front_of_any held text = record { front = []; rest = text; parts = refl; gained = gained_nothing held [] refl }

-- the refusal that a step hands on
pub handed_on : (result : Result LoadedPolicy LoadError) (error : LoadError) → IsErrAnd result (λ own. own ≡ error) → result ≡ Err error
handed_on (Ok policy) error is = absurd is
handed_on (Err own) error is = ap Err is

-- the policy's file was refused
pub refused_comes : (context : LogContext) (old : List File) (held : Option (List ℕ)) (refused : ConfigError)
    → Comes (record { files = []; findings = []; answer = Err (error_of_config refused) }) context old old held held (Err (error_of_config refused))
refused_comes context old held config.Memory = record { answers = tt; files = tt; prints = front_of_any held _ }
refused_comes context old held (config.ConfigRead fault) = record { answers = refl; files = sym (append-nil old); prints = gained_nothing held [] refl }
refused_comes context old held (config.ConfigSyntax fault) = record { answers = refl; files = sym (append-nil old); prints = gained_nothing held [] refl }
refused_comes context old held (config.ConfigShape faults) = record { answers = refl; files = sym (append-nil old); prints = gained_nothing held [] refl }
refused_comes context old held config.NotCarried = record { answers = refl; files = sym (append-nil old); prints = gained_nothing held [] refl }

-- the policy was validated, its exceptions file was read and taken, and its settings were reported
pub loads_policy : (lists : CatalogLists) → IsCatalog lists → (before after : ℕ) (calls more : List Call) (file : ℕ) (is_there : Bool) (at : Option (List ℕ)) (root : RootConfig)
    (path : Option (List ℕ)) (config : Config) (hearing : ExceptionsHeard) (valid licenses : ValidConfig) (files new : List File) (found checked heard all : List Diagnostic)
    → IsConfigPlaced files file root → config ≡ licenses_in root
    → PutsPolicyInOrder (valid_part lists file config) valid → checked ≡ found ++ absence_findings is_there at ++ validation_findings lists file config
    → IsReadOf before after calls more files path hearing → IsTextHeard hearing
    → TakesExceptions lists hearing (record { policy = valid; files = files; found = checked }) (record { policy = licenses; files = new; found = heard })
    → all ≡ heard ++ target_findings file root ++ graph_key_findings file root ++ output_key_findings file root
    → LoadsPolicyBy lists before after calls more file (absence_findings is_there at) root path (record { files = files; found = found }) (record { files = new; found = all })
    (record { licenses = licenses; graph = root.graph; output = root.output })
loads_policy lists laws before after calls more file is_there at root path config hearing valid licenses files new found checked heard all placed is puts checks reads text takes settles =
    let absence = absence_findings is_there at in
    let old : LoadState = record { policy = valid; files = files; found = checked } in
    let behind : LoadState = record { policy = licenses; files = new; found = heard } in
    let grown : new ≡ files ++ heard_file_of hearing = takes.files in
    let there = subst (λ known. IsConfigPlaced known file root) (sym grown) (placed_more files (heard_file_of hearing) file root placed) in
    let told = checks ∙ ap (λ (one : Config). found ++ absence ++ validation_findings lists file one) is in
    let config_keeps = subst (ConfigKeeps placed.text) (sym is) (no_config_keeps placed.text root.licenses placed.keeps.licenses) in
    record {
      hearing = hearing;
      reads = reads;
      keeps = keeps_policy lists hearing file absence root config valid licenses files new found checked heard all is puts checks takes settles;
      labels = λ points. subst (PointInto new) (sym settles)
          (settings_labels new file root heard there
          (exceptions_labels lists laws hearing old behind text takes (subst (PointInto files) (sym told) (checked_labels lists laws files file is_there at root found placed points))));
      places = exceptions_places lists laws hearing old behind text takes (validated_stands lists files file placed.text config valid placed.source placed.is_text.fits config_keeps puts);
    }
