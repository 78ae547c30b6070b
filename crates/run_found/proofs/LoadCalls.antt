-- The reads of a load, as what they were answered.
use Rattle.std.proofs.Common.{◌≡◌, ◌∙◌, inl, inr, refl, sym, ap, subst, ℕ, List, [], ◌∷◌, ◌++◌, append-nil, Option, Some, None, Result, Ok, Err}
use Rattle.spdx_terms.specs.catalog.Catalog.{CatalogLists}
use Rattle.diag_core.specs.File.{File, file_id_at}
use Rattle.tree_core.specs.Call as call
use Rattle.tree_core.specs.Call.{CallAnswer, Call}
use Rattle.tree_core.specs.Trace.{fault_behind}
use Rattle.tree_core.specs.texts.Heard.{read_of, text_answered}
use Rattle.tree_core.specs.declared.texts.fault.ReadFault.{ReadFault}
use Rattle.tree_core.specs.declared.texts.fault.ReadFault.TheVariants.{Absent, Failed}
use Rattle.policy_core.specs.declared.config.root.RootConfig.{RootConfig}
use Rattle.policy_core.specs.declared.exceptions.ExceptionsHeard.TheVariants.{Heard as heard}
use Rattle.policy_core.specs.text.Config.{config_of_text}
use Rattle.policy_core.specs.text.Text.{config_text_of}
use Rattle.policy_core.specs.declared.text.error.ConfigError.{ConfigError}
use Rattle.policy_core.specs.declared.text.text.ConfigText.{ConfigText}
use Rattle.policy_load.specs.Answer.{MayReadFurther, ReadsBehind, ReadsFurther}
use Rattle.policy_load.specs.Heard.{IsReadAt, IsReadOf, MayReadAt, MayReadOf, exceptions_at, exceptions_heard}
use Rattle.policy_load.specs.Load.{load_by_config, load_by_text, with_policy}
use Rattle.policy_load.specs.declared.loading.PolicyPaths.{PolicyPaths}
use Rattle.run_found.specs.Found.{due_at, due_behind, due_by_text, unless_known}
use Rattle.run_found.specs.Hearing.{IsReadWhereDue, count_behind, read_calls, text_by}
use Rattle.run_found.proofs.CallLemmas.{heard_where, text_heard_by}

-- a read that is due at a path, where this was read: what it was answered
pub record ReadsDue (due : Option (List ℕ)) (mid : ℕ) (between more : List Call) (Same : Result (List ℕ) ReadFault → Type 0) : Type 0 where
  pub answer : Option CallAnswer
  pub due_read : IsReadWhereDue due answer
  pub made : more ≡ between ++ read_calls due answer
  pub same : Same (text_by mid (count_behind mid answer) answer)

-- the count behind the one further read that there may be
abbrev pub CountsFurther : ℕ → ℕ → List Call → List Call → Type 0
CountsFurther mid after between more = (path : List ℕ) (answer : CallAnswer) → more ≡ between ++ read_of path answer ∷ [] → after ≡ fault_behind mid answer

heard-inj : (path : List ℕ) (one other : Result (List ℕ) ReadFault) → heard path one ≡ heard path other → one ≡ other
heard-inj path one other e = cc

-- no read is due
none_due : (mid : ℕ) (between more : List Call) (Same : Result (List ℕ) ReadFault → Type 0) → more ≡ between → Same (Err Absent) → ReadsDue None mid between more Same
none_due mid between more Same made same = record { answer = None; due_read = refl; made = made ∙ sym (append-nil between); same = same }

module _ (mid after : ℕ) (between more : List Call) (counts : CountsFurther mid after between more) (files : List File) (text : Result (List ℕ) ReadFault) where
  -- the same is read of the exceptions file
  abbrev Alike : Option (List ℕ) → Result (List ℕ) ReadFault → Type 0
  Alike path own = exceptions_heard files path own ≡ exceptions_heard files path text

  read_at : (path : List ℕ) (id : Option ℕ) → IsReadAt mid after between more id path (exceptions_at id path text)
      → ReadsDue (unless_known id path) mid between more (λ own. exceptions_at id path own ≡ exceptions_at id path text)
  read_at path (Some id) is = none_due mid between more (λ own. exceptions_at (Some id) path own ≡ exceptions_at (Some id) path text) is.1 refl
  read_at path None is =
      let own = is.0 in
      let read = is.2 in
      let behind = counts path read.answer read.made in
      let hears = subst (λ n. text_answered mid n read.answer ≡ Some own) behind read.hears in
      record {
        answer = Some read.answer;
        due_read = heard_where read.answer mid after own read.hears;
        made = read.made;
        same = ap (heard path) (text_heard_by read.answer mid (fault_behind mid read.answer) own hears ∙ sym (heard-inj path text own is.1));
      }

  read_of_path : (path : Option (List ℕ)) → IsReadOf mid after between more files path (exceptions_heard files path text) → ReadsDue (due_at files path) mid between more (Alike path)
  read_of_path None is = none_due mid between more (Alike None) is.1 refl
  read_of_path (Some path) is = read_at path (file_id_at files path) is

-- a load comes to the same as with this text of the exceptions file
abbrev pub LoadsAlike : CatalogLists → PolicyPaths → Result (List ℕ) ReadFault → Result ConfigText ConfigError → Result (List ℕ) ReadFault → Type 0
LoadsAlike lists paths exceptions told own = load_by_text lists [] paths own told ≡ load_by_text lists [] paths exceptions told

module _ (lists : CatalogLists) (paths : PolicyPaths) (mid after : ℕ) (between more : List Call) (counts : CountsFurther mid after between more) (exceptions : Result (List ℕ) ReadFault) where
  further : (text : ConfigText) (config : Result RootConfig ConfigError)
      → ReadsFurther mid after between more (with_policy [] paths text) paths.exceptions (exceptions_heard (with_policy [] paths text) paths.exceptions exceptions) config
      → ReadsDue (due_behind (with_policy [] paths text) paths.exceptions config) mid between more
      (λ own. load_by_config lists [] paths (exceptions_heard (with_policy [] paths text) paths.exceptions own) text config
      ≡ load_by_config lists [] paths (exceptions_heard (with_policy [] paths text) paths.exceptions exceptions) text config)
  further text (Err refused) is = none_due mid between more _ is refl
  further text (Ok root) is =
      let files = with_policy [] paths text in
      let reads = read_of_path mid after between more counts files exceptions paths.exceptions is in
      record {
        answer = reads.answer;
        due_read = reads.due_read;
        made = reads.made;
        same = ap (λ own. load_by_config lists [] paths own text (Ok root)) reads.same;
      }

  pub reads_behind : (told : Result ConfigText ConfigError) → ReadsBehind lists [] paths mid after between more exceptions told
      → ReadsDue (due_by_text lists paths told) mid between more (LoadsAlike lists paths exceptions told)
  reads_behind (Err refused) is = none_due mid between more (LoadsAlike lists paths exceptions (Err refused)) is refl
  reads_behind (Ok text) is = further text (config_of_text lists text.text) is

-- ---- where memory was wanting

-- a read that is due may have been made
pub record MayReadDue (due : Option (List ℕ)) (between more : List Call) : Type 0 where
  pub answer : Option CallAnswer
  pub made : more ≡ between ++ read_calls due answer

may_none : (due : Option (List ℕ)) (between more : List Call) → more ≡ between → MayReadDue due between more
may_none None between more made = record { answer = None; made = made ∙ sym (append-nil between) }
may_none (Some path) between more made = record { answer = None; made = made ∙ sym (append-nil between) }

may_at : (path : List ℕ) (id : Option ℕ) (between more : List Call) → MayReadAt between more id path → MayReadDue (unless_known id path) between more
may_at path (Some id) between more is = may_none None between more is
may_at path None between more (inl is) = may_none (Some path) between more is
may_at path None between more (inr is) = record { answer = Some is.0; made = is.1 }

may_of : (files : List File) (path : Option (List ℕ)) (between more : List Call) → MayReadOf between more files path → MayReadDue (due_at files path) between more
may_of files None between more is = may_none None between more is
may_of files (Some path) between more is = may_at path (file_id_at files path) between more is

pub may_further : (files : List File) (path : Option (List ℕ)) (config : Result RootConfig ConfigError) (between more : List Call) → MayReadFurther between more files path config
    → MayReadDue (due_behind files path config) between more
may_further files path (Ok root) between more is = may_of files path between more is
may_further files path (Err refused) between more is = may_none None between more is

-- a policy's text is reported whatever the counts are
pub text_anyhow : (answer : CallAnswer) (begun after other : ℕ) (told : Result (List ℕ) ReadFault) (text : ConfigText) → text_answered begun after answer ≡ Some told → config_text_of told ≡ Ok text
    → text_by begun other (Some answer) ≡ told
text_anyhow (call.bytes items) begun after other told text is by = cc
text_anyhow (call.entries items) begun after other told text is by = absurd (cc)
text_anyhow (call.told answer) begun after other told text is by = absurd (cc)
text_anyhow call.absent begun after other told text is by = cc
text_anyhow call.wrong_kind begun after other told text is by = cc
text_anyhow call.failed begun after other told text is by =
    let failed : told ≡ Err (Failed begun after) = cc in
    absurd (failed_told begun after text (sym (ap config_text_of failed) ∙ by))
  where
    failed_told : (begun after : ℕ) (text : ConfigText) → config_text_of (Err (Failed begun after)) ≡ Ok text → ⊥
    failed_told begun after text e = absurd (cc)
text_anyhow call.no_memory begun after other told text is by = absurd (cc)
