-- The look at the manifest, by what the tree answered.
use Rattle.std.proofs.Common.{◌≡◌, ◌⊎◌, ◌∙◌, inl, inr, refl, sym, ap, subst, ℕ, Bool, true, false, List, [], ◌∷◌, Option, Some, None, Result, Ok, Err}
use Rattle.std.specs.Prelude.{if◌then◌else◌}
use Rattle.tree_core.specs.Call as call
use Rattle.tree_core.specs.Call.{CallAnswer, Call}
use Rattle.tree_core.specs.Content.{Content}
use Rattle.tree_core.specs.Trace.{call_answer, file_call}
use Rattle.tree_core.specs.declared.tree.TreeError.{TreeError}
use Rattle.tree_core.specs.declared.tree.TreeError.TheVariants as tree_error
use Rattle.tree_core.proofs.MadeLemmas.{made_as, made_none}
use Rattle.tree_core.specs.declared.texts.fault.ReadFault.TheVariants.{Absent}
use Rattle.run_found.specs.declared.error.Error.{Error}
use Rattle.run_found.specs.declared.error.Error.TheVariants.{Memory, ManifestPath, ManifestRead, ConfigRead}
use Rattle.run_found.specs.Hearing.{MadeOn, TreeSeen, tree_seen}
use Rattle.run_command.specs.Manifest.{AnswersLook, IsLookedWhereDue, LooksAtManifest, ManifestLook, found_by, is_manifest, look_in, manifest_call, manifest_calls, manifest_due, manifest_found, manifest_failed, manifest_there, no_manifest, unlooked}

-- ---- by the path's name

-- where it is looked at, by whether the path has the name, and what is found
abbrev due_by : Bool → List ℕ → Option (List ℕ)
due_by named path = if named then Some path else None

abbrev pub found_if : Bool → List ℕ → Result (Unit {0}) Error → Result (Unit {0}) Error
found_if named path found = if named then found else Err (ManifestPath path)

pub due_named : (path : List ℕ) → is_manifest path ≡ true → manifest_due None path ≡ Some path
due_named path named = ap (λ b. due_by b path) named

pub due_unnamed : (path : List ℕ) → is_manifest path ≡ false → manifest_due None path ≡ None
due_unnamed path unnamed = ap (λ b. due_by b path) unnamed

pub found_named : (path : List ℕ) → is_manifest path ≡ true → (begun after : ℕ) (answer : Option CallAnswer) → manifest_found begun after path answer ≡ found_by begun after path (look_in answer)
found_named path named begun after answer = ap (λ b. found_if b path (found_by begun after path (look_in answer))) named

pub found_unnamed : (path : List ℕ) → is_manifest path ≡ false → (begun after : ℕ) (answer : Option CallAnswer) → manifest_found begun after path answer ≡ Err (ManifestPath path)
found_unnamed path unnamed begun after answer = ap (λ b. found_if b path (found_by begun after path (look_in answer))) unnamed

-- ---- a manifest that is there

-- the path has the name, and the look was reported that a file is there
pub record IsThere (path : List ℕ) (answer : Option CallAnswer) : Type 0 where
  pub named : is_manifest path ≡ true
  pub told : answer ≡ Some (call.told true)

told_there : (begun after : ℕ) (path : List ℕ) (answer : Option CallAnswer) → (look_in answer ≡ unlooked → ⊥) → found_by begun after path (look_in answer) ≡ Ok tt → answer ≡ Some (call.told true)
told_there begun after path None looked is = absurd (looked refl)
told_there begun after path (Some (call.bytes items)) looked is = absurd (looked refl)
told_there begun after path (Some (call.entries items)) looked is = absurd (looked refl)
told_there begun after path (Some (call.told true)) looked is = refl
told_there begun after path (Some (call.told false)) looked is = absurd (cc)
told_there begun after path (Some call.absent) looked is = absurd (looked refl)
told_there begun after path (Some call.wrong_kind) looked is = absurd (looked refl)
told_there begun after path (Some call.failed) looked is = absurd (cc)
told_there begun after path (Some call.no_memory) looked is = absurd (looked refl)

there_by : (named : Bool) (path : List ℕ) (begun after : ℕ) (answer : Option CallAnswer) → IsLookedWhereDue (due_by named path) answer
    → found_if named path (found_by begun after path (look_in answer)) ≡ Ok tt → (named ≡ true) × (answer ≡ Some (call.told true))
there_by true path begun after answer looked is = (refl, told_there begun after path answer looked is)
there_by false path begun after answer looked is = absurd (cc)

pub is_there : (path : List ℕ) (begun after : ℕ) (answer : Option CallAnswer) → IsLookedWhereDue (manifest_due None path) answer → manifest_found begun after path answer ≡ Ok tt → IsThere path answer
is_there path begun after answer looked is =
    let p = there_by (is_manifest path) path begun after answer looked is in
    record { named = p.0; told = p.1 }

-- ---- the ends of the look

-- a path that names no manifest, or want of memory
abbrev pub IsNoManifest : List ℕ → Error → Type 0
IsNoManifest path error = (error ≡ ManifestPath path) ⊎ (error ≡ Memory)

module _ (path : List ℕ) (tree : TreeSeen) where
  -- no manifest by what was read, or want of memory
  refused_by : (answer : Option CallAnswer) → MadeOn tree (manifest_calls (manifest_due None path) answer) → IsLookedWhereDue (manifest_due None path) answer
      → manifest_found tree.count_before tree.count_after path answer ≡ Err (ManifestPath path) → (error : Error) → IsNoManifest path error → LooksAtManifest path tree (Err error)
  refused_by answer made looked found error (inl is) =
      subst (λ own. LooksAtManifest path tree (Err own)) (sym is) (record { answer = answer; made = made; answers = inr (looked, found) })
  refused_by answer made looked found error (inr is) =
      subst (λ own. LooksAtManifest path tree (Err own)) (sym is) (record { answer = answer; made = made; answers = inl refl })

  -- the call, by what the tree answered
  module _ (named : is_manifest path ≡ true) (result : Result Bool TreeError) (made : MadeOn tree (file_call path result ∷ [])) where
    abbrev own_answer : Option CallAnswer
    own_answer = Some (call_answer call.told result)

    own_made : MadeOn tree (manifest_calls (manifest_due None path) own_answer)
    own_made = subst (λ due. MadeOn tree (manifest_calls due own_answer)) (sym (due_named path named)) made

    own_looked : (look_in own_answer ≡ unlooked → ⊥) → IsLookedWhereDue (manifest_due None path) own_answer
    own_looked looked = subst (λ due. IsLookedWhereDue due own_answer) (sym (due_named path named)) looked

    own_found : manifest_found tree.count_before tree.count_after path own_answer ≡ found_by tree.count_before tree.count_after path (look_in own_answer)
    own_found = found_named path named tree.count_before tree.count_after own_answer

  -- no two of these are one
  failed_apart : manifest_failed ≡ unlooked → ⊥
  failed_apart e = absurd (cc)

  none_apart : no_manifest ≡ unlooked → ⊥
  none_apart e = absurd (cc)

  there_apart : manifest_there ≡ unlooked → ⊥
  there_apart e = absurd (cc)

  pub looked_there : is_manifest path ≡ true → MadeOn tree (file_call path (Ok true) ∷ []) → LooksAtManifest path tree (Ok tt)
  looked_there named made =
      record { answer = Some (call.told true); made = own_made named (Ok true) made; answers = inr (own_looked named (Ok true) made there_apart, own_found named (Ok true) made) }

  pub looked_absent : is_manifest path ≡ true → MadeOn tree (file_call path (Ok false) ∷ []) → (error : Error) → IsNoManifest path error → LooksAtManifest path tree (Err error)
  looked_absent named made error is =
      refused_by (Some (call.told false)) (own_made named (Ok false) made) (own_looked named (Ok false) made none_apart) (own_found named (Ok false) made) error is

  pub looked_wanting : is_manifest path ≡ true → (result : Result Bool TreeError) → MadeOn tree (file_call path result ∷ []) → LooksAtManifest path tree (Err Memory)
  looked_wanting named result made = record { answer = own_answer named result made; made = own_made named result made; answers = inl refl }

  pub looked_failed : is_manifest path ≡ true → MadeOn tree (file_call path (Err tree_error.Failed) ∷ []) → (before after : ℕ) → before ≡ tree.count_before → after ≡ tree.count_after
      → LooksAtManifest path tree (Err (ManifestRead before after))
  looked_failed named made before after first last =
      rw (first, last)
      (record { answer = Some call.failed; made = own_made named (Err tree_error.Failed) made; answers = inr (own_looked named (Err tree_error.Failed) made failed_apart, own_found named (Err tree_error.Failed) made) })

pub unlooked_refused : (path : List ℕ) (told : Option Content) (count : ℕ) (calls : List Call) → is_manifest path ≡ false → (error : Error) → IsNoManifest path error
    → LooksAtManifest path (tree_seen told told count count calls calls) (Err error)
unlooked_refused path told count calls unnamed error is =
    let tree = tree_seen told told count count calls calls in
    refused_by path tree None
    (subst (λ due. MadeOn tree (manifest_calls due None)) (sym (due_unnamed path unnamed)) (made_none told count calls))
    (subst (λ due. IsLookedWhereDue due None) (sym (due_unnamed path unnamed)) refl)
    (found_unnamed path unnamed count count None) error is

-- ---- by what the look answered

-- it is reported that the manifest is there, and the count is as before
pub looked_is : (path : List ℕ) (tree : TreeSeen) (looked : LooksAtManifest path tree (Ok tt)) → IsThere path looked.answer
looked_is path tree looked = by_answer looked.answers
  where
    no_memory_there : ◌≡◌ {A = Result (Unit {0}) Error} (Ok tt) (Err Memory) → ⊥
    no_memory_there e = absurd (cc)

    by_answer : AnswersLook tree.count_before tree.count_after path looked.answer (Ok tt) → IsThere path looked.answer
    by_answer (inl wanting) = absurd (no_memory_there wanting)
    by_answer (inr own) = is_there path tree.count_before tree.count_after looked.answer own.0 own.1

pub looked_made : (path : List ℕ) (tree : TreeSeen) → LooksAtManifest path tree (Ok tt) → MadeOn tree (manifest_call path (call.told true) ∷ [])
looked_made path tree looked =
    let there = looked_is path tree looked in
    made_as (ap (λ due. manifest_calls due looked.answer) (due_named path there.named) ∙ ap (manifest_calls (Some path)) there.told) looked.made

pub looked_count : (path : List ℕ) (tree : TreeSeen) → LooksAtManifest path tree (Ok tt) → tree.count_after ≡ tree.count_before
looked_count path tree looked = (looked_made path tree looked).counts

-- a look is no read of the policy
pub look_apart : (path : List ℕ) (tree : TreeSeen) (error : Error) → LooksAtManifest path tree (Err error) → error ≡ ConfigRead Absent → ⊥
look_apart path tree error looked e = by_answer looked.answers
  where
    apart : (named : Bool) (look : ManifestLook) → found_if named path (found_by tree.count_before tree.count_after path look) ≡ Err error → error ≡ ConfigRead Absent → ⊥
    apart false look found is = absurd (cc)
    apart true manifest_failed found is = absurd (cc)
    apart true no_manifest found is = absurd (cc)
    apart true manifest_there found is = absurd (cc)
    apart true unlooked found is = absurd (cc)

    by_answer : AnswersLook tree.count_before tree.count_after path looked.answer (Err error) → ⊥
    by_answer (inl wanting) = absurd (cc)
    by_answer (inr own) = apart (is_manifest path) (look_in looked.answer) own.1 e
