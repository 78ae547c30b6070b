-- The last pack tells just what is unused, at places of the policy's files.
use Rattle.std.proofs.Common.{◌≡◌, ◌∙◌, refl, sym, ap, subst, ℕ, suc, Bool, true, false, inl, inr, cond, List, [], ◌∷◌, ◌++◌, map, Option, Some, None}
use Rattle.std.specs.List.{AllByRecursion, filter}
use Rattle.std.specs.Option.{option_map_or}
use Rattle.std.proofs.lemmas.Bool.{eq-eqb, eqb-true, eqb-false, both_ways}
use Rattle.std.proofs.lemmas.List.Folds.{Any-from_list_any, list_any-from_Any}
use Rattle.spdx_core.specs.declared.certificates.verdict.Hit.{Hit}
use Rattle.spdx_core.specs.declared.certificates.verdict.Hit.TheVariants.{Allowed, Exception}
use Rattle.diag_core.specs.declared.pack.Diag.{Diag}
use Rattle.diag_core.specs.declared.severity.Severity.{Severity}
use Rattle.diag_core.specs.declared.severity.Severity.TheVariants.{Warning, Error}
use Rattle.diag_core.specs.File.{File}
use Rattle.gather_core.specs.findings.License.{PlaceLies}
use Rattle.policy_parts.specs.declared.entries.licensee.Licensee.{Licensee}
use Rattle.policy_parts.specs.declared.names.LintLevel.{LintLevel}
use Rattle.policy_parts.specs.declared.names.LintLevel.TheVariants.{Allow, Warn, Deny}
use Rattle.policy_parts.specs.Names.{severity_of_lint}
use Rattle.policy_core.specs.declared.valid.policy.ValidConfig.{ValidConfig}
use Rattle.policy_core.specs.declared.valid.policy.ValidException.{ValidException}
use Rattle.check_core.specs.unused.Laws.{EntriesLie, ExceptionIsHit, ExceptionIsTold, EntryLabelsLie, LicenseIsHit, LicenseIsTold, Tell, TellUnused}
use Rattle.check_core.specs.unused.Unused.{allows, excepts, exception_findings, is_exception_hit, is_license_hit, is_own, license_findings, severity_asked, items_without_hit, unused_exception, unused_findings, unused_license}

-- ---- hits by their tests

allowed_is : (place : ℕ) (hit : Hit) → allows place hit ≡ true → hit ≡ Allowed place
allowed_is place (Allowed entry) passes = ap Allowed (eqb-true entry place passes)
allowed_is place (Exception exception entry) passes = absurd (both_ways false refl passes)

excepted_is : (place : ℕ) (hit : Hit) → excepts place hit ≡ true → (entry : ℕ) × (hit ≡ Exception place entry)
excepted_is place (Allowed entry) passes = absurd (both_ways false refl passes)
excepted_is place (Exception exception entry) passes = (entry, ap (λ (e : ℕ). Exception e entry) (eqb-true exception place passes))

license_hit : (hits : List Hit) (place : ℕ) → is_license_hit hits place ≡ true → LicenseIsHit hits place
license_hit hits place some =
    let found = Any-from_list_any (allows place) hits some in
    (found.0, found.1, found.2, found.3, allowed_is place found.1 found.4)

license_not_hit : (hits : List Hit) (place : ℕ) → is_license_hit hits place ≡ false → LicenseIsHit hits place → ⊥
license_not_hit hits place none found =
    both_ways (is_license_hit hits place) none
    (list_any-from_Any (allows place) hits (found.0, found.1, found.2, found.3, ap (allows place) found.4 ∙ eq-eqb place place refl))

exception_hit : (hits : List Hit) (place : ℕ) → is_exception_hit hits place ≡ true → ExceptionIsHit hits place
exception_hit hits place some =
    let found = Any-from_list_any (excepts place) hits some in
    (found.0, found.1, found.2, found.3, excepted_is place found.1 found.4)

exception_not_hit : (hits : List Hit) (place : ℕ) → is_exception_hit hits place ≡ false → ExceptionIsHit hits place → ⊥
exception_not_hit hits place none found =
    both_ways (is_exception_hit hits place) none
    (list_any-from_Any (excepts place) hits (found.0, found.1, found.2, found.3, ap (excepts place) found.4.1 ∙ eq-eqb place place refl))

-- ---- items that are reported

tell_none : {A : Type 0} (is_told : ℕ → A → Type 0) (told : A → Diag) → ((place : ℕ) (x : A) → is_told place x → ⊥) → (place : ℕ) (items : List A) → Tell is_told told place items []
tell_none is_told told none place [] = refl
tell_none is_told told none place (x ∷ items) = inr (none place x, tell_none is_told told none (suc place) items)

module _ {A : Type 0} (is_told : ℕ → A → Type 0) (told : A → Diag) (is_hit : ℕ → Bool) (own : A → Bool)
    (asked : (place : ℕ) (x : A) → is_hit place ≡ false → own x ≡ true → is_told place x)
    (hit : (place : ℕ) (x : A) → is_hit place ≡ true → is_told place x → ⊥)
    (other : (place : ℕ) (x : A) → own x ≡ false → is_told place x → ⊥) where
  told_by : (place : ℕ) (x : A) (items rest : List A) → Tell is_told told (suc place) items (map told (filter own rest)) → is_hit place ≡ false
      → (o : Bool) → own x ≡ o → Tell is_told told place (x ∷ items) (map told (cond o (x ∷ filter own rest) (filter own rest)))
  told_by place x items rest more free true is_own = inl (asked place x free is_own, (map told (filter own rest), refl, more))
  told_by place x items rest more free false is_own = inr (other place x is_own, more)

  tell_by : (place : ℕ) (x : A) (items rest : List A) → Tell is_told told (suc place) items (map told (filter own rest))
      → (b : Bool) → is_hit place ≡ b → Tell is_told told place (x ∷ items) (map told (filter own (cond b [] (x ∷ []) ++ rest)))
  tell_by place x items rest more true is = inr (hit place x is, more)
  tell_by place x items rest more false is = told_by place x items rest more is (own x) refl

  tell_own : (place : ℕ) (items : List A) → Tell is_told told place items (map told (filter own (items_without_hit is_hit place items)))
  tell_own place [] = refl
  tell_own place (x ∷ items) = tell_by place x items (items_without_hit is_hit (suc place) items) (tell_own (suc place) items) (is_hit place) refl

all_own : {A : Type 0} (xs : List A) → filter (λ x. true) xs ≡ xs
all_own [] = refl
all_own (x ∷ xs) = ap (λ rest. x ∷ rest) (all_own xs)

-- ---- licensees

licenses_asked : (policy : ValidConfig) (hits : List Hit) (severity : Severity) → (policy.unused_allowed_license ≡ Allow → ⊥)
    → Tell (LicenseIsTold policy hits) (unused_license severity policy.file_id) 0 policy.allowed (map (unused_license severity policy.file_id) (items_without_hit (is_license_hit hits) 0 policy.allowed))
licenses_asked policy hits severity asked =
    subst (λ (l : List Licensee). Tell (LicenseIsTold policy hits) (unused_license severity policy.file_id) 0 policy.allowed (map (unused_license severity policy.file_id) l))
    (all_own (items_without_hit (is_license_hit hits) 0 policy.allowed))
    (tell_own (LicenseIsTold policy hits) (unused_license severity policy.file_id) (is_license_hit hits) (λ licensee. true)
    (λ place x free own. record { asked = asked; no_hit = license_not_hit hits place free })
    (λ place x is told. told.no_hit (license_hit hits place is))
    (λ place x apart told. absurd (both_ways true apart refl)) 0 policy.allowed)

licenses_told : (policy : ValidConfig) (hits : List Hit) (level : LintLevel) → policy.unused_allowed_license ≡ level
    → Tell (LicenseIsTold policy hits) (unused_license (severity_of_lint level) policy.file_id) 0 policy.allowed
    (option_map_or (λ severity. map (unused_license severity policy.file_id) (items_without_hit (is_license_hit hits) 0 policy.allowed)) (severity_asked level) [])
licenses_told policy hits Allow is = tell_none (LicenseIsTold policy hits) (unused_license (severity_of_lint Allow) policy.file_id) (λ place x told. told.asked is) 0 policy.allowed
licenses_told policy hits Warn is = licenses_asked policy hits Warning (λ allow. let same : Warn ≡ Allow = sym is ∙ allow in cc)
licenses_told policy hits Deny is = licenses_asked policy hits Error (λ allow. let same : Deny ≡ Allow = sym is ∙ allow in cc)

-- ---- exceptions

exceptions_asked : (policy : ValidConfig) (hits : List Hit) (severity : Severity) → (policy.unused_license_exception ≡ Allow → ⊥)
    → Tell (ExceptionIsTold policy hits) (unused_exception severity) 0 policy.exceptions
    (map (unused_exception severity) (filter (is_own policy.file_id) (items_without_hit (is_exception_hit hits) 0 policy.exceptions)))
exceptions_asked policy hits severity asked =
    tell_own (ExceptionIsTold policy hits) (unused_exception severity) (is_exception_hit hits) (is_own policy.file_id)
    (λ place x free own. (record { asked = asked; no_hit = exception_not_hit hits place free }, eqb-true x.file_id policy.file_id own))
    (λ place x is told. told.0.no_hit (exception_hit hits place is))
    (λ place x apart told. eqb-false x.file_id policy.file_id apart told.1) 0 policy.exceptions

exceptions_told : (policy : ValidConfig) (hits : List Hit) (level : LintLevel) → policy.unused_license_exception ≡ level
    → Tell (ExceptionIsTold policy hits) (unused_exception (severity_of_lint level)) 0 policy.exceptions
    (option_map_or (λ severity. map (unused_exception severity) (filter (is_own policy.file_id) (items_without_hit (is_exception_hit hits) 0 policy.exceptions))) (severity_asked level) [])
exceptions_told policy hits Allow is = tell_none (ExceptionIsTold policy hits) (unused_exception (severity_of_lint Allow)) (λ place x told. told.0.asked is) 0 policy.exceptions
exceptions_told policy hits Warn is = exceptions_asked policy hits Warning (λ allow. let same : Warn ≡ Allow = sym is ∙ allow in cc)
exceptions_told policy hits Deny is = exceptions_asked policy hits Error (λ allow. let same : Deny ≡ Allow = sym is ∙ allow in cc)

pub tells_the_unused : (policy : ValidConfig) (hits : List Hit) → TellUnused policy hits (unused_findings policy hits)
tells_the_unused policy hits = record {
  licenses = license_findings policy (is_license_hit hits);
  exceptions = exception_findings policy (is_exception_hit hits);
  all = refl;
  of_licenses = licenses_told policy hits policy.unused_allowed_license refl;
  of_exceptions = exceptions_told policy hits policy.unused_license_exception refl;
}

-- ---- where labels lie

both_parts : {A : Type 0} (P : A → Type 0) (xs ys : List A) → AllByRecursion P xs → AllByRecursion P ys → AllByRecursion P (xs ++ ys)
both_parts P [] ys some more = more
both_parts P (x ∷ xs) ys some more = (some.0, both_parts P xs ys some.1 more)

unhit_lie : {A : Type 0} (P : A → Type 0) (is_hit : ℕ → Bool) (place : ℕ) (items : List A) → AllByRecursion P items → AllByRecursion P (items_without_hit is_hit place items)
unhit_lie P is_hit place [] all = tt
unhit_lie P is_hit place (x ∷ items) all =
    both_parts P (cond (is_hit place) [] (x ∷ [])) (items_without_hit is_hit (suc place) items)
    (elim (is_hit place) as (λ b. AllByRecursion P (cond b [] (x ∷ []))) [ true ↦ tt | false ↦ (all.0, tt) ]) (unhit_lie P is_hit (suc place) items all.1)

filter_lie : {A : Type 0} (P : A → Type 0) (own : A → Bool) (items : List A) → AllByRecursion P items → AllByRecursion P (filter own items)
filter_lie P own [] all = tt
filter_lie P own (x ∷ items) all =
    elim (own x) as (λ b. AllByRecursion P (cond b (x ∷ filter own items) (filter own items))) [
      | true ↦ (all.0, filter_lie P own items all.1)
      | false ↦ filter_lie P own items all.1
    ]

told_lie : {A : Type 0} (P : A → Type 0) (Q : Diag → Type 0) (told : A → Diag) → ((x : A) → P x → Q (told x)) → (items : List A) → AllByRecursion P items → AllByRecursion Q (map told items)
told_lie P Q told each [] all = tt
told_lie P Q told each (x ∷ items) all = (each x all.0, told_lie P Q told each items all.1)

asked_lie : (Q : Diag → Type 0) (told : Severity → List Diag) → ((severity : Severity) → AllByRecursion Q (told severity)) → (asked : Option Severity) → AllByRecursion Q (option_map_or told asked [])
asked_lie Q told each None = tt
asked_lie Q told each (Some severity) = each severity

pub labels_lie : (files : List File) (policy : ValidConfig) (hits : List Hit) → EntriesLie files policy → AllByRecursion (EntryLabelsLie files) (unused_findings policy hits)
labels_lie files policy hits lie =
    let LicenseLies : Licensee → Type 0 = λ licensee. PlaceLies files policy.file_id licensee.0.span in
    let ExceptionLies : ValidException → Type 0 = λ exception. PlaceLies files exception.file_id exception.spec.span in
    both_parts (EntryLabelsLie files) (license_findings policy (is_license_hit hits)) (exception_findings policy (is_exception_hit hits))
    (asked_lie (EntryLabelsLie files) (λ severity. map (unused_license severity policy.file_id) (items_without_hit (is_license_hit hits) 0 policy.allowed))
    (λ severity. told_lie LicenseLies (EntryLabelsLie files) (unused_license severity policy.file_id) (λ x lies. (lies, tt)) (items_without_hit (is_license_hit hits) 0 policy.allowed)
    (unhit_lie LicenseLies (is_license_hit hits) 0 policy.allowed lie.allowed)) (severity_asked policy.unused_allowed_license))
    (asked_lie (EntryLabelsLie files) (λ severity. map (unused_exception severity) (filter (is_own policy.file_id) (items_without_hit (is_exception_hit hits) 0 policy.exceptions)))
    (λ severity. told_lie ExceptionLies (EntryLabelsLie files) (unused_exception severity) (λ x lies. (lies, tt)) (filter (is_own policy.file_id) (items_without_hit (is_exception_hit hits) 0 policy.exceptions))
    (filter_lie ExceptionLies (is_own policy.file_id) (items_without_hit (is_exception_hit hits) 0 policy.exceptions) (unhit_lie ExceptionLies (is_exception_hit hits) 0 policy.exceptions lie.exceptions)))
    (severity_asked policy.unused_license_exception))
