-- One more crate, behind those before.
use Rattle.std.proofs.Common.{◌≡◌, ◌∙◌, refl, sym, ap, ap₂, subst, ℕ, ◌≤◌, List, [], ◌∷◌, ◌++◌, length, map, take, append_assoc, append-nil, arith}
use Rattle.std.specs.List.{All}
use Rattle.std.proofs.lemmas.List.{map-append, map_push, take_all}
use Rattle.std.proofs.lemmas.List.Elements.{All-push, All-weaker}
use Rattle.spdx_core.specs.declared.certificates.verdict.Hit.{Hit}
use Rattle.spdx_core.specs.declared.certificates.verdict.Verdict.{Verdict}
use Rattle.diag_core.specs.declared.overrides.ErrorSink.{ErrorSink}
use Rattle.diag_core.specs.Overrides.{pack_overridden}
use Rattle.diag_core.specs.Pack.{PackOf}
use Rattle.gather_core.specs.declared.summary.KrateLicense.{KrateLicense}
use Rattle.policy_core.specs.declared.valid.policy.ValidConfig.{ValidConfig}
use Rattle.policy_core.specs.valid.Policy.{Policy}
use Rattle.policy_core.specs.valid.View.{policy_of}
use Rattle.check_core.specs.unused.Flags.{Flags, flags_by}
use Rattle.check_core.specs.Check.{AreVerdicts, HasFront, all_hits, sink_with_packs, packs_of}
use Rattle.check_core.specs.declared.report.CrateReport.{CrateReport}
use Rattle.check_core.specs.Reports.{report_of, reports_of, verdicts_of}
use Rattle.check_core.specs.Summary.{gathered_of_license, gathered_of_licenses}
use Rattle.check_core.specs.Turns.{GatheredCrate, expression_of, hits_by, pack_by}
use Rattle.check_core.specs.Verdicts.{IsVerdict, is_skipped}
use Rattle.check_core.proofs.FrontLemmas.{first_ones}

-- a number that is no less than the size of each, and of one more
pub most_more : {X : Type 0} (size : X → ℕ) (xs : List X) (x : X) (before after : ℕ) → before ≤ after → size x ≤ after → All (λ (one : X). size one ≤ before) xs
    → All (λ (one : X). size one ≤ after) (xs ++ x ∷ [])
most_more {X} size xs x before after grows here each =
    All-push (λ (one : X). size one ≤ after) xs x (All-weaker (λ (one : X). size one ≤ before) (λ (one : X). size one ≤ after) (λ one below. omega (arith, below, grows)) xs each) here

-- ---- verdicts, packs and hits

verdicts_push : (policy : Policy) (asked : List GatheredCrate) (verdicts : List Verdict) (one : GatheredCrate) (verdict : Verdict) → AreVerdicts policy asked verdicts
    → IsVerdict policy one.krate one.exceptions (expression_of one.info) verdict → AreVerdicts policy (asked ++ one ∷ []) (verdicts ++ verdict ∷ [])
verdicts_push policy [] [] one verdict are is = (is, tt)
verdicts_push policy [] (first ∷ verdicts) one verdict are is = absurd are
verdicts_push policy (here ∷ asked) [] one verdict are is = absurd are
verdicts_push policy (here ∷ asked) (first ∷ verdicts) one verdict are is = (are.0, verdicts_push policy asked verdicts one verdict are.1 is)

packs_push : (policy : Policy) (asked : List GatheredCrate) (verdicts : List Verdict) (one : GatheredCrate) (verdict : Verdict) → AreVerdicts policy asked verdicts
    → packs_of policy (asked ++ one ∷ []) (verdicts ++ verdict ∷ []) ≡ packs_of policy asked verdicts ++ pack_by (is_skipped verdict) policy one ∷ []
packs_push policy [] [] one verdict are = refl
packs_push policy [] (first ∷ verdicts) one verdict are = absurd are
packs_push policy (here ∷ asked) [] one verdict are = absurd are
packs_push policy (here ∷ asked) (first ∷ verdicts) one verdict are =
    ap (λ (packs : List PackOf). pack_by (is_skipped first) policy here ∷ packs) (packs_push policy asked verdicts one verdict are.1)

hits_push : (policy : Policy) (asked : List GatheredCrate) (verdicts : List Verdict) (one : GatheredCrate) (verdict : Verdict) → AreVerdicts policy asked verdicts
    → all_hits policy (asked ++ one ∷ []) (verdicts ++ verdict ∷ []) ≡ all_hits policy asked verdicts ++ hits_by (is_skipped verdict) policy one
hits_push policy [] [] one verdict are = append-nil (hits_by (is_skipped verdict) policy one)
hits_push policy [] (first ∷ verdicts) one verdict are = absurd are
hits_push policy (here ∷ asked) [] one verdict are = absurd are
hits_push policy (here ∷ asked) (first ∷ verdicts) one verdict are =
    let front = hits_by (is_skipped first) policy here in
    ap (λ (hits : List Hit). front ++ hits) (hits_push policy asked verdicts one verdict are.1)
    ∙ sym (append_assoc front (all_hits policy asked verdicts) (hits_by (is_skipped verdict) policy one))

reports_push : (policy : Policy) (licenses : List KrateLicense) (verdicts : List Verdict) (license : KrateLicense) (verdict : Verdict) → AreVerdicts policy (gathered_of_licenses licenses) verdicts
    → reports_of (licenses ++ license ∷ []) (verdicts ++ verdict ∷ []) ≡ reports_of licenses verdicts ++ report_of license verdict ∷ []
reports_push policy [] [] license verdict are = refl
reports_push policy [] (first ∷ verdicts) license verdict are = absurd are
reports_push policy (here ∷ licenses) [] license verdict are = absurd are
reports_push policy (here ∷ licenses) (first ∷ verdicts) license verdict are =
    ap (λ (reports : List CrateReport). report_of here first ∷ reports) (reports_push policy licenses verdicts license verdict are.1)

-- ---- the sink

abbrev with_pack : ErrorSink → PackOf → ErrorSink
with_pack sink pack = record sink { packs = sink.packs ++ pack_overridden sink.overrides pack ∷ [] }

gained_push : (sink : ErrorSink) (packs : List PackOf) (pack : PackOf) → with_pack (sink_with_packs sink packs) pack ≡ sink_with_packs sink (packs ++ pack ∷ [])
gained_push sink packs pack =
    let over = pack_overridden sink.overrides in
    ap (λ (all : List PackOf). record sink { packs = all })
    (append_assoc sink.packs (map over packs) (over pack ∷ []) ∙ ap (λ (more : List PackOf). sink.packs ++ more) (sym (map_push over packs pack)))

-- one more pack, where the sink has gained some
pub more_gained : (old new last : ErrorSink) (packs : List PackOf) (pack : PackOf) → new ≡ sink_with_packs old packs
    → last ≡ record new { packs = new.packs ++ pack_overridden new.overrides pack ∷ [] } → last ≡ sink_with_packs old (packs ++ pack ∷ [])
more_gained old new last packs pack before pushed = pushed ∙ ap (λ (sink : ErrorSink). with_pack sink pack) before ∙ gained_push old packs pack

pub nothing_gained : (sink : ErrorSink) → sink ≡ sink_with_packs sink []
nothing_gained sink = ap (λ (all : List PackOf). record sink { packs = all }) (sym (append-nil sink.packs))

-- ---- so far

-- what was checked so far: the reports, which entries were hits, and what the sink has gained
pub record SoFar (policy : ValidConfig) (licenses : List KrateLicense) (reports : List CrateReport) (flags : Flags) (old new : ErrorSink) : Type 0 where
  pub are : AreVerdicts (policy_of policy) (gathered_of_licenses licenses) (verdicts_of reports)
  pub reported : reports ≡ reports_of licenses (verdicts_of reports)
  pub hit : flags ≡ flags_by policy (all_hits (policy_of policy) (gathered_of_licenses licenses) (verdicts_of reports))
  pub told : new ≡ sink_with_packs old (packs_of (policy_of policy) (gathered_of_licenses licenses) (verdicts_of reports))

pub one_more : (policy : ValidConfig) (licenses : List KrateLicense) (reports : List CrateReport) (flags : Flags) (old new : ErrorSink) (license : KrateLicense) (report : CrateReport) (pack : PackOf)
    (later : Flags) (last : ErrorSink) → SoFar policy licenses reports flags old new
    → IsVerdict (policy_of policy) (gathered_of_license license).krate license.exceptions (expression_of license.lic_info) report.verdict → report ≡ report_of license report.verdict
    → pack ≡ pack_by (is_skipped report.verdict) (policy_of policy) (gathered_of_license license)
    → ((before : List Hit) → flags ≡ flags_by policy before → later ≡ flags_by policy (before ++ hits_by (is_skipped report.verdict) (policy_of policy) (gathered_of_license license)))
    → last ≡ record new { packs = new.packs ++ pack_overridden new.overrides pack ∷ [] } → SoFar policy (licenses ++ license ∷ []) (reports ++ report ∷ []) later old last
one_more policy licenses reports flags old new license report pack later last so_far is report_is pack_is hits pushed =
    let valid = policy_of policy in
    let asked = gathered_of_licenses licenses in
    let one = gathered_of_license license in
    let verdicts = verdicts_of reports in
    let asked_next : gathered_of_licenses (licenses ++ license ∷ []) ≡ asked ++ one ∷ [] = map_push gathered_of_license licenses license in
    let verdicts_next : verdicts_of (reports ++ report ∷ []) ≡ verdicts ++ report.verdict ∷ [] = map_push (λ (here : CrateReport). here.verdict) reports report in
    record {
      are =
          subst (λ (some : List GatheredCrate). AreVerdicts valid some (verdicts_of (reports ++ report ∷ []))) (sym asked_next)
          (subst (λ (some : List Verdict). AreVerdicts valid (asked ++ one ∷ []) some) (sym verdicts_next) (verdicts_push valid asked verdicts one report.verdict so_far.are is));
      reported =
          ap₂ (λ (front : List CrateReport) (here : CrateReport). front ++ here ∷ []) so_far.reported report_is
          ∙ sym (reports_push valid licenses verdicts license report.verdict so_far.are)
          ∙ ap (reports_of (licenses ++ license ∷ [])) (sym verdicts_next);
      hit =
          hits (all_hits valid asked verdicts) so_far.hit
          ∙ ap (flags_by policy) (sym (hits_push valid asked verdicts one report.verdict so_far.are) ∙ sym (ap₂ (all_hits valid) asked_next verdicts_next));
      told =
          more_gained old new last (packs_of valid asked verdicts) pack so_far.told pushed
          ∙ ap (sink_with_packs old)
          (ap (λ (here : PackOf). packs_of valid asked verdicts ++ here ∷ []) pack_is ∙ sym (packs_push valid asked verdicts one report.verdict so_far.are)
          ∙ sym (ap₂ (packs_of valid) asked_next verdicts_next));
    }

-- ---- the crates so far are some first ones

pub has_front : (policy : ValidConfig) (licenses front rest : List KrateLicense) (reports : List CrateReport) (flags : Flags) (old new : ErrorSink) → front ++ rest ≡ licenses
    → SoFar policy front reports flags old new → HasFront (policy_of policy) licenses old new
has_front policy licenses front rest reports flags old new whole so_far =
    let first : take (length front) licenses ≡ front = ap (take (length front)) (sym whole) ∙ first_ones front rest in
    record {
      count = length front;
      verdicts = verdicts_of reports;
      are = subst (λ (some : List KrateLicense). AreVerdicts (policy_of policy) (gathered_of_licenses some) (verdicts_of reports)) (sym first) so_far.are;
      front = subst (λ (some : List KrateLicense). new ≡ sink_with_packs old (packs_of (policy_of policy) (gathered_of_licenses some) (verdicts_of reports))) (sym first) so_far.told;
    }

-- of no crate
pub no_front : (policy : Policy) (licenses : List KrateLicense) (sink : ErrorSink) → HasFront policy licenses sink sink
no_front policy licenses sink = record { count = 0; verdicts = []; are = tt; front = nothing_gained sink }

-- of all crates
pub whole_front : (policy : Policy) (licenses : List KrateLicense) (verdicts : List Verdict) (old new : ErrorSink) → AreVerdicts policy (gathered_of_licenses licenses) verdicts
    → new ≡ sink_with_packs old (packs_of policy (gathered_of_licenses licenses) verdicts) → HasFront policy licenses old new
whole_front policy licenses verdicts old new are front =
    let all : take (length licenses) licenses ≡ licenses = take_all (length licenses) licenses (omega arith) in
    record {
      count = length licenses;
      verdicts = verdicts;
      are = subst (λ (some : List KrateLicense). AreVerdicts policy (gathered_of_licenses some) verdicts) (sym all) are;
      front = subst (λ (some : List KrateLicense). new ≡ sink_with_packs old (packs_of policy (gathered_of_licenses some) verdicts)) (sym all) front;
    }

-- some packs, and then others
pub gained_then : (old new last : ErrorSink) (packs more : List PackOf) → new ≡ sink_with_packs old packs → last ≡ sink_with_packs new more → last ≡ sink_with_packs old (packs ++ more)
gained_then old new last packs more before after =
    let over = pack_overridden old.overrides in
    after ∙ ap (λ (sink : ErrorSink). sink_with_packs sink more) before
    ∙ ap (λ (all : List PackOf). record old { packs = all })
    (append_assoc old.packs (map over packs) (map over more) ∙ ap (λ (all : List PackOf). old.packs ++ all) (sym (map-append over packs more)))
