-- Each key is read as if it were the first, and so are the faults at the end.
use Rattle.std.proofs.Common.{◌≡◌, Bool, true, false, List, [], ◌∷◌, Option, refl, ap, subst, ◌∙◌, rules}
use Rattle.std.proofs.lemmas.Int.{to_z-of_z}
use mir.Syntax.{w32}
use mir.Val.{SFits}
use Rattle.std.specs.Prelude.{ℤ, pos, codes, unwrap_or}
use Rattle.deny_text.specs.declared.span.Span.{Span}
use Rattle.toml_subset.specs.Data.{Entries}
use Rattle.toml_subset.specs.shapes.Shaped.{AnswersShape, shaped_of}
use Rattle.toml_subset.specs.shapes.Shapes.{ShapeFault}
use Rattle.policy_toml.specs.HelperState.{HelperState, state_of}
use Rattle.policy_toml.specs.Readings.{boolean_of, hundredths_of, i32_of, list_of}
use Rattle.policy_toml.specs.declared.hundredths.Hundredths.{Hundredths}
use Rattle.policy_toml.specs.rows.Rows.{key, passed_key, key_span, table_faults}
use Rattle.policy_toml.proofs.rows.RowLemmas.{after_row, begun, field, finished, passed_row, passed_span}
use Rattle.policy_parts.specs.Names.{lint_of}
use Rattle.policy_parts.specs.Tables.{private_of}
use Rattle.policy_parts.specs.declared.names.LintLevel.{LintLevel}
use Rattle.policy_parts.specs.declared.names.LintLevel.TheVariants.{Warn}
use Rattle.policy_parts.specs.declared.private.Private.{Private}
use Rattle.policy_parts.specs.entries.Clarifications.{clarification_of}
use Rattle.policy_parts.specs.entries.Exceptions.{exceptions_of}
use Rattle.policy_parts.specs.entries.Licensees.{licensees_of}
use Rattle.policy_parts.specs.declared.entries.clarification.Clarification.{Clarification}
use Rattle.policy_parts.specs.declared.entries.exception.Exception.{Exception}
use Rattle.policy_parts.specs.declared.entries.licensee.Licensee.{Licensee}
use Rattle.policy_core.specs.config.Config.{config_rows, no_private, usual_threshold}
use Rattle.policy_core.specs.config.Places.{places_there}
use Rattle.policy_core.specs.declared.config.config.Config.{Config}
use Rattle.policy_core.proofs.config.config.ConfigFromKeys.read_keys.Goals as goal

abbrev made : ℤ → Private → Hundredths → List Licensee → LintLevel → List Clarification → List Exception → LintLevel → Bool → Bool → List Span → Config
made n p t l u c e v d b s = record {
  version = n;
  private = p;
  confidence_threshold = t;
  allow = l;
  unused_allowed_license = u;
  clarify = c;
  exceptions = e;
  unused_license_exception = v;
  include_dev = d;
  include_build = b;
  deprecated_spans = s;
}

same : {n n' : ℤ} {p p' : Private} {t t' : Hundredths} {l l' : List Licensee} {u u' : LintLevel} {c c' : List Clarification} {e e' : List Exception} {v v' : LintLevel} {d d' : Bool} {b b' : Bool} {s s' : List Span}
    → n ≡ n' → p ≡ p' → t ≡ t' → l ≡ l' → u ≡ u' → c ≡ c' → e ≡ e' → v ≡ v' → d ≡ d' → b ≡ b' → s ≡ s'
    → made n p t l u c e v d b s ≡ made n' p' t' l' u' c' e' v' d' b' s'
same {n} {n'} {p} {p'} {t} {t'} {l} {l'} {u} {u'} {c} {c'} {e} {e'} {v} {v'} {d} {d'} {b} {b'} {s} {s'} e0 e1 e2 e3 e4 e5 e6 e7 e8 e9 e10 =
    ap (λ x. made x p t l u c e v d b s) e0
    ∙ ap (λ x. made n' x t l u c e v d b s) e1
    ∙ ap (λ x. made n' p' x l u c e v d b s) e2
    ∙ ap (λ x. made n' p' t' x u c e v d b s) e3
    ∙ ap (λ x. made n' p' t' l' x c e v d b s) e4
    ∙ ap (λ x. made n' p' t' l' u' x e v d b s) e5
    ∙ ap (λ x. made n' p' t' l' u' c' x v d b s) e6
    ∙ ap (λ x. made n' p' t' l' u' c' e' x d b s) e7
    ∙ ap (λ x. made n' p' t' l' u' c' e' v' x b s) e8
    ∙ ap (λ x. made n' p' t' l' u' c' e' v' d' x s) e9
    ∙ ap (λ x. made n' p' t' l' u' c' e' v' d' b' x) e10

-- a value that may be left out
value_is : {A : Type 0} {x : A} (d : A) {o p : Option A} → x ≡ unwrap_or o d → o ≡ p → x ≡ unwrap_or p d
value_is d is moved = is ∙ ap (λ o. unwrap_or o d) moved

abbrev left : HelperState → Entries
left state = state.left

pub returns : goal.returns
returns g c =
    let lists = g.C.Catalog.lists c.args.catalog.now in
    let state = state_of c.args.table in
    let k0 : state ≡ begun [] state.left state.span = ap (λ (faults : List ShapeFault). record { left = state.left; span = state.span; faults = faults }) c.requires in
    let f1 = field (codes "version") i32_of [] state.left state c.in_ok-version.version refl (ap left k0) c.in_ok-version.ensures.read in
    let k1 = c.in_ok-version.ensures.after ∙ ap (after_row (key (codes "version") i32_of)) k0 in
    let f2 = field (codes "private") private_of (codes "version" ∷ []) state.left (state_of c.optional.new.self) c.in_ok-private.private refl (ap left k1) c.in_ok-private.ensures.read in
    let k2 = c.in_ok-private.ensures.after ∙ ap (after_row (key (codes "private") private_of)) k1 in
    let f3 = c.take_removed-unlicensed.ensures.place ∙ passed_span (codes "unlicensed") (codes "version" ∷ codes "private" ∷ []) state.left (state_of c.optional-2.new.self) refl (ap left k2) in
    let k3 = c.take_removed-unlicensed.ensures.after ∙ passed_row (codes "unlicensed") (state_of c.optional-2.new.self) ∙ ap (after_row (passed_key (codes "unlicensed"))) k2 in
    let f4 = c.take_removed-agreement.ensures.place ∙ passed_span (codes "allow-osi-fsf-free") (codes "version" ∷ codes "private" ∷ codes "unlicensed" ∷ []) state.left (state_of c.take_removed-unlicensed.new.table) refl (ap left k3) in
    let k4 = c.take_removed-agreement.ensures.after ∙ passed_row (codes "allow-osi-fsf-free") (state_of c.take_removed-unlicensed.new.table) ∙ ap (after_row (passed_key (codes "allow-osi-fsf-free"))) k3 in
    let f5 = c.take_removed-copyleft.ensures.place ∙ passed_span (codes "copyleft") (codes "version" ∷ codes "private" ∷ codes "unlicensed" ∷ codes "allow-osi-fsf-free" ∷ []) state.left (state_of c.take_removed-agreement.new.table) refl (ap left k4) in
    let k5 = c.take_removed-copyleft.ensures.after ∙ passed_row (codes "copyleft") (state_of c.take_removed-agreement.new.table) ∙ ap (after_row (passed_key (codes "copyleft"))) k4 in
    let f6 = c.take_removed-default.ensures.place ∙ passed_span (codes "default") (codes "version" ∷ codes "private" ∷ codes "unlicensed" ∷ codes "allow-osi-fsf-free" ∷ codes "copyleft" ∷ []) state.left (state_of c.take_removed-copyleft.new.table) refl (ap left k5) in
    let k6 = c.take_removed-default.ensures.after ∙ passed_row (codes "default") (state_of c.take_removed-copyleft.new.table) ∙ ap (after_row (passed_key (codes "default"))) k5 in
    let f7 = field (codes "confidence-threshold") hundredths_of (codes "version" ∷ codes "private" ∷ codes "unlicensed" ∷ codes "allow-osi-fsf-free" ∷ codes "copyleft" ∷ codes "default" ∷ []) state.left (state_of c.take_removed-default.new.table) c.in_ok-threshold.threshold refl (ap left k6) c.in_ok-threshold.ensures.read in
    let k7 = c.in_ok-threshold.ensures.after ∙ ap (after_row (key (codes "confidence-threshold") hundredths_of)) k6 in
    let f8 = c.take_removed-deny.ensures.place ∙ passed_span (codes "deny") (codes "version" ∷ codes "private" ∷ codes "unlicensed" ∷ codes "allow-osi-fsf-free" ∷ codes "copyleft" ∷ codes "default" ∷ codes "confidence-threshold" ∷ []) state.left (state_of c.optional-3.new.self) refl (ap left k7) in
    let k8 = c.take_removed-deny.ensures.after ∙ passed_row (codes "deny") (state_of c.optional-3.new.self) ∙ ap (after_row (passed_key (codes "deny"))) k7 in
    let f9 = field (codes "allow") (licensees_of lists) (codes "version" ∷ codes "private" ∷ codes "unlicensed" ∷ codes "allow-osi-fsf-free" ∷ codes "copyleft" ∷ codes "default" ∷ codes "confidence-threshold" ∷ codes "deny" ∷ []) state.left (state_of c.take_removed-deny.new.table) c.in_ok-allow.allow refl (ap left k8) c.in_ok-allow.ensures.read in
    let k9 = c.in_ok-allow.ensures.after ∙ ap (after_row (key (codes "allow") (licensees_of lists))) k8 in
    let f10 = field (codes "unused-allowed-license") lint_of (codes "version" ∷ codes "private" ∷ codes "unlicensed" ∷ codes "allow-osi-fsf-free" ∷ codes "copyleft" ∷ codes "default" ∷ codes "confidence-threshold" ∷ codes "deny" ∷ codes "allow" ∷ []) state.left (state_of c.optional-4.new.self) c.in_ok-unused_allowed.unused_allowed refl (ap left k9) c.in_ok-unused_allowed.ensures.read in
    let k10 = c.in_ok-unused_allowed.ensures.after ∙ ap (after_row (key (codes "unused-allowed-license") lint_of)) k9 in
    let f11 = field (codes "clarify") (list_of clarification_of) (codes "version" ∷ codes "private" ∷ codes "unlicensed" ∷ codes "allow-osi-fsf-free" ∷ codes "copyleft" ∷ codes "default" ∷ codes "confidence-threshold" ∷ codes "deny" ∷ codes "allow" ∷ codes "unused-allowed-license" ∷ []) state.left (state_of c.optional-5.new.self) c.in_ok-clarify.clarify refl (ap left k10) c.in_ok-clarify.ensures.read in
    let k11 = c.in_ok-clarify.ensures.after ∙ ap (after_row (key (codes "clarify") (list_of clarification_of))) k10 in
    let f12 = field (codes "exceptions") (exceptions_of lists) (codes "version" ∷ codes "private" ∷ codes "unlicensed" ∷ codes "allow-osi-fsf-free" ∷ codes "copyleft" ∷ codes "default" ∷ codes "confidence-threshold" ∷ codes "deny" ∷ codes "allow" ∷ codes "unused-allowed-license" ∷ codes "clarify" ∷ []) state.left (state_of c.optional-6.new.self) c.in_ok-exceptions.exceptions refl (ap left k11) c.in_ok-exceptions.ensures.read in
    let k12 = c.in_ok-exceptions.ensures.after ∙ ap (after_row (key (codes "exceptions") (exceptions_of lists))) k11 in
    let f13 = field (codes "unused-license-exception") lint_of (codes "version" ∷ codes "private" ∷ codes "unlicensed" ∷ codes "allow-osi-fsf-free" ∷ codes "copyleft" ∷ codes "default" ∷ codes "confidence-threshold" ∷ codes "deny" ∷ codes "allow" ∷ codes "unused-allowed-license" ∷ codes "clarify" ∷ codes "exceptions" ∷ []) state.left (state_of c.optional-7.new.self) c.in_ok-unused_exception.unused_exception refl (ap left k12) c.in_ok-unused_exception.ensures.read in
    let k13 = c.in_ok-unused_exception.ensures.after ∙ ap (after_row (key (codes "unused-license-exception") lint_of)) k12 in
    let f14 = field (codes "include-dev") boolean_of (codes "version" ∷ codes "private" ∷ codes "unlicensed" ∷ codes "allow-osi-fsf-free" ∷ codes "copyleft" ∷ codes "default" ∷ codes "confidence-threshold" ∷ codes "deny" ∷ codes "allow" ∷ codes "unused-allowed-license" ∷ codes "clarify" ∷ codes "exceptions" ∷ codes "unused-license-exception" ∷ []) state.left (state_of c.optional-8.new.self) c.in_ok-include_dev.include_dev refl (ap left k13) c.in_ok-include_dev.ensures.read in
    let k14 = c.in_ok-include_dev.ensures.after ∙ ap (after_row (key (codes "include-dev") boolean_of)) k13 in
    let f15 = field (codes "include-build") boolean_of (codes "version" ∷ codes "private" ∷ codes "unlicensed" ∷ codes "allow-osi-fsf-free" ∷ codes "copyleft" ∷ codes "default" ∷ codes "confidence-threshold" ∷ codes "deny" ∷ codes "allow" ∷ codes "unused-allowed-license" ∷ codes "clarify" ∷ codes "exceptions" ∷ codes "unused-license-exception" ∷ codes "include-dev" ∷ []) state.left (state_of c.optional-9.new.self) c.in_ok-include_build.include_build refl (ap left k14) c.in_ok-include_build.ensures.read in
    let k15 = c.in_ok-include_build.ensures.after ∙ ap (after_row (key (codes "include-build") boolean_of)) k14 in
    let spans = c.in_ok-deprecated_spans.ensures
    ∙ ap (λ x. places_there (x ∷ c.take_removed-agreement.result ∷ c.take_removed-copyleft.result ∷ c.take_removed-default.result ∷ c.take_removed-deny.result ∷ [])) f3
    ∙ ap (λ x. places_there (key_span (codes "unlicensed") state.left ∷ x ∷ c.take_removed-copyleft.result ∷ c.take_removed-default.result ∷ c.take_removed-deny.result ∷ [])) f4
    ∙ ap (λ x. places_there (key_span (codes "unlicensed") state.left ∷ key_span (codes "allow-osi-fsf-free") state.left ∷ x ∷ c.take_removed-default.result ∷ c.take_removed-deny.result ∷ [])) f5
    ∙ ap (λ x. places_there (key_span (codes "unlicensed") state.left ∷ key_span (codes "allow-osi-fsf-free") state.left ∷ key_span (codes "copyleft") state.left ∷ x ∷ c.take_removed-deny.result ∷ [])) f6
    ∙ ap (λ x. places_there (key_span (codes "unlicensed") state.left ∷ key_span (codes "allow-osi-fsf-free") state.left ∷ key_span (codes "copyleft") state.left ∷ key_span (codes "default") state.left ∷ x ∷ [])) f8
    in
    let fits : SFits w32 c.unwrap_or.result = search rules in
    let value = same (to_z-of_z w32 c.unwrap_or.result fits ∙ value_is (pos 1) c.unwrap_or.ensures f1) (value_is no_private c.or_no_private.ensures f2) (value_is usual_threshold c.unwrap_or-2.ensures f7)
    (value_is [] c.or_empty.ensures f9) (value_is Warn c.unwrap_or-3.ensures f10) (value_is [] c.or_empty-2.ensures f11) (value_is [] c.or_empty-3.ensures f12)
    (value_is Warn c.unwrap_or-4.ensures f13) (value_is false c.unwrap_or-5.ensures f14) (value_is true c.unwrap_or-6.ensures f15) spans in
    subst (λ r. AnswersShape r c.finish.result) (finished [] (config_rows lists) state.left state.span (state_of c.optional-10.new.self) _ refl k15
    ∙ ap (shaped_of (table_faults [] (config_rows lists) state.left state.span)) value) c.finish.ensures
