-- Each key is read as if it were the first, and the places are one after another.
use Rattle.std.proofs.Common.{[], ◌∷◌, ◌++◌, refl, ap, ◌∙◌}
use Rattle.std.specs.Prelude.{codes, option_to_list}
use Rattle.toml_subset.specs.Data.{Entries}
use Rattle.policy_toml.specs.HelperState.{HelperState}
use Rattle.policy_toml.specs.Readings.{boolean_of, text_of, list_of}
use Rattle.policy_toml.specs.rows.Rows.{key, key_span}
use Rattle.policy_toml.proofs.rows.RowLemmas.{after_row, field, passed_span}
use Rattle.policy_parts.specs.Values.{target_of}
use Rattle.policy_core.specs.config.OpenTable.{open_state}
use Rattle.policy_core.proofs.config.RootLemmas.{none_yet, one_further, same_moved}
use Rattle.policy_core.proofs.config.root.read_moved.Goals as goal

abbrev left : HelperState → Entries
left state = state.left

pub returns-clause-keys : goal.returns-clause-keys
returns-clause-keys c =
    let entries = left (open_state c.args.table.now) in
    let k1 = c.in_ok-targets.ensures.after in
    let k2 = c.in_ok-exclude.ensures.after ∙ ap (after_row (key (codes "exclude") (list_of text_of))) k1 in
    let k3 = c.in_ok-features.ensures.after ∙ ap (after_row (key (codes "features") (list_of text_of))) k2 in
    let k4 = c.in_ok-all_features.ensures.after ∙ ap (after_row (key (codes "all-features") boolean_of)) k3 in
    let k5 = c.in_ok-no_default_features.ensures.after ∙ ap (after_row (key (codes "no-default-features") boolean_of)) k4 in
    same_moved
    (field (codes "targets") (list_of target_of) [] entries (open_state c.args.table.now) c.in_ok-targets.targets refl refl c.in_ok-targets.ensures.value)
    (field (codes "exclude") (list_of text_of) (codes "targets" ∷ []) entries (open_state c.moved.new.self) c.in_ok-exclude.exclude refl (ap left k1) c.in_ok-exclude.ensures.value)
    (field (codes "features") (list_of text_of) (codes "targets" ∷ codes "exclude" ∷ []) entries (open_state c.moved-2.new.self) c.in_ok-features.features refl (ap left k2) c.in_ok-features.ensures.value)
    (field (codes "all-features") boolean_of (codes "targets" ∷ codes "exclude" ∷ codes "features" ∷ []) entries (open_state c.moved-3.new.self) c.in_ok-all_features.all_features refl (ap left k3) c.in_ok-all_features.ensures.value)
    (field (codes "no-default-features") boolean_of (codes "targets" ∷ codes "exclude" ∷ codes "features" ∷ codes "all-features" ∷ []) entries (open_state c.moved-4.new.self) c.in_ok-no_default_features.no_default_features refl (ap left k4) c.in_ok-no_default_features.ensures.value)
    (field (codes "exclude-dev") boolean_of (codes "targets" ∷ codes "exclude" ∷ codes "features" ∷ codes "all-features" ∷ codes "no-default-features" ∷ []) entries (open_state c.moved-5.new.self) c.in_ok-exclude_dev.exclude_dev refl (ap left k5) c.in_ok-exclude_dev.ensures.value)

pub returns-clause-after : goal.returns-clause-after
returns-clause-after c =
    let k1 = c.in_ok-targets.ensures.after in
    let k2 = c.in_ok-exclude.ensures.after ∙ ap (after_row (key (codes "exclude") (list_of text_of))) k1 in
    let k3 = c.in_ok-features.ensures.after ∙ ap (after_row (key (codes "features") (list_of text_of))) k2 in
    let k4 = c.in_ok-all_features.ensures.after ∙ ap (after_row (key (codes "all-features") boolean_of)) k3 in
    let k5 = c.in_ok-no_default_features.ensures.after ∙ ap (after_row (key (codes "no-default-features") boolean_of)) k4 in
    c.in_ok-exclude_dev.ensures.after ∙ ap (after_row (key (codes "exclude-dev") boolean_of)) k5

pub returns-clause-places : goal.returns-clause-places
returns-clause-places c =
    let entries = left (open_state c.args.table.now) in
    let old = c.args.places.now in
    let k1 = c.in_ok-targets.ensures.after in
    let k2 = c.in_ok-exclude.ensures.after ∙ ap (after_row (key (codes "exclude") (list_of text_of))) k1 in
    let k3 = c.in_ok-features.ensures.after ∙ ap (after_row (key (codes "features") (list_of text_of))) k2 in
    let k4 = c.in_ok-all_features.ensures.after ∙ ap (after_row (key (codes "all-features") boolean_of)) k3 in
    let k5 = c.in_ok-no_default_features.ensures.after ∙ ap (after_row (key (codes "no-default-features") boolean_of)) k4 in
    let s1 = passed_span (codes "targets") [] entries (open_state c.args.table.now) refl refl in
    let p1 = c.in_ok-targets.ensures.places ∙ ap (λ place. c.args.places.now ++ option_to_list place) s1 ∙ ap (λ places. places ++ option_to_list (key_span (codes "targets") entries)) (none_yet old) ∙ one_further old ([]) (key_span (codes "targets") entries) in
    let s2 = passed_span (codes "exclude") (codes "targets" ∷ []) entries (open_state c.moved.new.self) refl (ap left k1) in
    let p2 = c.in_ok-exclude.ensures.places ∙ ap (λ place. c.moved.new.places ++ option_to_list place) s2 ∙ ap (λ places. places ++ option_to_list (key_span (codes "exclude") entries)) (p1) ∙ one_further old (key_span (codes "targets") entries ∷ []) (key_span (codes "exclude") entries) in
    let s3 = passed_span (codes "features") (codes "targets" ∷ codes "exclude" ∷ []) entries (open_state c.moved-2.new.self) refl (ap left k2) in
    let p3 = c.in_ok-features.ensures.places ∙ ap (λ place. c.moved-2.new.places ++ option_to_list place) s3 ∙ ap (λ places. places ++ option_to_list (key_span (codes "features") entries)) (p2) ∙ one_further old (key_span (codes "targets") entries ∷ key_span (codes "exclude") entries ∷ []) (key_span (codes "features") entries) in
    let s4 = passed_span (codes "all-features") (codes "targets" ∷ codes "exclude" ∷ codes "features" ∷ []) entries (open_state c.moved-3.new.self) refl (ap left k3) in
    let p4 = c.in_ok-all_features.ensures.places ∙ ap (λ place. c.moved-3.new.places ++ option_to_list place) s4 ∙ ap (λ places. places ++ option_to_list (key_span (codes "all-features") entries)) (p3) ∙ one_further old (key_span (codes "targets") entries ∷ key_span (codes "exclude") entries ∷ key_span (codes "features") entries ∷ []) (key_span (codes "all-features") entries) in
    let s5 = passed_span (codes "no-default-features") (codes "targets" ∷ codes "exclude" ∷ codes "features" ∷ codes "all-features" ∷ []) entries (open_state c.moved-4.new.self) refl (ap left k4) in
    let p5 = c.in_ok-no_default_features.ensures.places ∙ ap (λ place. c.moved-4.new.places ++ option_to_list place) s5 ∙ ap (λ places. places ++ option_to_list (key_span (codes "no-default-features") entries)) (p4) ∙ one_further old (key_span (codes "targets") entries ∷ key_span (codes "exclude") entries ∷ key_span (codes "features") entries ∷ key_span (codes "all-features") entries ∷ []) (key_span (codes "no-default-features") entries) in
    let s6 = passed_span (codes "exclude-dev") (codes "targets" ∷ codes "exclude" ∷ codes "features" ∷ codes "all-features" ∷ codes "no-default-features" ∷ []) entries (open_state c.moved-5.new.self) refl (ap left k5) in
    let p6 = c.in_ok-exclude_dev.ensures.places ∙ ap (λ place. c.moved-5.new.places ++ option_to_list place) s6 ∙ ap (λ places. places ++ option_to_list (key_span (codes "exclude-dev") entries)) (p5) ∙ one_further old (key_span (codes "targets") entries ∷ key_span (codes "exclude") entries ∷ key_span (codes "features") entries ∷ key_span (codes "all-features") entries ∷ key_span (codes "no-default-features") entries ∷ []) (key_span (codes "exclude-dev") entries) in
    p6
