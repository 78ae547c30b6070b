-- Policies keep places.
use Rattle.std.proofs.Common.{ℕ, ◌<◌, true, false, cond, List, [], ◌∷◌, length, Option, Some, None}
use Rattle.std.specs.Prelude.{◌^◌, ℤ, codes, option_map, unwrap_or}
use Rattle.std.specs.List.{AllByRecursion, cons_option}
use Rattle.std.specs.Str.{IsUtf8, bytes_eq}
use Rattle.spdx_terms.specs.catalog.Catalog.{CatalogLists, IsCatalog}
use Rattle.deny_text.specs.declared.span.Span.{Span}
use Rattle.deny_text.specs.Spans.{LiesBetween}
use Rattle.toml_subset.specs.text_laws.Placed.{AreEntriesPlaced}
use Rattle.toml_subset.specs.Data.{Entries, Toml, no_entry, entry}
use Rattle.toml_subset.specs.declared.string.Key.{Key}
use Rattle.toml_value.specs.Removal.{entry_at}
use Rattle.toml_subset.specs.shapes.Kinds.{kind_word}
use Rattle.toml_subset.specs.declared.shapes.shape.ValueKind.TheVariants as kind
use Rattle.toml_value.specs.Taken.{or_wanted}
use Rattle.policy_toml.specs.Readings.{as_hundredths, i64_of, u32_of, i32_of, in_32_bits_with_sign, or_out_of_range, hundredths_of, list_of}
use Rattle.policy_toml.specs.rows.Rows.{key, optional_value, key_span}
use Rattle.policy_parts.specs.Names.{lint_of}
use Rattle.policy_parts.specs.Tables.{private_of, graph_config_of, output_of}
use Rattle.policy_parts.specs.Values.{target_of}
use Rattle.policy_parts.specs.declared.graph.GraphConfig.{GraphConfig}
use Rattle.policy_parts.specs.declared.private.Private.{Private}
use Rattle.policy_parts.specs.declared.target.Target.{Target}
use Rattle.policy_core.specs.config.Config.{config_rows, removed_keys, no_private, config_in, config_at, config_of}
use Rattle.policy_core.specs.config.Places.{places_of_keys}
use Rattle.policy_core.specs.config.Root.{root_rows, moved_keys, no_graph, root_in, root_at, root_of}
use Rattle.policy_parts.specs.entries.Clarifications.{clarification_of}
use Rattle.policy_parts.specs.entries.Exceptions.{exceptions_of}
use Rattle.policy_parts.specs.entries.Licensees.{licensees_of}
use Rattle.policy_core.specs.place_laws.Places.{KeepsPlacesIn, keeps_nothing, keeps_each, keeps_where}
use Rattle.policy_core.specs.place_laws.Parts.{private_keeps, target_keeps, graph_keeps}
use Rattle.policy_core.proofs.place_laws.PlaceLemmas.{TellsPlaces, map_stays, then_stays, wanted_stays, range_stays, i64_stays, u32_stays, table_stays, given_kept, list_kept, key_tells, passed_tells, rows_stay}
use Rattle.policy_core.proofs.place_laws.PartLemmas.{lint_stays, flag_tells, texts_tell, private_stays, output_stays, targets_stay, graph_stays}
use Rattle.policy_core.specs.place_laws.Entries.{licensee_keeps, ExceptionKeeps, ClarificationKeeps}
use Rattle.policy_core.specs.place_laws.Policies.{ConfigKeeps, RootKeeps}
use Rattle.policy_core.proofs.place_laws.EntryPlaces.{licensees_stay, exceptions_stay, clarifications_stay}

module _ (text : List ℕ) where
  -- ---- the places of keys

  key_lies : (name : List ℕ) (entries : Entries) → AreEntriesPlaced text entries → keeps_where LiesBetween text (key_span name entries)
  key_lies name no_entry placed = tt
  key_lies name (entry key span content more) placed =
      elim (bytes_eq key.name.text name) as (λ b. keeps_where LiesBetween text
      (option_map (λ (found : Key × Toml). found.0.span) (cond b (Some (key, record { content = content; span = span })) (entry_at name more)))) [
        | true ↦ placed.0.0
        | false ↦ key_lies name more placed.3
      ]

  one_more : (place : Option Span) (places : List Span) → keeps_where LiesBetween text place → keeps_each LiesBetween text places
      → keeps_each LiesBetween text (cons_option place places)
  one_more None places lies all = all
  one_more (Some place) places lies all = (lies, all)

  keys_lie : (names : List (List ℕ)) (entries : Entries) → AreEntriesPlaced text entries → keeps_each LiesBetween text (places_of_keys names entries)
  keys_lie [] entries placed = tt
  keys_lie (name ∷ names) entries placed =
      one_more (key_span name entries) (places_of_keys names entries) (key_lies name entries placed) (keys_lie names entries placed)

  -- ---- numbers

  i32_stays : KeepsPlacesIn text keeps_nothing i32_of
  i32_stays value placed =
      then_stays text keeps_nothing keeps_nothing (λ (z : ℤ). or_out_of_range (codes "i32") value.span (in_32_bits_with_sign z)) (i64_of value)
      (λ z h. range_stays text (codes "i32") value.span (in_32_bits_with_sign z) placed.0) (i64_stays text value placed)

  hundredths_stays : KeepsPlacesIn text keeps_nothing hundredths_of
  hundredths_stays value placed =
      map_stays text keeps_nothing keeps_nothing (λ (z : ℤ). record { 0 = z }) (or_wanted (kind_word kind.Decimal) value (as_hundredths value.content)) (λ z h. tt)
      (wanted_stays text (kind_word kind.Decimal) value (as_hundredths value.content) placed)

  -- ---- what is left out

  private_kept : (private : Option Private) → keeps_where private_keeps text private → private_keeps text (unwrap_or private no_private)
  private_kept None kept = tt
  private_kept (Some private) kept = kept

  graph_kept : (graph : Option GraphConfig) → keeps_where graph_keeps text graph → graph_keeps text (unwrap_or graph no_graph)
  graph_kept None kept = tt
  graph_kept (Some graph) kept = kept

  moved_kept : (moved : Option (List Target)) (targets : List Target) → keeps_where (keeps_each target_keeps) text moved → keeps_each target_keeps text targets
      → keeps_each target_keeps text (unwrap_or moved targets)
  moved_kept None targets there kept = kept
  moved_kept (Some moved) targets there kept = there

module _ (text : List ℕ) (utf8 : IsUtf8 text) (fits : length text < 2 ^ 64) (lists : CatalogLists) (laws : IsCatalog lists) where
  lint_tells : (name : List ℕ) → TellsPlaces text (key name lint_of)
  lint_tells name = key_tells text keeps_nothing name lint_of (lint_stays text)

  config_tells : AllByRecursion (TellsPlaces text) (config_rows lists)
  config_tells = (
    key_tells text keeps_nothing (codes "version") i32_of (i32_stays text),
    (
      key_tells text private_keeps (codes "private") private_of (private_stays text),
      (
        passed_tells text (codes "unlicensed"),
        (
          passed_tells text (codes "allow-osi-fsf-free"),
          (
            passed_tells text (codes "copyleft"),
            (
              passed_tells text (codes "default"),
              (
                key_tells text keeps_nothing (codes "confidence-threshold") hundredths_of (hundredths_stays text),
                (
                  passed_tells text (codes "deny"),
                  (
                    key_tells text (keeps_each licensee_keeps) (codes "allow") (licensees_of lists) (licensees_stay text utf8 fits lists laws),
                    (
                      lint_tells (codes "unused-allowed-license"),
                      (
                        key_tells text (keeps_each ClarificationKeeps) (codes "clarify") (list_of clarification_of) (clarifications_stay text utf8),
                        (
                          key_tells text (keeps_each ExceptionKeeps) (codes "exceptions") (exceptions_of lists) (exceptions_stay text utf8 fits lists laws),
                          (lint_tells (codes "unused-license-exception"), (flag_tells text (codes "include-dev"), (flag_tells text (codes "include-build"), tt))),
                        ),
                      ),
                    ),
                  ),
                ),
              ),
            ),
          ),
        ),
      ),
    ),
  )

  config_kept : (entries : Entries) → AreEntriesPlaced text entries → ConfigKeeps text (config_in lists entries)
  config_kept entries placed = record {
    private = private_kept text (optional_value (codes "private") private_of entries) (given_kept text private_keeps (codes "private") private_of (private_stays text) entries placed);
    allow = list_kept text licensee_keeps (optional_value (codes "allow") (licensees_of lists) entries)
        (given_kept text (keeps_each licensee_keeps) (codes "allow") (licensees_of lists) (licensees_stay text utf8 fits lists laws) entries placed);
    clarify = list_kept text ClarificationKeeps (optional_value (codes "clarify") (list_of clarification_of) entries)
        (given_kept text (keeps_each ClarificationKeeps) (codes "clarify") (list_of clarification_of) (clarifications_stay text utf8) entries placed);
    exceptions = list_kept text ExceptionKeeps (optional_value (codes "exceptions") (exceptions_of lists) entries)
        (given_kept text (keeps_each ExceptionKeeps) (codes "exceptions") (exceptions_of lists) (exceptions_stay text utf8 fits lists laws) entries placed);
    deprecated = keys_lie text removed_keys entries placed;
  }

  pub config_stays : KeepsPlacesIn text ConfigKeeps (config_of lists)
  config_stays = table_stays text ConfigKeeps (config_at lists) (λ entries span lies placed.
      rows_stay text ConfigKeeps [] (config_rows lists) (config_in lists) config_tells entries span lies placed (config_kept entries placed))

  -- ---- the root

  root_tells : AllByRecursion (TellsPlaces text) (root_rows lists)
  root_tells = (
    passed_tells text (codes "advisories"),
    (
      passed_tells text (codes "bans"),
      (
        passed_tells text (codes "sources"),
        (
          key_tells text ConfigKeeps (codes "licenses") (config_of lists) config_stays,
          (
            key_tells text graph_keeps (codes "graph") graph_config_of (graph_stays text),
            (
              key_tells text (keeps_each target_keeps) (codes "targets") (list_of target_of) (targets_stay text),
              (
                texts_tell text (codes "exclude"),
                (
                  texts_tell text (codes "features"),
                  (
                    flag_tells text (codes "all-features"),
                    (
                      flag_tells text (codes "no-default-features"),
                      (
                        flag_tells text (codes "exclude-dev"),
                        (
                          key_tells text keeps_nothing (codes "output") output_of (output_stays text),
                          (key_tells text keeps_nothing (codes "feature-depth") u32_of (u32_stays text), tt),
                        ),
                      ),
                    ),
                  ),
                ),
              ),
            ),
          ),
        ),
      ),
    ),
  )

  root_kept : (entries : Entries) → AreEntriesPlaced text entries → RootKeeps text (root_in lists entries)
  root_kept entries placed = record {
    licenses = given_kept text ConfigKeeps (codes "licenses") (config_of lists) config_stays entries placed;
    graph = moved_kept text (optional_value (codes "targets") (list_of target_of) entries) (unwrap_or (optional_value (codes "graph") graph_config_of entries) no_graph).targets
        (given_kept text (keeps_each target_keeps) (codes "targets") (list_of target_of) (targets_stay text) entries placed)
        (graph_kept text (optional_value (codes "graph") graph_config_of entries) (given_kept text graph_keeps (codes "graph") graph_config_of (graph_stays text) entries placed));
    graph_deprecated = keys_lie text moved_keys entries placed;
    output_deprecated = key_lies text (codes "feature-depth") entries placed;
  }

  pub root_stays : KeepsPlacesIn text RootKeeps (root_of lists)
  root_stays = table_stays text RootKeeps (root_at lists) (λ entries span lies placed.
      rows_stay text RootKeeps [] (root_rows lists) (root_in lists) root_tells entries span lies placed (root_kept entries placed))
