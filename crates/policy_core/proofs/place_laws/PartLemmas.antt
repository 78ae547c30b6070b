-- The parts of a policy keep places.
use Rattle.std.proofs.Common.{ℕ, List, [], ◌∷◌}
use Rattle.std.specs.Prelude.{codes, unwrap_or}
use Rattle.deny_text.specs.declared.span.Span.{Span}
use Rattle.deny_text.specs.declared.span.Spanned.{Spanned}
use Rattle.deny_text.specs.Spans.{LiesBetween}
use Rattle.toml_subset.specs.text_laws.Placed.{IsContentPlaced}
use Rattle.toml_subset.specs.Data.{TomlContent, string, integer, decimal, boolean, array, table}
use Rattle.toml_value.specs.Lookup.{value_at}
use Rattle.policy_toml.specs.Readings.{text_of, boolean_of, u32_of, list_of, spanned_of}
use Rattle.policy_toml.specs.rows.Rows.{key, optional_value, required_value, shaped_by}
use Rattle.policy_parts.specs.Names.{scope_of, scope_names, agreement_of, agreement_names, lint_of, lint_names}
use Rattle.policy_parts.specs.Tables.{private_rows, private_in, private_of, output_rows, output_in, output_of, graph_rows, graph_config_in, graph_config_of}
use Rattle.policy_parts.specs.Values.{file_source_at, file_source_of, target_at, target_of, reason_by, reason_of}
use Rattle.policy_core.specs.place_laws.Places.{StaysIn, KeepsPlacesIn, keeps_nothing, keeps_its_span, keeps_each}
use Rattle.policy_core.specs.place_laws.Parts.{private_keeps, target_keeps, graph_keeps, file_source_keeps, reason_keeps}
use Rattle.policy_core.proofs.place_laws.PlaceLemmas.{KeepsInTable, TellsPlaces, map_stays, then_stays, boolean_stays, text_stays, u32_stays, name_stays, spanned_stays, list_stays, table_stays, needed_stays, given_kept, list_kept, key_tells, rows_stay}

module _ (text : List ℕ) where
  pub scope_stays : KeepsPlacesIn text keeps_nothing scope_of
  scope_stays = name_stays text (codes "Scope") scope_names

  pub agreement_stays : KeepsPlacesIn text keeps_nothing agreement_of
  agreement_stays = name_stays text (codes "BlanketAgreement") agreement_names

  pub lint_stays : KeepsPlacesIn text keeps_nothing lint_of
  lint_stays = name_stays text (codes "LintLevel") lint_names

  -- ---- keys of flags, texts and texts with their places

  pub flag_tells : (name : List ℕ) → TellsPlaces text (key name boolean_of)
  flag_tells name = key_tells text keeps_nothing name boolean_of (boolean_stays text)

  pub texts_tell : (name : List ℕ) → TellsPlaces text (key name (list_of text_of))
  texts_tell name = key_tells text (keeps_each keeps_nothing) name (list_of text_of) (list_stays text keeps_nothing text_of (text_stays text))

  spanned_text_stays : KeepsPlacesIn text keeps_its_span (spanned_of text_of)
  spanned_text_stays = spanned_stays text keeps_nothing text_of (text_stays text)

  spanned_texts_stay : KeepsPlacesIn text (keeps_each keeps_its_span) (list_of (spanned_of text_of))
  spanned_texts_stay = list_stays text keeps_its_span (spanned_of text_of) spanned_text_stays

  -- ---- tables without needed keys

  pub private_stays : KeepsPlacesIn text private_keeps private_of
  private_stays = table_stays text private_keeps (shaped_by [] private_rows private_in) (λ entries span lies placed.
      rows_stay text private_keeps [] private_rows private_in
      (flag_tells (codes "ignore"), (key_tells text (keeps_each keeps_its_span) (codes "ignore-sources") (list_of (spanned_of text_of)) spanned_texts_stay, (texts_tell (codes "registries"), tt)))
      entries span lies placed
      (list_kept text keeps_its_span (optional_value (codes "ignore-sources") (list_of (spanned_of text_of)) entries)
      (given_kept text (keeps_each keeps_its_span) (codes "ignore-sources") (list_of (spanned_of text_of)) spanned_texts_stay entries placed)))

  pub output_stays : KeepsPlacesIn text keeps_nothing output_of
  output_stays = table_stays text keeps_nothing (shaped_by [] output_rows output_in) (λ entries span lies placed.
      rows_stay text keeps_nothing [] output_rows output_in (key_tells text keeps_nothing (codes "feature-depth") u32_of (u32_stays text), tt) entries span lies placed tt)

  -- ---- a file

  pub file_source_stays : KeepsPlacesIn text file_source_keeps file_source_of
  file_source_stays = table_stays text file_source_keeps file_source_at (λ entries span lies placed.
      then_stays text keeps_its_span file_source_keeps _ (required_value (codes "path") (spanned_of text_of) entries span)
      (λ path here. then_stays text keeps_nothing file_source_keeps _ (required_value (codes "hash") u32_of entries span)
      (λ hash h. rows_stay text file_source_keeps (codes "path" ∷ codes "hash" ∷ []) [] (λ _. record { path = path; hash = hash }) tt entries span lies placed here)
      (needed_stays text keeps_nothing (codes "hash") u32_of (u32_stays text) entries span lies placed))
      (needed_stays text keeps_its_span (codes "path") (spanned_of text_of) spanned_text_stays entries span lies placed))

  -- ---- a target

  target_table : KeepsInTable text target_keeps target_at
  target_table entries span lies placed =
      then_stays text keeps_its_span target_keeps _ (required_value (codes "triple") (spanned_of text_of) entries span)
      (λ filter here. rows_stay text target_keeps (codes "triple" ∷ []) (key (codes "features") (list_of text_of) ∷ [])
      (λ entries. record { filter = filter; features = unwrap_or (optional_value (codes "features") (list_of text_of) entries) [] })
      (texts_tell (codes "features"), tt) entries span lies placed here)
      (needed_stays text keeps_its_span (codes "triple") (spanned_of text_of) spanned_text_stays entries span lies placed)

  target_content : (span : Span) (content : TomlContent) → LiesBetween text span → IsContentPlaced text span content
      → StaysIn target_keeps text (target_of (record { content = content; span = span }))
  target_content span (string w) lies placed = lies
  target_content span (integer z) lies placed = (lies, tt)
  target_content span (decimal z) lies placed = (lies, tt)
  target_content span (boolean b) lies placed = (lies, tt)
  target_content span (array items) lies placed = (lies, tt)
  target_content span (table entries) lies placed = target_table entries span lies placed

  pub target_stays : KeepsPlacesIn text target_keeps target_of
  target_stays value placed = target_content value.span value.content placed.0 placed.1

  -- ---- the graph

  pub targets_stay : KeepsPlacesIn text (keeps_each target_keeps) (list_of target_of)
  targets_stay = list_stays text target_keeps target_of target_stays

  pub graph_stays : KeepsPlacesIn text graph_keeps graph_config_of
  graph_stays = table_stays text graph_keeps (shaped_by [] graph_rows graph_config_in) (λ entries span lies placed.
      rows_stay text graph_keeps [] graph_rows graph_config_in (
        key_tells text (keeps_each target_keeps) (codes "targets") (list_of target_of) targets_stay,
        (
          texts_tell (codes "exclude"),
          (
            texts_tell (codes "features"),
            (flag_tells (codes "all-features"), (flag_tells (codes "no-default-features"), (flag_tells (codes "exclude-dev"), (flag_tells (codes "exclude-unpublished"), tt)))),
          ),
        ),
      )
      entries span lies placed
      (list_kept text target_keeps (optional_value (codes "targets") (list_of target_of) entries)
      (given_kept text (keeps_each target_keeps) (codes "targets") (list_of target_of) targets_stay entries placed)))

  -- ---- a reason

  pub reason_stays : KeepsPlacesIn text reason_keeps reason_of
  reason_stays = table_stays text reason_keeps (λ entries span. reason_by span (value_at (codes "reason") entries)) (λ entries span lies placed.
      map_stays text keeps_its_span reason_keeps (λ (x : Spanned (List ℕ)). record { 0 = x }) (required_value (codes "reason") (spanned_of text_of) entries span) (λ x h. h)
      (needed_stays text keeps_its_span (codes "reason") (spanned_of text_of) spanned_text_stays entries span lies placed))
