-- A table that is read key by key, as the table helper's state.
use Rattle.toml_value.specs.Lookup.{value_at}
use Rattle.toml_value.specs.Views.{entries_view}
use Rattle.policy_toml.specs.rows.Rows.{KeyRow}
use Rattle.std.specs.Prelude.{List, [], ◌∷◌}
use Rattle.policy_toml.specs.HelperState.{HelperState, with_faults, without_key}
use Rattle.policy_core.specs.declared.config.open_table.OpenTable.{OpenTable}

abbrev pub open_state : OpenTable → HelperState
open_state table = record { left = entries_view table.left; span = table.span; faults = table.faults }

-- the state behind rows that were read one after another
abbrev pub behind_rows : List KeyRow → HelperState → HelperState
behind_rows [] state = state
behind_rows (row ∷ rows) state =
    behind_rows rows (with_faults (row.faults (value_at row.name state.left)) (without_key row.name state))
