-- The rows that were reported are those of the text.
use Rattle.serde_json.specs.View.{view}
use Rattle.graph_metadata.specs.AllRows.{rows_view}
use Rattle.graph_metadata.proofs.SoundLemmas.{sound}
use Rattle.graph_metadata.proofs.reading.records.Goals as goal

pub in_order-requires : goal.in_order-requires
in_order-requires c = sound c.args.sparse_dir.now (view c.in_ok-value.value) (rows_view c.in_ok-rows.rows) c.in_ok-rows.ensures
