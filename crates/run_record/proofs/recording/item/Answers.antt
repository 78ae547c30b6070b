use Rattle.run_record.proofs.RecordLemmas.{recordable}
use Rattle.run_record.proofs.recording.item.Goals as goal

pub recorded_verdict-requires : goal.recorded_verdict-requires
recorded_verdict-requires c = recordable c.args.report.now c.expression_facts.ensures c.requires
