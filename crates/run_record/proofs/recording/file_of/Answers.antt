use Rattle.run_record.proofs.RecordLemmas.{is_record}
use Rattle.run_record.proofs.recording.file_of.Goals as goal

pub of-requires : goal.of-requires
of-requires c = is_record c.args.reports.now c.in_ok-items.items c.requires c.in_ok-items.ensures.items c.in_ok-items.ensures.each
