-- What is recorded of a verdict.
use Rattle.std.specs.Prelude.{◌≡◌, nat_lt, IsTrue, length, ⊤}
use Rattle.spdx_core.specs.declared.certificates.verdict.Verdict.{Verdict}
use Rattle.spdx_core.specs.declared.certificates.verdict.Verdict.TheVariants as verdict
use Rattle.check_record.specs.declared.items.RecordVerdict.{RecordVerdict}
use Rattle.check_record.specs.declared.items.RecordVerdict.TheVariants.{Skipped, Unlicensed, Accepted, Rejected}
use Rattle.check_record.specs.Items.{some_rise}

-- of a rejected crate its blocks are kept; its least choice shows nothing
abbrev pub recorded_of : Verdict → RecordVerdict
recorded_of verdict.Skipped = Skipped
recorded_of verdict.Unlicensed = Unlicensed
recorded_of (verdict.Accepted choice hits) = Accepted choice hits
recorded_of (verdict.Rejected least blocks) = Rejected blocks

-- ---- what can be recorded

-- places that rise, and as many hits
abbrev pub IsRecordable : Verdict → Type 0
IsRecordable verdict.Skipped = ⊤
IsRecordable verdict.Unlicensed = ⊤
IsRecordable (verdict.Accepted choice hits) = IsTrue (some_rise nat_lt choice) × (length hits ≡ length choice)
IsRecordable (verdict.Rejected least blocks) = IsTrue (some_rise nat_lt blocks)
