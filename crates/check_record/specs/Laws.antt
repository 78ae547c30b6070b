-- What holds of all records.
use Rattle.std.specs.Prelude.{◌≡◌, ℕ, List, ◌++◌}
use Rattle.check_record.specs.declared.items.RecordItem.{RecordItem}
use Rattle.check_record.specs.Items.{IsRecord}
use Rattle.check_record.specs.Spelling.{spelled_of}

-- no spelling begins another one: whatever is behind two of them, they are of one record
abbrev pub SpellingsEndThemselves : Type 0
SpellingsEndThemselves = (one other : List RecordItem) (more rest : List ℕ) → IsRecord one → IsRecord other
    → spelled_of one ++ more ≡ spelled_of other ++ rest → (one ≡ other) × (more ≡ rest)
