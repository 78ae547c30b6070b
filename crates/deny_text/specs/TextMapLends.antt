-- What becomes of a map once a borrow of one of its values ends.
use Rattle.std.specs.Prelude.{ℕ, List, Option}
use Rattle.std.specs.Borrow.{LendsIf, Fml, RattleType, MutBor}
use Rattle.deny_text.specs.TextMap.{TextMapTo, with_value}
use Rattle.deny_text.specs.contracts.text_map.TextMap.{the_row}

-- the map ends with the last value behind r at the text; as it was where there is none
abbrev pub LendsValue : (V : RattleType) → MutBor (TextMapTo V.Denot) → List ℕ → Option (MutBor V.Denot) → Fml
LendsValue V m key r = LendsIf (the_row V) V m r (with_value m.now key) m.now
