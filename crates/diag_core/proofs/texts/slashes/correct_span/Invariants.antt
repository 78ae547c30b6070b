use Rattle.std.proofs.Common.{◌≡◌, ◌≤◌, drop}
use Rattle.diag_core.specs.texts.Slashes.{passed_from, passed_of, slashes_from}
use Rattle.diag_core.proofs.texts.SlashLemmas.{tally}
use Rattle.diag_core.proofs.texts.slashes.correct_span.Given as goal

-- what is left leads to what the whole text leads to
abbrev pub invariant-bytes : goal.invariant-bytes
invariant-bytes l =
    (l.place ≡ l.byte-index)
    × (l.count ≤ l.number)
    × (l.number ≤ l.place)
    × (l.last ≤ l.start)
    × (l.last ≤ l.place)
    × (tally l.count l.last (passed_from l.number l.start (slashes_from l.place (drop l.place l.original))) ≡ tally 0 0 (passed_of l.start l.original))
