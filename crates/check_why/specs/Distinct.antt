-- Texts, each once.
use Rattle.std.specs.Prelude.{◌≡◌, ℕ, List, is_some}
use Rattle.std.specs.FinMap as finmap
use Rattle.deny_text.specs.TextMap.{TextMapTo}
use Rattle.graph_core.specs.Krate.{has_text}

-- a map has just these texts. Only a private type cites this.
abbrev pub KnowsTexts : TextMapTo ℕ → List (List ℕ) → Type 0
KnowsTexts places texts = (text : List ℕ) → is_some (finmap.get places text) ≡ has_text texts text
