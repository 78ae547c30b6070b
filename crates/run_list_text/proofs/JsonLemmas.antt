-- Tokens of texts.
use Rattle.std.proofs.Common.{◌≡◌, ap, List, [], ◌∷◌, ℕ, Ok}
use Rattle.json.specs.Token.{string}
use Rattle.json.specs.Written.{Written, Writes}
use Rattle.diag_print.specs.JsonTokens.{Adds}
use Rattle.diag_print.proofs.JsonLemmas.{one, same}

-- a text that was written, of which another name is known
pub one_text : {E : Type 0} (value : Unit {0}) (old new : Written) (text wanted : List ℕ) → text ≡ wanted → Writes {E = E} (Ok value) old new (string text) → Adds old new (string wanted ∷ [])
one_text value old new text wanted e writes = same old new _ _ (ap (λ known. string known ∷ []) e) (one value old new (string text) writes)
