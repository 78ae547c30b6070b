-- What is written of a value as JSON, token by token.
use Rattle.std.specs.Prelude.{◌≡◌, List, ◌++◌}
use Rattle.json.specs.Token.{Token}
use Rattle.json.specs.Tree.{json_tokens}
use Rattle.json.specs.Written.{Written}
use Rattle.serde_json.specs.Data.{Data}
use Rattle.serde_json.specs.Written.{outline}

-- the tokens of a value that holds no float
abbrev pub data_tokens : Data → List Token
data_tokens value = json_tokens (outline value)

-- what was there before stays, and these tokens come behind those that were written
pub record Adds (old new : Written) (further : List Token) : Type 0 where
  pub before : new.before ≡ old.before
  pub tokens : new.tokens ≡ old.tokens ++ further
