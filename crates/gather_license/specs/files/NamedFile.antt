-- Files that clarifications name.
use Rattle.std.specs.Prelude.{ℕ, List}

-- a file that a clarification names: its path, from the crate's folder, and the hash of its normal form
pub record NamedFileView : Type 0 where
  pub path : List ℕ
  pub hash : ℕ
