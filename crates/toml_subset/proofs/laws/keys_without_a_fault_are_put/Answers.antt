use Rattle.toml_subset.proofs.Law.Made.{put_made}
use Rattle.toml_subset.proofs.laws.keys_without_a_fault_are_put.Goals as goal

pub returns : goal.returns
returns c keys node branches above some free = let made = put_made keys node branches above some free in (made.0, made.1)
