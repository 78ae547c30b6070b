-- A write of an answer that was refused.
use Rattle.std.specs.Prelude.{◌≡◌, ℕ}
use Rattle.tree_core.specs.Faults.{Rose}
use Rattle.run_found.specs.declared.error.Error.{Error}
use Rattle.run_found.specs.declared.error.Error.TheVariants.{WriteFault}

-- with the sink's counts at the start of the call and after it, between which it rose
abbrev pub IsWriteFault : ℕ → ℕ → Error → Type 0
IsWriteFault before after (WriteFault first last) = (first ≡ before) × (last ≡ after) × Rose before after
IsWriteFault before after _ = ⊥
