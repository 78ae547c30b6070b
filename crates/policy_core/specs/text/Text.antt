-- The text of a policy.
use Rattle.std.specs.Prelude.{ℕ, true, false, List, [], Result, Ok, Err}
use Rattle.tree_core.specs.declared.texts.fault.ReadFault.{ReadFault}
use Rattle.tree_core.specs.declared.texts.fault.ReadFault.TheVariants.{Absent}
use Rattle.policy_core.specs.declared.text.error.ConfigError.{ConfigError}
use Rattle.policy_core.specs.declared.text.error.ConfigError.TheVariants.{ConfigRead}
use Rattle.policy_core.specs.declared.text.text.ConfigText.{ConfigText}

-- The text, from what was read of the policy's file: an absent policy is the empty text.
abbrev pub config_text_of : Result (List ℕ) ReadFault → Result ConfigText ConfigError
config_text_of (Ok text) = Ok (record { text = text; is_there = true })
config_text_of (Err Absent) = Ok (record { text = []; is_there = false })
config_text_of (Err fault) = Err (ConfigRead fault)
