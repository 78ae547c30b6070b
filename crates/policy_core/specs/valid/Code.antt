-- A valid policy is told apart from others by its fields.
use Rattle.std.specs.Coded.{Coded}
use Rattle.policy_core.specs.contracts.valid.policy.ValidConfig as configs
use Rattle.policy_core.specs.declared.valid.policy.ValidConfig.{ValidConfig}

abbrev pub config_code : Coded ValidConfig
config_code = configs.the_row.coded
