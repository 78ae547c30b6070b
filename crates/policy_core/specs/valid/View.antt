-- What of a valid policy verdicts depend on.
use Rattle.std.specs.Prelude.{map}
use Rattle.spdx_terms.specs.declared.term.LicenseReq.{LicenseReq}
use Rattle.policy_parts.specs.declared.entries.licensee.Licensee.{Licensee}
use Rattle.policy_core.specs.declared.valid.policy.ValidException.{ValidException}
use Rattle.policy_core.specs.declared.valid.policy.ValidConfig.{ValidConfig}
use Rattle.policy_core.specs.valid.Policy.{Grant, Policy}

-- a licensee without its place
abbrev pub req_of : Licensee → LicenseReq
req_of licensee = licensee.0.value

abbrev pub grant_of : ValidException → Grant
grant_of exception = record { spec = exception.spec; allowed = map req_of exception.allowed }

abbrev pub policy_of : ValidConfig → Policy
policy_of config = record {
  ignores = config.private.ignore;
  registries = config.private.registries;
  ignore_sources = config.ignore_sources;
  allowed = map req_of config.allowed;
  exceptions = map grant_of config.exceptions;
}
