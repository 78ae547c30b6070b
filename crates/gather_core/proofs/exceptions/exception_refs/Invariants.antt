use Rattle.std.proofs.Common.{◌≡◌, map, take}
use Rattle.gather_core.specs.Exceptions.{exception_entry}
use Rattle.gather_core.proofs.exceptions.exception_refs.Given as goal

abbrev pub invariant-exceptions : goal.invariant-exceptions
invariant-exceptions l = l.refs.items ≡ map exception_entry (take l.exception-index l.exceptions)
