use Rattle.std.proofs.Common.{◌≡◌, map, take}
use Rattle.policy_core.specs.valid.View.{req_of}
use Rattle.policy_core.specs.valid.Indexes.{families_in}
use Rattle.policy_core.proofs.valid.counted.index_of.Given as goal

-- the families so far
abbrev pub invariant-licensees : goal.invariant-licensees
invariant-licensees l = l.index ≡ families_in (map req_of (take l.licensee-index l.licensees))
