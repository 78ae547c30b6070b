-- What a requirement answers, by what contracts see of it.
use Rattle.std.proofs.Common.{◌≡◌}
use Rattle.semver.specs.Eval.{matches_all}
use Rattle.semver.specs.EvalViews.{matches_views}
use Rattle.semver.specs.Identifiers.{parts_of}
use Rattle.semver.specs.declared.Version.{Version}
use Rattle.semver.specs.declared.VersionReq.{VersionReq}
use Rattle.semver.proofs.EvalViews.{matches_all-views}
use Rattle.policy_parts.specs.spec.Spec.{comparators_of}

pub met : (requirement : VersionReq) (version : Version)
    → matches_all requirement.comparators.items version ≡ matches_views (comparators_of requirement) (parts_of version)
met requirement version = matches_all-views requirement.comparators.items version
