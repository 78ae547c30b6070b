use Rattle.std.proofs.Common.{subst, sym}
use Rattle.check_why.specs.Place.{LicenseesAreInside}
use Rattle.check_why.proofs.InsideLemmas.{licensees_inside}
use Rattle.check_why.proofs.places.term_hit.Goals as goal

pub licensee_place-requires : goal.licensee_place-requires
licensee_place-requires c =
    let files = c.args.files.now in
    let policy = c.args.policy.now in
    subst (LicenseesAreInside files policy.file_id) (sym c.items-allowed.ensures) (licensees_inside files policy.file_id policy.allowed c.requires.allowed)
