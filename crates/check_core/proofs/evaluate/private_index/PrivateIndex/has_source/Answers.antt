use Rattle.std.proofs.Common.{true, subst}
use Rattle.graph_core.specs.source.Matching.{Matches}
use Rattle.check_core.proofs.evaluate.PrivateLemmas.{either_told, from_places, site_found, two_found}
use Rattle.check_core.proofs.evaluate.private_index.PrivateIndex.has_source.Goals as goal

pub returns-in-Git : goal.returns-in-Git
returns-in-Git c =
    let P = Matches true c.args.source.now in
    let addresses = c.args.addresses.now in
    let here = c.is_numbered-in-Git.ensures in (
      (λ yes. from_places P addresses _ (here.0 yes)),
      (λ some. here.1 (site_found P c.in-Git.url (λ address holds. subst (λ source. Matches true source address) c.in-Git.is holds)
          addresses c.args.self.now.addresses c.address_number.result c.requires c.address_number.ensures some)),
    )

pub returns-in-Registry : goal.returns-in-Registry
returns-in-Registry c =
    let P = Matches true c.args.source.now in
    let addresses = c.args.addresses.now in
    let here = c.is_numbered-in-Registry.ensures in (
      (λ yes. from_places P addresses _ (here.0 yes)),
      (λ some. here.1 (site_found P c.in-Registry.url (λ address holds. subst (λ source. Matches true source address) c.in-Registry.is holds)
          addresses c.args.self.now.addresses c.address_number-in-Registry.result c.requires c.address_number-in-Registry.ensures some)),
    )

pub returns-in-Sparse : goal.returns-in-Sparse
returns-in-Sparse c =
    let P = Matches true c.args.source.now in
    let addresses = c.args.addresses.now in
    let here = c.is_numbered-in-Sparse.ensures in (
      (λ yes. from_places P addresses _ (here.0 yes)),
      (λ some. here.1 (site_found P c.in-Sparse.url (λ address holds. subst (λ source. Matches true source address) c.in-Sparse.is holds)
          addresses c.args.self.now.addresses c.address_number-in-Sparse.result c.requires c.address_number-in-Sparse.ensures some)),
    )

pub returns-else-is_numbered : goal.returns-else-is_numbered
returns-else-is_numbered c =
    let P = Matches true c.args.source.now in
    let addresses = c.args.addresses.now in
    let here = c.is_numbered-else-is_numbered.ensures in (
      (λ yes. from_places P addresses _ (here.0 yes)),
      (λ some. here.1 (either_told c.is_numbered.result _ _ c.if-is_numbered.false c.is_numbered.ensures.1
          (two_found P (λ address holds. subst (λ source. Matches true source address) c.in-CratesIo.is holds)
          addresses c.args.self.now.addresses c.site_number-github.result c.site_number-sparse.result c.requires c.site_number-github.ensures c.site_number-sparse.ensures some))),
    )
