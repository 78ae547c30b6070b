use Rattle.std.proofs.Common.{sym, ◌∙◌}
use Rattle.gather_license.specs.Settled.{scanner_of_scan}
use Rattle.gather_license.proofs.SeenLemmas.{seen_listed, seen_unlisted}
use Rattle.gather_license.proofs.settling.seen_of.Goals as goal

pub returns-in-Some : goal.returns-in-Some
returns-in-Some g c =
    seen_unlisted (scanner_of_scan g.C.Catalog.lists g.I.Identifier.match_of c.args.scan.now) c.args.pack.now c.in-Some.error (sym c.unlisted.ensures ∙ c.in-Some.is)

pub returns-in_ok-files-in-None : goal.returns-in_ok-files-in-None
returns-in_ok-files-in-None g c =
    seen_listed (scanner_of_scan g.C.Catalog.lists g.I.Identifier.match_of c.args.scan.now) c.args.pack.now c.in_ok-files-in-None.files
    (sym c.unlisted.ensures ∙ c.in-None.is) c.in_ok-files-in-None.ensures
