-- the names of the texts so far
use Rattle.std.proofs.Common.{◌≡◌, map, take}
use Rattle.check_notice.specs.Sources.{finder_sources, name_of}
use Rattle.check_notice.proofs.named.names_of.Given as goal

abbrev pub invariant-texts : goal.invariant-texts
invariant-texts g l = l.names ≡ map (name_of (finder_sources g.I.Identifier.match_of g.I.TextLookup.text_of l.finder)) (take l.text-index l.own)
