-- the name stands at the licences so far
use Rattle.std.proofs.Common.{◌≡◌, fold, take}
use Rattle.run_list_text.specs.Grouped.{with_name}
use Rattle.run_list_text.proofs.grouped.add_crate.Given as goal

abbrev pub invariant-licenses : goal.invariant-licenses
invariant-licenses l = l.map.entries ≡ fold (with_name l.listed.name) l.initial.map.entries (take l.license-index l.licenses)
