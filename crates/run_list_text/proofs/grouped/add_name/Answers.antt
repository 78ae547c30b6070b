use Rattle.std.proofs.Common.{nat_cmp, subst}
use Rattle.std.specs.Cmp.Lexicographic.{slice_cmp}
use Rattle.std.specs.List.Sorted.{IsStrictlySortedBy}
use Rattle.run_list_text.proofs.GroupLemmas.{name_added}
use Rattle.run_list_text.proofs.grouped.add_name.Goals as goal

pub returns-in-Some : goal.returns-in-Some
returns-in-Some c =
    let new = c.push.new.self in
    let writes = c.get_mut.follows.holds new in
    name_added c.args.map.now.entries (c.get_mut.follows.lender new).entries c.args.license.now c.args.name c.in-Some.names.now new
    (subst (IsStrictlySortedBy (slice_cmp nat_cmp)) writes.1 writes.4) c.in-Some.ensures.value writes.0 c.in_ok-push.ensures.ok
