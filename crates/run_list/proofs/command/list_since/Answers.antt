-- Each end of `list_since`: a refusal before the listing is written, a listing that was not all written, and the whole of it.
use Rattle.std.proofs.Common.{refl, subst}
use Rattle.std.proofs.lemmas.Result.{err_from_is_err_and}
use Rattle.tree_core.specs.Faults.{Gained}
use Rattle.run_found.specs.Error.{cause_of}
use Rattle.run_found.specs.Hearing.{tree_seen}
use Rattle.run_found.specs.Written.{sink_seen}
use Rattle.run_list_text.specs.Listing.{listing_of}
use Rattle.run_command.specs.Settled.{IsCutBy}
use Rattle.run_list.specs.Given.{list_arguments_of}
use Rattle.run_list.proofs.ListingLemmas.{cut_counts, lists_all, lists_cut, stops_first}
use Rattle.run_list.proofs.command.list_since.Goals as goal

pub returns-in_err-listing-clause-lists : goal.returns-in_err-listing-clause-lists
returns-in_err-listing-clause-lists g c =
    let given = list_arguments_of (g.C.Catalog.lists c.args.catalog.now) (g.I.Identifier.match_of c.args.identifier.now) c.args.log_ctx c.args.args c.args.context.now in
    let tree = tree_seen (g.T.Tree.content c.args.tree.now) (g.T.Tree.content c.listing_found.new.tree) (g.T.Tree.fault_count c.args.tree.now) (g.T.Tree.fault_count c.listing_found.new.tree)
    (g.T.Tree.trace c.args.tree.now) (g.T.Tree.trace c.listing_found.new.tree) in
    let err = sink_seen (g.S.Sink.written c.args.err.now) (g.S.Sink.written c.listing_found.new.err) (g.S.Sink.fault_count c.args.err.now) (g.S.Sink.fault_count c.listing_found.new.err) in
    let held = g.O.Sink.written c.args.out.now in
    let faults = g.O.Sink.fault_count c.args.out.now in
    let p = err_from_is_err_and c.from_residual.result c.from_residual.ensures.1 in
    rw (p.1, p.2) (stops_first given tree err (sink_seen held held faults faults) c.in_err-listing.field-0.0 c.in_err-listing.ensures.found refl)

pub returns-in_err-write_crates-clause-lists : goal.returns-in_err-write_crates-clause-lists
returns-in_err-write_crates-clause-lists g c =
    let given = list_arguments_of (g.C.Catalog.lists c.args.catalog.now) (g.I.Identifier.match_of c.args.identifier.now) c.args.log_ctx c.args.args c.args.context.now in
    let tree = tree_seen (g.T.Tree.content c.args.tree.now) (g.T.Tree.content c.listing_found.new.tree) (g.T.Tree.fault_count c.args.tree.now) (g.T.Tree.fault_count c.listing_found.new.tree)
    (g.T.Tree.trace c.args.tree.now) (g.T.Tree.trace c.listing_found.new.tree) in
    let err = sink_seen (g.S.Sink.written c.args.err.now) (g.S.Sink.written c.listing_found.new.err) (g.S.Sink.fault_count c.args.err.now) (g.S.Sink.fault_count c.listing_found.new.err) in
    let out = sink_seen (g.O.Sink.written c.args.out.now) (g.O.Sink.written c.write_crates.new.out) (g.O.Sink.fault_count c.args.out.now) (g.O.Sink.fault_count c.write_crates.new.out) in
    let error = c.in_err-write_crates.field-0.0 in
    let p = err_from_is_err_and c.from_residual-in_err-write_crates.result c.from_residual-in_err-write_crates.ensures.1 in
    rw (p.1, p.2)
    (lists_cut given tree err out c.in_ok-listing.listing c.in_ok-listing.ensures.found error
    (subst (λ crates. IsCutBy out (listing_of c.args.args.format c.args.args.layout crates) (cause_of error)) c.items.ensures c.in_err-write_crates.ensures.cut))

pub returns-in_err-write_crates-clause-counts : goal.returns-in_err-write_crates-clause-counts
returns-in_err-write_crates-clause-counts g c =
    let out = sink_seen (g.O.Sink.written c.args.out.now) (g.O.Sink.written c.write_crates.new.out) (g.O.Sink.fault_count c.args.out.now) (g.O.Sink.fault_count c.write_crates.new.out) in
    let begun = g.T.Tree.fault_count c.args.tree.now in
    let p = err_from_is_err_and c.from_residual-in_err-write_crates.result c.from_residual-in_err-write_crates.ensures.1 in
    rw (p.1, p.2)
    (cut_counts out (listing_of c.args.args.format c.args.args.layout c.items.result.now) begun begun (g.T.Tree.fault_count c.listing_found.new.tree) (cause_of c.in_err-write_crates.field-0.0)
    c.in_err-write_crates.ensures.cut)

pub returns-clause-lists : goal.returns-clause-lists
returns-clause-lists g c =
    let given = list_arguments_of (g.C.Catalog.lists c.args.catalog.now) (g.I.Identifier.match_of c.args.identifier.now) c.args.log_ctx c.args.args c.args.context.now in
    let tree = tree_seen (g.T.Tree.content c.args.tree.now) (g.T.Tree.content c.listing_found.new.tree) (g.T.Tree.fault_count c.args.tree.now) (g.T.Tree.fault_count c.listing_found.new.tree)
    (g.T.Tree.trace c.args.tree.now) (g.T.Tree.trace c.listing_found.new.tree) in
    let err = sink_seen (g.S.Sink.written c.args.err.now) (g.S.Sink.written c.listing_found.new.err) (g.S.Sink.fault_count c.args.err.now) (g.S.Sink.fault_count c.listing_found.new.err) in
    let held = g.O.Sink.written c.args.out.now in
    let told = g.O.Sink.written c.write_crates.new.out in
    let out = sink_seen held told (g.O.Sink.fault_count c.args.out.now) (g.O.Sink.fault_count c.write_crates.new.out) in
    lists_all given tree err out c.in_ok-listing.listing c.in_ok-listing.ensures.found
    (subst (λ crates. Gained held told (listing_of c.args.args.format c.args.args.layout crates)) c.items.ensures c.in_ok-write_crates.ensures.ok)
