use Rattle.std.proofs.Common.{Ok, Err}
use Rattle.std.specs.Option.{option_copied}
use Rattle.tree_core.proofs.MadeLemmas.{some_joined}
use Rattle.run_found.specs.Error.{cause_of}
use Rattle.run_found.specs.own_names.Chosen.{lists_chosen}
use Rattle.run_found.specs.own_names.Found.{chosen_given}
use Rattle.run_found.specs.own_names.Given.{lists_given, texts_given}
use Rattle.run_found.proofs.own_names.FoundLemmas.{counts_behind, found, refused}
use Rattle.run_found.proofs.own_names.found.lists_found.Goals as goal

pub returns-in-Ok-texts_at-clause-found : goal.returns-in-Ok-texts_at-clause-found
returns-in-Ok-texts_at-clause-found g c =
    found (lists_given (g.C.Catalog.lists c.args.catalog.now) (texts_given (g.I.Identifier.match_of c.args.identifier.now) (g.I.TextLookup.text_of c.args.identifier.now))) (option_copied c.args.catalog_path) (option_copied c.args.store_path) (lists_chosen g.C.Catalog.lists c.in-Ok.lists)
    c.in-Ok.ensures.read c.in-Ok.ensures.made (Ok (chosen_given g.I.Identifier.match_of g.I.TextLookup.text_of c.in-Ok-texts_at.texts)) c.in-Ok-texts_at.ensures.read c.in-Ok-texts_at.ensures.made

pub returns-in-Ok-texts_at-clause-made : goal.returns-in-Ok-texts_at-clause-made
returns-in-Ok-texts_at-clause-made g c = some_joined c.in-Ok.ensures.made c.in-Ok-texts_at.ensures.made

pub returns-in-Ok-clause-found : goal.returns-in-Ok-clause-found
returns-in-Ok-clause-found g c =
    found (lists_given (g.C.Catalog.lists c.args.catalog.now) (texts_given (g.I.Identifier.match_of c.args.identifier.now) (g.I.TextLookup.text_of c.args.identifier.now))) (option_copied c.args.catalog_path) (option_copied c.args.store_path) (lists_chosen g.C.Catalog.lists c.in-Ok.lists)
    c.in-Ok.ensures.read c.in-Ok.ensures.made (Err c.in-Err-texts_at.error) c.in-Err-texts_at.ensures.read c.in-Err-texts_at.ensures.made

pub returns-in-Ok-clause-made : goal.returns-in-Ok-clause-made
returns-in-Ok-clause-made g c = some_joined c.in-Ok.ensures.made c.in-Err-texts_at.ensures.made

pub returns-in-Ok-clause-counts : goal.returns-in-Ok-clause-counts
returns-in-Ok-clause-counts g c =
    counts_behind (lists_given (g.C.Catalog.lists c.args.catalog.now) (texts_given (g.I.Identifier.match_of c.args.identifier.now) (g.I.TextLookup.text_of c.args.identifier.now))) (option_copied c.args.catalog_path) (option_copied c.args.store_path)
    (lists_chosen g.C.Catalog.lists c.in-Ok.lists) c.in-Ok.ensures.read c.in-Ok.ensures.made (g.T.Tree.fault_count c.texts_at.new.tree) (cause_of c.in-Err-texts_at.error) c.in-Err-texts_at.ensures.counts

pub returns-clause-found : goal.returns-clause-found
returns-clause-found g c =
    refused (lists_given (g.C.Catalog.lists c.args.catalog.now) (texts_given (g.I.Identifier.match_of c.args.identifier.now) (g.I.TextLookup.text_of c.args.identifier.now))) (option_copied c.args.catalog_path) (option_copied c.args.store_path) c.in-Err.error c.in-Err.ensures.read c.in-Err.ensures.made
