-- What a listing tells of crates, by what the answers to their reads say.
use Rattle.std.specs.Prelude.{◌≡◌, ℕ, List, [], map, Option, Some, None}
use Rattle.spdx_core.specs.Reading.{ExpressionView}
use Rattle.tree_core.specs.file_reads.Read.{records_of_reads}
use Rattle.policy_core.specs.declared.valid.policy.ValidConfig.{ValidConfig}
use Rattle.gather_core.specs.Calls.{ReadsOfCrate}
use Rattle.gather_license.specs.expression.Scanned.{Scanner}
use Rattle.run_found.specs.Licenses.{expression_in, priority_heard}
use Rattle.run_list_text.specs.declared.listed.ListedCrate.{ListedCrate}
use Rattle.run_list_text.specs.Listed.{crate_name, distinct_texts, printed_terms}
use Rattle.run_list_text.specs.Listing.{listing_of}
use Rattle.run_found.specs.declared.reads.CrateRead.{CrateRead}
use Rattle.run_list.specs.Given.{ListArguments}

-- the licences of what has priority of a crate; none where nothing has
abbrev pub licenses_in : Option ExpressionView → List (List ℕ)
licenses_in (Some expression) = distinct_texts (printed_terms expression.terms)
licenses_in None = []

-- a crate as a listing has it, by what the answers to its own reads say
abbrev pub listed_by : Scanner → ValidConfig → ReadsOfCrate → ListedCrate
listed_by scanner policy one = record {
  name = crate_name one.krate;
  licenses = licenses_in (expression_in (priority_heard scanner policy one));
}

abbrev pub all_listed : Scanner → ValidConfig → List ReadsOfCrate → List ListedCrate
all_listed scanner policy crates = map (listed_by scanner policy) crates

-- the listing of crates, in the form and the layout that are asked for
abbrev pub listing_text : ListArguments → List ListedCrate → List ℕ
listing_text given crates = listing_of given.args.format given.args.layout crates

-- the reads of a crate are answered as they were made
pub record IsReadOf (one : ReadsOfCrate) (read : CrateRead) : Type 0 where
  pub id : read.id ≡ one.krate.id
  pub reads : read.reads ≡ records_of_reads one.reads
