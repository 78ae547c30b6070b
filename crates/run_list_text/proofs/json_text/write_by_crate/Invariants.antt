use Rattle.std.proofs.Common.{take}
use Rattle.diag_print.specs.JsonTokens.{Adds}
use Rattle.diag_print.proofs.JsonLemmas.{each_tokens}
use Rattle.run_list_text.specs.Listing.{crate_data}
use Rattle.run_list_text.proofs.json_text.write_by_crate.Given as goal

-- the crates so far were written
abbrev pub invariant-crates : goal.invariant-crates
invariant-crates l = Adds l.initial.out l.out (each_tokens crate_data (take l.listed-index l.crates))
