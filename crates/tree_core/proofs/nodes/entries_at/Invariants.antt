use Rattle.std.proofs.Common.{◌≡◌, ◌++◌, map}
use Rattle.tree_core.specs.Answer.{listed_entry}
use Rattle.tree_core.proofs.ListingLemmas.{listing_of}
use Rattle.tree_core.proofs.nodes.entries_at.Given as goal

-- the entries so far, and those of what is left, are those of the folder
abbrev pub invariant-nodes : goal.invariant-nodes
invariant-nodes l = map listed_entry l.entries ++ listing_of l.folder l.place-iterator ≡ listing_of l.folder l.nodes.entries
