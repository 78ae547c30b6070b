use Rattle.std.proofs.Common.{◌≡◌, ◌++◌, List, map, sym, ap, ◌∙◌, append-nil}
use Rattle.tree_core.specs.Answer.{listed_entry}
use Rattle.tree_core.specs.Content.{Place}
use Rattle.tree_core.specs.declared.nodes.StoredNode.{StoredNode}
use Rattle.tree_core.proofs.ListingLemmas.{listing_of, least_in-is_forward, listing_of-between, entries_in-content_of, IsInNameOrder-listing_of}
use Rattle.tree_core.proofs.nodes.entries_at.Goals as goal

pub range-place-items-requires : goal.range-place-items-requires
range-place-items-requires c = rw (c.in_ok-past.ensures, c.in_ok-least.ensures) (least_in-is_forward c.args.folder.now)

pub nodes-init : goal.nodes-init
nodes-init c =
    let between = rw (c.in_ok-past.ensures, c.in_ok-least.ensures) at (c.range-place-items.ensures.between tt) in
    let all : listing_of c.args.folder.now c.range-place-items.result ≡ listing_of c.args.folder.now c.args.nodes.now.entries = ap (listing_of c.args.folder.now) between ∙ listing_of-between c.args.folder.now c.args.nodes.now.entries in
    rw (c.new-entries.ensures, c.into_iter-place-iterator.ensures.into_iter_gives) all

all_listed : (c : goal.In-None) → map listed_entry c.nodes.entries ≡ listing_of c.args.folder.now c.args.nodes.now.entries
all_listed c =
    sym (append-nil _) ∙ ap (λ (left : List (Place × StoredNode)). map listed_entry c.nodes.entries ++ listing_of c.args.folder.now left) (sym c.in-None.ensures.steps.0) ∙ c.nodes.invariant

pub returns-clause-answer : goal.returns-clause-answer
returns-clause-answer c = all_listed c ∙ sym (entries_in-content_of c.args.folder.now c.args.nodes.now.entries c.requires)

pub returns-clause-ordered : goal.returns-clause-ordered
returns-clause-ordered c = IsInNameOrder-listing_of c.args.folder.now c.args.nodes.now.entries c.nodes.entries c.requires (all_listed c)
