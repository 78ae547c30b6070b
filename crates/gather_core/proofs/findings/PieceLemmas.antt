-- Pieces that are written one after another.
use Rattle.std.proofs.Common.{◌≡◌, ◌∙◌, ℕ, ◌+◌, ◌<◌, length, take, get_or, List, [], ◌∷◌, ◌++◌, Option, sym, ap, append-nil}
use Rattle.std.specs.List.{flat_map}
use Rattle.std.proofs.lemmas.List.{take_more}
use Rattle.std.proofs.lemmas.List.Concat.{flat_map-append}
use Rattle.std.proofs.lemmas.List.Sums.{fold-append}
use Rattle.graph_core.specs.Krate.{CrateRecord}
use Rattle.diag_core.specs.texts.Synthetic.{Bit, PlacedText, nothing_kept, with_piece, written_all}
use Rattle.gather_core.specs.findings.Pieces.{SeenFilesView, crate_kept, head_pieces, joined_pieces, seen_pieces}

-- the pieces of one more of the items
pub item_written : {A : Type 0} (pieces : A → List Bit) (kept : PlacedText) (items : List A) (i : ℕ) (item : A) → i < length items → item ≡ get_or items i item
    → written_all (written_all kept (flat_map pieces (take i items))) (pieces item) ≡ written_all kept (flat_map pieces (take (i + 1) items))
item_written {A} pieces kept items i item inside is =
    sym (ap (λ (some : List A). written_all kept (flat_map pieces some)) (take_more items i item inside ∙ ap (λ (one : A). take i items ++ one ∷ []) (sym is))
    ∙ ap (written_all kept) (flat_map-append pieces (take i items) (item ∷ []) ∙ ap (λ (last : List Bit). flat_map pieces (take i items) ++ last) (append-nil (pieces item)))
    ∙ fold-append with_piece kept (flat_map pieces (take i items)) (pieces item))

-- three lists of pieces
pub three_written : (kept : PlacedText) (first second third : List Bit) → written_all (written_all (written_all kept first) second) third ≡ written_all kept (first ++ second ++ third)
three_written kept first second third =
    sym (fold-append with_piece kept (first ++ second) third ∙ ap (λ (so_far : PlacedText). written_all so_far third) (fold-append with_piece kept first second))

-- the pieces of a crate, in three steps
pub crate_written : (krate : CrateRecord) (folder : List ℕ) (joined : Option (List ℕ)) (seen : SeenFilesView) (first second third : PlacedText) → first ≡ written_all nothing_kept (head_pieces krate)
    → second ≡ written_all first (joined_pieces joined) → third ≡ written_all second (seen_pieces folder seen) → third ≡ crate_kept krate folder joined seen
crate_written krate folder joined seen first second third head middle last =
    last ∙ ap (λ (kept : PlacedText). written_all kept (seen_pieces folder seen)) (middle ∙ ap (λ (kept : PlacedText). written_all kept (joined_pieces joined)) head)
    ∙ three_written nothing_kept (head_pieces krate) (joined_pieces joined) (seen_pieces folder seen)
