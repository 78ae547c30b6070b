-- The line feeds of a text, as a search finds them.
use Rattle.std.proofs.Common.{◌≡◌, ◌∙◌, sym, ap, ap₂, add-one, ℕ, zero, suc, ◌+◌, ◌-◌, ◌==◌, Bool, true, false, cond, List, [], ◌∷◌, ◌++◌, length, slice_index, map, append_assoc, drop, drop-cons, arith}
use Rattle.std.proofs.lemmas.List.{drop_all}
use Rattle.memchr.specs.Find.{is_byte, places_from, places}
use Rattle.diag_core.specs.Position.{line_starts, places_behind_line_feeds}

-- behind each line feed from a place on
behind_from : (text : List ℕ) (place n : ℕ) → place + n ≡ length text
    → map (λ feed. feed + 1) (places_from (is_byte 10) text place n) ≡ places_behind_line_feeds place (drop place text)
unfolding places_from
behind_from text place zero long = ap (places_behind_line_feeds place) (sym (drop_all place text (omega arith)))
behind_from text place (suc n) long =
    by (slice_index text place == 10) (behind_from text (place + 1) n (omega arith) ∙ ap (λ p. places_behind_line_feeds p (drop p text)) (add-one place))
    ∙ ap (places_behind_line_feeds place) (sym (drop-cons text place 0 (omega arith)))
  where
    feeds : List ℕ
    feeds = places_from (is_byte 10) text (place + 1) n

    behind : List ℕ
    behind = places_behind_line_feeds (suc place) (drop (suc place) text)

    by : (b : Bool) → map (λ feed. feed + 1) feeds ≡ behind → map (λ feed. feed + 1) (cond b (place ∷ feeds) feeds) ≡ cond b (suc place ∷ behind) behind
    by true same = ap₂ (λ x xs. x ∷ xs) (add-one place) same
    by false same = same

-- the lines start at 0 and behind each line feed
pub starts_at_feeds : (text : List ℕ) → 0 ∷ map (λ feed. feed + 1) (places (is_byte 10) text) ≡ line_starts text
unfolding line_starts
starts_at_feeds text = ap (λ starts. 0 ∷ starts) (behind_from text 0 (length text - 0) (omega arith))

-- the starts, with the one behind the next line feed
pub one_more : (starts all found later : List ℕ) (feed : ℕ) → found ≡ feed ∷ later → starts ++ map (λ feed. feed + 1) found ≡ all
    → (starts ++ (feed + 1) ∷ []) ++ map (λ feed. feed + 1) later ≡ all
one_more starts all found later feed first before =
    append_assoc starts ((feed + 1) ∷ []) (map (λ feed. feed + 1) later) ∙ ap (λ feeds. starts ++ map (λ feed. feed + 1) feeds) (sym first) ∙ before
