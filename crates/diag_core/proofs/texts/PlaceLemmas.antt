-- The places of marked pieces, while the text grows.
use Rattle.std.proofs.Common.{◌≡◌, ℕ, ◌+◌, ◌-◌, List, [], ◌∷◌, ◌++◌, length, map, take, drop, refl, sym, ap, ◌∙◌, append_assoc, append-nil, arith}
use Rattle.std.specs.List.{All}
use Rattle.std.specs.Str.{IsUtf8}
use Rattle.std.proofs.lemmas.List.{take-append-le, drop-append-le, length-append, length-drop, take_all, map-append}
use Rattle.std.proofs.lemmas.List.Elements.{All-nil, All-head, All-tail, All-push, All-weaker}
use Rattle.std.proofs.lemmas.Str.{IsUtf8-append, IsUtf8-nil}
use Rattle.std.proofs.Math.Seq.{drop-append_seam, take-append_seam}
use Rattle.deny_text.specs.declared.span.Span.{Span}
use Rattle.deny_text.specs.Spans.{LiesIn}
use Rattle.diag_core.specs.texts.Synthetic.{Bit, plain, marked, PlacedText, nothing_kept, place_behind, with_piece, written_all, bytes_of, marked_of, text_at, IsBetweenCharacters, PlacesCutOut}

LiesIn-grown : (text more : List ℕ) (span : Span) → LiesIn text span → LiesIn (text ++ more) span
LiesIn-grown text more span lies = (lies.0, omega (arith, lies.1, length-append text more))

cut-grown : (text more : List ℕ) (span : Span) → LiesIn text span → text_at (text ++ more) span ≡ text_at text span
cut-grown text more span lies =
    ap (take (span.end - span.start)) (drop-append-le span.start text more (omega (arith, lies.0, lies.1)))
    ∙ take-append-le (span.end - span.start) (drop span.start text) more (omega (arith, lies.0, lies.1, length-drop span.start text))

cuts-grown : (text more : List ℕ) (spans : List Span) → All (LiesIn text) spans → map (text_at (text ++ more)) spans ≡ map (text_at text) spans
cuts-grown text more [] lie = refl
cuts-grown text more (span ∷ spans) lie =
    let here = cut-grown text more span (All-head (LiesIn text) span spans lie) in
    let rest = cuts-grown text more spans (All-tail (LiesIn text) span spans lie) in
    rw (here, rest) refl

cut-behind : (text bytes : List ℕ) → text_at (text ++ bytes) (place_behind text bytes) ≡ bytes
cut-behind text bytes =
    ap (take (length text + length bytes - length text)) (drop-append_seam text bytes) ∙ take_all (length text + length bytes - length text) bytes (omega arith)

LiesIn-behind : (text bytes : List ℕ) → LiesIn (text ++ bytes) (place_behind text bytes)
LiesIn-behind text bytes = (omega arith, omega (arith, length-append text bytes))

-- with one more piece
lie_written : (kept : PlacedText) (piece : Bit) → All (LiesIn kept.text) kept.spans → All (LiesIn (with_piece kept piece).text) (with_piece kept piece).spans
lie_written kept (plain bytes) lie = All-weaker (LiesIn kept.text) (LiesIn (kept.text ++ bytes)) (LiesIn-grown kept.text bytes) kept.spans lie
lie_written kept (marked bytes) lie =
    All-push (LiesIn (kept.text ++ bytes)) kept.spans (place_behind kept.text bytes)
    (All-weaker (LiesIn kept.text) (LiesIn (kept.text ++ bytes)) (LiesIn-grown kept.text bytes) kept.spans lie) (LiesIn-behind kept.text bytes)

lie_all : (kept : PlacedText) (pieces : List Bit) → All (LiesIn kept.text) kept.spans → All (LiesIn (written_all kept pieces).text) (written_all kept pieces).spans
lie_all kept [] lie = lie
lie_all kept (piece ∷ pieces) lie = lie_all (with_piece kept piece) pieces (lie_written kept piece lie)

cuts_all : (kept : PlacedText) (pieces : List Bit) → All (LiesIn kept.text) kept.spans → map (text_at (written_all kept pieces).text) (written_all kept pieces).spans ≡ map (text_at kept.text) kept.spans ++ marked_of pieces
cuts_all kept [] lie = sym (append-nil (map (text_at kept.text) kept.spans))
cuts_all kept (plain bytes ∷ pieces) lie =
    cuts_all (with_piece kept (plain bytes)) pieces (lie_written kept (plain bytes) lie)
    ∙ ap (λ front. front ++ marked_of pieces) (cuts-grown kept.text bytes kept.spans lie)
cuts_all kept (marked bytes ∷ pieces) lie =
    let grown = cuts-grown kept.text bytes kept.spans lie in
    let own = cut-behind kept.text bytes in
    cuts_all (with_piece kept (marked bytes)) pieces (lie_written kept (marked bytes) lie)
    ∙ ap (λ front. front ++ marked_of pieces) (map-append (text_at (kept.text ++ bytes)) kept.spans (place_behind kept.text bytes ∷ []))
    ∙ rw (grown, own) (append_assoc (map (text_at kept.text) kept.spans) (bytes ∷ []) (marked_of pieces))

-- a place in a text, between its characters
abbrev pub StandsIn : List ℕ → Span → Type 0
StandsIn text span = LiesIn text span × IsBetweenCharacters text span

StandsIn-grown : (text more : List ℕ) (span : Span) → StandsIn text span → StandsIn (text ++ more) span
StandsIn-grown text more span stands =
    let start : take span.start (text ++ more) ≡ take span.start text = take-append-le span.start text more (omega (arith, stands.0.0, stands.0.1)) in
    let end : take span.end (text ++ more) ≡ take span.end text = take-append-le span.end text more stands.0.1 in
    (LiesIn-grown text more span stands.0, (rw start stands.1.0, rw end stands.1.1))

StandsIn-behind : (text bytes : List ℕ) → IsUtf8 text → IsUtf8 bytes → StandsIn (text ++ bytes) (place_behind text bytes)
StandsIn-behind text bytes is_text is_piece =
    let whole : take (length text + length bytes) (text ++ bytes) ≡ text ++ bytes = take_all (length text + length bytes) (text ++ bytes) (omega (arith, length-append text bytes)) in
    (LiesIn-behind text bytes, (rw (take-append_seam text bytes) is_text, rw whole (IsUtf8-append text bytes is_text is_piece)))

stand_written : (kept : PlacedText) (piece : Bit) → IsUtf8 kept.text → IsUtf8 (bytes_of piece) → All (StandsIn kept.text) kept.spans → All (StandsIn (with_piece kept piece).text) (with_piece kept piece).spans
stand_written kept (plain bytes) is_text is_piece stand = All-weaker (StandsIn kept.text) (StandsIn (kept.text ++ bytes)) (StandsIn-grown kept.text bytes) kept.spans stand
stand_written kept (marked bytes) is_text is_piece stand =
    All-push (StandsIn (kept.text ++ bytes)) kept.spans (place_behind kept.text bytes)
    (All-weaker (StandsIn kept.text) (StandsIn (kept.text ++ bytes)) (StandsIn-grown kept.text bytes) kept.spans stand) (StandsIn-behind kept.text bytes is_text is_piece)

text_written : (kept : PlacedText) (piece : Bit) → IsUtf8 kept.text → IsUtf8 (bytes_of piece) → IsUtf8 (with_piece kept piece).text
text_written kept (plain bytes) is_text is_piece = IsUtf8-append kept.text bytes is_text is_piece
text_written kept (marked bytes) is_text is_piece = IsUtf8-append kept.text bytes is_text is_piece

stand_all : (kept : PlacedText) (pieces : List Bit) → IsUtf8 kept.text → All (λ piece. IsUtf8 (bytes_of piece)) pieces → All (StandsIn kept.text) kept.spans → All (StandsIn (written_all kept pieces).text) (written_all kept pieces).spans
stand_all kept [] is_text are_pieces stand = stand
stand_all kept (piece ∷ pieces) is_text are_pieces stand =
    let here = All-head (λ (p : Bit). IsUtf8 (bytes_of p)) piece pieces are_pieces in
    stand_all (with_piece kept piece) pieces (text_written kept piece is_text here) (All-tail (λ (p : Bit). IsUtf8 (bytes_of p)) piece pieces are_pieces)
    (stand_written kept piece is_text here stand)

pub places_cut_out : (pieces : List Bit) → PlacesCutOut pieces
places_cut_out pieces = record {
  cut_out = cuts_all nothing_kept pieces (All-nil (LiesIn []));
  inside = lie_all nothing_kept pieces (All-nil (LiesIn []));
  between = λ are_pieces. All-weaker (StandsIn (written_all nothing_kept pieces).text) (IsBetweenCharacters (written_all nothing_kept pieces).text) (λ span stands. stands.1) (written_all nothing_kept pieces).spans (stand_all nothing_kept pieces IsUtf8-nil are_pieces (All-nil (StandsIn [])));
}
