-- A text on one line, written piece by piece.
use Rattle.std.proofs.Common.{◌≡◌, ◌≢◌, refl, ap, ap₂, sym, ◌∙◌, ℕ, suc, ◌<◌, List, [], ◌∷◌, ◌++◌, append_assoc, length, get_or, arith, Result, Ok, Err, is_ok, OnOk, if◌then◌else◌, Bool, true, false, ◌||◌}
use borrow.Author.Tests.{ne_eqb}
use Rattle.std.proofs.lemmas.Bool.{cond-false}
use Rattle.std.specs.List.{list_any}
use Rattle.diag_core.specs.Position.{is_line_feed}
use Rattle.diag_print.specs.Human.{flat_byte, flat_text}

-- no byte is a line feed
abbrev pub LacksFeed : List ℕ → Type 0
LacksFeed bytes = (i : ℕ) → i < length bytes → get_or bytes i 0 ≢ 10

flat_byte-other : (byte : ℕ) → byte ≢ 10 → flat_byte byte ≡ byte
flat_byte-other byte h = cond-false _ _ _ (ne_eqb byte 10 h)

-- a text with no line feed stays as it is
pub flat-plain : (text : List ℕ) → LacksFeed text → flat_text text ≡ text
flat-plain [] h = refl
flat-plain (byte ∷ text) h = ap₂ ◌∷◌ (flat_byte-other byte (h 0 (omega arith))) (flat-plain text (λ i below. h (suc i) (omega arith)))

-- the first line feed becomes a space
flat-feed : (line after : List ℕ) → LacksFeed line → flat_text (line ++ 10 ∷ after) ≡ line ++ 32 ∷ flat_text after
flat-feed [] after h = refl
flat-feed (byte ∷ line) after h = ap₂ ◌∷◌ (flat_byte-other byte (h 0 (omega arith))) (flat-feed line after (λ i below. h (suc i) (omega arith)))

-- where a line and a space are written, the rest is still to come
pub flat_step : (old middle new line after rest whole : List ℕ) → rest ≡ line ++ 10 ∷ after → LacksFeed line → middle ≡ old ++ line → new ≡ middle ++ 32 ∷ [] → old ++ flat_text rest ≡ whole → new ++ flat_text after ≡ whole
flat_step old middle new line after rest whole cut lacks first second e =
    ap (λ text. text ++ flat_text after) (second ∙ ap (λ text. text ++ 32 ∷ []) first)
    ∙ append_assoc (old ++ line) (32 ∷ []) (flat_text after)
    ∙ append_assoc old line (32 ∷ flat_text after)
    ∙ ap (λ text. old ++ text) (sym (flat-feed line after lacks) ∙ ap flat_text (sym cut))
    ∙ e

-- where the rest is appended, the whole is written
pub OnOk-appended : {T E : Type 0} (result : Result T E) (old rest new whole : List ℕ) → new ≡ (if is_ok result then old ++ rest else old) → old ++ rest ≡ whole → OnOk result (new ≡ whole)
OnOk-appended (Ok value) old rest new whole appended e = appended ∙ e
OnOk-appended (Err error) old rest new whole appended e = tt

flat_by : (b : Bool) (byte : ℕ) (text : List ℕ) → (list_any is_line_feed text ≡ false → flat_text text ≡ text) → (b || list_any is_line_feed text) ≡ false → (if b then 32 else byte) ∷ flat_text text ≡ byte ∷ text
flat_by true byte text rest none = let bad : true ≡ false = none in cc
flat_by false byte text rest none = ap (λ others. byte ∷ others) (rest none)

-- a text in which no line feed is found stays as it is
pub flat-none : (text : List ℕ) → list_any is_line_feed text ≡ false → flat_text text ≡ text
flat-none [] none = refl
flat-none (byte ∷ text) none = flat_by (is_line_feed byte) byte text (flat-none text) none
