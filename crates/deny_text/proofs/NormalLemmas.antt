-- Lines and normal forms, byte by byte and line by line.
use Rattle.std.proofs.Common.{◌≡◌, ◌≢◌, refl, ap, ap₂, sym, subst, ◌∙◌, ℕ, suc, ◌<◌, Bool, true, false, ◌==◌, ◌&&◌, ◌||◌, if◌then◌else◌, List, [], ◌∷◌, ◌++◌, append_assoc, append-nil, length, get_or, arith}
use borrow.Author.Tests.{ne_eqb}
use Rattle.std.specs.List.{flat_map}
use Rattle.std.proofs.lemmas.Bool.{cond-true, cond-false}
use Rattle.deny_text.specs.Normal.{line_feed, carriage_return, onto_line, lines_of, is_line_end, is_nothing, line_body, normal_line, normal_of, with_returns, NormalIsNormal, NormalIgnoresReturns}

-- no byte is a LF
abbrev pub LacksFeed : List ℕ → Type 0
LacksFeed bytes = (i : ℕ) → i < length bytes → get_or bytes i 0 ≢ line_feed

and_false : (b : Bool) → (b && false) ≡ false
and_false true = refl
and_false false = refl

-- a line that holds no LF, and the LF after it
lines_of-feed : (line rest : List ℕ) → LacksFeed line → lines_of (line ++ line_feed ∷ rest) ≡ (line ++ line_feed ∷ []) ∷ lines_of rest
lines_of-feed [] rest h = refl
lines_of-feed (byte ∷ line) rest h =
    cond-false _ _ _ (ne_eqb byte line_feed (h 0 (omega arith)))
    ∙ ap (onto_line byte) (lines_of-feed line rest (λ i below. h (suc i) (omega arith)))

-- a text with no LF
lines_of-last : (byte : ℕ) (bytes : List ℕ) → LacksFeed (byte ∷ bytes) → lines_of (byte ∷ bytes) ≡ (byte ∷ bytes) ∷ []
lines_of-last byte [] h = cond-false _ _ _ (ne_eqb byte line_feed (h 0 (omega arith)))
lines_of-last byte (next ∷ bytes) h =
    cond-false _ _ _ (ne_eqb byte line_feed (h 0 (omega arith)))
    ∙ ap (onto_line byte) (lines_of-last next bytes (λ i below. h (suc i) (omega arith)))

-- the byte before what is left of a line
before_body : ℕ → List ℕ → List ℕ
before_body byte body = if (is_line_end byte && is_nothing body) then [] else byte ∷ body

before_body-kept : (byte : ℕ) (body : List ℕ) → is_nothing body ≡ false → before_body byte body ≡ byte ∷ body
unfolding before_body
before_body-kept byte body some = cond-false _ _ _ (ap (λ t. is_line_end byte && t) some ∙ and_false (is_line_end byte))

-- CR and LF at the end do not count
pub line_body-end : (line : List ℕ) (byte : ℕ) → is_line_end byte ≡ true → line_body (line ++ byte ∷ []) ≡ line_body line
unfolding before_body
line_body-end [] byte h = cond-true _ _ _ (ap (λ t. t && true) h)
line_body-end (first ∷ line) byte h = ap (before_body first) (line_body-end line byte h)

-- a line that ends in neither is its own body
pub line_body-same : (line : List ℕ) → ((front : List ℕ) → line ≢ front ++ carriage_return ∷ []) → ((front : List ℕ) → line ≢ front ++ line_feed ∷ []) → line_body line ≡ line
unfolding before_body
line_body-same [] no_return no_feed = refl
line_body-same (byte ∷ []) no_return no_feed =
    let plain : is_line_end byte ≡ false =
    ap₂ ◌||◌ (ne_eqb byte line_feed (λ e. no_feed [] (ap (λ b. b ∷ []) e))) (ne_eqb byte carriage_return (λ e. no_return [] (ap (λ b. b ∷ []) e))) in
    cond-false _ _ _ (ap (λ t. t && true) plain)
line_body-same (byte ∷ next ∷ line) no_return no_feed =
    ap (before_body byte) (line_body-same (next ∷ line) (λ front e. no_return (byte ∷ front) (ap (λ l. byte ∷ l) e)) (λ front e. no_feed (byte ∷ front) (ap (λ l. byte ∷ l) e)))
    ∙ before_body-kept byte (next ∷ line) refl

pub normal_of-feed : (text line rest : List ℕ) → text ≡ line ++ line_feed ∷ rest → LacksFeed line → normal_of text ≡ line_body line ++ line_feed ∷ normal_of rest
unfolding normal_of
normal_of-feed text line rest e h =
    ap (λ t. flat_map normal_line (lines_of t)) e
    ∙ ap (flat_map normal_line) (lines_of-feed line rest h)
    ∙ ap (λ body. (body ++ line_feed ∷ []) ++ flat_map normal_line (lines_of rest)) (line_body-end line line_feed refl)
    ∙ append_assoc (line_body line) (line_feed ∷ []) (flat_map normal_line (lines_of rest))

pub normal_of-last : (text : List ℕ) → 0 < length text → LacksFeed text → normal_of text ≡ line_body text ++ line_feed ∷ normal_of []
unfolding normal_of
normal_of-last [] some h = absurd (omega arith)
normal_of-last (byte ∷ bytes) some h =
    ap (flat_map normal_line) (lines_of-last byte bytes h)
    ∙ append-nil (line_body (byte ∷ bytes) ++ line_feed ∷ [])

-- ---- the normal form, byte by byte

-- a text of lines, with one at least
ended : List ℕ → List ℕ
ended [] = line_feed ∷ []
ended (byte ∷ bytes) = byte ∷ bytes

begins_with_feed : List ℕ → Bool
begins_with_feed [] = false
begins_with_feed (byte ∷ bytes) = byte == line_feed

-- a byte that is no LF before such a text: a CR before a LF is lost
onto_ended : ℕ → List ℕ → List ℕ
onto_ended byte normal = if (byte == carriage_return && begins_with_feed normal) then normal else byte ∷ normal

onto_normal : ℕ → List ℕ → List ℕ
onto_normal byte normal = if byte == line_feed then line_feed ∷ normal else onto_ended byte (ended normal)

-- the first line's body does not begin with a LF
FirstIsPlain : List (List ℕ) → Type 0
FirstIsPlain [] = Unit {0}
FirstIsPlain (line ∷ lines) = begins_with_feed (line_body line) ≡ false

by_test : {G : Type 0} (b : Bool) → (b ≡ true → G) → (b ≡ false → G) → G
by_test true where_true where_false = where_true refl
by_test false where_true where_false = where_false refl

body_plain : (byte : ℕ) (body : List ℕ) → (byte == line_feed) ≡ false → begins_with_feed (before_body byte body) ≡ false
unfolding begins_with_feed before_body
body_plain byte body h = elim (is_line_end byte && is_nothing body) as (λ t. begins_with_feed (if t then [] else byte ∷ body) ≡ false) [ true ↦ refl | false ↦ h ]

onto_line_plain : (byte : ℕ) (lines : List (List ℕ)) → (byte == line_feed) ≡ false → FirstIsPlain (onto_line byte lines)
unfolding before_body FirstIsPlain
onto_line_plain byte [] h = body_plain byte [] h
onto_line_plain byte (line ∷ lines) h = body_plain byte (line_body line) h

line_feed_body : (byte : ℕ) → (byte == line_feed) ≡ true → line_body (byte ∷ []) ≡ []
line_feed_body byte h = cond-true _ _ _ (ap (λ t. (t || byte == carriage_return) && true) h)

first_is_plain : (text : List ℕ) → FirstIsPlain (lines_of text)
unfolding begins_with_feed FirstIsPlain
first_is_plain [] = tt
first_is_plain (byte ∷ bytes) = by_test (byte == line_feed)
    (λ yes. subst FirstIsPlain (sym (cond-true _ ((byte ∷ []) ∷ lines_of bytes) (onto_line byte (lines_of bytes)) yes)) (ap begins_with_feed (line_feed_body byte yes)))
    (λ no. subst FirstIsPlain (sym (cond-false _ ((byte ∷ []) ∷ lines_of bytes) (onto_line byte (lines_of bytes)) no)) (onto_line_plain byte (lines_of bytes) no))

-- a byte that is no LF before the lines that follow
onto_lines : (byte : ℕ) (lines : List (List ℕ)) → (byte == line_feed) ≡ false → FirstIsPlain lines
    → flat_map normal_line (onto_line byte lines) ≡ onto_ended byte (ended (flat_map normal_line lines))
unfolding ended onto_ended begins_with_feed FirstIsPlain
onto_lines byte [] h plain =
    ap (λ t. (if (t || byte == carriage_return) && true then [] else byte ∷ []) ++ line_feed ∷ [] ++ []) h
    ∙ return_test (byte == carriage_return)
  where
    return_test : (t : Bool) → (if t && true then [] else byte ∷ []) ++ line_feed ∷ [] ++ [] ≡ (if t && true then line_feed ∷ [] else byte ∷ line_feed ∷ [])
    return_test true = refl
    return_test false = refl
onto_lines byte (line ∷ lines) h plain = go (line_body line) plain
  where
    return_test : (t : Bool) → (if t && true then [] else byte ∷ []) ++ line_feed ∷ [] ++ flat_map normal_line lines
        ≡ (if t && true then line_feed ∷ flat_map normal_line lines else byte ∷ line_feed ∷ flat_map normal_line lines)
    return_test true = refl
    return_test false = refl

    go : (body : List ℕ) → begins_with_feed body ≡ false
        → ((if (is_line_end byte && is_nothing body) then [] else byte ∷ body) ++ line_feed ∷ []) ++ flat_map normal_line lines
        ≡ onto_ended byte (ended ((body ++ line_feed ∷ []) ++ flat_map normal_line lines))
    go [] p = ap (λ t. (if (t || byte == carriage_return) && true then [] else byte ∷ []) ++ line_feed ∷ [] ++ flat_map normal_line lines) h ∙ return_test (byte == carriage_return)
    go (first ∷ body) p =
        ap (λ kept. kept ++ line_feed ∷ [] ++ flat_map normal_line lines) (cond-false _ [] (byte ∷ first ∷ body) (and_false (is_line_end byte)))
        ∙ sym (cond-false _ _ _ (ap (λ t. byte == carriage_return && t) p ∙ and_false (byte == carriage_return)))

normal_of-cons : (byte : ℕ) (bytes : List ℕ) → normal_of (byte ∷ bytes) ≡ onto_normal byte (normal_of bytes)
unfolding normal_of onto_normal
normal_of-cons byte bytes = by_test (byte == line_feed)
    (λ yes.
    ap (flat_map normal_line) (cond-true _ ((byte ∷ []) ∷ lines_of bytes) (onto_line byte (lines_of bytes)) yes)
    ∙ ap (λ body. body ++ line_feed ∷ [] ++ flat_map normal_line (lines_of bytes)) (line_feed_body byte yes)
    ∙ sym (cond-true _ _ _ yes))
    (λ no.
    ap (flat_map normal_line) (cond-false _ ((byte ∷ []) ∷ lines_of bytes) (onto_line byte (lines_of bytes)) no)
    ∙ onto_lines byte (lines_of bytes) no (first_is_plain bytes)
    ∙ sym (cond-false _ _ _ no))

normal_of-ended : (normal : List ℕ) → normal_of normal ≡ normal → normal_of (ended normal) ≡ ended normal
unfolding ended normal_of
normal_of-ended [] e = refl
normal_of-ended (byte ∷ normal) e = e

-- a byte that is no LF before a normal form with a line at least
normal_of-onto_ended : (byte first : ℕ) (rest : List ℕ) → (byte == line_feed) ≡ false → normal_of (first ∷ rest) ≡ first ∷ rest → normal_of (onto_ended byte (first ∷ rest)) ≡ onto_ended byte (first ∷ rest)
unfolding onto_ended onto_normal ended
normal_of-onto_ended byte first rest h e = by_test (byte == carriage_return && begins_with_feed (first ∷ rest))
    (λ yes. ap normal_of (cond-true _ (first ∷ rest) (byte ∷ first ∷ rest) yes) ∙ e ∙ sym (cond-true _ (first ∷ rest) (byte ∷ first ∷ rest) yes))
    (λ no. ap normal_of (cond-false _ (first ∷ rest) (byte ∷ first ∷ rest) no) ∙ normal_of-cons byte (first ∷ rest) ∙ ap (onto_normal byte) e ∙ cond-false _ _ _ h)

normal_of-onto_some : (byte : ℕ) (normal : List ℕ) → (byte == line_feed) ≡ false → normal_of (ended normal) ≡ ended normal → normal_of (onto_ended byte (ended normal)) ≡ onto_ended byte (ended normal)
unfolding ended
normal_of-onto_some byte [] h e = normal_of-onto_ended byte line_feed [] h e
normal_of-onto_some byte (first ∷ rest) h e = normal_of-onto_ended byte first rest h e

normal_of-onto_normal : (byte : ℕ) (normal : List ℕ) → normal_of normal ≡ normal → normal_of (onto_normal byte normal) ≡ onto_normal byte normal
unfolding onto_normal
normal_of-onto_normal byte normal e = by_test (byte == line_feed)
    (λ yes. ap normal_of (cond-true _ (line_feed ∷ normal) _ yes) ∙ normal_of-cons line_feed normal ∙ ap (λ n. line_feed ∷ n) e ∙ sym (cond-true _ _ _ yes))
    (λ no. ap normal_of (cond-false _ (line_feed ∷ normal) _ no) ∙ normal_of-onto_some byte normal no (normal_of-ended normal e) ∙ sym (cond-false _ _ _ no))

normal_of-empty : normal_of (normal_of []) ≡ normal_of []
unfolding normal_of
normal_of-empty = refl

pub normal_is_normal : NormalIsNormal
normal_is_normal [] = normal_of-empty
normal_is_normal (byte ∷ bytes) = ap normal_of (normal_of-cons byte bytes) ∙ normal_of-onto_normal byte (normal_of bytes) (normal_is_normal bytes) ∙ sym (normal_of-cons byte bytes)

normal_of-return_feed : (text : List ℕ) → normal_of (carriage_return ∷ line_feed ∷ text) ≡ line_feed ∷ normal_of text
unfolding onto_normal onto_ended ended begins_with_feed
normal_of-return_feed text = normal_of-cons carriage_return (line_feed ∷ text) ∙ ap (onto_normal carriage_return) (normal_of-cons line_feed text)

pub normal_ignores_returns : NormalIgnoresReturns
unfolding onto_normal
normal_ignores_returns [] = refl
normal_ignores_returns (byte ∷ bytes) = by_test (byte == line_feed)
    (λ yes.
    ap (λ front. normal_of (front ++ with_returns bytes)) (cond-true _ (carriage_return ∷ line_feed ∷ []) (byte ∷ []) yes)
    ∙ normal_of-return_feed (with_returns bytes)
    ∙ ap (λ normal. line_feed ∷ normal) (normal_ignores_returns bytes)
    ∙ sym (normal_of-cons byte bytes ∙ cond-true _ _ _ yes))
    (λ no.
    ap (λ front. normal_of (front ++ with_returns bytes)) (cond-false _ (carriage_return ∷ line_feed ∷ []) (byte ∷ []) no)
    ∙ normal_of-cons byte (with_returns bytes)
    ∙ ap (onto_normal byte) (normal_ignores_returns bytes)
    ∙ sym (normal_of-cons byte bytes))
