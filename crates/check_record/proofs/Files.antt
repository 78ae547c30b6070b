-- A whole file.
use Rattle.std.proofs.Common.{◌≡◌, ◌∙◌, refl, sym, ap, subst, inl, inr, ℕ, zero, suc, ◌+◌, ◌<◌, ◌≤◌, ◌==◌, Bool, true, false, cond, eqb, eqb-true, List, [], ◌∷◌, ◌++◌, append_assoc, append-nil, length, length-append, Option, Some, None, Err, codes, decimal, flat_map, arith}
use Rattle.std.specs.List.{AllByRecursion}
use Rattle.std.proofs.lemmas.List.{nil_from_length}
use Rattle.check_record.specs.declared.items.RecordItem.{RecordItem}
use Rattle.check_record.specs.declared.error.RecordError.{RecordError}
use Rattle.check_record.specs.declared.error.RecordError.TheVariants.{Syntax, Memory}
use Rattle.check_record.specs.Decoded.{AnswersDecode, Spells}
use Rattle.check_record.specs.Items.{IsRecord, IsRecordItem, all_rise, ids_of, is_before}
use Rattle.check_record.specs.Laws.{SpellingsEndThemselves}
use Rattle.check_record.specs.Spelling.{item_text, spelled_of, verdict_text}
use Rattle.check_record.specs.Reading.{◌>>=◌, Misses, begins, behind_text, item_at, items_on, record_at, whole_at}
use Rattle.check_record.proofs.Lines.{item_again, item_takes}
use Rattle.check_record.proofs.Steps.{begins_is, behind_text_again, behind_text_is, bind_some, passes, pick, some_is}

abbrev items_pair : List RecordItem → List ℕ → List RecordItem × List ℕ
items_pair items rest = (items, rest)

-- ---- lines

items_end : (most : ℕ) (front : List RecordItem) (rest : List ℕ) → begins 99 rest ≡ false → items_on most front rest ≡ Some (front, rest)
unfolding items_on
items_end zero front rest ends = refl
items_end (suc most) front rest ends = rw ends refl

items_again : (items front : List RecordItem) (rest : List ℕ) (most : ℕ) → AllByRecursion IsRecordItem items → length items ≤ most → begins 99 rest ≡ false
    → items_on most front (flat_map item_text items ++ rest) ≡ Some (front ++ items, rest)
unfolding items_on
items_again [] front rest most each enough ends = items_end most front rest ends ∙ ap (λ (i : List RecordItem). Some (i, rest)) (sym (append-nil front))
items_again (item ∷ items) front rest zero each enough ends = absurd (omega arith)
items_again (item ∷ items) front rest (suc most) each enough ends =
    let more = flat_map item_text items in
    let one : item_at ((item_text item ++ more) ++ rest) ≡ Some (item, more ++ rest) =
    ap item_at (append_assoc (item_text item) more rest) ∙ item_again item (more ++ rest) each.0 in
    let others = items_again items (front ++ item ∷ []) rest most each.1 (omega arith) ends in
    rw one (others ∙ ap (λ (i : List RecordItem). Some (i, rest)) (append_assoc front (item ∷ []) items))

items_count : (items : List RecordItem) (rest : List ℕ) → length items ≤ length (flat_map item_text items ++ rest)
items_count [] rest = omega arith
items_count (item ∷ items) rest =
    let line = decimal (length item.id) ++ (58 ∷ (item.id ++ (verdict_text item.verdict ++ (10 ∷ [])))) in
    let more = flat_map item_text items in
    let others = items_count items rest in
    omega (arith, length-append (line ++ more) rest, length-append line more, length-append more rest)

-- the lines behind others, and what is behind them
record TakesItems (front : List RecordItem) (bytes : List ℕ) (all : List RecordItem) (rest : List ℕ) : Type 0 where
  items : List RecordItem
  all_are : all ≡ front ++ items
  parts : bytes ≡ flat_map item_text items ++ rest
  each : AllByRecursion IsRecordItem items

no_items : (front : List RecordItem) (bytes : List ℕ) (all : List RecordItem) (rest : List ℕ) → items_pair front bytes ≡ items_pair all rest → TakesItems front bytes all rest
no_items front bytes all rest e =
    subst (λ (q : List RecordItem × List ℕ). TakesItems front bytes q.0 q.1) e (record { items = []; all_are = sym (append-nil front); parts = refl; each = tt })

items_take : (most : ℕ) (front : List RecordItem) (bytes : List ℕ) (all : List RecordItem) (rest : List ℕ) → items_on most front bytes ≡ Some (all, rest) → TakesItems front bytes all rest
unfolding items_on
items_take zero front bytes all rest e = no_items front bytes all rest (some_is (items_pair front bytes) (items_pair all rest) e)
items_take (suc most) front bytes all rest e =
    elim (pick (begins 99 bytes) (item_at bytes >>= λ next. items_on most (front ++ next.0 ∷ []) next.1) (Some (front, bytes)) (Some (all, rest)) e) [
      | inl p ↦
          let s = bind_some (item_at bytes) (λ next. items_on most (front ++ next.0 ∷ []) next.1) (all, rest) p.1 in
          let i = item_takes bytes s.0.0 s.0.1 s.1 in
          let t = items_take most (front ++ s.0.0 ∷ []) s.0.1 all rest s.2 in
          record {
            items = s.0.0 ∷ t.items;
            all_are = t.all_are ∙ append_assoc front (s.0.0 ∷ []) t.items;
            parts = i.parts ∙ ap (λ (r : List ℕ). item_text s.0.0 ++ r) t.parts ∙ sym (append_assoc (item_text s.0.0) (flat_map item_text t.items) rest);
            each = (i.is, t.each);
          }
      | inr p ↦ no_items front bytes all rest (some_is (items_pair front bytes) (items_pair all rest) p.1)
    ]

-- ---- files

abbrev head : List ℕ
head = codes "deny-record 1\n"

abbrev foot : List ℕ
foot = codes "end\n"

-- a spelling with something behind it
spelled_parts : (items : List RecordItem) (more : List ℕ) → spelled_of items ++ more ≡ head ++ (flat_map item_text items ++ (foot ++ more))
spelled_parts items more =
    let lines = flat_map item_text items in
    append_assoc head (lines ++ foot) more ∙ ap (λ (r : List ℕ). head ++ r) (append_assoc lines foot more)

record_again : (items : List RecordItem) (more : List ℕ) → IsRecord items → record_at (spelled_of items ++ more) ≡ Some (items, more)
unfolding record_at
record_again items more is =
    let lines = flat_map item_text items in
    let rest = lines ++ (foot ++ more) in
    ap record_at (spelled_parts items more)
    ∙ rw (behind_text_again head rest, items_again items [] (foot ++ more) (length rest) is.each (items_count items (foot ++ more)) refl, behind_text_again foot more, is.ids_rise) refl

-- a record and what is behind it
record TakesRecord (bytes : List ℕ) (items : List RecordItem) (rest : List ℕ) : Type 0 where
  is : IsRecord items
  parts : bytes ≡ spelled_of items ++ rest

record_takes : (bytes : List ℕ) (items : List RecordItem) (rest : List ℕ) → record_at bytes ≡ Some (items, rest) → TakesRecord bytes items rest
unfolding record_at
record_takes bytes items rest e =
    let h = bind_some (behind_text head bytes) (λ left. items_on (length left) [] left >>= λ found. behind_text foot found.1 >>= λ last. cond (all_rise is_before (ids_of found.0)) (Some (found.0, last)) None) (items, rest) e in
    let i = bind_some (items_on (length h.0) [] h.0) (λ found. behind_text foot found.1 >>= λ last. cond (all_rise is_before (ids_of found.0)) (Some (found.0, last)) None) (items, rest) h.2 in
    let f = bind_some (behind_text foot i.0.1) (λ last. cond (all_rise is_before (ids_of i.0.0)) (Some (i.0.0, last)) None) (items, rest) i.2 in
    let p = passes (all_rise is_before (ids_of i.0.0)) (Some (i.0.0, f.0)) (items, rest) f.2 in
    let t = items_take (length h.0) [] h.0 i.0.0 i.0.1 i.1 in
    let lines : h.0 ≡ flat_map item_text i.0.0 ++ (foot ++ f.0) =
    t.parts ∙ ap (λ (l : List RecordItem). flat_map item_text l ++ i.0.1) (sym t.all_are) ∙ ap (λ (r : List ℕ). flat_map item_text i.0.0 ++ r) (behind_text_is foot i.0.1 f.0 f.1) in
    let whole : bytes ≡ spelled_of i.0.0 ++ f.0 =
    behind_text_is head bytes h.0 h.1 ∙ ap (λ (r : List ℕ). head ++ r) lines ∙ sym (spelled_parts i.0.0 f.0) in
    subst (λ (q : List RecordItem × List ℕ). TakesRecord bytes q.0 q.1) (some_is (items_pair i.0.0 f.0) (items_pair items rest) p.1)
    (record { is = record { ids_rise = p.0; each = subst (λ (l : List RecordItem). AllByRecursion IsRecordItem l) (sym t.all_are) t.each }; parts = whole })

-- ---- all of the bytes

whole_again : (items : List RecordItem) → IsRecord items → whole_at (spelled_of items) ≡ Some items
unfolding whole_at
whole_again items is =
    let one : record_at (spelled_of items) ≡ Some (items, []) = ap record_at (sym (append-nil (spelled_of items))) ∙ record_again items [] is in
    rw one refl

pub whole_takes : (bytes : List ℕ) (items : List RecordItem) → whole_at bytes ≡ Some items → Spells bytes items
unfolding whole_at
whole_takes bytes items e =
    let s = bind_some (record_at bytes) (λ found. cond (eqb (length found.1) 0) (Some found.0) None) items e in
    let p = passes (eqb (length s.0.1) 0) (Some s.0.0) items s.2 in
    let t = record_takes bytes s.0.0 s.0.1 s.1 in
    let none : s.0.1 ≡ [] = nil_from_length s.0.1 (eqb-true (length s.0.1) 0 p.0) in
    subst (λ (i : List RecordItem). Spells bytes i) (some_is s.0.0 items p.1)
    (record { is = t.is; spelled = t.parts ∙ ap (λ (r : List ℕ). spelled_of s.0.0 ++ r) none ∙ append-nil (spelled_of s.0.0) })

nothing_is : (items : List RecordItem) → None ≡ Some items → ⊥
nothing_is items same = absurd cc

-- bytes of which nothing is read spell nothing
pub whole_misses : (bytes : List ℕ) → whole_at bytes ≡ None → (items : List RecordItem) → Spells bytes items → ⊥
whole_misses bytes none items spells = nothing_is items (sym none ∙ ap whole_at spells.spelled ∙ whole_again items spells.is)

-- what is answered where nothing is read
pub decode_fails : (error : RecordError) (bytes : List ℕ) → Misses error (whole_at bytes) → AnswersDecode bytes (Err error)
decode_fails Syntax bytes none = whole_misses bytes none
decode_fails Memory bytes none = tt

-- ---- laws

pub spellings_end : SpellingsEndThemselves
spellings_end one other more rest first second same =
    let pair = some_is (items_pair one more) (items_pair other rest) (sym (record_again one more first) ∙ ap record_at same ∙ record_again other rest second) in
    (ap (λ (q : List RecordItem × List ℕ). q.0) pair, ap (λ (q : List RecordItem × List ℕ). q.1) pair)
