-- Verdicts, ids and lines.
use Rattle.std.proofs.Common.{◌≡◌, ◌∙◌, refl, sym, ap, ap₂, subst, inl, inr, ℕ, zero, suc, ◌+◌, ◌<◌, ◌≤◌, ◌^◌, Bool, true, false, cond, ltb, ltb-false, le-ltb, nat_lt, IsUtf8, List, [], ◌∷◌, ◌++◌, append_assoc, append-nil, length, length-append, length-take, take, drop, take_at, drop_at, take-append-drop, Option, Some, None, decimal, flat_map, arith}
use Rattle.std.specs.List.{AllByRecursion}
use Rattle.std.specs.Str.{is_utf8}
use Rattle.std.proofs.lemmas.Str.{IsUtf8-from_is_utf8, is_utf8-from_IsUtf8}
use Rattle.spdx_core.specs.declared.certificates.verdict.Hit.{Hit}
use Rattle.check_record.specs.declared.decode_parts.ChoiceAndHits.{ChoiceAndHits}
use Rattle.check_record.specs.declared.items.RecordItem.{RecordItem}
use Rattle.check_record.specs.declared.items.RecordVerdict.{RecordVerdict}
use Rattle.check_record.specs.declared.items.RecordVerdict.TheVariants.{Skipped, Unlicensed, Accepted, Rejected}
use Rattle.check_record.specs.Items.{ArePlaces, IsChosen, IsHit, IsNumber, IsRecordItem, IsRecordVerdict, some_rise}
use Rattle.check_record.specs.Spelling.{chosen_text, item_text, place_text, verdict_text}
use Rattle.check_record.specs.Reading.{◌>>=◌, accepted_at, begins, rest_behind, chosen_on, id_at, item_at, items_on, lettered_at, number_at, places_on, rejected_at, text_of}
use Rattle.check_record.proofs.Hits.{Ends, chosen_again, chosen_count, chosen_takes, places_again, places_count, places_take}
use Rattle.check_record.proofs.Numbers.{number_again, number_takes}
use Rattle.check_record.proofs.Steps.{begins_is, behind_is, bind_some, passes, pick, some_is}

-- ---- verdicts

abbrev verdict_pair : RecordVerdict → List ℕ → RecordVerdict × List ℕ
verdict_pair verdict rest = (verdict, rest)

-- a verdict without its space
abbrev pub letter_text : RecordVerdict → List ℕ
letter_text Skipped = 115 ∷ []
letter_text Unlicensed = 117 ∷ []
letter_text (Accepted choice hits) = 97 ∷ chosen_text choice hits
letter_text (Rejected blocks) = 114 ∷ flat_map place_text blocks

spaced : (verdict : RecordVerdict) → verdict_text verdict ≡ 32 ∷ letter_text verdict
spaced Skipped = refl
spaced Unlicensed = refl
spaced (Accepted choice hits) = refl
spaced (Rejected blocks) = refl

lettered_again : (verdict : RecordVerdict) (rest : List ℕ) → IsRecordVerdict verdict → Ends rest → lettered_at (letter_text verdict ++ rest) ≡ Some (verdict, rest)
unfolding lettered_at accepted_at rejected_at
lettered_again Skipped rest is ends = refl
lettered_again Unlicensed rest is ends = refl
lettered_again (Accepted choice hits) rest is ends =
    let text = chosen_text choice hits ++ rest in
    rw (chosen_again choice hits [] [] rest (length text) is.as_many is.places.each is.each (chosen_count choice hits rest is.as_many) ends, is.places.rise) refl
lettered_again (Rejected blocks) rest is ends =
    let text = flat_map place_text blocks ++ rest in
    rw (places_again blocks [] rest (length text) is.each (places_count blocks rest) ends, is.rise) refl

-- a verdict that its letter begins, and what is behind it
record TakesVerdict (bytes : List ℕ) (verdict : RecordVerdict) (rest : List ℕ) : Type 0 where
  parts : bytes ≡ letter_text verdict ++ rest
  is : IsRecordVerdict verdict

accepted_takes : (bytes : List ℕ) (verdict : RecordVerdict) (rest : List ℕ) → accepted_at bytes ≡ Some (verdict, rest) → TakesVerdict (97 ∷ bytes) verdict rest
unfolding accepted_at
accepted_takes bytes verdict rest e =
    let s = bind_some (chosen_on (length bytes) [] [] bytes) (λ chosen. cond (some_rise nat_lt chosen.0.choice) (Some (Accepted chosen.0.choice chosen.0.hits, chosen.1)) None) (verdict, rest) e in
    let p = passes (some_rise nat_lt s.0.0.choice) (Some (Accepted s.0.0.choice s.0.0.hits, s.0.1)) (verdict, rest) s.2 in
    let t = chosen_takes (length bytes) [] [] bytes s.0.0 s.0.1 s.1 in
    let same = some_is (verdict_pair (Accepted s.0.0.choice s.0.0.hits) s.0.1) (verdict_pair verdict rest) p.1 in
    let parts : 97 ∷ bytes ≡ letter_text (Accepted s.0.0.choice s.0.0.hits) ++ s.0.1 =
    ap (λ (r : List ℕ). 97 ∷ r) (t.parts ∙ ap₂ (λ (c : List ℕ) (h : List Hit). chosen_text c h ++ s.0.1) (sym t.choice_is) (sym t.hits_are)) in
    let is : IsChosen s.0.0.choice s.0.0.hits = record {
      places = record { rise = p.0; each = subst (λ (c : List ℕ). AllByRecursion IsNumber c) (sym t.choice_is) t.numbers };
      each = subst (λ (h : List Hit). AllByRecursion IsHit h) (sym t.hits_are) t.each;
      as_many = ap (λ (h : List Hit). length h) t.hits_are ∙ t.as_many ∙ ap (λ (c : List ℕ). length c) (sym t.choice_is);
    } in
    subst (λ (q : RecordVerdict × List ℕ). TakesVerdict (97 ∷ bytes) q.0 q.1) same (record { parts = parts; is = is })

rejected_takes : (bytes : List ℕ) (verdict : RecordVerdict) (rest : List ℕ) → rejected_at bytes ≡ Some (verdict, rest) → TakesVerdict (114 ∷ bytes) verdict rest
unfolding rejected_at
rejected_takes bytes verdict rest e =
    let s = bind_some (places_on (length bytes) [] bytes) (λ blocks. cond (some_rise nat_lt blocks.0) (Some (Rejected blocks.0, blocks.1)) None) (verdict, rest) e in
    let p = passes (some_rise nat_lt s.0.0) (Some (Rejected s.0.0, s.0.1)) (verdict, rest) s.2 in
    let t = places_take (length bytes) [] bytes s.0.0 s.0.1 s.1 in
    let same = some_is (verdict_pair (Rejected s.0.0) s.0.1) (verdict_pair verdict rest) p.1 in
    let parts : 114 ∷ bytes ≡ letter_text (Rejected s.0.0) ++ s.0.1 =
    ap (λ (r : List ℕ). 114 ∷ r) (t.parts ∙ ap (λ (b : List ℕ). flat_map place_text b ++ s.0.1) (sym t.all_are)) in
    let is : ArePlaces s.0.0 = record { rise = p.0; each = subst (λ (b : List ℕ). AllByRecursion IsNumber b) (sym t.all_are) t.numbers } in
    subst (λ (q : RecordVerdict × List ℕ). TakesVerdict (114 ∷ bytes) q.0 q.1) same (record { parts = parts; is = is })

-- a verdict of one letter
letter_takes : (byte : ℕ) (bytes : List ℕ) (one verdict : RecordVerdict) (rest : List ℕ) → letter_text one ≡ byte ∷ [] → IsRecordVerdict one → begins byte bytes ≡ true
    → verdict_pair one (drop 1 bytes) ≡ verdict_pair verdict rest → TakesVerdict bytes verdict rest
letter_takes byte bytes one verdict rest letter is first e =
    subst (λ (q : RecordVerdict × List ℕ). TakesVerdict bytes q.0 q.1) e
    (record { parts = begins_is byte bytes first ∙ ap (λ (r : List ℕ). r ++ drop 1 bytes) (sym letter); is = is })

lettered_takes : (bytes : List ℕ) (verdict : RecordVerdict) (rest : List ℕ) → lettered_at bytes ≡ Some (verdict, rest) → TakesVerdict bytes verdict rest
unfolding lettered_at
lettered_takes bytes verdict rest e =
    let accepted = cond (begins 97 bytes) (accepted_at (drop 1 bytes)) (rest_behind 114 bytes >>= rejected_at) in
    let unlicensed = cond (begins 117 bytes) (Some (Unlicensed, drop 1 bytes)) accepted in
    elim (pick (begins 115 bytes) (Some (Skipped, drop 1 bytes)) unlicensed (Some (verdict, rest)) e) [
      | inl p ↦ letter_takes 115 bytes Skipped verdict rest refl tt p.0 (some_is (verdict_pair Skipped (drop 1 bytes)) (verdict_pair verdict rest) p.1)
      | inr p ↦ elim (pick (begins 117 bytes) (Some (Unlicensed, drop 1 bytes)) accepted (Some (verdict, rest)) p.1) [
        | inl q ↦ letter_takes 117 bytes Unlicensed verdict rest refl tt q.0 (some_is (verdict_pair Unlicensed (drop 1 bytes)) (verdict_pair verdict rest) q.1)
        | inr q ↦ elim (pick (begins 97 bytes) (accepted_at (drop 1 bytes)) (rest_behind 114 bytes >>= rejected_at) (Some (verdict, rest)) q.1) [
          | inl r ↦ subst (λ (b : List ℕ). TakesVerdict b verdict rest) (sym (begins_is 97 bytes r.0)) (accepted_takes (drop 1 bytes) verdict rest r.1)
          | inr r ↦
              let b = bind_some (rest_behind 114 bytes) rejected_at (verdict, rest) r.1 in
              subst (λ (x : List ℕ). TakesVerdict x verdict rest) (sym (behind_is 114 bytes b.0 b.1)) (rejected_takes b.0 verdict rest b.2)
        ]
      ]
    ]

-- ---- ids

text_again : (text rest : List ℕ) → IsUtf8 text → text_of (length text) (text ++ rest) ≡ Some (text, rest)
unfolding text_of
text_again text rest utf8 =
    let long : ltb (length (text ++ rest)) (length text) ≡ false = le-ltb _ _ (omega (arith, length-append text rest)) in
    rw (long, take_at text rest (length text) refl, drop_at text rest (length text) refl, is_utf8-from_IsUtf8 text utf8) refl

id_again : (text rest : List ℕ) → IsUtf8 text → IsNumber (length text) → id_at (decimal (length text) ++ (58 ∷ (text ++ rest))) ≡ Some (text, rest)
unfolding id_at
id_again text rest utf8 counted = rw (number_again (length text) (58 ∷ (text ++ rest)) counted refl) (text_again text rest utf8)

-- an id and what is behind it
record TakesId (bytes text rest : List ℕ) : Type 0 where
  parts : bytes ≡ decimal (length text) ++ (58 ∷ (text ++ rest))
  utf8 : IsUtf8 text
  counted : IsNumber (length text)

abbrev text_pair : List ℕ → List ℕ → List ℕ × List ℕ
text_pair text rest = (text, rest)

none_is_some : {A : Type 0} (x : A) → None ≡ Some x → ⊥
none_is_some x same = absurd cc

-- so many bytes of a text
record TakesText (count : ℕ) (bytes text rest : List ℕ) : Type 0 where
  counted : length text ≡ count
  parts : bytes ≡ text ++ rest
  utf8 : IsUtf8 text

text_takes : (count : ℕ) (bytes text rest : List ℕ) → text_of count bytes ≡ Some (text, rest) → TakesText count bytes text rest
unfolding text_of
text_takes count bytes text rest e =
    elim (pick (ltb (length bytes) count) None (cond (is_utf8 (take count bytes)) (Some (take count bytes, drop count bytes)) None) (Some (text, rest)) e) [
      | inl p ↦ absurd (none_is_some (text_pair text rest) p.1)
      | inr p ↦
          let long : count ≤ length bytes = ltb-false _ _ p.0 in
          let g = passes (is_utf8 (take count bytes)) (Some (take count bytes, drop count bytes)) (text, rest) p.1 in
          subst (λ (q : List ℕ × List ℕ). TakesText count bytes q.0 q.1) (some_is (text_pair (take count bytes) (drop count bytes)) (text_pair text rest) g.1) (record {
            counted = omega (arith, length-take count bytes);
            parts = sym (take-append-drop count bytes);
            utf8 = IsUtf8-from_is_utf8 (take count bytes) g.0;
          })
    ]

id_takes : (bytes text rest : List ℕ) → id_at bytes ≡ Some (text, rest) → TakesId bytes text rest
unfolding id_at
id_takes bytes text rest e =
    let x = bind_some (number_at bytes) (λ count. rest_behind 58 count.1 >>= λ left. text_of count.0 left) (text, rest) e in
    let d = bind_some (rest_behind 58 x.0.1) (λ left. text_of x.0.0 left) (text, rest) x.2 in
    let n = number_takes bytes x.0.0 x.0.1 x.1 in
    let t = text_takes x.0.0 d.0 text rest d.2 in
    record {
      parts = n.parts ∙ ap (λ (k : ℕ). decimal k ++ x.0.1) (sym t.counted)
          ∙ ap (λ (r : List ℕ). decimal (length text) ++ r) (behind_is 58 x.0.1 d.0 d.1 ∙ ap (λ (r : List ℕ). 58 ∷ r) t.parts);
      utf8 = t.utf8;
      counted = subst (λ (k : ℕ). k < 2 ^ 64) (sym t.counted) n.below;
    }

-- ---- lines

-- a line without its first two bytes
item_parts : (count id verdict rest : List ℕ) → (count ++ (58 ∷ (id ++ (verdict ++ (10 ∷ []))))) ++ rest ≡ count ++ (58 ∷ (id ++ (verdict ++ (10 ∷ rest))))
item_parts count id verdict rest =
    append_assoc count (58 ∷ (id ++ (verdict ++ (10 ∷ [])))) rest
    ∙ ap (λ (r : List ℕ). count ++ (58 ∷ r)) (append_assoc id (verdict ++ (10 ∷ [])) rest ∙ ap (λ (r : List ℕ). id ++ r) (append_assoc verdict (10 ∷ []) rest))

pub item_again : (item : RecordItem) (rest : List ℕ) → IsRecordItem item → item_at (item_text item ++ rest) ≡ Some (item, rest)
unfolding item_at
item_again item rest is =
    let count = decimal (length item.id) in
    let letter = letter_text item.verdict in
    let regrouped : (count ++ (58 ∷ (item.id ++ (verdict_text item.verdict ++ (10 ∷ []))))) ++ rest ≡ count ++ (58 ∷ (item.id ++ (32 ∷ (letter ++ (10 ∷ rest))))) =
    item_parts count item.id (verdict_text item.verdict) rest ∙ ap (λ (v : List ℕ). count ++ (58 ∷ (item.id ++ (v ++ (10 ∷ rest))))) (spaced item.verdict) in
    ap (λ (r : List ℕ). item_at (99 ∷ 32 ∷ r)) regrouped
    ∙ rw (id_again item.id (32 ∷ (letter ++ (10 ∷ rest))) is.text is.counted, lettered_again item.verdict (10 ∷ rest) is.verdict (record { digit = refl; space = refl })) refl

-- a line and what is behind it
pub record TakesItem (bytes : List ℕ) (item : RecordItem) (rest : List ℕ) : Type 0 where
  pub parts : bytes ≡ item_text item ++ rest
  pub is : IsRecordItem item

abbrev item_of : List ℕ → RecordVerdict → RecordItem
item_of id verdict = record { id = id; verdict = verdict }

abbrev item_pair : RecordItem → List ℕ → RecordItem × List ℕ
item_pair item rest = (item, rest)

pub item_takes : (bytes : List ℕ) (item : RecordItem) (rest : List ℕ) → item_at bytes ≡ Some (item, rest) → TakesItem bytes item rest
unfolding item_at
item_takes bytes item rest e =
    let m = bind_some (rest_behind 99 bytes) (λ mark. rest_behind 32 mark >>= λ space. id_at space >>= λ id. rest_behind 32 id.1 >>= λ letter. lettered_at letter >>= λ verdict. rest_behind 10 verdict.1 >>= λ left. Some (item_of id.0 verdict.0, left)) (item, rest) e in
    let s = bind_some (rest_behind 32 m.0) (λ space. id_at space >>= λ id. rest_behind 32 id.1 >>= λ letter. lettered_at letter >>= λ verdict. rest_behind 10 verdict.1 >>= λ left. Some (item_of id.0 verdict.0, left)) (item, rest) m.2 in
    let i = bind_some (id_at s.0) (λ id. rest_behind 32 id.1 >>= λ letter. lettered_at letter >>= λ verdict. rest_behind 10 verdict.1 >>= λ left. Some (item_of id.0 verdict.0, left)) (item, rest) s.2 in
    let l = bind_some (rest_behind 32 i.0.1) (λ letter. lettered_at letter >>= λ verdict. rest_behind 10 verdict.1 >>= λ left. Some (item_of i.0.0 verdict.0, left)) (item, rest) i.2 in
    let v = bind_some (lettered_at l.0) (λ verdict. rest_behind 10 verdict.1 >>= λ left. Some (item_of i.0.0 verdict.0, left)) (item, rest) l.2 in
    let f = bind_some (rest_behind 10 v.0.1) (λ left. Some (item_of i.0.0 v.0.0, left)) (item, rest) v.2 in
    let id = id_takes s.0 i.0.0 i.0.1 i.1 in
    let verdict = lettered_takes l.0 v.0.0 v.0.1 v.1 in
    let count = decimal (length i.0.0) in
    let feed : v.0.1 ≡ 10 ∷ f.0 = behind_is 10 v.0.1 f.0 f.1 in
    let text : l.0 ≡ letter_text v.0.0 ++ (10 ∷ f.0) = verdict.parts ∙ ap (λ (r : List ℕ). letter_text v.0.0 ++ r) feed in
    let rest_of_id : i.0.1 ≡ verdict_text v.0.0 ++ (10 ∷ f.0) =
    behind_is 32 i.0.1 l.0 l.1 ∙ ap (λ (r : List ℕ). 32 ∷ r) text ∙ ap (λ (w : List ℕ). w ++ (10 ∷ f.0)) (sym (spaced v.0.0)) in
    let line : s.0 ≡ (count ++ (58 ∷ (i.0.0 ++ (verdict_text v.0.0 ++ (10 ∷ []))))) ++ f.0 =
    id.parts ∙ ap (λ (r : List ℕ). count ++ (58 ∷ (i.0.0 ++ r))) rest_of_id ∙ sym (item_parts count i.0.0 (verdict_text v.0.0) f.0) in
    let whole : bytes ≡ item_text (item_of i.0.0 v.0.0) ++ f.0 =
    behind_is 99 bytes m.0 m.1 ∙ ap (λ (r : List ℕ). 99 ∷ r) (behind_is 32 m.0 s.0 s.1 ∙ ap (λ (r : List ℕ). 32 ∷ r) line) in
    subst (λ (q : RecordItem × List ℕ). TakesItem bytes q.0 q.1) (some_is (item_pair (item_of i.0.0 v.0.0) f.0) (item_pair item rest) f.2)
    (record { parts = whole; is = record { text = id.utf8; counted = id.counted; verdict = verdict.is } })

-- a line takes bytes, so a step behind it has less of them
pub item_shortens : (bytes : List ℕ) (item : RecordItem) (rest : List ℕ) → item_at bytes ≡ Some (item, rest) → length rest < length bytes
item_shortens bytes item rest e =
    let t = item_takes bytes item rest e in
    let line = decimal (length item.id) ++ (58 ∷ (item.id ++ (verdict_text item.verdict ++ (10 ∷ [])))) in
    let lengths = ap (λ (r : List ℕ). length r) t.parts in
    let more = length-append line rest in
    omega arith
