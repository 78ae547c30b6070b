-- A notice that is written piece by piece.
use Rattle.std.proofs.Common.{◌≡◌, ◌∙◌, inl, inr, ℕ, ◌+◌, ◌<◌, ◌≤◌, List, [], ◌∷◌, ◌++◌, length, flat_map, take, drop, get_or, Option, Some, None, refl, sym, ap, subst, append-nil, append_assoc, arith}
use Rattle.std.specs.Option.{option_map}
use Rattle.std.proofs.lemmas.List.{take-append-drop, drop_more}
use Rattle.std.proofs.lemmas.List.Concat.{flat_map-append}
use Rattle.tree_core.specs.Faults.{Gained, GainedPrefix, Rose}

joined_gains : (old : Option (List ℕ)) (first more : List ℕ) → option_map (λ held. held ++ more) (option_map (λ held. held ++ first) old) ≡ option_map (λ held. held ++ (first ++ more)) old
joined_gains None first more = refl
joined_gains (Some held) first more = ap Some (append_assoc held first more)

pub gained_nothing : (held : Option (List ℕ)) → Gained held held []
gained_nothing None = refl
gained_nothing (Some held) = ap Some (sym (append-nil held))

-- a text behind one that was written
pub gained_more : (old mid new : Option (List ℕ)) (first more : List ℕ) → Gained old mid first → Gained mid new more → Gained old new (first ++ more)
gained_more old mid new first more written gained = gained ∙ ap (option_map (λ held. held ++ more)) written ∙ joined_gains old first more

-- a prefix of it
pub gained_front : (old mid new : Option (List ℕ)) (first more : List ℕ) → Gained old mid first → GainedPrefix mid new more → GainedPrefix old new (first ++ more)
gained_front old mid new first more written cut = record {
  front = first ++ cut.front;
  rest = cut.rest;
  parts = ap (λ text. first ++ text) cut.parts ∙ sym (append_assoc first cut.front cut.rest);
  gained = gained_more old mid new first cut.front written cut.gained;
}

-- a prefix of a longer text
pub front_of_more : (old new : Option (List ℕ)) (text more : List ℕ) → GainedPrefix old new text → GainedPrefix old new (text ++ more)
front_of_more old new text more cut = record {
  front = cut.front;
  rest = cut.rest ++ more;
  parts = ap (λ those. those ++ more) cut.parts ∙ append_assoc cut.front cut.rest more;
  gained = cut.gained;
}

-- the text of all items, cut before and behind one
text_cut : {A : Type 0} (f : A → List ℕ) (xs : List A) (i : ℕ) (x : A) → i < length xs → x ≡ get_or xs i x → flat_map f xs ≡ flat_map f (take i xs) ++ (f x ++ flat_map f (drop (i + 1) xs))
text_cut f xs i x within at =
    ap (flat_map f) (sym (take-append-drop i xs))
    ∙ flat_map-append f (take i xs) (drop i xs)
    ∙ ap (λ rest. flat_map f (take i xs) ++ flat_map f rest) (drop_more xs i x within ∙ ap (λ y. y ∷ drop (i + 1) xs) (sym at))

-- items were written, and a prefix of the next one
pub front_of_items : {A : Type 0} (f : A → List ℕ) (xs : List A) (i : ℕ) (x : A) (old mid new : Option (List ℕ)) → i < length xs → x ≡ get_or xs i x → Gained old mid (flat_map f (take i xs))
    → GainedPrefix mid new (f x) → GainedPrefix old new (flat_map f xs)
front_of_items f xs i x old mid new within at written cut =
    let rest = flat_map f (drop (i + 1) xs) in
    subst (GainedPrefix old new) (sym (text_cut f xs i x within at)) (gained_front old mid new (flat_map f (take i xs)) (f x ++ rest) written (front_of_more mid new (f x) rest cut))

-- counts that rose at the end rose all the way
pub rose_behind : (first middle last : ℕ) → first ≤ middle → Rose middle last → Rose first last
rose_behind first middle last le (inl less) = inl (omega (arith, le, less))
rose_behind first middle last le (inr full) = inr full
