-- Texts that are put behind one another, and written now and then.
use Rattle.std.proofs.Common.{◌≡◌, ◌∙◌, refl, sym, ap, ap₂, subst, ℕ, ◌+◌, ◌<◌, List, [], ◌++◌, length, take, drop, get_or, Option, Some, None, Result, Ok, Err, OnErr, OnOk, append_assoc, append-nil}
use Rattle.std.specs.List.{flat_map}
use Rattle.tree_core.specs.Faults.{Gained, GainedPrefix}
use Rattle.tree_core.proofs.GainedLemmas.{Gained-then}
use Rattle.run_list_text.specs.Written.{LeavesPending}
use Rattle.run_list_text.proofs.ListLemmas.{text_more, text_cut}

same_gained : (held : Option (List ℕ)) → Gained held held []
same_gained None = refl
same_gained (Some bytes) = ap Some (sym (append-nil bytes))

-- nothing was written
pub still_pending : (held : Option (List ℕ)) (pending : List ℕ) → LeavesPending held held pending pending
still_pending held pending = record { front = []; gained = same_gained held; parts = refl }

-- nothing was put behind it yet
pub nothing_yet : (held : Option (List ℕ)) (pending : List ℕ) → LeavesPending held held pending (pending ++ [])
nothing_yet held pending = record { front = []; gained = same_gained held; parts = sym (append-nil pending) }

pub unwritten : {T E : Type 0} (result : Result T E) (held : Option (List ℕ)) (text : List ℕ) → OnErr result (GainedPrefix held held text)
unwritten (Ok value) held text = tt
unwritten (Err error) held text = record { front = []; rest = text; parts = refl; gained = same_gained held }

-- all that was pending was written
pub all_written : (old new : Option (List ℕ)) (left pending : List ℕ) → Gained old new pending → left ≡ [] → LeavesPending old new left pending
all_written old new left pending gained none = record { front = pending; gained = gained; parts = ap (λ rest. pending ++ rest) none ∙ append-nil pending }

module _ (old mid new : Option (List ℕ)) (pending text : List ℕ) (before : LeavesPending old mid pending text) where
  -- a text was put behind what was pending
  pub pending_more : (left more : List ℕ) → LeavesPending mid new left (pending ++ more) → LeavesPending old new left (text ++ more)
  pending_more left more next = record {
    front = before.front ++ next.front;
    gained = Gained-then old mid new before.front next.front before.gained next.gained;
    parts =
        append_assoc before.front next.front left
        ∙ ap (λ rest. before.front ++ rest) next.parts
        ∙ sym (append_assoc before.front pending more)
        ∙ ap (λ rest. rest ++ more) before.parts;
  }

  -- what is pending and a text behind it was written
  pub written_more : (more : List ℕ) → Gained mid new (pending ++ more) → Gained old new (text ++ more)
  written_more more gained =
      subst (Gained old new)
      (sym (append_assoc before.front pending more) ∙ ap (λ front. front ++ more) before.parts)
      (Gained-then old mid new before.front (pending ++ more) before.gained gained)

  -- a prefix of what was pending and of a text behind it is a prefix of the whole
  pub pending_cut : (more rest whole : List ℕ) → whole ≡ text ++ (more ++ rest) → GainedPrefix mid new (pending ++ more) → GainedPrefix old new whole
  pending_cut more rest whole is cut = record {
    front = before.front ++ cut.front;
    rest = cut.rest ++ rest;
    parts =
        is
        ∙ ap (λ front. front ++ (more ++ rest)) (sym before.parts)
        ∙ append_assoc before.front pending (more ++ rest)
        ∙ ap (λ behind. before.front ++ behind) (sym (append_assoc pending more rest) ∙ ap (λ front. front ++ rest) cut.parts ∙ append_assoc cut.front cut.rest rest)
        ∙ sym (append_assoc before.front cut.front (cut.rest ++ rest));
    gained = Gained-then old mid new before.front cut.front before.gained cut.gained;
  }

  -- the same where nothing is behind that text
  pub last_cut : (more : List ℕ) → GainedPrefix mid new (pending ++ more) → GainedPrefix old new (text ++ more)
  last_cut more cut = pending_cut more [] (text ++ more) (ap (λ behind. text ++ behind) (sym (append-nil more))) cut

module _ {A : Type 0} (f : A → List ℕ) (xs : List A) (i : ℕ) (x : A) (within : i < length xs) (at : x ≡ get_or xs i x) (old mid new : Option (List ℕ)) (pending start : List ℕ) (before : LeavesPending old mid pending (start ++ flat_map f (take i xs))) where
  -- the texts of one item more
  pub one_pending : (left : List ℕ) → LeavesPending mid new left (pending ++ f x) → LeavesPending old new left (start ++ flat_map f (take (i + 1) xs))
  one_pending left next =
      subst (LeavesPending old new left)
      (append_assoc start (flat_map f (take i xs)) (f x) ∙ ap (λ text. start ++ text) (sym (text_more xs i x within at f)))
      (pending_more old mid new pending (start ++ flat_map f (take i xs)) before left (f x) next)

  -- a prefix of them is a prefix of the whole
  pub one_pending_cut : GainedPrefix mid new (pending ++ f x) → GainedPrefix old new (start ++ flat_map f xs)
  one_pending_cut cut =
      pending_cut old mid new pending (start ++ flat_map f (take i xs)) before (f x) (flat_map f (drop (i + 1) xs)) (start ++ flat_map f xs)
      (ap (λ text. start ++ text) (text_cut xs i x within at f) ∙ sym (append_assoc start (flat_map f (take i xs)) (f x ++ flat_map f (drop (i + 1) xs))))
      cut

-- what is a prefix of a text is a prefix of that text with another behind it
pub front_of_more : (old new : Option (List ℕ)) (text more : List ℕ) → GainedPrefix old new text → GainedPrefix old new (text ++ more)
front_of_more old new text more cut = record {
  front = cut.front;
  rest = cut.rest ++ more;
  parts = ap (λ whole. whole ++ more) cut.parts ∙ append_assoc cut.front cut.rest more;
  gained = cut.gained;
}

-- what follows of a result
pub on_ok : {T E : Type 0} (result : Result T E) (P Q : Type 0) → (P → Q) → OnOk result P → OnOk result Q
on_ok (Ok value) P Q follows is = follows is
on_ok (Err error) P Q follows is = tt

pub on_err : {T E : Type 0} (result : Result T E) (P Q : Type 0) → (P → Q) → OnErr result P → OnErr result Q
on_err (Ok value) P Q follows is = tt
on_err (Err error) P Q follows is = follows is

-- what is so is so of a refusal
pub of_refusal : {T E : Type 0} (result : Result T E) (P : Type 0) → P → OnErr result P
of_refusal (Ok value) P is = tt
of_refusal (Err error) P is = is

-- the text by another name
pub on_ok_text : {T E : Type 0} (result : Result T E) (old new : Option (List ℕ)) (text wanted : List ℕ) → text ≡ wanted → OnOk result (Gained old new text) → OnOk result (Gained old new wanted)
on_ok_text result old new text wanted e is = subst (λ known. OnOk result (Gained old new known)) e is

pub on_err_text : {T E : Type 0} (result : Result T E) (old new : Option (List ℕ)) (text wanted : List ℕ) → text ≡ wanted → OnErr result (GainedPrefix old new text) → OnErr result (GainedPrefix old new wanted)
on_err_text result old new text wanted e is = subst (λ known. OnErr result (GainedPrefix old new known)) e is

-- a text with nothing before it and nothing behind it
pub all_of_nothing : (start text : List ℕ) → start ≡ [] → (start ++ text) ++ [] ≡ text
all_of_nothing start text none = append-nil (start ++ text) ∙ ap (λ front. front ++ text) none

-- a text with nothing behind it, of whose front another name is known
pub front_known : (start wanted text : List ℕ) → start ≡ wanted → (start ++ text) ++ [] ≡ wanted ++ text
front_known start wanted text e = append-nil (start ++ text) ∙ ap (λ front. front ++ text) e

-- lines with nothing before them and a text behind them, of which other names are known
pub three_parts : (start lines last known_lines known_last : List ℕ) → start ≡ [] → lines ≡ known_lines → last ≡ known_last → (start ++ lines) ++ last ≡ known_lines ++ known_last
three_parts start lines last known_lines known_last none same same_last = ap₂ (λ front behind. front ++ behind) (ap (λ front. front ++ lines) none ∙ same) same_last
