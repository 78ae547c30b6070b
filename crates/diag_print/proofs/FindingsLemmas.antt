-- Findings are printed one after another.
use Rattle.std.proofs.Common.{◌≡◌, ◌∙◌, refl, sym, ap, ap₂, subst, ℕ, ◌+◌, ◌<◌, cond, List, [], ◌∷◌, ◌++◌, length, take, drop, get_or, Option, Some, None, Result, Ok, Err, OnErr, append_assoc, append-nil}
use Rattle.std.specs.List.{flat_map}
use Rattle.std.proofs.lemmas.List.{take-append-drop, drop_more, take_more}
use Rattle.std.proofs.lemmas.List.Concat.{flat_map-append}
use Rattle.tree_core.specs.Faults.{Gained, GainedPrefix}
use Rattle.tree_core.proofs.GainedLemmas.{Gained-then}
use Rattle.diag_core.specs.File.{File}
use Rattle.diag_core.specs.declared.diagnostic.Diagnostic.{Diagnostic}
use Rattle.diag_core.specs.declared.severity.LevelFilter.TheVariants.{Off}
use Rattle.diag_core.specs.Pack.{PackOf}
use Rattle.diag_core.specs.declared.pack.Diag.{Diag}
use Rattle.diag_print.specs.Printed.{all_printed_at, is_printed, printed_of}
use Rattle.diag_print.specs.declared.context.LogContext.{LogContext}
use Rattle.diag_print.specs.Findings.{LeavesPending, printed_findings, printed_packs}

module _ {A : Type 0} (f : A → List ℕ) (xs : List A) where
  -- the whole text, cut before and behind an item
  text_cut : (i : ℕ) (x : A) → i < length xs → x ≡ get_or xs i x → flat_map f xs ≡ flat_map f (take i xs) ++ (f x ++ flat_map f (drop (i + 1) xs))
  text_cut i x within at =
      ap (flat_map f) (sym (take-append-drop i xs))
      ∙ flat_map-append f (take i xs) (drop i xs)
      ∙ ap (λ rest. flat_map f (take i xs) ++ flat_map f rest) (drop_more xs i x within ∙ ap (λ y. y ∷ drop (i + 1) xs) (sym at))

  -- the text of one item more
  pub text_more : (i : ℕ) (x : A) → i < length xs → x ≡ get_or xs i x → flat_map f (take (i + 1) xs) ≡ flat_map f (take i xs) ++ f x
  text_more i x within at =
      ap (flat_map f) (take_more xs i x within ∙ ap (λ y. take i xs ++ y ∷ []) (sym at))
      ∙ flat_map-append f (take i xs) (x ∷ [])
      ∙ ap (λ text. flat_map f (take i xs) ++ text) (append-nil (f x))

-- ---- what is pending

same_gained : (held : Option (List ℕ)) → Gained held held []
same_gained None = refl
same_gained (Some bytes) = ap Some (sym (append-nil bytes))

-- nothing was written
pub still_pending : (held : Option (List ℕ)) (pending : List ℕ) → LeavesPending held held pending pending
still_pending held pending = record { front = []; gained = same_gained held; parts = refl }

pub unwritten : {T E : Type 0} (result : Result T E) (held : Option (List ℕ)) (text : List ℕ) → OnErr result (GainedPrefix held held text)
unwritten (Ok value) held text = tt
unwritten (Err error) held text = record { front = []; rest = text; parts = refl; gained = same_gained held }

-- all that was pending was written
pub all_written : (old new : Option (List ℕ)) (left pending : List ℕ) → Gained old new pending → left ≡ [] → LeavesPending old new left pending
all_written old new left pending gained none = record { front = pending; gained = gained; parts = ap (λ rest. pending ++ rest) none ∙ append-nil pending }

module _ (old mid new : Option (List ℕ)) (pending text : List ℕ) (before : LeavesPending old mid pending text) where
  -- a text was put behind what was pending
  pub pending_more : (left more : List ℕ) → LeavesPending mid new left (pending ++ more) → LeavesPending old new left (text ++ more)
  pending_more left more next = record {
    front = before.front ++ next.front;
    gained = Gained-then old mid new before.front next.front before.gained next.gained;
    parts =
        append_assoc before.front next.front left
        ∙ ap (λ rest. before.front ++ rest) next.parts
        ∙ sym (append_assoc before.front pending more)
        ∙ ap (λ rest. rest ++ more) before.parts;
  }

  -- what is pending was written
  pub pending_written : Gained mid new pending → Gained old new text
  pending_written gained = subst (Gained old new) before.parts (Gained-then old mid new before.front pending before.gained gained)

  -- a prefix of what was pending and of a text behind it is a prefix of the whole
  pub pending_cut : (more rest whole : List ℕ) → whole ≡ text ++ (more ++ rest) → GainedPrefix mid new (pending ++ more) → GainedPrefix old new whole
  pending_cut more rest whole is cut = record {
    front = before.front ++ cut.front;
    rest = cut.rest ++ rest;
    parts =
        is
        ∙ ap (λ front. front ++ (more ++ rest)) (sym before.parts)
        ∙ append_assoc before.front pending (more ++ rest)
        ∙ ap (λ behind. before.front ++ behind) (sym (append_assoc pending more rest) ∙ ap (λ front. front ++ rest) cut.parts ∙ append_assoc cut.front cut.rest rest)
        ∙ sym (append_assoc before.front cut.front (cut.rest ++ rest));
    gained = Gained-then old mid new before.front cut.front before.gained cut.gained;
  }

  -- a prefix of what was pending is a prefix of the text
  pub pending_left : GainedPrefix mid new pending → GainedPrefix old new text
  pending_left cut = record {
    front = before.front ++ cut.front;
    rest = cut.rest;
    parts = sym before.parts ∙ ap (λ behind. before.front ++ behind) cut.parts ∙ sym (append_assoc before.front cut.front cut.rest);
    gained = Gained-then old mid new before.front cut.front before.gained cut.gained;
  }

module _ {A : Type 0} (f : A → List ℕ) (xs : List A) (i : ℕ) (x : A) (old mid new : Option (List ℕ)) (pending : List ℕ) (within : i < length xs) (at : x ≡ get_or xs i x) (before : LeavesPending old mid pending (flat_map f (take i xs))) where
  -- the texts of one item more
  pub one_pending : (left : List ℕ) → LeavesPending mid new left (pending ++ f x) → LeavesPending old new left (flat_map f (take (i + 1) xs))
  one_pending left next = subst (LeavesPending old new left) (sym (text_more f xs i x within at)) (pending_more old mid new pending (flat_map f (take i xs)) before left (f x) next)

  -- a prefix of them is a prefix of the whole
  pub one_pending_cut : GainedPrefix mid new (pending ++ f x) → GainedPrefix old new (flat_map f xs)
  one_pending_cut cut = pending_cut old mid new pending (flat_map f (take i xs)) before (f x) (flat_map f (drop (i + 1) xs)) (flat_map f xs) (text_cut f xs i x within at) cut

module _ {A : Type 0} (f : A → List ℕ) (xs : List A) (i : ℕ) (old mid new : Option (List ℕ)) (pending : List ℕ) (before : LeavesPending old mid pending (flat_map f (take i xs))) (all : take i xs ≡ xs) where
  -- behind the last item a prefix of what is pending is a prefix of the whole
  pub all_left : {T E : Type 0} (result : Result T E) → OnErr result (GainedPrefix mid new pending) → OnErr result (GainedPrefix old new (flat_map f xs))
  all_left (Ok value) cut = tt
  all_left (Err error) cut = subst (λ items. GainedPrefix old new (flat_map f items)) all (pending_left old mid new pending (flat_map f (take i xs)) before cut)

-- nothing is printed at level off
pub off_is_silent : (context : LogContext) (files : List File) (findings : List Diagnostic) → context.log_level ≡ Off → printed_findings context files findings ≡ []
off_is_silent context files [] off = refl
off_is_silent context files (finding ∷ findings) off =
    ap₂ ◌++◌
    (ap (λ level. cond (is_printed level finding.severity) (printed_of context.format files finding) []) off)
    (off_is_silent context files findings off)

pack_is_silent : (context : LogContext) (files : List File) (findings : List Diag) → context.log_level ≡ Off → all_printed_at context files findings ≡ []
pack_is_silent context files [] off = refl
pack_is_silent context files (finding ∷ findings) off =
    ap₂ ◌++◌
    (ap (λ level. cond (is_printed level finding.diag.severity) (printed_of context.format files finding.diag) []) off)
    (pack_is_silent context files findings off)

pub packs_are_silent : (context : LogContext) (files : List File) (packs : List PackOf) → context.log_level ≡ Off → printed_packs context files packs ≡ []
packs_are_silent context files [] off = refl
packs_are_silent context files (pack ∷ packs) off = ap₂ ◌++◌ (pack_is_silent context files pack.findings off) (packs_are_silent context files packs off)

pub gained_nothing : (old : Option (List ℕ)) (text : List ℕ) → text ≡ [] → Gained old old text
gained_nothing None text none = refl
gained_nothing (Some held) text none = ap Some (sym (append-nil held) ∙ ap (λ more. held ++ more) (sym none))

-- what is so is so of a refusal
pub of_refusal : {T E : Type 0} (result : Result T E) (P : Type 0) → P → OnErr result P
of_refusal (Ok value) P is = tt
of_refusal (Err error) P is = is
