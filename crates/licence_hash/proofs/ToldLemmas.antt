-- Files that are reported one after another.
use Rattle.std.proofs.Common.{◌≡◌, ℕ, Bool, true, false, ◌&&◌, List, [], ◌∷◌, ◌++◌, Option, Some, None, map, refl, sym, ap, ◌∙◌, append_assoc, append-nil, Result, is_ok, rules, take, drop, get_or, length, ◌+◌, ◌<◌, ◌≤◌, inl, inr, arith}
use Rattle.std.specs.List.{All}
use Rattle.std.proofs.lemmas.Grind.{flat_map-append}
use Rattle.std.proofs.lemmas.List.{map-append, take-append-drop, take_more}
use Rattle.std.proofs.lemmas.List.Elements.{All-append}
use Rattle.std.proofs.lemmas.List.Folds.{list_all-append}
use Rattle.tree_core.specs.Call.{Call}
use Rattle.tree_core.specs.Faults.{Gained, GainedPrefix, Rose}
use Rattle.tree_core.specs.Script.{SinkTexts}
use Rattle.tree_core.proofs.GainedLemmas.{Gained-then}
use Rattle.tree_core.specs.texts.Heard.{IsTextRead}
use Rattle.tree_core.specs.declared.texts.fault.ReadFault.{ReadFault}
use Rattle.licence_hash.specs.Told.{AreTold, FileRead, IsHeard, call_of, err_of, err_text, has_entry, out_of, out_text, path_of}
use Rattle.licence_hash.specs.Told.{IsCaused, IsCutAt, IsCutText}
use Rattle.licence_hash.specs.declared.told.TellError.{TellError}
use Rattle.licence_hash.specs.declared.told.TellError.TheVariants.{Memory, Write, Words}

-- to gain nothing is to stay
gained_nothing : (held : Option (List ℕ)) → Gained held held []
gained_nothing None = refl
gained_nothing (Some text) = ap Some (sym (append-nil text))

and_true : (b : Bool) → (b && true) ≡ b
and_true true = refl
and_true false = refl

-- one more name
pub names_more : {X Y : Type 0} (f : X → Y) (items : List X) (place : ℕ) (item : X) (name : Y) → place < length items → item ≡ get_or items place item → name ≡ f item
    → map f (take (place + 1) items) ≡ map f (take place items) ++ name ∷ []
names_more f items place item name within is named =
    ap (map f) (take_more items place item within) ∙ map-append f (take place items) (get_or items place item ∷ [])
    ∙ ap (λ last. map f (take place items) ++ last ∷ []) (ap f (sym is) ∙ sym named)

-- all names, where one of them is reached
pub names_parts : {X Y : Type 0} (f : X → Y) (items : List X) (place : ℕ) (item : X) (name : Y) → place < length items → item ≡ get_or items place item → name ≡ f item
    → map f items ≡ map f (take place items) ++ name ∷ map f (drop (place + 1) items)
names_parts f items place item name within is named =
    let whole : map f (take (place + 1) items) ++ map f (drop (place + 1) items) ≡ map f items =
    sym (map-append f (take (place + 1) items) (drop (place + 1) items)) ∙ ap (map f) (take-append-drop (place + 1) items) in
    sym whole ∙ ap (λ front. front ++ map f (drop (place + 1) items)) (names_more f items place item name within is named)
    ∙ append_assoc (map f (take place items)) (name ∷ []) (map f (drop (place + 1) items))

-- nothing is a prefix of each text
pub prefix_nothing : (held : Option (List ℕ)) (text : List ℕ) → GainedPrefix held held text
prefix_nothing held text = record { front = []; rest = text; parts = refl; gained = gained_nothing held }

-- nothing is reported of no file
pub told_none : (calls : List Call) (texts : SinkTexts) → AreTold [] calls calls texts texts true
told_none calls texts = record {
  reads = [];
  names = refl;
  calls = sym (append-nil calls);
  hears = search rules;
  out = gained_nothing texts.out;
  err = gained_nothing texts.err;
  all = refl;
}

-- what is reported of one file
pub told_one : (path : List ℕ) (heard : Result (List ℕ) ReadFault) (begun behind : ℕ) (old new : List Call) (before after : SinkTexts) (is_told : Bool)
    → IsTextRead begun behind old new path heard → Gained before.out after.out (out_text path heard) → Gained before.err after.err (err_text path heard)
    → is_told ≡ is_ok heard → AreTold (path ∷ []) old new before after is_told
told_one path heard begun behind old new before after is_told read out err told =
    let one : FileRead = record { path = path; answer = read.answer; heard = heard; before = begun; after = behind } in
    let hears : All IsHeard (one ∷ []) = search (rules, read.hears) in
    record {
      reads = one ∷ [];
      names = refl;
      calls = read.made;
      hears = hears;
      out = rw (append-nil (out_text path heard)) out;
      err = rw (append-nil (err_text path heard)) err;
      all = and_true (is_ok heard) ∙ sym told;
    }

-- further files behind those that were reported
pub told_then : (named more : List (List ℕ)) (old middle new : List Call) (before between after : SinkTexts) (first second : Bool)
    → AreTold named old middle before between first → AreTold more middle new between after second
    → AreTold (named ++ more) old new before after (first && second)
told_then named more old middle new before between after first second front back = record {
  reads = front.reads ++ back.reads;
  names = map-append path_of front.reads back.reads ∙ (rw (front.names, back.names) refl);
  calls = back.calls ∙ (rw (front.calls, map-append call_of front.reads back.reads) (append_assoc old (map call_of front.reads) (map call_of back.reads)));
  hears = All-append IsHeard front.reads back.reads front.hears back.hears;
  out = rw (flat_map-append out_of front.reads back.reads) (Gained-then _ _ _ _ _ front.out back.out);
  err = rw (flat_map-append err_of front.reads back.reads) (Gained-then _ _ _ _ _ front.err back.err);
  all = list_all-append has_entry front.reads back.reads ∙ (rw (front.all, back.all) refl);
}

-- ---- where it is given up

rose_from : (first before after : ℕ) → first ≤ before → Rose before after → Rose first after
rose_from first before after early (inl less) = inl (omega arith)
rose_from first before after early (inr last) = inr last

-- a count that rose in a step rose since an earlier moment
pub caused_from : (error : TellError) (out_old out_between out_new err_old err_between err_new : ℕ) → out_old ≤ out_between → err_old ≤ err_between
    → IsCaused (record { out_before = out_between; out_after = out_new; err_before = err_between; err_after = err_new }) error
    → IsCaused (record { out_before = out_old; out_after = out_new; err_before = err_old; err_after = err_new }) error
caused_from Memory out_old out_between out_new err_old err_between err_new out err caused = tt
caused_from Write out_old out_between out_new err_old err_between err_new out err (inl rose) = inl (rose_from out_old out_between out_new out rose)
caused_from Write out_old out_between out_new err_old err_between err_new out err (inr rose) = inr (rose_from err_old err_between err_new err rose)
caused_from Words out_old out_between out_new err_old err_between err_new out err caused = absurd caused

-- a file that was read, and of which a prefix was written
pub cut_at : (error : TellError) (path : List ℕ) (heard : Result (List ℕ) ReadFault) (begun behind : ℕ) (old new : List Call) (before after : SinkTexts)
    → IsTextRead begun behind old new path heard → IsCutText error path heard before after → IsCutAt error path old new before after
cut_at Memory path heard begun behind old new before after read cut = (record { answer = read.answer; made = read.made }, cut.0, cut.1)
cut_at Write path heard begun behind old new before after read cut = record { begun = begun; behind = behind; heard = heard; read = read; cut = cut }
cut_at Words path heard begun behind old new before after read cut = absurd cut
