-- The own reads of crates, one crate after another.
use Rattle.std.proofs.Common.{◌≡◌, ◌∙◌, inl, inr, ℕ, List, [], ◌∷◌, ◌++◌, map, Option, refl, sym, ap, subst, append-nil, append_assoc, drop, take, take-append-drop}
use Rattle.std.proofs.lemmas.List.{map-append}
use Rattle.std.proofs.lemmas.List.Elements.{All-nil, All-push}
use Rattle.tree_core.specs.Call.{Call}
use Rattle.tree_core.specs.Content.{Content}
use Rattle.tree_core.specs.declared.reads.ReadRecord.{ReadRecord}
use Rattle.tree_core.specs.file_reads.Read.{AreReads, call_lost, calls_in}
use Rattle.tree_core.proofs.MadeLemmas.{made_as, made_joined, made_none}
use Rattle.graph_core.specs.Krate.{CrateRecord}
use Rattle.gather_license.specs.declared.texts.OwnText.{OwnText}
use Rattle.gather_license.specs.declared.texts.OwnTexts.{OwnTexts}
use Rattle.gather_license.specs.files.Calls.{IsFront, StarvesAmong}
use Rattle.gather_license.specs.OwnTexts.{HasOwnTexts, own_records_of}
use Rattle.gather_license.specs.Priority.{folder_of}
use Rattle.gather_core.specs.Calls.{ReadsOfCrate, calls_of_all}
use Rattle.gather_core.proofs.TurnCalls.{are_then, calls_push, reads_push}
use Rattle.run_found.specs.Hearing.{tree_seen}
use Rattle.run_notice.specs.declared.own.CrateTexts.{CrateTexts}
use Rattle.run_notice.specs.Own.{HaveOwnTexts, IsOwnCut, ReadsOwnTexts, crates_in, own_heard, own_of}

pub have_none : (told : Option Content) (count : ℕ) (calls : List Call) → HaveOwnTexts [] (tree_seen told told count count calls calls) []
have_none told count calls = record {
  own = [];
  made = made_none told count calls;
  are = record { crates_are = refl; due = All-nil ReadsOwnTexts; records = tt };
  texts_are = refl;
}

module _ {told mid tells : Option Content} {before middle after : ℕ} {old between new : List Call} (crates : List CrateRecord) (krate : CrateRecord) (texts : List CrateTexts)
    (first : HaveOwnTexts crates (tree_seen told mid before middle old between) texts) where
  -- one crate more
  pub have_more : (own : OwnTexts) → HasOwnTexts mid tells middle after between new krate own → HaveOwnTexts (crates ++ krate ∷ []) (tree_seen told tells before after old new) (texts ++ record { id = krate.id; own = own } ∷ [])
  have_more own has =
      let one : ReadsOfCrate = record { krate = krate; reads = has.reads } in
      record {
        own = first.own ++ one ∷ [];
        made = made_as (sym (calls_push first.own one)) (made_joined first.made has.made.made);
        are = record {
          crates_are = map-append (λ (one : ReadsOfCrate). one.krate) first.own (one ∷ []) ∙ ap (λ (those : List CrateRecord). those ++ krate ∷ []) first.are.crates_are;
          due = All-push ReadsOwnTexts first.own one first.are.due (has.recorded_are ∙ has.due);
          records = subst (AreReads before) (sym (reads_push first.own one)) (are_then first.own has.reads first.made first.are.records has.made.are);
        };
        texts_are =
            ap (λ (those : List CrateTexts). those ++ record { id = krate.id; own = own } ∷ []) first.texts_are
            ∙ ap (λ (mine : OwnTexts). map own_of first.own ++ record { id = krate.id; own = mine } ∷ []) (same_own own has)
            ∙ sym (map-append own_of first.own (one ∷ []));
      }
    where
      same_own : (own : OwnTexts) (has : HasOwnTexts mid tells middle after between new krate own) → own ≡ (own_of (record { krate = krate; reads = has.reads })).own
      same_own own has =
          ap (λ (texts : List OwnText). record { texts = texts; reads = own.reads }) has.texts ∙ ap (λ (reads : List ReadRecord). record { texts = own_heard (record { krate = krate; reads = has.reads }); reads = reads }) (sym has.recorded_are)

  -- memory was wanting in the reads of the next crate
  pub cut_next : (all : List CrateRecord) → IsFront (crates ++ krate ∷ []) all → StarvesAmong mid tells middle after between new (folder_of krate) (own_records_of krate)
      → IsOwnCut all (tree_seen told tells before after old new)
  cut_next all among starves = record {
    own = first.own;
    lost = calls_in (folder_of krate) starves.reads ++ call_lost (folder_of krate) starves.next;
    made = made_joined first.made starves.made.made;
    due = first.are.due;
    among = front_of all among;
    ends = inr (record {
      krate = krate;
      reads = starves.reads;
      next = starves.next;
      among = subst (λ (those : List CrateRecord). IsFront (those ++ krate ∷ []) all) (sym first.are.crates_are) among;
      lost_is = refl;
      front = starves.front;
    });
  }
    where
      front_of : (all : List CrateRecord) → IsFront (crates ++ krate ∷ []) all → IsFront (crates_in first.own) all
      front_of all among =
          (krate ∷ among.0, among.1 ∙ append_assoc crates (krate ∷ []) among.0 ∙ ap (λ (those : List CrateRecord). those ++ krate ∷ among.0) (sym first.are.crates_are))

-- memory was wanting behind the reads of a crate
pub cut_behind : {told tells : Option Content} {before after : ℕ} {old new : List Call} (crates all : List CrateRecord) (texts : List CrateTexts) → HaveOwnTexts crates (tree_seen told tells before after old new) texts
    → IsFront crates all → IsOwnCut all (tree_seen told tells before after old new)
cut_behind {told} {tells} {before} {after} {old} {new} crates all texts has among = record {
  own = has.own;
  lost = [];
  made = made_as (sym (append-nil (calls_of_all has.own))) has.made;
  due = has.are.due;
  among = subst (λ (those : List CrateRecord). IsFront those all) (sym has.are.crates_are) among;
  ends = inl refl;
}

-- the first ones of a list
pub front_so_far : {A B : Type 0} (f : A → B) (xs : List A) (place : ℕ) → IsFront (map f (take place xs)) (map f xs)
front_so_far f xs place = (map f (drop place xs), ap (map f) (sym (take-append-drop place xs)) ∙ map-append f (take place xs) (drop place xs))
