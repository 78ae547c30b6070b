-- Crates that have their turns one after another, each by its own reads.
use Rattle.std.proofs.Common.{◌≡◌, ◌∙◌, ℕ, ◌+◌, List, [], ◌∷◌, ◌++◌, map, append-nil, Option, Result, Ok, Err, refl, sym, ap, subst, take, take-append-drop, drop}
use Rattle.std.specs.Prelude.{IfOk, OnOk}
use Rattle.std.specs.declared.alloc.AllocError.{AllocError}
use Rattle.std.specs.Option.{option_to_list}
use Rattle.std.proofs.lemmas.List.{map-append}
use Rattle.std.proofs.lemmas.List.Concat.{flat_map-append}
use Rattle.tree_core.specs.Call.{Call}
use Rattle.tree_core.specs.Content.{Content}
use Rattle.tree_core.specs.Hearing.{Made}
use Rattle.tree_core.specs.Trace.{fault_behind, faults_after}
use Rattle.tree_core.specs.declared.reads.ReadRecord.{ReadRecord}
use Rattle.tree_core.proofs.MadeLemmas.{faults_after-append, made_as, made_joined, made_none}
use Rattle.graph_core.specs.Krate.{CrateRecord}
use Rattle.tree_core.specs.file_reads.Read.{AreReads, MadeReads, AnsweredRead, calls_in, records_of_reads}
use Rattle.tree_core.proofs.file_reads.ReadLemmas.{are_joined, calls_in-append}
use Rattle.gather_license.specs.files.Calls.{IsFront}
use Rattle.gather_license.specs.files.KnownReads.{known_reads_by}
use Rattle.gather_license.specs.expression.Scanned.{Scanner}
use Rattle.diag_core.specs.File.{File}
use Rattle.gather_license.specs.location.Calls.{manifest_by}
use Rattle.gather_license.specs.Priority.{folder_of}
use Rattle.gather_core.specs.declared.summary.KrateLicense.{KrateLicense}
use Rattle.gather_core.specs.Calls.{AreTurnsByReads, ReadsOfCrate, IsByOwnReads, IsTurnHeard, StarvesGathering, StarvesTaking}
use Rattle.gather_core.specs.Calls.{calls_of_all, reads_of_all, turn_by, turns_of}
use Rattle.gather_core.specs.Entries.{clarifications_of}
use Rattle.gather_core.specs.Gathered.{krate_of, turn_of}
use Rattle.gather_core.specs.Premises.{Grows}
use Rattle.gather_core.specs.Rules.{GatherRules}
use Rattle.gather_core.specs.Taken.{turn_with}
use Rattle.gather_core.specs.Turns.{IsCutOut, IsTurn, records_in}
use Rattle.gather_core.proofs.CallLemmas.{starves_behind}
use Rattle.gather_core.proofs.CrateTurns.{krates_told, own_turns, turns_more}
use Rattle.gather_core.proofs.GatheredLemmas.{map_push, priority_turn}

-- ---- one crate

-- what is reported of a crate is what its turn says by its own reads
pub license_answered : {told tells : Option Content} {before after : ℕ} {old new : List Call} (scanner : Scanner) (all : GatherRules) (files last : List File) (krate : CrateRecord)
    (records : List ReadRecord) (reads : List AnsweredRead) (result : Result KrateLicense AllocError) → records_of_reads reads ≡ records → MadeReads told tells before after old new (folder_of krate) reads
    → IfOk result (λ license. krate_of license ≡ krate) → IfOk result (λ license. license.reads ≡ records)
    → IfOk result (λ license. IsTurn (turn_with scanner (clarifications_of krate all.clarifications) all.exceptions krate (known_reads_by reads) (manifest_by reads) files) license last)
    → OnOk result (IsCutOut last (turn_with scanner (clarifications_of krate all.clarifications) all.exceptions krate (known_reads_by reads) (manifest_by reads) files))
    → IfOk result (λ license. IsByOwnReads told tells before after old new (folder_of (krate_of license)) license.reads (IsTurnHeard scanner all files license last))
license_answered {told} {tells} {before} {after} {old} {new} scanner all files last krate records reads (Ok license) recorded_are made krate_is reads_are is cut = record {
  reads = reads;
  recorded_are = recorded_are ∙ sym reads_are;
  made = subst (λ (krate : CrateRecord). MadeReads told tells before after old new (folder_of krate) reads) (sym krate_is) made;
  is_so = (
    subst (λ (krate : CrateRecord). IsTurn (turn_with scanner (clarifications_of krate all.clarifications) all.exceptions krate (known_reads_by reads) (manifest_by reads) files) license last) (sym krate_is) is,
    subst (λ (krate : CrateRecord). IsCutOut last (turn_with scanner (clarifications_of krate all.clarifications) all.exceptions krate (known_reads_by reads) (manifest_by reads) files)) (sym krate_is) cut,
  );
}
license_answered scanner all files last krate records reads (Err error) recorded_are made krate_is reads_are is cut = tt

-- memory was wanting behind a crate's turn
pub starves_told : {told tells : Option Content} {before after : ℕ} {old new : List Call} (scanner : Scanner) (all : GatherRules) (files last : List File) (license : KrateLicense)
    → IsByOwnReads told tells before after old new (folder_of (krate_of license)) license.reads (IsTurnHeard scanner all files license last)
    → StarvesTaking told tells before after old new (folder_of (krate_of license)) (λ known_reads manifest. records_in (turn_of scanner all known_reads manifest files license))
starves_told scanner all files last license by =
    starves_behind (folder_of (krate_of license)) license.reads (IsTurnHeard scanner all files license last)
    (λ known_reads manifest. records_in (turn_of scanner all known_reads manifest files license)) (λ known_reads manifest is. is.0.read) by

-- ---- the calls of crates, one after another

-- the count behind reads is the same in any folder
faults_in : (count : ℕ) (folder other : List ℕ) (reads : List AnsweredRead) → faults_after count (calls_in folder reads) ≡ faults_after count (calls_in other reads)
faults_in count folder other [] = refl
faults_in count folder other (read ∷ reads) = faults_in (fault_behind count read.answer) folder other reads

pub counts_of_all : (count : ℕ) (crates : List ReadsOfCrate) → faults_after count (calls_of_all crates) ≡ faults_after count (calls_in [] (reads_of_all crates))
counts_of_all count [] = refl
counts_of_all count (one ∷ crates) =
    let own = calls_in (folder_of one.krate) one.reads in
    faults_after-append count own (calls_of_all crates)
    ∙ counts_of_all (faults_after count own) crates
    ∙ ap (λ (from : ℕ). faults_after from (calls_in [] (reads_of_all crates))) (faults_in count (folder_of one.krate) [] one.reads)
    ∙ sym (faults_after-append count (calls_in [] one.reads) (calls_in [] (reads_of_all crates)))
    ∙ ap (faults_after count) (sym (calls_in-append [] one.reads (reads_of_all crates)))

pub calls_push : (crates : List ReadsOfCrate) (one : ReadsOfCrate) → calls_of_all (crates ++ one ∷ []) ≡ calls_of_all crates ++ calls_in (folder_of one.krate) one.reads
calls_push crates one =
    flat_map-append (λ (one : ReadsOfCrate). calls_in (folder_of one.krate) one.reads) crates (one ∷ [])
    ∙ ap (λ (calls : List Call). calls_of_all crates ++ calls) (append-nil (calls_in (folder_of one.krate) one.reads))

pub reads_push : (crates : List ReadsOfCrate) (one : ReadsOfCrate) → reads_of_all (crates ++ one ∷ []) ≡ reads_of_all crates ++ one.reads
reads_push crates one =
    flat_map-append (λ (one : ReadsOfCrate). one.reads) crates (one ∷ []) ∙ ap (λ (reads : List AnsweredRead). reads_of_all crates ++ reads) (append-nil one.reads)

-- records tell what the answers say, and so do those of the next crate
pub are_then : {told mid : Option Content} {before middle : ℕ} {old between : List Call} (crates : List ReadsOfCrate) (more : List AnsweredRead) → Made told mid before middle old between (calls_of_all crates)
    → AreReads before (reads_of_all crates) → AreReads middle more → AreReads before (reads_of_all crates ++ more)
are_then {told} {mid} {before} {middle} crates more made first then =
    are_joined before [] (reads_of_all crates) more first (subst (λ (count : ℕ). AreReads count more) (made.counts ∙ counts_of_all before crates) then)

-- ---- turn after turn

pub no_turns : (told : Option Content) (count : ℕ) (calls : List Call) (scanner : Scanner) (all : GatherRules) (files : List File)
    → AreTurnsByReads told told count count calls calls scanner all files [] files
no_turns told count calls scanner all files = record { crates = []; made = made_none told count calls; are = tt; turns = record { each = tt; left = refl } }

module _ {told mid tells : Option Content} {before between_count after : ℕ} {old between new : List Call} (scanner : Scanner) (all : GatherRules) (files : List File) (licenses : List KrateLicense) where
  -- one more crate
  pub turns_then : (license : KrateLicense) (middle last : List File) → AreTurnsByReads told mid before between_count old between scanner all files licenses middle → Grows middle last
      → IsByOwnReads mid tells between_count after between new (folder_of (krate_of license)) license.reads (IsTurnHeard scanner all middle license last)
      → AreTurnsByReads told tells before after old new scanner all files (licenses ++ license ∷ []) last
  turns_then license middle last first grows by =
      let one : ReadsOfCrate = record { krate = krate_of license; reads = by.reads } in
      let turn = (turn_by scanner all middle one).turn in
      record {
        crates = first.crates ++ one ∷ [];
        made = made_as (sym (calls_push first.crates one)) (made_joined first.made by.made.made);
        are = subst (AreReads before) (sym (reads_push first.crates one)) (are_then first.crates by.reads first.made first.are by.made.are);
        turns =
            turns_more scanner all one files first.crates licenses license middle last first.turns grows
            (record {
              krate = refl;
              recorded_are = by.recorded_are;
              turn = subst (IsTurn turn license) by.is_so.0.table by.is_so.0;
              answer = priority_turn turn license last by.is_so.0;
              cuts = by.is_so.1;
            })
            by.is_so.0.table;
      }

-- ---- for want of memory

-- memory was wanting at the turn of the next crate
pub starves_next : {told mid tells : Option Content} {before between_count after : ℕ} {old between new : List Call} (scanner : Scanner) (all : GatherRules) (files : List File)
    (licenses : List KrateLicense) (middle : List File) (krate : CrateRecord) (krates : List CrateRecord) → AreTurnsByReads told mid before between_count old between scanner all files licenses middle
    → StarvesTaking mid tells between_count after between new (folder_of krate) (λ known_reads manifest. records_in (turn_with scanner (clarifications_of krate all.clarifications) all.exceptions krate known_reads manifest middle))
    → IsFront (map krate_of licenses ++ krate ∷ []) krates
    → StarvesGathering told tells before after old new scanner all files krates
starves_next scanner all files licenses middle krate krates first starves among =
    let begun : ReadsOfCrate = record { krate = krate; reads = starves.reads } in
    record {
      crates = first.crates;
      begun = begun;
      next = starves.next;
      made = made_joined first.made starves.made.made;
      are = are_then first.crates starves.reads first.made first.are starves.made.are;
      own = own_turns files (turns_of scanner all files first.crates) licenses middle first.turns;
      front =
          subst (λ (files : List File). IsFront (records_of_reads starves.reads ++ option_to_list starves.next) (records_in (turn_by scanner all files begun).turn)) first.turns.left starves.front;
      among =
          subst (λ (those : List CrateRecord). IsFront (those ++ krate ∷ []) krates) (sym (krates_told scanner all files first.crates licenses middle first.turns)) among;
    }

-- the first ones of a list, with the next one
pub front_next : {A B : Type 0} (f : A → B) (xs : List A) (place : ℕ) (x : A) (before : List B) → before ≡ map f (take place xs) → take (place + 1) xs ≡ take place xs ++ x ∷ []
    → IsFront (before ++ f x ∷ []) (map f xs)
front_next f xs place x before are more = (
  map f (drop (place + 1) xs),
  ap (map f) (sym (take-append-drop (place + 1) xs))
      ∙ map-append f (take (place + 1) xs) (drop (place + 1) xs)
      ∙ ap (λ front. map f front ++ map f (drop (place + 1) xs)) more
      ∙ ap (λ front. front ++ map f (drop (place + 1) xs)) (map_push f (take place xs) x ∙ ap (λ front. front ++ f x ∷ []) (sym are)),
)
