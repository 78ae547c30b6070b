-- Packs that go on by the reads that they make, and what is asked for where memory is wanting.
use Rattle.std.proofs.Common.{◌≡◌, ℕ, Bool, true, false, ◌&&◌, ◌||◌, cond, List, [], ◌∷◌, ◌++◌, map, take, drop, take-append-drop, append-nil, append_assoc, Option, None, Some, Result, Ok, Err, OnErr, ◌⊎◌, inl, inr, refl, sym, ap, ap₂, subst, ◌∙◌}
use Rattle.std.specs.List.{cons_option, fold, list_any}
use Rattle.std.specs.Option.{option_map, option_to_list}
use Rattle.std.proofs.lemmas.List.{map-append}
use Rattle.std.proofs.lemmas.List.Elements.{filter_map-append}
use Rattle.std.proofs.lemmas.List.Sums.{fold-append}
use Rattle.deny_text.specs.Path.{components_of, join_of}
use Rattle.tree_core.specs.Call as call
use Rattle.tree_core.specs.Call.{CallAnswer, Call}
use Rattle.tree_core.specs.Content.{Content}
use Rattle.tree_core.specs.Hearing.{Made, MadeSome}
use Rattle.tree_core.proofs.MadeLemmas.{made_as, made_these}
use Rattle.tree_core.specs.declared.reads.ReadKind.TheVariants.{Listing, LicenseFile}
use Rattle.tree_core.specs.declared.reads.ReadRecord.{ReadRecord}
use Rattle.tree_core.specs.file_reads.Answered.{IsListed, IsFileRead, call_of}
use Rattle.tree_core.specs.file_reads.Heard.{ReadResult, absent, is_kind, is_read, read_record_of, same_parts}
use Rattle.tree_core.specs.file_reads.Read.{LackedMemory, MadeReads, AnsweredRead, call_for, call_lost, calls_in, first_heard, kind_answered, read_heard, records_of_reads}
use Rattle.tree_core.proofs.file_reads.ReadLemmas.{first_heard-skip, heard_recorded, lacked_behind, no_reads, one_read, read_with, reads_joined, reads_lacking, records_in-append}
use Rattle.gather_license.specs.files.Calls.{IsMadeBy, GoesBy, IsFront, IsMadeOf, Starves, StarvesAmong, TakesIn, first_records, unread_file}
use Rattle.gather_license.specs.files.KnownReads.{FolderReads, known_reads_by}
use Rattle.gather_license.specs.files.Pack.{license_files_in, same_path}
use Rattle.gather_license.specs.files.Steps.{Agrees, BeginsPack, file_record, records_by, with_file, with_path}
use Rattle.gather_license.specs.files.Told.{file_state}
use Rattle.gather_license.specs.files.View.{PackView, file_at, normal_heard, path_read, paths_read}
use Rattle.gather_license.proofs.files.PackLemmas.{file_at-insert, from_cond, none_told, paths_read-push, record_heard, records-with_file, stays-with_file}
use Rattle.gather_license.proofs.files.PathLemmas.{parts_of_same}

-- ---- prefixes

pub front_itself : {A : Type 0} (xs : List A) → IsFront xs xs
front_itself xs = ([], sym (append-nil xs))

pub front_then : {A : Type 0} (xs ys zs : List A) → IsFront xs ys → IsFront ys zs → IsFront xs zs
front_then xs ys zs first then = (first.0 ++ then.0, then.1 ∙ ap (λ l. l ++ then.0) first.1 ∙ append_assoc xs first.0 then.0)

front_with_path : (paths : List (List ℕ)) (path : List ℕ) → IsFront paths (with_path paths path)
front_with_path paths path =
    elim (list_any (same_path path) paths) as (λ b. IsFront paths (cond b paths (paths ++ path ∷ []))) [ true ↦ front_itself paths | false ↦ (path ∷ [], refl) ]

pub front_looks : (start more : List (List ℕ)) → IsFront start (fold with_path start more)
front_looks start [] = front_itself start
front_looks start (path ∷ more) =
    front_then start (with_path start path) (fold with_path (with_path start path) more) (front_with_path start path) (front_looks (with_path start path) more)

-- with none behind them
pub front_alone : {A : Type 0} (xs ys : List A) → IsFront xs ys → IsFront (xs ++ []) ys
front_alone xs ys front = subst (λ l. IsFront l ys) (sym (append-nil xs)) front

pub first_false : (a b : Bool) → (a || b) ≡ false → a ≡ false
first_false true b e = cc
first_false false b e = refl

pub second_false : (a b : Bool) → (a || b) ≡ false → b ≡ false
second_false true b e = cc
second_false false b e = e

-- ---- the first read that is asked for

-- no file of these parts is among the records
none_read : (at : List ℕ) (reads : List AnsweredRead) → list_any (same_path at) (paths_read (records_of_reads reads)) ≡ false → (last : AnsweredRead) → is_read LicenseFile (components_of at) last.recorded ≡ true
    → first_heard (is_read LicenseFile (components_of at)) (reads ++ last ∷ []) ≡ read_heard last
none_read at [] none last is = ap (λ b. cond b (read_heard last) (first_heard (is_read LicenseFile (components_of at)) [])) is
none_read at (read ∷ reads) none last is =
    let rest = first_heard (is_read LicenseFile (components_of at)) (reads ++ last ∷ []) in
    let same = same_path at read.recorded.path in
    elim (is_kind LicenseFile read.recorded.kind) as (λ b. list_any (same_path at) (cons_option (cond b (Some read.recorded.path) None) (paths_read (records_of_reads reads))) ≡ false
    → cond (b && same) (read_heard read) rest ≡ read_heard last) [
      | true ↦ λ e.
          ap (λ b. cond b (read_heard read) rest) (first_false same (list_any (same_path at) (paths_read (records_of_reads reads))) e)
          ∙ none_read at reads (second_false same (list_any (same_path at) (paths_read (records_of_reads reads))) e) last is
      | false ↦ λ e. none_read at reads e last is
    ] none

-- ---- what goes into a pack

pub takes_none : (pack : PackView) → TakesIn [] pack pack
takes_none pack = record {
  folder = refl;
  listing = refl;
  stays = λ path heard is. is;
  adds = sym (append-nil pack.reads);
  of_files = λ known_reads agrees. refl;
  records = λ known_reads agrees is. is;
  agreeing = λ earlier same agrees. subst (λ reads. Agrees (known_reads_by reads) pack) (sym (append-nil earlier)) agrees;
  made_of = λ earlier is. subst (λ reads. IsMadeOf reads pack) (sym (append-nil earlier)) is;
}

-- known reads that agree with a pack agree with what it had before
pub agrees_before : (reads : List AnsweredRead) (old new : PackView) (known_reads : FolderReads) → TakesIn reads old new → Agrees known_reads new → Agrees known_reads old
agrees_before reads old new known_reads takes agrees = record {
  listing = agrees.listing ∙ takes.listing;
  files = λ path heard is. agrees.files path heard (takes.stays path heard is);
}

-- the licence files of reads behind others
pub paths_read-append : (front back : List ReadRecord) → paths_read (front ++ back) ≡ paths_read front ++ paths_read back
paths_read-append front back = filter_map-append path_read front back

files_joined : (known_reads : FolderReads) (reads more : List AnsweredRead) → records_of_reads reads ≡ map (file_record known_reads) (paths_read (records_of_reads reads))
    → records_of_reads more ≡ map (file_record known_reads) (paths_read (records_of_reads more))
    → records_of_reads (reads ++ more) ≡ map (file_record known_reads) (paths_read (records_of_reads (reads ++ more)))
files_joined known_reads reads more first then =
    records_in-append reads more
    ∙ ap₂ (λ (front back : List ReadRecord). front ++ back) first then
    ∙ sym (map-append (file_record known_reads) (paths_read (records_of_reads reads)) (paths_read (records_of_reads more)))
    ∙ ap (map (file_record known_reads)) (sym (paths_read-append (records_of_reads reads) (records_of_reads more)))
    ∙ ap (λ (those : List ReadRecord). map (file_record known_reads) (paths_read those)) (sym (records_in-append reads more))

pub takes_then : (reads more : List AnsweredRead) (old mid new : PackView) → TakesIn reads old mid → TakesIn more mid new → TakesIn (reads ++ more) old new
takes_then reads more old mid new first then = record {
  folder = then.folder ∙ first.folder;
  listing = then.listing ∙ first.listing;
  stays = λ path heard is. then.stays path heard (first.stays path heard is);
  adds =
      then.adds ∙ ap (λ those. those ++ records_of_reads more) first.adds ∙ append_assoc old.reads (records_of_reads reads) (records_of_reads more)
      ∙ ap (λ those. old.reads ++ those) (sym (records_in-append reads more));
  of_files = λ known_reads agrees. files_joined known_reads reads more (first.of_files known_reads (agrees_before more mid new known_reads then agrees)) (then.of_files known_reads agrees);
  records = λ known_reads agrees is. then.records known_reads agrees (first.records known_reads (agrees_before more mid new known_reads then agrees) is);
  agreeing = λ earlier same agrees.
      subst (λ those. Agrees (known_reads_by those) new) (append_assoc earlier reads more)
      (then.agreeing (earlier ++ reads)
      (ap paths_read (records_in-append earlier reads) ∙ paths_read-append (records_of_reads earlier) (records_of_reads reads)
      ∙ ap (λ paths. paths ++ paths_read (records_of_reads reads)) same
      ∙ sym (paths_read-append old.reads (records_of_reads reads)) ∙ ap paths_read (sym first.adds))
      (first.agreeing earlier same agrees));
  made_of = λ earlier is. subst (λ those. IsMadeOf those new) (append_assoc earlier reads more) (then.made_of (earlier ++ reads) (first.made_of earlier is));
}

-- a file that was read goes into a pack that had none of the same parts
pub takes_file : (pack : PackView) (path : List ℕ) (heard : ReadResult) (answer : CallAnswer) (before after : ℕ) → file_at pack.files path ≡ None
    → list_any (same_path path) (paths_read pack.reads) ≡ false → kind_answered LicenseFile before after answer ≡ Some heard
    → TakesIn (read_with LicenseFile path heard answer ∷ []) pack (with_file pack path heard)
takes_file pack path heard answer before after none unread hears = record {
  folder = refl;
  listing = refl;
  stays = stays-with_file pack path heard none;
  adds = refl;
  of_files = λ known_reads agrees. ap (λ (read : ReadRecord). read ∷ []) (record_heard pack path heard none known_reads agrees);
  records = records-with_file pack path heard none;
  agreeing = agreeing;
  made_of = λ earlier is. record {
    records = ap (λ reads. reads ++ read_record_of LicenseFile path heard ∷ []) is.records ∙ sym (records_in-append earlier (last ∷ []));
    agrees = agreeing earlier (ap paths_read (sym is.records)) is.agrees;
  };
}
  where
    last : AnsweredRead
    last = read_with LicenseFile path heard answer

    agreeing : (earlier : List AnsweredRead) → paths_read (records_of_reads earlier) ≡ paths_read pack.reads → Agrees (known_reads_by earlier) pack
        → Agrees (known_reads_by (earlier ++ last ∷ [])) (with_file pack path heard)
    agreeing earlier alike agrees = record {
      listing = first_heard-skip (λ read. is_kind Listing read.kind) earlier last refl ∙ agrees.listing;
      files = λ at found there.
          from_cond (λ found. normal_heard (first_heard (is_read LicenseFile (components_of at)) (earlier ++ last ∷ [])) ≡ found)
          (same_path at path) (normal_heard heard) (file_at pack.files at) found
          (λ same. ap normal_heard (none_read at earlier
          (ap (λ parts. list_any (λ other. same_parts parts (components_of other)) (paths_read (records_of_reads earlier))) (parts_of_same at path same)
          ∙ ap (λ paths. list_any (same_path path) paths) alike ∙ unread) last same
          ∙ heard_recorded LicenseFile path before after answer heard hears))
          (λ differs was. ap normal_heard (first_heard-skip (is_read LicenseFile (components_of at)) earlier last differs) ∙ agrees.files at found was)
          (sym (file_at-insert pack.files path (normal_heard heard) at none) ∙ there);
    }

-- ---- over a tree

pub goes_itself : (told : Option Content) (count : ℕ) (calls : List Call) (pack : PackView) → GoesBy told told count count calls calls pack pack
goes_itself told count calls pack = record { reads = []; takes = takes_none pack; made = no_reads told count calls pack.folder }

pub goes_file : {told tells : Option Content} {before after : ℕ} {old new : List Call} (pack : PackView) (path : List ℕ) (heard : ReadResult) (answer : CallAnswer)
    → file_at pack.files path ≡ None → list_any (same_path path) (paths_read pack.reads) ≡ false → kind_answered LicenseFile before after answer ≡ Some heard
    → Made told tells before after old new (call_for pack.folder (read_record_of LicenseFile path heard) answer ∷ []) → GoesBy told tells before after old new pack (with_file pack path heard)
goes_file {told} {tells} {before} {after} {old} {new} pack path heard answer none unread hears made = record {
  reads = read_with LicenseFile path heard answer ∷ [];
  takes = takes_file pack path heard answer before after none unread hears;
  made = one_read pack.folder LicenseFile path heard answer made hears;
}

module _ {told mid tells : Option Content} {before middle after : ℕ} {old between new : List Call} (pack next : PackView) where
  pub goes_then : (last : PackView) → GoesBy told mid before middle old between pack next → GoesBy mid tells middle after between new next last → GoesBy told tells before after old new pack last
  goes_then last first then = record {
    reads = first.reads ++ then.reads;
    takes = takes_then first.reads then.reads pack next last first.takes then.takes;
    made = reads_joined pack.folder first.reads then.reads first.made
        (subst (λ folder. MadeReads mid tells middle after between new folder then.reads) first.takes.folder then.made);
  }

  -- memory was wanting in a later step, which wanted first ones of these
  pub starves_then : (wanted wider : FolderReads → List (List ℕ)) → GoesBy told mid before middle old between pack next → Starves mid tells middle after between new next wanted
      → ((known_reads : FolderReads) → Agrees known_reads next → IsFront (wanted known_reads) (wider known_reads)) → Starves told tells before after old new pack wider
  starves_then wanted wider first then wide = record {
    reads = first.reads ++ then.reads;
    lost = then.lost;
    next = then.next;
    takes = takes_then first.reads then.reads pack next then.lost first.takes then.takes;
    made = reads_lacking pack.folder first.reads then.reads (option_map unread_file then.next) first.made
        (subst (λ folder. LackedMemory mid tells middle after between new folder then.reads (option_map unread_file then.next)) first.takes.folder then.made);
    front = λ known_reads agrees.
        front_then (paths_read then.lost.reads ++ option_to_list then.next) (wanted known_reads) (wider known_reads) (then.front known_reads agrees)
        (wide known_reads (agrees_before then.reads next then.lost known_reads then.takes agrees));
  }

-- memory was wanting behind a step
pub starves_behind : {told tells : Option Content} {before after : ℕ} {old new : List Call} (pack next : PackView) (wanted : FolderReads → List (List ℕ))
    → GoesBy told tells before after old new pack next → ((known_reads : FolderReads) → Agrees known_reads next → IsFront (paths_read next.reads) (wanted known_reads))
    → Starves told tells before after old new pack wanted
starves_behind pack next wanted goes front = record {
  reads = goes.reads;
  lost = next;
  next = None;
  takes = goes.takes;
  made = lacked_behind pack.folder goes.reads goes.made;
  front = λ known_reads agrees. front_alone (paths_read next.reads) (wanted known_reads) (front known_reads agrees);
}

-- memory was wanting in the call for a file
pub starves_in_call : {told tells : Option Content} {before after : ℕ} {old new : List Call} (pack : PackView) (path : List ℕ) (wanted : FolderReads → List (List ℕ))
    → Made told tells before after old new (call_lost pack.folder (Some (unread_file path))) → ((known_reads : FolderReads) → IsFront (paths_read pack.reads ++ path ∷ []) (wanted known_reads))
    → Starves told tells before after old new pack wanted
starves_in_call pack path wanted made front = record {
  reads = [];
  lost = pack;
  next = Some path;
  takes = takes_none pack;
  made = record { made = made; are = tt };
  front = λ known_reads agrees. front known_reads;
}

-- what was wanted is wanted by another name
pub starves_as : {told tells : Option Content} {before after : ℕ} {old new : List Call} (pack : PackView) (wanted wider : FolderReads → List (List ℕ))
    → Starves told tells before after old new pack wanted → ((known_reads : FolderReads) → IsFront (wanted known_reads) (wider known_reads)) → Starves told tells before after old new pack wider
starves_as {told} {tells} {before} {after} {old} {new} pack wanted wider starves wide =
    starves_then pack pack wanted wider (goes_itself told before old pack) starves (λ known_reads agrees. wide known_reads)

pub on_err : {A E : Type 0} (result : Result A E) (P : Type 0) → P → OnErr result P
on_err (Ok x) P holds = tt
on_err (Err e) P holds = holds

-- ---- a look-up

-- memory was wanting before the call for a file that was not read, or in it
pub starves_in_file : {told tells : Option Content} {before after : ℕ} {old new : List Call} (pack : PackView) (path : List ℕ) → list_any (same_path path) (paths_read pack.reads) ≡ false
    → Made told tells before after old new [] ⊎ Made told tells before after old new (call_lost pack.folder (Some (unread_file path)))
    → Starves told tells before after old new pack (λ known_reads. with_path (paths_read pack.reads) path)
starves_in_file pack path unread (inl none) = record {
  reads = [];
  lost = pack;
  next = None;
  takes = takes_none pack;
  made = record { made = none; are = tt };
  front = λ known_reads agrees. front_alone (paths_read pack.reads) (with_path (paths_read pack.reads) path) (front_with_path (paths_read pack.reads) path);
}
starves_in_file pack path unread (inr called) =
    starves_in_call pack path (λ known_reads. with_path (paths_read pack.reads) path) called
    (λ known_reads. ([], ap (λ b. cond b (paths_read pack.reads) (paths_read pack.reads ++ path ∷ [])) unread ∙ sym (append-nil (paths_read pack.reads ++ path ∷ []))))

-- a file that was read goes into the pack
pub goes_read : {told tells : Option Content} {before after : ℕ} {old new : List Call} (pack : PackView) (path : List ℕ) (heard : ReadResult) (folder at : List ℕ)
    → None ≡ option_map file_state (file_at pack.files path) → false ≡ list_any (same_path path) (paths_read pack.reads) → folder ≡ pack.folder → at ≡ path
    → IsFileRead before after old new (join_of folder at) heard → MadeSome told tells before after old new → GoesBy told tells before after old new pack (with_file pack path heard)
goes_read {old = old} pack path heard folder at untold unread folder_is at_is read some =
    goes_file pack path heard read.answer (none_told (file_at pack.files path) untold) (sym unread) read.hears
    (made_these some (read.made ∙ ap (λ path. old ++ call_of call.read path read.answer ∷ []) (ap₂ join_of folder_is at_is)))

-- and memory was wanting then
pub starves_read : {told tells : Option Content} {before after : ℕ} {old new : List Call} (pack : PackView) (path : List ℕ) (heard : ReadResult) (folder at : List ℕ)
    → None ≡ option_map file_state (file_at pack.files path) → false ≡ list_any (same_path path) (paths_read pack.reads) → folder ≡ pack.folder → at ≡ path
    → IsFileRead before after old new (join_of folder at) heard → MadeSome told tells before after old new → Starves told tells before after old new pack (λ known_reads. with_path (paths_read pack.reads) path)
starves_read pack path heard folder at untold unread folder_is at_is read some =
    starves_behind pack (with_file pack path heard) (λ known_reads. with_path (paths_read pack.reads) path) (goes_read pack path heard folder at untold unread folder_is at_is read some)
    (λ known_reads agrees. subst (λ paths. IsFront paths (with_path (paths_read pack.reads) path)) (sym (paths_read-push pack.reads path heard))
    ([], ap (λ b. cond b (paths_read pack.reads) (paths_read pack.reads ++ path ∷ [])) (sym unread) ∙ sym (append-nil (paths_read pack.reads ++ path ∷ []))))

-- it was not read, for want of memory
pub starves_unread : {told tells : Option Content} {before after : ℕ} {old new : List Call} (pack : PackView) (path folder at : List ℕ) → false ≡ list_any (same_path path) (paths_read pack.reads)
    → folder ≡ pack.folder → at ≡ path → (new ≡ old) ⊎ (new ≡ old ++ call_of call.read (join_of folder at) call.no_memory ∷ []) → MadeSome told tells before after old new
    → Starves told tells before after old new pack (λ known_reads. with_path (paths_read pack.reads) path)
starves_unread {old = old} pack path folder at unread folder_is at_is (inl none) some =
    starves_in_file pack path (sym unread) (inl (made_these some (none ∙ sym (append-nil old))))
starves_unread {old = old} pack path folder at unread folder_is at_is (inr called) some =
    starves_in_file pack path (sym unread) (inr (made_these some (called ∙ ap (λ path. old ++ call_of call.read path call.no_memory ∷ []) (ap₂ join_of folder_is at_is))))

-- nothing was asked, for want of memory
pub starves_before : (told : Option Content) (count : ℕ) (calls : List Call) (pack : PackView) (path : List ℕ) → Starves told told count count calls calls pack (λ known_reads. with_path (paths_read pack.reads) path)
starves_before told count calls pack path =
    starves_behind pack pack (λ known_reads. with_path (paths_read pack.reads) path) (goes_itself told count calls pack)
    (λ known_reads agrees. front_with_path (paths_read pack.reads) path)

-- the same path, by another name
pub starves_for : {told tells : Option Content} {before after : ℕ} {old new : List Call} (pack : PackView) (path asked : List ℕ) → path ≡ asked
    → Starves told tells before after old new pack (λ known_reads. with_path (paths_read pack.reads) path) → Starves told tells before after old new pack (λ known_reads. with_path (paths_read pack.reads) asked)
starves_for {told} {tells} {before} {after} {old} {new} pack path asked is starves =
    subst (λ (one : List ℕ). Starves told tells before after old new pack (λ known_reads. with_path (paths_read pack.reads) one)) is starves

-- ---- look-ups one after another

-- what was looked up so far are first ones of all
pub front_taken : (start paths : List (List ℕ)) (n : ℕ) → IsFront (fold with_path start (take n paths)) (fold with_path start paths)
front_taken start paths n =
    subst (IsFront (fold with_path start (take n paths)))
    (sym (fold-append with_path start (take n paths) (drop n paths)) ∙ ap (fold with_path start) (take-append-drop n paths))
    (front_looks (fold with_path start (take n paths)) (drop n paths))

-- ---- a pack that begins

abbrev pub listing_pack : List ℕ → ReadResult → PackView
listing_pack folder heard = record { folder = folder; listing = heard; files = []; reads = read_record_of Listing folder heard ∷ [] }

listing_made_of : (folder : List ℕ) (heard : ReadResult) (answer : CallAnswer) (before after : ℕ) → kind_answered Listing before after answer ≡ Some heard
    → IsMadeOf (read_with Listing folder heard answer ∷ []) (listing_pack folder heard)
listing_made_of folder heard answer before after hears = record {
  records = refl;
  agrees = record {
    listing = heard_recorded Listing folder before after answer heard hears;
    files = λ path found there. let bad : None ≡ Some found = there in cc;
  };
}

pub listing_made : {told tells : Option Content} {before after : ℕ} {old new : List Call} (folder : List ℕ) (heard : ReadResult) → IsListed before after old new folder heard → MadeSome told tells before after old new
    → IsMadeBy told tells before after old new folder (listing_pack folder heard)
listing_made {before = before} {after = after} folder heard listed some = record {
  reads = read_with Listing folder heard listed.answer ∷ [];
  is = listing_made_of folder heard listed.answer before after listed.hears;
  made = one_read folder Listing folder heard listed.answer (made_these some listed.made) listed.hears;
}

-- a pack that goes on
pub made_then : {told mid tells : Option Content} {before middle after : ℕ} {old between new : List Call} (folder : List ℕ) (first next : PackView) → first.folder ≡ folder
    → IsMadeBy told mid before middle old between folder first → GoesBy mid tells middle after between new first next → IsMadeBy told tells before after old new folder next
made_then {mid = mid} {tells = tells} {middle = middle} {after = after} {between = between} {new = new} folder first next is made goes = record {
  reads = made.reads ++ goes.reads;
  is = goes.takes.made_of made.reads made.is;
  made = reads_joined folder made.reads goes.reads made.made (subst (λ at. MadeReads mid tells middle after between new at goes.reads) is goes.made);
}

-- no memory in the call of the listing
pub starves_listing : {told tells : Option Content} {before after : ℕ} {old new : List Call} (folder : List ℕ) (license_file : Option (List ℕ))
    → new ≡ old ++ call_of call.list folder call.no_memory ∷ [] → MadeSome told tells before after old new
    → StarvesAmong told tells before after old new folder (λ known_reads. first_records known_reads folder license_file)
starves_listing folder license_file called some = record {
  reads = [];
  next = Some (read_record_of Listing folder absent);
  made = record { made = made_these some called; are = tt };
  front = ([], refl);
}

-- ---- from the files that are wanted to the records

pub map_option : {A B : Type 0} (f : A → B) (o : Option A) → map f (option_to_list o) ≡ option_to_list (option_map f o)
map_option f None = refl
map_option f (Some x) = refl

front_records : (known_reads : FolderReads) (folder : List ℕ) (paths : List (List ℕ)) (next : Option (List ℕ)) (all : List (List ℕ)) → IsFront (paths ++ option_to_list next) all
    → IsFront (records_by known_reads folder paths ++ option_to_list (option_map (file_record known_reads) next)) (records_by known_reads folder all)
front_records known_reads folder paths next all front = (
  map (file_record known_reads) front.0,
  ap (records_by known_reads folder) front.1
      ∙ ap (λ (reads : List ReadRecord). read_record_of Listing folder known_reads.listing ∷ reads)
      (map-append (file_record known_reads) (paths ++ option_to_list next) front.0
      ∙ ap (λ (reads : List ReadRecord). reads ++ map (file_record known_reads) front.0)
      (map-append (file_record known_reads) paths (option_to_list next) ∙ ap (λ (reads : List ReadRecord). map (file_record known_reads) paths ++ reads) (map_option (file_record known_reads) next))),
)

-- the call that found no memory is that of its path, whatever its record tells
pub same_lost : (folder : List ℕ) (known_reads : FolderReads) (next : Option (List ℕ)) → call_lost folder (option_map unread_file next) ≡ call_lost folder (option_map (file_record known_reads) next)
same_lost folder known_reads None = refl
same_lost folder known_reads (Some path) = refl

pub starves_among : {told mid tells : Option Content} {before middle after : ℕ} {old between new : List Call} (folder : List ℕ) (earlier : List AnsweredRead) (pack : PackView) (wanted wider : FolderReads → List (List ℕ))
    → pack.folder ≡ folder → IsMadeOf earlier pack → MadeReads told mid before middle old between folder earlier → Starves mid tells middle after between new pack wanted
    → ((known_reads : FolderReads) → Agrees known_reads pack → pack.reads ≡ records_by known_reads pack.folder (paths_read pack.reads))
    → ((known_reads : FolderReads) → Agrees known_reads pack → IsFront (wanted known_reads) (wider known_reads))
    → StarvesAmong told tells before after old new folder (λ known_reads. records_by known_reads folder (wider known_reads))
starves_among {told} {mid} {tells} {before} {middle} {after} {old} {between} {new} folder earlier pack wanted wider is made_of made starves records wide =
    let reads : List AnsweredRead = earlier ++ starves.reads in
    let known_reads = known_reads_by reads in
    let all = starves.takes.made_of earlier made_of in
    let at_first = agrees_before starves.reads pack starves.lost known_reads starves.takes all.agrees in
    let paths = paths_read starves.lost.reads in
    let recorded : records_of_reads reads ≡ records_by known_reads folder paths =
    sym all.records ∙ starves.takes.records known_reads all.agrees (records known_reads at_first) ∙ ap (λ at. records_by known_reads at paths) (starves.takes.folder ∙ is) in
    record {
      reads = reads;
      next = option_map (file_record known_reads) starves.next;
      made = reads_lacking folder earlier starves.reads (option_map (file_record known_reads) starves.next) made
          (record {
            made = made_as (ap (λ calls. calls_in folder starves.reads ++ calls) (same_lost folder known_reads starves.next))
                (subst (λ at. LackedMemory mid tells middle after between new at starves.reads (option_map unread_file starves.next)) is starves.made).made;
            are = starves.made.are;
          });
      front = subst (λ those. IsFront (those ++ option_to_list (option_map (file_record known_reads) starves.next)) (records_by known_reads folder (wider known_reads))) (sym recorded)
          (front_records known_reads folder paths starves.next (wider known_reads)
          (front_then (paths ++ option_to_list starves.next) (wanted known_reads) (wider known_reads) (starves.front known_reads all.agrees) (wide known_reads at_first)));
    }

-- memory was wanting before any call
pub starves_unasked : (told : Option Content) (count : ℕ) (calls : List Call) (folder : List ℕ) (wanted : FolderReads → List ReadRecord) → StarvesAmong told told count count calls calls folder wanted
starves_unasked told count calls folder wanted = record {
  reads = [];
  next = None;
  made = lacked_behind folder [] (no_reads told count calls folder);
  front = (wanted (known_reads_by []), refl);
}

-- ---- memory was wanting behind a pack

pub starves_with : {told tells : Option Content} {before after : ℕ} {old new : List Call} (folder : List ℕ) (pack : PackView) (wanted : FolderReads → List (List ℕ)) → pack.folder ≡ folder
    → IsMadeBy told tells before after old new folder pack → ((known_reads : FolderReads) → Agrees known_reads pack → pack.reads ≡ records_by known_reads pack.folder (paths_read pack.reads))
    → ((known_reads : FolderReads) → Agrees known_reads pack → IsFront (paths_read pack.reads) (wanted known_reads))
    → StarvesAmong told tells before after old new folder (λ known_reads. records_by known_reads folder (wanted known_reads))
starves_with {told} {tells} {before} {after} {old} {new} folder pack wanted is made records front =
    starves_among folder made.reads pack wanted wanted is made.is made.made
    (starves_behind pack pack wanted (goes_itself tells after new pack) front) records (λ known_reads agrees. front_itself (wanted known_reads))

-- the records of a listing are by any known reads that agree with its pack
pub listing_records : (folder : List ℕ) (heard : ReadResult) (known_reads : FolderReads) → Agrees known_reads (listing_pack folder heard) → (listing_pack folder heard).reads ≡ records_by known_reads folder []
listing_records folder heard known_reads agrees = sym (ap (λ (one : ReadResult). read_record_of Listing folder one ∷ []) agrees.listing)

-- a pack begins, where it goes on from its listing by what is found
pub begins_with : (folder : List ℕ) (license_file : Option (List ℕ)) (heard : ReadResult) (reads : List AnsweredRead) (new : PackView) → TakesIn reads (listing_pack folder heard) new
    → paths_read new.reads ≡ fold with_path [] (license_files_in heard license_file) → BeginsPack folder license_file new
begins_with folder license_file heard reads new takes paths = record {
  folder_is = takes.folder;
  records = λ known_reads agrees. takes.records known_reads agrees (listing_records folder heard known_reads (agrees_before reads (listing_pack folder heard) new known_reads takes agrees));
  paths = paths ∙ ap (λ (one : ReadResult). fold with_path [] (license_files_in one license_file)) (sym takes.listing);
}

-- the files that are found, where these are by what is read of the listing
front_found : (folder : List ℕ) (heard : ReadResult) (license_file : Option (List ℕ)) (known_reads : FolderReads) → Agrees known_reads (listing_pack folder heard)
    → fold with_path [] (license_files_in heard license_file) ≡ fold with_path [] (license_files_in known_reads.listing license_file)
front_found folder heard license_file known_reads agrees = ap (λ (one : ReadResult). fold with_path [] (license_files_in one license_file)) (sym agrees.listing)

pub starves_listed : {told tells : Option Content} {before after : ℕ} {old new : List Call} (folder : List ℕ) (license_file : Option (List ℕ)) (heard : ReadResult)
    → IsListed before after old new folder heard → MadeSome told tells before after old new
    → StarvesAmong told tells before after old new folder (λ known_reads. first_records known_reads folder license_file)
starves_listed folder license_file heard listed some =
    starves_with folder (listing_pack folder heard) (λ known_reads. fold with_path [] (license_files_in known_reads.listing license_file)) refl
    (listing_made folder heard listed some) (listing_records folder heard) (λ known_reads agrees. front_looks [] (license_files_in known_reads.listing license_file))

pub starves_found : {told mid tells : Option Content} {before middle after : ℕ} {old between new : List Call} (folder : List ℕ) (license_file : Option (List ℕ)) (heard : ReadResult) (first : PackView) (names : List (List ℕ))
    → first ≡ listing_pack folder heard → names ≡ license_files_in heard license_file → IsListed before middle old between folder heard → MadeSome told mid before middle old between
    → Starves mid tells middle after between new first (λ known_reads. fold with_path (paths_read first.reads) names)
    → StarvesAmong told tells before after old new folder (λ known_reads. first_records known_reads folder license_file)
starves_found {told} {mid} {tells} {before} {middle} {after} {old} {between} {new} folder license_file heard first names is are listed some starves =
    let made = listing_made folder heard listed some in
    starves_among folder made.reads (listing_pack folder heard) (λ known_reads. fold with_path [] names) (λ known_reads. fold with_path [] (license_files_in known_reads.listing license_file)) refl made.is made.made
    (subst (λ (pack : PackView). Starves mid tells middle after between new pack (λ known_reads. fold with_path (paths_read pack.reads) names)) is starves)
    (listing_records folder heard)
    (λ known_reads agrees. subst (IsFront (fold with_path [] names)) (ap (fold with_path []) are ∙ front_found folder heard license_file known_reads agrees) (front_itself (fold with_path [] names)))

pub made_found : {told mid tells : Option Content} {before middle after : ℕ} {old between new : List Call} (folder : List ℕ) (heard : ReadResult) (first next : PackView) → first ≡ listing_pack folder heard
    → IsListed before middle old between folder heard → MadeSome told mid before middle old between → GoesBy mid tells middle after between new first next → IsMadeBy told tells before after old new folder next
made_found {told} {mid} {tells} {before} {middle} {after} {old} {between} {new} folder heard first next is listed some goes =
    made_then folder (listing_pack folder heard) next refl (listing_made folder heard listed some)
    (subst (λ (pack : PackView). GoesBy mid tells middle after between new pack next) is goes)

-- ---- looks for the files of a clarification

pub starves_looks : {told mid tells : Option Content} {before middle after : ℕ} {old between new : List Call} (pack mid_pack : PackView) (path : List ℕ) (wider : FolderReads → List (List ℕ))
    → GoesBy told mid before middle old between pack mid_pack → Starves mid tells middle after between new mid_pack (λ known_reads. with_path (paths_read mid_pack.reads) path)
    → (rest : FolderReads → List (List ℕ)) → ((known_reads : FolderReads) → Agrees known_reads mid_pack → wider known_reads ≡ fold with_path (paths_read mid_pack.reads) (path ∷ rest known_reads))
    → Starves told tells before after old new pack wider
starves_looks pack mid_pack path wider goes starves rest are =
    starves_then pack mid_pack (λ known_reads. with_path (paths_read mid_pack.reads) path) wider goes starves
    (λ known_reads agrees. subst (IsFront (with_path (paths_read mid_pack.reads) path)) (sym (are known_reads agrees)) (front_looks (with_path (paths_read mid_pack.reads) path) (rest known_reads)))
