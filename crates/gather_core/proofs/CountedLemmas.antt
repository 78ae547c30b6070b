-- A crate's turn with the exceptions that count for it, whose files are looked at behind all else.
use Rattle.std.proofs.Common.{◌≡◌, ◌∙◌, ◌≤◌, ◌+◌, arith, length-append, ℕ, length, take, drop, Bool, true, false, cond, List, [], ◌∷◌, ◌++◌, map, Option, None, Some, option_map, Result, Ok, Err, OnErr, refl, sym, ap, ap₂, subst, append-nil, append_assoc}
use Rattle.std.specs.List.{fold}
use Rattle.std.specs.Option.{option_to_list}
use Rattle.std.specs.Prelude.{IfOk, IfSome}
use Rattle.std.specs.declared.alloc.AllocError.{AllocError}
use Rattle.std.proofs.lemmas.List.{map-append}
use Rattle.tree_core.specs.Call.{Call}
use Rattle.tree_core.specs.Content.{Content}
use Rattle.tree_core.specs.declared.reads.ReadRecord.{ReadRecord}
use Rattle.tree_core.proofs.MadeLemmas.{made_as}
use Rattle.diag_core.specs.declared.label.Coord.{Coord}
use Rattle.diag_core.specs.File.{File, file_id_at}
use Rattle.graph_core.specs.Krate.{CrateRecord}
use Rattle.tree_core.specs.file_reads.Heard.{ReadResult}
use Rattle.tree_core.specs.file_reads.Read.{LackedMemory, MadeReads, AnsweredRead, calls_in, records_of_reads}
use Rattle.tree_core.proofs.file_reads.ReadLemmas.{reads_joined, reads_lacking, records_in-append}
use Rattle.gather_license.specs.files.Calls.{IsFront, Starves, TakesIn, unread_file}
use Rattle.gather_license.specs.files.KnownReads.{FolderReads, known_reads_by}
use Rattle.gather_license.specs.files.Steps.{Agrees, file_record, with_path}
use Rattle.gather_license.specs.files.View.{PackView, paths_read}
use Rattle.gather_license.proofs.files.CallLemmas.{agrees_before, map_option, paths_read-append, same_lost}
use Rattle.gather_license.proofs.files.PathLemmas.{looks_behind}
use Rattle.gather_license.specs.expression.Kept.{file_kept, kept_where}
use Rattle.gather_license.specs.expression.Scanned.{Scanner}
use Rattle.gather_license.specs.location.Calls.{manifest_by}
use Rattle.gather_license.specs.location.Location.{PointsAt, located_by}
use Rattle.gather_license.specs.Clarification.{ClarificationView}
use Rattle.gather_license.specs.Priority.{folder_of, is_nothing}
use Rattle.gather_core.specs.declared.turn.LocatedLicense.{LocatedLicense}
use Rattle.gather_core.specs.declared.turn.TakenLicense.{TakenLicense}
use Rattle.gather_core.specs.Calls.{IsByOwnReads, StarvesTaking}
use Rattle.gather_core.specs.Exceptions.{ExceptionRules, further_paths, looked_for, named_for}
use Rattle.gather_core.specs.Taken.{CountsBy, IsBegun, IsBegunFrom, IsTaken, Keeps, turn_with}
use Rattle.gather_core.specs.Turns.{TurnInput, asks_manifest, field_text, in_order, located_where, not_asked, paths_behind, records_before, records_in}
use Rattle.gather_core.proofs.CallLemmas.{HasNoManifest, manifest_before, no_file, starves_wider}
use Rattle.gather_core.proofs.TakenLemmas.{begun_reads}

-- ---- lists

abbrev behind : {A : Type 0} → List A → List A
behind [] = []
behind (x ∷ xs) = xs

-- what is behind the same front is the same
pub same_behind : {A : Type 0} (front xs ys : List A) → front ++ xs ≡ front ++ ys → xs ≡ ys
same_behind [] xs ys same = same
same_behind (x ∷ front) xs ys same = same_behind front xs ys (ap behind same)

take_front : (front more : List ReadRecord) → take (length front) (front ++ more) ≡ front
take_front [] more = refl
take_front (read ∷ front) more = ap (λ (rest : List ReadRecord). read ∷ rest) (take_front front more)

drop_front : (front more : List ReadRecord) → drop (length front) (front ++ more) ≡ more
drop_front [] more = refl
drop_front (read ∷ front) more = drop_front front more

-- its place is among all
pub place_inside : (manifest_first : Bool) (front more all : List ReadRecord) (n place : ℕ) → n ≡ length front → place ≡ cond manifest_first 0 n → all ≡ front ++ more → place ≤ length all
place_inside true front more all n place counted is are = let first : place ≡ 0 = is in omega (arith, first)
place_inside false front more all n place counted is are =
    let last : place ≡ n = is in
    let long : length all ≡ length front + length more = ap length are ∙ length-append front more in
    omega (arith, last, counted, long)

-- the manifest's record among others
pub placed_manifest : (manifest_first : Bool) (manifest : Option ReadRecord) (front more all : List ReadRecord) (n place : ℕ) → n ≡ length front → place ≡ cond manifest_first 0 n → all ≡ front ++ more
    → take place all ++ (option_to_list manifest ++ drop place all) ≡ in_order manifest_first manifest front ++ more
placed_manifest true manifest front more all n place counted is are =
    ap (λ (at : ℕ). take at all ++ (option_to_list manifest ++ drop at all)) is
    ∙ ap (λ (reads : List ReadRecord). option_to_list manifest ++ reads) are
    ∙ sym (append_assoc (option_to_list manifest) front more)
placed_manifest false manifest front more all n place counted is are =
    ap (λ (at : ℕ). take at all ++ (option_to_list manifest ++ drop at all)) (is ∙ counted)
    ∙ ap (λ (reads : List ReadRecord). take (length front) reads ++ (option_to_list manifest ++ drop (length front) reads)) are
    ∙ ap₂ (λ (first last : List ReadRecord). first ++ (option_to_list manifest ++ last)) (take_front front more) (drop_front front more)
    ∙ sym (append_assoc front (option_to_list manifest) more)

-- ---- a manifest is no licence file

no_path_at : (path field : List ℕ) (files : List File) (manifest : ReadResult) (asks : Bool) (there : Option ℕ)
    → paths_read (option_to_list (cond asks (located_by path field files manifest there) not_asked).read) ≡ []
no_path_at path field files manifest false there = refl
no_path_at path field files manifest true None = refl
no_path_at path field files manifest true (Some id) = refl

pub no_path : (asks : Bool) (krate : CrateRecord) (files : List File) (manifest : ReadResult) → paths_read (option_to_list (located_where asks krate files manifest).read) ≡ []
no_path asks krate files manifest = no_path_at krate.manifest_path (field_text krate) files manifest asks (file_id_at files krate.manifest_path)

pub paths_in_order : (manifest_first : Bool) (manifest : Option ReadRecord) (reads : List ReadRecord) → paths_read (option_to_list manifest) ≡ [] → paths_read (in_order manifest_first manifest reads) ≡ paths_read reads
paths_in_order true manifest reads none =
    paths_read-append (option_to_list manifest) reads ∙ ap (λ (paths : List (List ℕ)). paths ++ paths_read reads) none
paths_in_order false manifest reads none =
    paths_read-append reads (option_to_list manifest) ∙ ap (λ (paths : List (List ℕ)). paths_read reads ++ paths) none ∙ append-nil (paths_read reads)

-- ---- one turn

module _ (scanner : Scanner) (clarifications : List ClarificationView) (rules : ExceptionRules) (krate : CrateRecord) (files : List File) (located : LocatedLicense) (left : List File) where
  abbrev turn_at : FolderReads → ReadResult → TurnInput
  turn_at known_reads manifest = turn_with scanner clarifications rules krate known_reads manifest files

  abbrev begun_records : List ReadRecord
  begun_records = in_order (is_nothing clarifications) located.manifest located.pack.reads

  abbrev IsBegunAt : FolderReads → ReadResult → Type 0
  IsBegunAt known_reads manifest = IsBegunFrom (turn_at known_reads manifest) located left

  -- the files that were read before are those of the pack
  paths_before : (known_reads : FolderReads) (manifest : ReadResult) → IsBegun (turn_at known_reads manifest) located left → paths_read begun_records ≡ paths_read located.pack.reads
  paths_before known_reads manifest begun =
      paths_in_order (is_nothing clarifications) located.manifest located.pack.reads
      (ap (λ (read : Option ReadRecord). paths_read (option_to_list read)) begun.manifest ∙ no_path (asks_manifest clarifications krate known_reads) krate files manifest)

  -- what is wanted onto the pack's files is these, and those behind them
  wanted_behind : (known_reads : FolderReads) (manifest : ReadResult) → IsBegun (turn_at known_reads manifest) located left
      → fold with_path (paths_read located.pack.reads) (named_for rules krate known_reads) ≡ paths_read located.pack.reads ++ paths_behind (turn_at known_reads manifest)
  wanted_behind known_reads manifest begun =
      looks_behind (paths_read located.pack.reads) (named_for rules krate known_reads)
      ∙ ap (λ (read : List (List ℕ)). paths_read located.pack.reads ++ further_paths read (looked_for rules krate known_reads))
      (sym (paths_before known_reads manifest begun) ∙ ap paths_read (begun_reads (turn_at known_reads manifest) located left begun))

  paths_of_pack : (more : List AnsweredRead) (next : PackView) → TakesIn more located.pack next → paths_read next.reads ≡ paths_read located.pack.reads ++ paths_read (records_of_reads more)
  paths_of_pack more next takes = ap paths_read takes.adds ∙ paths_read-append located.pack.reads (records_of_reads more)

  module _ {told mid : Option Content} {before middle : ℕ} {old between : List Call} (by : IsByOwnReads told mid before middle old between (folder_of krate) begun_records IsBegunAt) where
    -- the turn goes on to a pack, by some reads
    agrees_all : (more : List AnsweredRead) (next : PackView) → TakesIn more located.pack next → Agrees (known_reads_by (by.reads ++ more)) next
    agrees_all more next takes =
        takes.agreeing by.reads
        (ap paths_read by.recorded_are ∙ paths_before (known_reads_by by.reads) (manifest_by by.reads) (by.is_so.by_any (known_reads_by by.reads) by.is_so.agrees)) by.is_so.agrees

    begun_all : (more : List AnsweredRead) (next : PackView) → TakesIn more located.pack next → IsBegun (turn_at (known_reads_by (by.reads ++ more)) (manifest_by by.reads)) located left
    begun_all more next takes =
        by.is_so.by_any (known_reads_by (by.reads ++ more)) (agrees_before more located.pack next (known_reads_by (by.reads ++ more)) takes (agrees_all more next takes))

    manifest_all : (more : List AnsweredRead) (next : PackView) → TakesIn more located.pack next → manifest_by (by.reads ++ more) ≡ manifest_by by.reads
    manifest_all more next takes =
        let known_reads = known_reads_by (by.reads ++ more) in
        manifest_before by.reads more (subst HasNoManifest (sym (takes.of_files known_reads (agrees_all more next takes))) (no_file known_reads (paths_read (records_of_reads more))))

    module _ {tells : Option Content} {after : ℕ} {new : List Call} where
      -- what was taken is what the turn asks for, by all its reads
      pub own_counted : (taken : TakenLicense) → Keeps located taken → CountsBy mid tells middle after between new scanner rules krate (is_nothing clarifications) located taken
          → IsByOwnReads told tells before after old new (folder_of krate) taken.reads (λ known_reads manifest. IsTaken (turn_at known_reads manifest) taken left)
      own_counted taken keeps counts =
          let more = counts.goes.reads in
          let takes = counts.goes.takes in
          let known_reads = known_reads_by (by.reads ++ more) in
          let manifest = manifest_by by.reads in
          let agrees = agrees_all more counts.left takes in
          let begun = begun_all more counts.left takes in
          let paths : paths_read (records_of_reads more) ≡ paths_behind (turn_at known_reads manifest) =
          same_behind (paths_read located.pack.reads) (paths_read (records_of_reads more)) (paths_behind (turn_at known_reads manifest))
          (sym (paths_of_pack more counts.left takes) ∙ counts.paths known_reads agrees ∙ wanted_behind known_reads manifest begun) in
          let reads : taken.reads ≡ records_in (turn_at known_reads manifest) =
          counts.reads
          ∙ ap₂ (λ (front back : List ReadRecord). front ++ back) (begun_reads (turn_at known_reads manifest) located left begun)
          (takes.of_files known_reads agrees ∙ ap (map (file_record known_reads)) paths) in
          let paths_are : paths_read counts.left.reads ≡ paths_read (records_in (turn_at known_reads manifest)) =
          paths_of_pack more counts.left takes
          ∙ sym (ap paths_read counts.reads ∙ paths_read-append begun_records (records_of_reads more)
          ∙ ap (λ (first : List (List ℕ)). first ++ paths_read (records_of_reads more)) (paths_before known_reads manifest begun))
          ∙ ap paths_read reads in
          let is : IsTaken (turn_at known_reads manifest) taken left =
          record {
            by = keeps.by ∙ begun.by;
            missing = keeps.missing ∙ begun.missing;
            location = keeps.location ∙ begun.location;
            counted = counts.counted known_reads agrees;
            reads = reads;
            kept =
                counts.kept known_reads agrees
                ∙ ap (λ (files : List (List ℕ)). kept_where scanner.keeps (map (file_kept scanner known_reads) files)) paths_are;
            table = begun.table;
          } in
          record {
            reads = by.reads ++ more;
            recorded_are = records_in-append by.reads more ∙ ap (λ (front : List ReadRecord). front ++ records_of_reads more) by.recorded_are ∙ sym counts.reads;
            made = reads_joined (folder_of krate) by.reads more by.made (subst (λ (at : List ℕ). MadeReads mid tells middle after between new at more) by.is_so.folder counts.goes.made);
            is_so = subst (λ (heard : ReadResult). IsTaken (turn_at known_reads heard) taken left) (sym (manifest_all more counts.left takes)) is;
          }

      -- memory was wanting as the files of exceptions were looked at
      pub starves_counting : Starves mid tells middle after between new located.pack (λ known_reads. fold with_path (paths_read located.pack.reads) (named_for rules krate known_reads))
          → StarvesTaking told tells before after old new (folder_of krate) (λ known_reads manifest. records_in (turn_at known_reads manifest))
      starves_counting starves =
          let more = starves.reads in
          let takes = starves.takes in
          let known_reads = known_reads_by (by.reads ++ more) in
          let manifest = manifest_by by.reads in
          let turn = turn_at known_reads manifest in
          let agrees = agrees_all more starves.lost takes in
          let begun = begun_all more starves.lost takes in
          let files_more = paths_read (records_of_reads more) in
          let next = option_map (file_record known_reads) starves.next in
          let front = starves.front known_reads agrees in
          let first = paths_read located.pack.reads in
          let last = option_to_list starves.next in
          let all_paths : paths_behind turn ≡ (files_more ++ last) ++ front.0 =
          same_behind first (paths_behind turn) ((files_more ++ last) ++ front.0)
          (sym (wanted_behind known_reads manifest begun) ∙ front.1
          ∙ ap (λ (paths : List (List ℕ)). (paths ++ last) ++ front.0) (paths_of_pack more starves.lost takes)
          ∙ ap (λ (paths : List (List ℕ)). paths ++ front.0) (append_assoc first files_more last)
          ∙ append_assoc first (files_more ++ last) front.0) in
          let made_of = map (file_record known_reads) in
          let reads : records_in turn ≡ (records_of_reads (by.reads ++ more) ++ option_to_list next) ++ made_of front.0 =
          ap (λ (paths : List (List ℕ)). records_before turn ++ made_of paths) all_paths
          ∙ ap (λ (records : List ReadRecord). records_before turn ++ records)
          (map-append (file_record known_reads) (files_more ++ last) front.0
          ∙ ap (λ (records : List ReadRecord). records ++ made_of front.0)
          (map-append (file_record known_reads) files_more last
          ∙ ap₂ (λ (one other : List ReadRecord). one ++ other) (sym (takes.of_files known_reads agrees)) (map_option (file_record known_reads) starves.next)))
          ∙ sym (append_assoc (records_before turn) (records_of_reads more ++ option_to_list next) (made_of front.0))
          ∙ ap (λ (records : List ReadRecord). records ++ made_of front.0)
          (sym (append_assoc (records_before turn) (records_of_reads more) (option_to_list next))
          ∙ ap (λ (records : List ReadRecord). (records ++ records_of_reads more) ++ option_to_list next) (sym (begun_reads turn located left begun) ∙ sym by.recorded_are)
          ∙ ap (λ (records : List ReadRecord). records ++ option_to_list next) (sym (records_in-append by.reads more))) in
          record {
            reads = by.reads ++ more;
            next = next;
            made = reads_lacking (folder_of krate) by.reads more next by.made
                (record {
                  made = made_as (ap (λ (calls : List Call). calls_in (folder_of krate) more ++ calls) (same_lost (folder_of krate) known_reads starves.next))
                      (subst (λ (at : List ℕ). LackedMemory mid tells middle after between new at more (option_map unread_file starves.next)) by.is_so.folder starves.made).made;
                  are = starves.made.are;
                });
            front =
                subst (λ (heard : ReadResult). IsFront (records_of_reads (by.reads ++ more) ++ option_to_list next) (records_in (turn_at known_reads heard))) (sym (manifest_all more starves.lost takes))
                (made_of front.0, reads);
          }

-- ---- the turn as a whole

module _ {told mid : Option Content} {before middle : ℕ} {old between : List Call} (scanner : Scanner) (clarifications : List ClarificationView) (rules : ExceptionRules) (krate : CrateRecord) (files : List File) (located : LocatedLicense) (left : List File)
    (tells : Option Content) (after : ℕ) (new : List Call)
    (by : IsByOwnReads told mid before middle old between (folder_of krate) (begun_records scanner clarifications rules krate files located left) (IsBegunAt scanner clarifications rules krate files located left)) where
  pub own_taken : (result : Result TakenLicense AllocError) (manifest_first : Bool) → manifest_first ≡ is_nothing clarifications → IfOk result (λ taken. Keeps located taken)
      → IfOk result (λ taken. CountsBy mid tells middle after between new scanner rules krate manifest_first located taken)
      → IfOk result (λ taken. IsByOwnReads told tells before after old new (folder_of krate) taken.reads (λ known_reads manifest. IsTaken (turn_with scanner clarifications rules krate known_reads manifest files) taken left))
  own_taken (Ok taken) manifest_first is keeps counts =
      own_counted scanner clarifications rules krate files located left by taken keeps (subst (λ (b : Bool). CountsBy mid tells middle after between new scanner rules krate b located taken) is counts)
  own_taken (Err error) manifest_first is keeps counts = tt

  pub starves_taken : (result : Result TakenLicense AllocError)
      → OnErr result (Starves mid tells middle after between new located.pack (λ known_reads. fold with_path (paths_read located.pack.reads) (named_for rules krate known_reads)))
      → OnErr result (StarvesTaking told tells before after old new (folder_of krate) (λ known_reads manifest. records_in (turn_with scanner clarifications rules krate known_reads manifest files)))
  starves_taken (Ok taken) starves = tt
  starves_taken (Err error) starves = starves_counting scanner clarifications rules krate files located left by starves

-- memory was wanting before the files of exceptions were looked at
pub starves_behind_begun : {told tells : Option Content} {before after : ℕ} {old new : List Call} (scanner : Scanner) (clarifications : List ClarificationView) (rules : ExceptionRules) (krate : CrateRecord) (files : List File)
    → StarvesTaking told tells before after old new (folder_of krate) (λ known_reads manifest. records_before (turn_with scanner clarifications rules krate known_reads manifest files))
    → StarvesTaking told tells before after old new (folder_of krate) (λ known_reads manifest. records_in (turn_with scanner clarifications rules krate known_reads manifest files))
starves_behind_begun scanner clarifications rules krate files starves =
    starves_wider (folder_of krate) (λ known_reads manifest. records_before (turn_with scanner clarifications rules krate known_reads manifest files))
    (λ known_reads manifest. records_in (turn_with scanner clarifications rules krate known_reads manifest files))
    (λ known_reads manifest. (map (file_record known_reads) (paths_behind (turn_with scanner clarifications rules krate known_reads manifest files)), refl)) starves

-- the field's place is kept
pub points_taken : (located : LocatedLicense) (files : List File) (words : List ℕ) (result : Result TakenLicense AllocError) → IfOk result (λ taken. Keeps located taken)
    → IfSome located.location (λ at. PointsAt files at words) → IfOk result (λ taken. IfSome taken.location (λ at. PointsAt files at words))
points_taken located files words (Ok taken) keeps points = subst (λ (location : Option Coord). IfSome location (λ at. PointsAt files at words)) (sym keeps.location) points
points_taken located files words (Err error) keeps points = tt
