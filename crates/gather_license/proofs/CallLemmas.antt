-- The calls that are made for a crate's licence, and what is asked for where memory is wanting.
use Rattle.std.proofs.Common.{◌≡◌, ◌∙◌, ℕ, true, cond, List, [], ◌∷◌, ◌++◌, map, Option, refl, sym, ap, subst}
use Rattle.std.specs.List.{flat_map, fold}
use Rattle.std.specs.Option.{option_to_list}
use Rattle.std.proofs.lemmas.List.{map-append}
use Rattle.std.proofs.lemmas.List.Sums.{fold-append}
use Rattle.tree_core.specs.Call.{Call}
use Rattle.tree_core.specs.Content.{Content}
use Rattle.tree_core.specs.declared.reads.ReadKind.TheVariants.{Listing}
use Rattle.tree_core.specs.declared.reads.ReadRecord.{ReadRecord}
use Rattle.graph_core.specs.Krate.{CrateRecord}
use Rattle.tree_core.specs.file_reads.Heard.{read_record_of}
use Rattle.tree_core.specs.file_reads.Read.{records_of_reads}
use Rattle.gather_license.specs.files.Calls.{GoesBy, IsFront, IsMadeBy, Starves, StarvesAmong, first_records}
use Rattle.gather_license.specs.files.KnownReads.{FolderReads, known_reads_by, holds, looked_of, tried_of}
use Rattle.gather_license.specs.files.NamedFile.{NamedFileView}
use Rattle.gather_license.specs.files.Pack.{license_files_in, reads_of}
use Rattle.gather_license.specs.files.Steps.{Agrees, BeginsPack, file_record, records_by, with_path}
use Rattle.gather_license.specs.files.View.{PackView, paths_read}
use Rattle.gather_license.proofs.files.CallLemmas.{agrees_before, front_itself, front_looks, front_then, goes_then, starves_among, starves_behind, starves_then, starves_with}
use Rattle.gather_license.proofs.files.PathLemmas.{look_ups_keep_first_spellings}
use Rattle.gather_license.specs.expression.Scanned.{Scanner}
use Rattle.gather_license.specs.declared.clarification.HeldClarification.{HeldClarification}
use Rattle.diag_core.specs.declared.label.Coord.{Coord}
use Rattle.gather_license.specs.Clarification.{ClarificationView, named_files, named_in}
use Rattle.gather_license.specs.Priority.{folder_of, looks_at_files, records_of, records_with}
use Rattle.gather_license.specs.Steps.{IsLooked}
use Rattle.gather_license.proofs.LookedLemmas.{paths_looked}
use Rattle.gather_license.proofs.TriedLemmas.{looks}

-- ---- clarifications, one after another

-- the files of the first are looked up before all others
front_tried : (known_reads : FolderReads) (paths : List (List ℕ)) (one : ClarificationView) (rest : List ClarificationView) → IsFront (fold with_path paths (looked_of known_reads (named_in one))) (looks known_reads paths (one ∷ rest))
front_tried known_reads paths one rest =
    let more = flat_map (looked_of known_reads) (cond (holds known_reads (named_in one)) [] (tried_of known_reads (named_files rest))) in
    subst (IsFront (fold with_path paths (looked_of known_reads (named_in one)))) (sym (fold-append with_path paths (looked_of known_reads (named_in one)) more))
    (front_looks (fold with_path paths (looked_of known_reads (named_in one))) more)

front_among : (pack so_far : PackView) (all rest : List ClarificationView) (one : ClarificationView) (files : List NamedFileView) (known_reads : FolderReads) → files ≡ named_in one
    → looks known_reads (paths_read pack.reads) all ≡ looks known_reads (paths_read so_far.reads) (one ∷ rest)
    → IsFront (fold with_path (paths_read so_far.reads) (looked_of known_reads files)) (looks known_reads (paths_read pack.reads) all)
front_among pack so_far all rest one files known_reads are is =
    subst (λ (those : List NamedFileView). IsFront (fold with_path (paths_read so_far.reads) (looked_of known_reads those)) (looks known_reads (paths_read pack.reads) all)) (sym are)
    (subst (IsFront (fold with_path (paths_read so_far.reads) (looked_of known_reads (named_in one)))) (sym is) (front_tried known_reads (paths_read so_far.reads) one rest))

module _ {told mid tells : Option Content} {before middle after : ℕ} {old between new : List Call} (pack so_far : PackView) (all rest : List ClarificationView) (one : ClarificationView) (files : List NamedFileView) where
  -- memory was wanting as the files of one were looked up
  pub starves_trying : files ≡ named_in one → GoesBy told mid before middle old between pack so_far
      → Starves mid tells middle after between new so_far (λ known_reads. fold with_path (paths_read so_far.reads) (looked_of known_reads files))
      → ((known_reads : FolderReads) → Agrees known_reads so_far → looks known_reads (paths_read pack.reads) all ≡ looks known_reads (paths_read so_far.reads) (one ∷ rest))
      → Starves told tells before after old new pack (λ known_reads. looks known_reads (paths_read pack.reads) all)
  starves_trying are goes starves is =
      starves_then pack so_far (λ known_reads. fold with_path (paths_read so_far.reads) (looked_of known_reads files)) (λ known_reads. looks known_reads (paths_read pack.reads) all) goes starves
      (λ known_reads agrees. front_among pack so_far all rest one files known_reads are (is known_reads agrees))

  -- memory was wanting behind that
  pub starves_tried : (tried : PackView) → files ≡ named_in one → GoesBy told mid before middle old between pack so_far → GoesBy mid tells middle after between new so_far tried
      → ((known_reads : FolderReads) → Agrees known_reads tried → paths_read tried.reads ≡ fold with_path (paths_read so_far.reads) (looked_of known_reads files))
      → ((known_reads : FolderReads) → Agrees known_reads so_far → looks known_reads (paths_read pack.reads) all ≡ looks known_reads (paths_read so_far.reads) (one ∷ rest))
      → Starves told tells before after old new pack (λ known_reads. looks known_reads (paths_read pack.reads) all)
  starves_tried tried are first then paths is =
      starves_behind pack tried (λ known_reads. looks known_reads (paths_read pack.reads) all) (goes_then pack so_far tried first then)
      (λ known_reads agrees.
      subst (λ (those : List (List ℕ)). IsFront those (looks known_reads (paths_read pack.reads) all)) (sym (paths known_reads agrees))
      (front_among pack so_far all rest one files known_reads are (is known_reads (agrees_before then.reads so_far tried known_reads then.takes agrees))))

-- ---- records

records_front : (known_reads : FolderReads) (folder : List ℕ) (paths all : List (List ℕ)) → IsFront paths all → IsFront (records_by known_reads folder paths) (records_by known_reads folder all)
records_front known_reads folder paths all front = (
  map (file_record known_reads) front.0,
  ap (records_by known_reads folder) front.1 ∙ ap (λ (reads : List ReadRecord). read_record_of Listing folder known_reads.listing ∷ reads) (map-append (file_record known_reads) paths front.0),
)

-- more is wanted
pub starves_more : {told tells : Option Content} {before after : ℕ} {old new : List Call} (folder : List ℕ) (wanted wider : FolderReads → List ReadRecord) → ((known_reads : FolderReads) → IsFront (wanted known_reads) (wider known_reads))
    → StarvesAmong told tells before after old new folder wanted → StarvesAmong told tells before after old new folder wider
starves_more folder wanted wider wide starves = record {
  reads = starves.reads;
  next = starves.next;
  made = starves.made;
  front = front_then (records_of_reads starves.reads ++ option_to_list starves.next) (wanted (known_reads_by starves.reads)) (wider (known_reads_by starves.reads)) starves.front (wide (known_reads_by starves.reads));
}

-- what is found is read before what clarifications look up
first_among : (krate : CrateRecord) (clarifications : List ClarificationView) (known_reads : FolderReads) → IsFront (first_records known_reads (folder_of krate) krate.license_file) (records_with clarifications krate known_reads)
first_among krate clarifications known_reads =
    let found = license_files_in known_reads.listing krate.license_file in
    let more = flat_map (looked_of known_reads) (tried_of known_reads (named_files clarifications)) in
    records_front known_reads (folder_of krate) (fold with_path [] found) (reads_of known_reads krate.license_file (named_files clarifications))
    (subst (IsFront (fold with_path [] found)) (sym (fold-append with_path [] found more) ∙ look_ups_keep_first_spellings (found ++ more)) (front_looks (fold with_path [] found) more))

-- memory was wanting as the pack was begun
pub starves_beginning : {told tells : Option Content} {before after : ℕ} {old new : List Call} (krate : CrateRecord) (clarifications : List ClarificationView) (folder : List ℕ) (file : Option (List ℕ))
    → folder ≡ folder_of krate → file ≡ krate.license_file → StarvesAmong told tells before after old new folder (λ known_reads. first_records known_reads folder file)
    → StarvesAmong told tells before after old new (folder_of krate) (records_with clarifications krate)
starves_beginning {told} {tells} {before} {after} {old} {new} krate clarifications folder file folder_is file_is starves =
    starves_more (folder_of krate) (λ known_reads. first_records known_reads (folder_of krate) krate.license_file) (records_with clarifications krate) (first_among krate clarifications)
    (subst (λ (at : List ℕ). StarvesAmong told tells before after old new at (λ known_reads. first_records known_reads at krate.license_file)) folder_is
    (subst (λ (one : Option (List ℕ)). StarvesAmong told tells before after old new folder (λ known_reads. first_records known_reads folder one)) file_is starves))

-- memory was wanting as clarifications were tried
pub starves_looking : {told mid tells : Option Content} {before middle after : ℕ} {old between new : List Call} (krate : CrateRecord) (clarifications : List ClarificationView) (begun : PackView)
    → BeginsPack (folder_of krate) krate.license_file begun → IsMadeBy told mid before middle old between (folder_of krate) begun
    → Starves mid tells middle after between new begun (λ known_reads. looks known_reads (paths_read begun.reads) clarifications)
    → StarvesAmong told tells before after old new (folder_of krate) (records_with clarifications krate)
starves_looking krate clarifications begun begins made starves =
    starves_among (folder_of krate) made.reads begun (λ known_reads. looks known_reads (paths_read begun.reads) clarifications) (λ known_reads. reads_of known_reads krate.license_file (named_files clarifications))
    begins.folder_is made.is made.made starves begins.records
    (λ known_reads agrees.
    subst (IsFront (looks known_reads (paths_read begun.reads) clarifications))
    (paths_looked known_reads krate.license_file (named_files clarifications) begun.listing (paths_read begun.reads) (looks known_reads (paths_read begun.reads) clarifications) agrees.listing begins.paths refl)
    (front_itself (looks known_reads (paths_read begun.reads) clarifications)))

-- memory was wanting behind them
pub starves_looked : {told tells : Option Content} {before after : ℕ} {old new : List Call} (krate : CrateRecord) (clarifications : List ClarificationView) (pack : PackView) (held : Option HeldClarification) (missing : List Coord)
    → IsLooked krate clarifications pack held missing → IsMadeBy told tells before after old new (folder_of krate) pack
    → StarvesAmong told tells before after old new (folder_of krate) (records_with clarifications krate)
starves_looked krate clarifications pack held missing looked made =
    starves_with (folder_of krate) pack (λ known_reads. reads_of known_reads krate.license_file (named_files clarifications)) looked.folder made
    (λ known_reads agrees.
    looked.reads known_reads agrees
    ∙ ap (records_by known_reads (folder_of krate)) (sym (looked.paths known_reads agrees))
    ∙ ap (λ (at : List ℕ). records_by known_reads at (paths_read pack.reads)) (sym looked.folder))
    (λ known_reads agrees. subst (IsFront (paths_read pack.reads)) (looked.paths known_reads agrees) (front_itself (paths_read pack.reads)))

-- where files are looked at
pub starves_at_files : {told tells : Option Content} {before after : ℕ} {old new : List Call} (scanner : Scanner) (clarifications : List ClarificationView) (krate : CrateRecord)
    → looks_at_files scanner clarifications krate ≡ true → StarvesAmong told tells before after old new (folder_of krate) (records_with clarifications krate)
    → StarvesAmong told tells before after old new (folder_of krate) (records_of scanner clarifications krate)
starves_at_files scanner clarifications krate looks =
    starves_more (folder_of krate) (records_with clarifications krate) (records_of scanner clarifications krate)
    (λ known_reads. subst (IsFront (records_with clarifications krate known_reads)) (sym (ap (λ b. cond b (records_with clarifications krate known_reads) []) looks)) (front_itself (records_with clarifications krate known_reads)))
