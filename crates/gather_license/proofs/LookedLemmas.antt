-- From what was looked at for a crate to what settles its licence.
use Rattle.std.proofs.Common.{◌≡◌, ◌∙◌, ℕ, length, ◌++◌, true, false, cond, List, [], ◌∷◌, map, Option, None, Some, is_none, refl, sym, ap, subst}
use Rattle.std.specs.Prelude.{option_map}
use Rattle.std.specs.List.{flat_map, fold}
use Rattle.std.proofs.lemmas.List.Sums.{fold-append}
use Rattle.diag_core.specs.declared.label.Coord.{Coord}
use Rattle.spdx_core.specs.Reading.{ExpressionView}
use Rattle.graph_core.specs.Krate.{CrateRecord}
use Rattle.tree_core.specs.file_reads.Heard.{ReadResult}
use Rattle.tree_core.specs.file_reads.Read.{AnsweredRead}
use Rattle.gather_license.specs.files.Calls.{TakesIn}
use Rattle.gather_license.specs.files.KnownReads.{FolderReads, known_reads_by, looked_of, tried_of}
use Rattle.gather_license.specs.files.NamedFile.{NamedFileView}
use Rattle.gather_license.specs.files.Pack.{license_files_in, in_path_order, pack_paths, reads_of, wanted_of}
use Rattle.gather_license.specs.files.Steps.{Agrees, BeginsPack, records_by, unread_pack, with_path}
use Rattle.gather_license.specs.files.View.{PackView, paths_of, paths_read}
use Rattle.gather_license.proofs.files.CallLemmas.{agrees_before}
use Rattle.gather_license.proofs.files.PathLemmas.{look_ups_keep_first_spellings}
use Rattle.gather_license.specs.expression.Scanned.{Scanner, file_scanned}
use Rattle.gather_license.specs.declared.clarification.HeldClarification.{HeldClarification}
use Rattle.gather_license.specs.declared.settle.SettledLicense.{SettledLicense}
use Rattle.gather_license.specs.declared.settling.FilesSeen.{FilesSeen}
use Rattle.gather_license.specs.declared.settling.LicenseBasis.TheVariants.{Field}
use Rattle.gather_license.specs.Clarification.{ClarificationView, named_files, held_in}
use Rattle.gather_license.specs.Priority.{by_seen, field_of, files_heard, files_scanned, folder_of, holding_clarification, is_nothing, looks_at_files, records_with, seen_by, settling_by}
use Rattle.gather_license.specs.Settled.{IsSettledBy, IsSettledFrom, missing_of}
use Rattle.gather_license.specs.Steps.{IsLooked, IsOrderedBy, IsOrderedFrom, seen_in}
use Rattle.gather_license.proofs.ApartLemmas.{AreApart, apart_in_order, apart_spellings, heard_at_paths}

-- what was found and then looked up was read in the order of the reads
pub paths_looked : (known_reads : FolderReads) (license_file : Option (List ℕ)) (clarifications : List (List NamedFileView)) (listing : ReadResult) (begun last : List (List ℕ))
    → known_reads.listing ≡ listing → begun ≡ fold with_path [] (license_files_in listing license_file)
    → last ≡ fold with_path begun (flat_map (looked_of known_reads) (tried_of known_reads clarifications)) → last ≡ reads_of known_reads license_file clarifications
paths_looked known_reads license_file clarifications listing begun last same begins looks =
    let more = flat_map (looked_of known_reads) (tried_of known_reads clarifications) in
    looks
    ∙ ap (λ paths. fold with_path paths more) begins
    ∙ sym (fold-append with_path [] (license_files_in listing license_file) more)
    ∙ ap (λ heard. fold with_path [] (license_files_in heard license_file ++ more)) (sym same)
    ∙ look_ups_keep_first_spellings (license_files_in known_reads.listing license_file ++ more)

pub looked : (krate : CrateRecord) (clarifications : List ClarificationView) (reads : List AnsweredRead) (begun new : PackView) (held : Option HeldClarification) (missing : List Coord)
    → BeginsPack (folder_of krate) krate.license_file begun
    → TakesIn reads begun new
    → ((known_reads : FolderReads) → Agrees known_reads new → paths_read new.reads ≡ fold with_path (paths_read begun.reads) (flat_map (looked_of known_reads) (tried_of known_reads (named_files clarifications))))
    → ((known_reads : FolderReads) → Agrees known_reads new → held ≡ option_map held_in (holding_clarification known_reads clarifications))
    → ((known_reads : FolderReads) → Agrees known_reads new → missing ≡ missing_of known_reads clarifications)
    → IsLooked krate clarifications new held missing
looked krate clarifications reads begun new held missing begins takes paths holds lacks =
    let read : (known_reads : FolderReads) → Agrees known_reads new → paths_read new.reads ≡ reads_of known_reads krate.license_file (named_files clarifications) =
    λ known_reads agrees. paths_looked known_reads krate.license_file (named_files clarifications) begun.listing (paths_read begun.reads) (paths_read new.reads)
    (agrees_before reads begun new known_reads takes agrees).listing begins.paths (paths known_reads agrees) in
    record {
      folder = takes.folder ∙ begins.folder_is;
      paths = read;
      reads = λ known_reads agrees.
          takes.records known_reads agrees (begins.records known_reads (agrees_before reads begun new known_reads takes agrees))
          ∙ ap (λ folder. records_by known_reads folder (paths_read new.reads)) (takes.folder ∙ begins.folder_is)
          ∙ ap (records_by known_reads (folder_of krate)) (read known_reads agrees);
      held_is = holds;
      missing_is = lacks;
    }

-- the files of the pack are what is read of the paths of the pack
pub files_looked : (known_reads : FolderReads) (pack : PackView) (paths : List (List ℕ)) → Agrees known_reads pack → paths_of pack.files ≡ in_path_order paths → AreApart paths
    → pack.files ≡ files_heard known_reads (in_path_order paths)
files_looked known_reads pack paths agrees sorted apart =
    sym (heard_at_paths known_reads.file pack.files (subst AreApart (sym sorted) (apart_in_order paths apart)) agrees.files) ∙ ap (files_heard known_reads) sorted

pub ordered : (scanner : Scanner) (krate : CrateRecord) (clarifications : List ClarificationView)
    → (held : Option HeldClarification) (missing : List Coord) (field : Option ExpressionView) (settled : SettledLicense) → IsLooked krate clarifications settled.pack held missing
    → paths_of settled.pack.files ≡ in_path_order (paths_read settled.pack.reads) → field ≡ field_of scanner.lists krate
    → settled.by ≡ settling_by held field (by_seen scanner.lists (seen_in scanner settled.pack)) → settled.missing ≡ missing
    → (known_reads : FolderReads) → Agrees known_reads settled.pack → IsOrderedBy scanner clarifications krate known_reads settled
ordered scanner krate clarifications held missing field settled is sorted field_is by_is missing_is known_reads agrees =
    let pack = settled.pack in
    let wanted = wanted_of known_reads krate.license_file (named_files clarifications) in
    let files : pack.files ≡ files_heard known_reads (pack_paths known_reads krate.license_file (named_files clarifications)) =
    files_looked known_reads pack (reads_of known_reads krate.license_file (named_files clarifications)) agrees (sorted ∙ ap in_path_order (is.paths known_reads agrees)) (apart_spellings wanted) in
    let seen : seen_in scanner pack ≡ seen_by known_reads.listing (files_scanned scanner clarifications krate known_reads) =
    ap (λ (files : List (List ℕ × ReadResult)). seen_by pack.listing (map (file_scanned scanner) files)) files
    ∙ ap (λ listing. seen_by listing (files_scanned scanner clarifications krate known_reads)) (sym agrees.listing) in
    record {
      by =
          by_is
          ∙ ap (λ (one : Option HeldClarification). settling_by one field (by_seen scanner.lists (seen_in scanner pack))) (is.held_is known_reads agrees)
          ∙ ap (λ (one : Option ExpressionView). settling_by (option_map held_in (holding_clarification known_reads clarifications)) one (by_seen scanner.lists (seen_in scanner pack))) field_is
          ∙ ap (λ (seen : FilesSeen). settling_by (option_map held_in (holding_clarification known_reads clarifications)) (field_of scanner.lists krate) (by_seen scanner.lists seen)) seen;
      missing = missing_is ∙ is.missing_is known_reads agrees;
      reads = is.reads known_reads agrees;
    }

-- ---- the files were looked at, or were not

pub settled_by_files : (scanner : Scanner) (clarifications : List ClarificationView) (krate : CrateRecord) (known_reads : FolderReads) (settled : SettledLicense)
    → looks_at_files scanner clarifications krate ≡ true → IsOrderedFrom scanner clarifications krate known_reads settled → IsSettledFrom scanner clarifications krate known_reads settled
settled_by_files scanner clarifications krate known_reads settled looks from = record {
  folder = from.folder;
  made = from.made;
  agrees = from.agrees;
  by_any = λ other agrees. record {
    by_is = (from.by_any other agrees).by;
    missing_is = (from.by_any other agrees).missing;
    reads_are = (from.by_any other agrees).reads ∙ sym (ap (λ b. cond b (records_with clarifications krate other) []) looks);
  };
}

pub settled_by_field : (scanner : Scanner) (clarifications : List ClarificationView) (krate : CrateRecord) (known_reads : FolderReads) (settled : SettledLicense) (expression : ExpressionView)
    → is_nothing clarifications ≡ true → Some expression ≡ field_of scanner.lists krate → settled ≡ record { by = Field expression; missing = []; pack = unread_pack (folder_of krate); reads_made = 0 }
    → IsSettledBy scanner clarifications krate known_reads settled
settled_by_field scanner [] krate known_reads settled expression none field is =
    record {
      by_is =
          ap (λ (s : SettledLicense). s.by) is
          ∙ ap (λ (one : Option ExpressionView). settling_by None one (by_seen scanner.lists (seen_by known_reads.listing (files_scanned scanner [] krate known_reads)))) field;
      missing_is = ap (λ (s : SettledLicense). s.missing) is;
      reads_are = ap (λ (s : SettledLicense). s.pack.reads) is ∙ ap (λ (one : Option ExpressionView). cond (is_none one) (records_with [] krate known_reads) []) field;
    }
settled_by_field scanner (first ∷ rest) krate known_reads settled expression none field is = cc

-- what nothing was read of has what no reads say
agrees_unread : (folder : List ℕ) → Agrees (known_reads_by []) (unread_pack folder)
agrees_unread folder = record { listing = refl; files = λ path heard there. let bad : None ≡ Some heard = there in cc }

pub settled_unread : (scanner : Scanner) (clarifications : List ClarificationView) (krate : CrateRecord) (settled : SettledLicense) (expression : ExpressionView)
    → is_nothing clarifications ≡ true → Some expression ≡ field_of scanner.lists krate → settled ≡ record { by = Field expression; missing = []; pack = unread_pack (folder_of krate); reads_made = 0 }
    → IsSettledFrom scanner clarifications krate (known_reads_by []) settled
settled_unread scanner clarifications krate settled expression none field is = record {
  folder = ap (λ (s : SettledLicense). s.pack.folder) is;
  made = ap (λ (s : SettledLicense). s.reads_made) is ∙ sym (ap (λ (s : SettledLicense). length s.pack.reads) is);
  agrees = subst (λ (s : SettledLicense). Agrees (known_reads_by []) s.pack) (sym is) (agrees_unread (folder_of krate));
  by_any = λ other agrees. settled_by_field scanner clarifications krate other settled expression none field is;
}

pub looks_for_some : (scanner : Scanner) (clarifications : List ClarificationView) (krate : CrateRecord) → is_nothing clarifications ≡ false → looks_at_files scanner clarifications krate ≡ true
looks_for_some scanner [] krate some = cc
looks_for_some scanner (first ∷ rest) krate some = refl

pub looks_for_none : (scanner : Scanner) (clarifications : List ClarificationView) (krate : CrateRecord) → None ≡ field_of scanner.lists krate → looks_at_files scanner clarifications krate ≡ true
looks_for_none scanner [] krate none = ap (λ (one : Option ExpressionView). is_none one) (sym none)
looks_for_none scanner (first ∷ rest) krate none = refl

pub nothing_behind : {A B : Type 0} (f : A → B) (xs : List A) → is_nothing (map f xs) ≡ is_nothing xs
nothing_behind f [] = refl
nothing_behind f (x ∷ xs) = refl
