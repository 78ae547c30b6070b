-- The texts of a pack that clarifications add nothing to.
use Rattle.std.proofs.Common.{◌≡◌, ◌∙◌, ℕ, List, [], ◌++◌, Option, Some, None, ap, refl, append-nil, append_assoc}
use Rattle.std.specs.List.{cons_option, filter_map}
use Rattle.std.specs.Option.{option_to_list}
use Rattle.diag_core.specs.declared.label.Coord.{Coord}
use Rattle.graph_core.specs.Krate.{CrateRecord}
use Rattle.tree_core.specs.declared.file_reads.bad_read.BadRead.{BadRead}
use Rattle.tree_core.specs.declared.file_reads.bad_read.BadRead.TheVariants as bad
use Rattle.tree_core.specs.file_reads.Views.{heard_bad}
use Rattle.gather_license.specs.files.KnownReads.{FolderReads}
use Rattle.gather_license.specs.files.Pack.{in_path_order, reads_of, wanted_of}
use Rattle.gather_license.specs.files.Steps.{Agrees}
use Rattle.gather_license.specs.files.View.{PackView, paths_of, paths_read}
use Rattle.gather_license.specs.declared.clarification.HeldClarification.{HeldClarification}
use Rattle.gather_license.specs.OwnTexts.{own_texts_of, text_by, text_in}
use Rattle.gather_license.specs.Steps.{IsLooked}
use Rattle.gather_license.proofs.ApartLemmas.{apart_spellings}
use Rattle.gather_license.proofs.LookedLemmas.{files_looked}

-- a file that is no text gives none
pub no_text : (path : List ℕ) (error : BadRead) → text_by path (heard_bad error) ≡ None
no_text path bad.Absent = refl
no_text path bad.WrongKind = refl
no_text path bad.NotUtf8 = refl
no_text path (bad.Failed before after) = refl

-- what one file adds behind the texts so far stands in front of those of the rest
pub one_more_text : {B : Type 0} (front rest : List B) (found : Option B) → front ++ option_to_list found ++ rest ≡ front ++ cons_option found rest
one_more_text front rest None = ap (λ all. all ++ rest) (append-nil front)
one_more_text front rest (Some text) = append_assoc front (option_to_list (Some text)) rest

pub texts_looked : (krate : CrateRecord) (pack : PackView) (held : Option HeldClarification) (missing : List Coord) (known_reads : FolderReads)
    → IsLooked krate [] pack held missing → paths_of pack.files ≡ in_path_order (paths_read pack.reads) → Agrees known_reads pack
    → filter_map text_in pack.files ≡ own_texts_of krate known_reads
texts_looked krate pack held missing known_reads is sorted agrees =
    ap (filter_map text_in)
    (files_looked known_reads pack (reads_of known_reads krate.license_file []) agrees (sorted ∙ ap in_path_order (is.paths known_reads agrees))
    (apart_spellings (wanted_of known_reads krate.license_file [])))
