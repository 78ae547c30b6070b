-- Help is lines: each begins with two blanks, and no LF is before its end.
use Rattle.std.proofs.Common.{◌≡◌, ◌∙◌, refl, sym, ap₂, ℕ, ◌+◌, ◌≤◌, Bool, true, false, ◌||◌, cond, List, [], ◌∷◌, ◌++◌, Option, Some, None, append-nil, codes, decimal, arith}
use Rattle.std.specs.List.{list_any}
use Rattle.std.proofs.lemmas.List.{length-append}
use Rattle.std.proofs.lemmas.List.Concat.{flat_map-append}
use Rattle.std.proofs.lemmas.List.Elements.{All-append, All-cons, All-nil}
use Rattle.std.proofs.lemmas.List.Folds.{list_any-append}
use Rattle.diag_core.specs.Position.{is_line_feed}
use Rattle.diag_core.specs.declared.position.Location.{Location}
use Rattle.diag_core.specs.declared.severity.Severity.{Severity}
use Rattle.diag_print.specs.Human.{flat_byte, flat_text}
use Rattle.graph_metadata.specs.declared.fault.MetaFault.{MetaFault}
use Rattle.run_found.specs.declared.error.Error.TheVariants.{Memory, NotCarried, ManifestPath, ManifestRead, CatalogRead, CatalogSyntax, StoreRead, ConfigRead, ConfigSyntax, ConfigShape, ConfigInvalid, OverrideTwice, MetadataRead, MetadataSyntax, MetadataShape, NoRoots, NoSuchCrate, NotAccepted, NoText, RecordRead, RecordSyntax, BillText, BillRead, BillSyntax, WriteFault}
use Rattle.spdx_own_names.specs.declared.error.StoreFault.{StoreFault}
use Rattle.toml_subset.specs.declared.error.SyntaxError.{SyntaxError}
use Rattle.tree_core.specs.declared.texts.fault.ReadFault.{ReadFault}
use Rattle.refusal_help.specs.Help.{advice, at_file, at_file_if, catalog_words, fault_at, help_of, is_unresolved, line_and_column, line_help, missing_help, place_in, place_text, policy_help, file_of, resolve_help, roots_help, roots_words, shape_help, store_help, store_place, syntax_help, text_place, twice_help, unknown_help}
use Rattle.refusal_help.specs.Laws.{AreHelpLines, HelpHasItsLines, IsHelpLine, if_known, if_so, line_count, with_end}
use Rattle.refusal_help.specs.Unknown.{names_unknown}
use Rattle.refusal_help.specs.Words.{fault_words, level_option, line_words, manifest_words, policy_words, read_words, reason_words, store_words, what_words}

-- ---- no LF

free_by : (byte : ℕ) (is : Bool) → is_line_feed byte ≡ is → is_line_feed (cond is 32 byte) ≡ false
free_by byte true e = refl
free_by byte false e = e

byte_free : (byte : ℕ) → is_line_feed (flat_byte byte) ≡ false
byte_free byte = free_by byte (is_line_feed byte) refl

flat_free : (text : List ℕ) → list_any is_line_feed (flat_text text) ≡ false
flat_free [] = refl
flat_free (byte ∷ text) = ap₂ ◌||◌ (byte_free byte) (flat_free text)

both_free : (front back : List ℕ) → list_any is_line_feed front ≡ false → list_any is_line_feed back ≡ false → list_any is_line_feed (front ++ back) ≡ false
both_free front back one two = list_any-append is_line_feed front back ∙ ap₂ ◌||◌ one two

-- ---- a line, and lines behind others

no_lines : AreHelpLines 0 []
no_lines = record { lines = []; number = refl; each = All-nil IsHelpLine; text_is = refl }

one_line : (line : List ℕ) → IsHelpLine line → AreHelpLines 1 (with_end line)
one_line line is = record {
  lines = line ∷ [];
  number = refl;
  each = All-cons IsHelpLine line [] is (All-nil IsHelpLine);
  text_is = sym (append-nil (with_end line));
}

lines_behind : (m n : ℕ) (front back : List ℕ) → AreHelpLines m front → AreHelpLines n back → AreHelpLines (m + n) (front ++ back)
lines_behind m n front back one two = record {
  lines = one.lines ++ two.lines;
  number = length-append one.lines two.lines ∙ ap₂ ◌+◌ one.number two.number;
  each = All-append IsHelpLine one.lines two.lines one.each two.each;
  text_is = ap₂ ◌++◌ one.text_is two.text_is ∙ sym (flat_map-append with_end one.lines two.lines);
}

-- ---- the two forms

file_lines : (file words : List ℕ) → AreHelpLines 1 (at_file file words)
file_lines file words =
    let front = codes "  --> " ++ flat_text file in
    let marked = front ++ codes ": " in
    let front_free : list_any is_line_feed front ≡ false = both_free (codes "  --> ") (flat_text file) refl (flat_free file) in
    let marked_free : list_any is_line_feed marked ≡ false = both_free front (codes ": ") front_free refl in
    one_line (marked ++ flat_text words) (record {
      words = codes "--> " ++ flat_text file ++ codes ": " ++ flat_text words;
      begins = refl;
      whole = both_free marked (flat_text words) marked_free (flat_free words);
    })

advice_lines : (words : List ℕ) → AreHelpLines 1 (advice words)
advice_lines words = one_line (codes "  = " ++ flat_text words) (record {
  words = codes "= " ++ flat_text words;
  begins = refl;
  whole = both_free (codes "  = ") (flat_text words) refl (flat_free words);
})

-- ---- the rows of the table

file_if_lines : (file : Option (List ℕ)) (words : List ℕ) → AreHelpLines (if_known file) (at_file_if file words)
file_if_lines (Some file) words = file_lines file words
file_if_lines None words = no_lines

fault_lines : (file : List ℕ) (at : Option Location) (place : ℕ) (words : List ℕ) → AreHelpLines 1 (fault_at file at place words)
fault_lines file (Some at) place words = file_lines (line_and_column file at) words
fault_lines file None place words = file_lines file (codes "at byte " ++ decimal place ++ codes ": " ++ words)

syntax_lines : (file text : Option (List ℕ)) (fault : SyntaxError) → AreHelpLines (if_known file) (syntax_help file text fault)
syntax_lines (Some file) text fault = fault_lines file (place_in text fault.span.start) fault.span.start (reason_words fault.reason)
syntax_lines None text fault = no_lines

policy_lines : (file : Option (List ℕ)) (fault : ReadFault) → AreHelpLines 1 (policy_help file fault)
policy_lines (Some file) fault = file_lines file (policy_words fault)
policy_lines None fault = advice_lines (codes "the policy " ++ policy_words fault)

catalog_lines : (file : Option (List ℕ)) (line : ℕ) → AreHelpLines (if_known file) (line_help file line)
catalog_lines (Some file) line = file_lines (file ++ codes ":" ++ decimal line) line_words
catalog_lines None line = no_lines

store_lines : (folder : Option (List ℕ)) (fault : StoreFault) → AreHelpLines (if_known folder) (store_help folder fault)
store_lines (Some folder) fault = file_lines (store_place folder fault) (store_words fault)
store_lines None fault = no_lines

missing_lines : (folder : Option (List ℕ)) (id key : List ℕ) → AreHelpLines 1 (missing_help folder id key)
missing_lines (Some folder) id key = file_lines (text_place folder key) (codes "there is no such text, and " ++ id ++ codes " has no file that is identified as " ++ key)
missing_lines None id key = advice_lines (id ++ codes " has no file that is identified as " ++ key ++ codes ", and no stored text has this name: cargo deny --store DIR names others")

unknown_lines : (catalog : Option (List ℕ)) (is : Bool) → AreHelpLines (if_so is) (unknown_help catalog is)
unknown_lines catalog true = advice_lines (catalog_words catalog)
unknown_lines catalog false = no_lines

resolve_lines : (is : Bool) → AreHelpLines (if_so is) (resolve_help is)
resolve_lines true = advice_lines (codes "cargo metadata was run with --no-deps: run it without")
resolve_lines false = no_lines

shape_lines : (file : Option (List ℕ)) (fault : MetaFault) → AreHelpLines (if_known file + if_so (is_unresolved fault)) (shape_help file fault)
shape_lines file fault =
    let words = place_text fault.place ++ fault_words fault.fault in
    lines_behind (if_known file) (if_so (is_unresolved fault)) (at_file_if file words) (resolve_help (is_unresolved fault))
    (file_if_lines file words) (resolve_lines (is_unresolved fault))

roots_lines : (base excluded unpublished : ℕ) → AreHelpLines 1 (roots_help base excluded unpublished)
roots_lines base excluded unpublished = advice_lines (roots_words base excluded unpublished)

twice_lines : (name : List ℕ) (first second : Severity) → AreHelpLines 1 (twice_help name first second)
twice_lines name first second =
    advice_lines (codes "'" ++ name ++ codes "' is given twice: to " ++ level_option first ++ codes " and to " ++ level_option second)

-- ---- two at most

none_few : 0 ≤ 2
none_few = omega arith

one_few : 1 ≤ 2
one_few = omega arith

one_if_known : (file : Option (List ℕ)) → if_known file ≤ 1
one_if_known (Some file) = omega arith
one_if_known None = omega arith

one_if_so : (is : Bool) → if_so is ≤ 1
one_if_so true = omega arith
one_if_so false = omega arith

known_few : (file : Option (List ℕ)) → if_known file ≤ 2
known_few file = let one = one_if_known file in omega arith

so_few : (is : Bool) → if_so is ≤ 2
so_few is = let one = one_if_so is in omega arith

both_few : (file : Option (List ℕ)) (is : Bool) → if_known file + if_so is ≤ 2
both_few file is = let one = one_if_known file in let two = one_if_so is in omega arith

-- ---- the whole

pub help_lines : HelpHasItsLines
unfolding help_of line_count
help_lines request again Memory = record { lines = no_lines; few = none_few }
help_lines request again (NotCarried what) = record { lines = advice_lines (what_words what); few = one_few }
help_lines request again (ManifestPath path) = record { lines = file_lines path (manifest_words path); few = one_few }
help_lines request again (ManifestRead before after) = record { lines = file_lines request.krate_ctx.manifest_path (codes "could not be looked at"); few = one_few }
help_lines request again (CatalogRead fault) = record { lines = file_if_lines request.catalog (read_words fault); few = known_few request.catalog }
help_lines request again (CatalogSyntax line) = record { lines = catalog_lines request.catalog line; few = known_few request.catalog }
help_lines request again (StoreRead fault) = record { lines = store_lines request.store fault; few = known_few request.store }
help_lines request again (ConfigRead fault) = record { lines = policy_lines again.policy fault; few = one_few }
help_lines request again (ConfigSyntax fault) = record { lines = syntax_lines again.policy again.text fault; few = known_few again.policy }
help_lines request again (ConfigShape faults) = record { lines = unknown_lines request.catalog (names_unknown (ConfigShape faults)); few = so_few (names_unknown (ConfigShape faults)) }
help_lines request again (ConfigInvalid found) = record { lines = unknown_lines request.catalog (names_unknown (ConfigInvalid found)); few = so_few (names_unknown (ConfigInvalid found)) }
help_lines request again (OverrideTwice name first second) = record { lines = twice_lines name first second; few = one_few }
help_lines request again (MetadataRead fault) = record { lines = file_if_lines request.krate_ctx.metadata_path (read_words fault); few = known_few request.krate_ctx.metadata_path }
help_lines request again MetadataSyntax = record { lines = file_if_lines request.krate_ctx.metadata_path (codes "is no JSON"); few = known_few request.krate_ctx.metadata_path }
help_lines request again (MetadataShape fault) = record { lines = shape_lines request.krate_ctx.metadata_path fault; few = both_few request.krate_ctx.metadata_path (is_unresolved fault) }
help_lines request again (NoRoots base excluded unpublished) = record { lines = roots_lines base excluded unpublished; few = one_few }
help_lines request again (NoSuchCrate word) = record { lines = advice_lines (codes "'" ++ word ++ codes "' is no crate's name, name@version or name:version"); few = one_few }
help_lines request again (NotAccepted id reads) = record { lines = advice_lines (id ++ codes " is rejected or unlicensed: check licenses says why"); few = one_few }
help_lines request again (NoText id key reads own) = record { lines = missing_lines request.store id key; few = one_few }
help_lines request again (RecordRead fault reads) = record { lines = file_if_lines (file_of request.command) (read_words fault); few = known_few (file_of request.command) }
help_lines request again RecordSyntax = record { lines = file_if_lines (file_of request.command) (codes "is no verdict file"); few = known_few (file_of request.command) }
help_lines request again (BillText id) = record { lines = advice_lines (id ++ codes ": its name is empty or has the end of a line"); few = one_few }
help_lines request again (BillRead fault reads) = record { lines = file_if_lines (file_of request.command) (read_words fault); few = known_few (file_of request.command) }
help_lines request again BillSyntax = record { lines = file_if_lines (file_of request.command) (codes "is no bill of this program"); few = known_few (file_of request.command) }
help_lines request again (WriteFault before after) = record { lines = no_lines; few = none_few }
