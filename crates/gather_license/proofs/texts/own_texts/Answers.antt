use Rattle.std.proofs.Common.{◌∙◌, List, [], ap, sym}
use Rattle.tree_core.specs.declared.reads.ReadRecord.{ReadRecord}
use Rattle.graph_core.specs.Krate.{record_of}
use Rattle.gather_license.specs.files.KnownReads.{known_reads_by}
use Rattle.gather_license.specs.files.Pack.{in_path_order}
use Rattle.gather_license.specs.files.View.{paths_read}
use Rattle.gather_license.proofs.files.CallLemmas.{on_err}
use Rattle.gather_license.proofs.CallLemmas.{starves_looked}
use Rattle.gather_license.proofs.OwnTextLemmas.{texts_looked}
use Rattle.gather_license.proofs.texts.own_texts.Goals as goal

pub returns-clause-own : goal.returns-clause-own
returns-clause-own g c =
    let krate = record_of c.args.krate.now in
    let pack = c.in_ok-looked.looked.pack in
    let is = c.in_ok-looked.ensures.looked in
    let made = c.in_ok-looked.ensures.made in
    record {
      reads = made.reads;
      recorded_are = sym made.is.records ∙ sym c.into_reads.ensures.reads;
      made = made.made;
      due = c.into_reads.ensures.reads ∙ is.reads (known_reads_by made.reads) made.is.agrees;
      texts =
          c.in_ok-texts.ensures
          ∙ texts_looked krate pack c.in_ok-looked.looked.held c.in_ok-looked.looked.missing (known_reads_by made.reads) is
          (c.into_reads.ensures.sorted ∙ ap (λ (reads : List ReadRecord). in_path_order (paths_read reads)) c.into_reads.ensures.reads) made.is.agrees;
    }

pub returns-in_err-looked-clause-no_memory : goal.returns-in_err-looked-clause-no_memory
returns-in_err-looked-clause-no_memory g c = on_err c.from_residual.result _ c.in_err-looked.ensures.no_memory

pub returns-in_err-texts-clause-no_memory : goal.returns-in_err-texts-clause-no_memory
returns-in_err-texts-clause-no_memory g c =
    on_err c.from_residual-in_err-texts.result _
    (starves_looked (record_of c.args.krate.now) [] c.in_ok-looked.looked.pack c.in_ok-looked.looked.held c.in_ok-looked.looked.missing
    c.in_ok-looked.ensures.looked c.in_ok-looked.ensures.made)
