use Rattle.std.proofs.Common.{◌∙◌, Option, ℕ, subst}
use Rattle.std.specs.Prelude.{IfErr}
use Rattle.std.proofs.lemmas.Result.{IfOk-weaker}
use Rattle.spdx_own_names.specs.File.{TellsFault}
use Rattle.spdx_own_names.specs.Listed.{lists_in}
use Rattle.spdx_own_names.proofs.ReadLemmas.{bytes_fault, text_catalog, text_fault}
use Rattle.spdx_own_names.proofs.reading.read_catalog.Goals as goal

pub returns-in-Ok-clause-ok : goal.returns-in-Ok-clause-ok
returns-in-Ok-clause-ok c =
    IfOk-weaker c.listing_of.result _ _
    (λ listing is. text_catalog c.args.bytes.now c.in-Ok.text.now (lists_in listing) c.in-Ok.ensures.cases.0 c.in-Ok.ensures.cases.1 is.0 is.1) c.listing_of.ensures.ok

pub returns-in-Ok-clause-err : goal.returns-in-Ok-clause-err
returns-in-Ok-clause-err c =
    subst (λ (fault : Option ℕ). IfErr c.listing_of.result (TellsFault fault)) (text_fault c.args.bytes.now c.in-Ok.text.now c.in-Ok.ensures.cases.0 c.in-Ok.ensures.cases.1) c.listing_of.ensures.err

pub returns-in-Err-clause-err : goal.returns-in-Err-clause-err
returns-in-Err-clause-err c =
    bytes_fault c.args.bytes.now c.valid_up_to.result c.line_at.result c.in-Err.ensures.cases.0 (c.valid_up_to.ensures ∙ c.in-Err.ensures.valid_len) c.line_at.ensures
