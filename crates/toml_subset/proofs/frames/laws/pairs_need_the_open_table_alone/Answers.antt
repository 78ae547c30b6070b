use Rattle.std.proofs.Common.{◌+◌, ap, ◌∙◌, arith}
use Rattle.toml_subset.specs.Reading.{section_of}
use Rattle.toml_subset.specs.Tables.{edit_within}
use Rattle.toml_subset.specs.frames.Levels.{steps}
use Rattle.toml_subset.proofs.frames.Levels.{section_way, within_way, more_above}
use Rattle.toml_subset.proofs.frames.laws.pairs_need_the_open_table_alone.Goals as goal

pub returns-clause-section : goal.returns-clause-section
returns-clause-section ctx document c way =
    ap (λ root. section_of document.section root 0) way.root ∙ section_way document.section c.around c.here 0 way.leads ∙ more_above c.here (0 + steps c.around) c.above (let deep = way.deep in omega arith)

pub returns-clause-edit : goal.returns-clause-edit
returns-clause-edit ctx document c edit way = ap (edit_within document.section edit) way.root ∙ within_way document.section c.around c.here edit way.leads
