use Rattle.std.proofs.Common.{Ok, Err}
use Rattle.spdx_terms.specs.catalog.Catalog.{CatalogLists}
use Rattle.toml_subset.specs.Answer.{TomlReading}
use Rattle.toml_subset.specs.Data.{Toml}
use Rattle.toml_subset.specs.Reading.{read_text}
use Rattle.policy_core.specs.ExceptionsText.{ReadsBy}
use Rattle.policy_core.specs.declared.exceptions_text.NoExceptions.TheVariants.{Memory}
use Rattle.policy_core.proofs.exceptions_text.read_exceptions.Goals as goal

-- want of memory may come in the place of any answer
no_memory : (lists : CatalogLists) (read : TomlReading Toml) → ReadsBy lists read (Err Memory)
no_memory lists (Ok toml) = tt
no_memory lists (Err fault) = tt

pub returns-in-Err-Memory-clause-reads : goal.returns-in-Err-Memory-clause-reads
returns-in-Err-Memory-clause-reads g c = no_memory (g.C.Catalog.lists c.args.catalog.now) (read_text c.args.text.now)
