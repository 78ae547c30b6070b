use Rattle.std.proofs.Common.{◌∙◌, sym}
use Rattle.std.proofs.lemmas.Map.Views.{Contains-from_any, list_any-from_Contains}
use Rattle.std.proofs.lemmas.Slice.Eq.{bytes_eq-Decides}
use Rattle.std.specs.Cmp.Lexicographic.{nat_list_eq_equiv}
use Rattle.spdx_terms.specs.catalog.Table.{table_exceptions}
use Rattle.spdx_terms.proofs.catalog.table.TableCatalog.exception.Goals as goal

pub returns : goal.returns
unfolding table_exceptions
returns c = (
  λ listed. Contains-from_any (λ x y. (bytes_eq-Decides x y).0) c.args.name.now table_exceptions (sym c.is_listed.ensures ∙ listed),
  λ known. c.is_listed.ensures ∙ list_any-from_Contains nat_list_eq_equiv c.args.name.now table_exceptions known,
)
