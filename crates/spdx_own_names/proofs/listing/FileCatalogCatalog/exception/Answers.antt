use Rattle.std.proofs.Common.{◌∙◌, sym}
use Rattle.std.proofs.lemmas.Map.Views.{Contains-from_any, list_any-from_Contains}
use Rattle.std.proofs.lemmas.Slice.Eq.{bytes_eq-Decides}
use Rattle.std.specs.Cmp.Lexicographic.{nat_list_eq_equiv}
use Rattle.spdx_own_names.proofs.listing.FileCatalogCatalog.exception.Goals as goal

pub returns : goal.returns
returns c = (
  λ listed. Contains-from_any (λ x y. (bytes_eq-Decides x y).0) c.args.name.now c.args.self.now.exceptions (sym c.has.ensures ∙ listed),
  λ known. c.has.ensures ∙ list_any-from_Contains nat_list_eq_equiv c.args.name.now c.args.self.now.exceptions known,
)
