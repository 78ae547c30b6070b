use Rattle.std.proofs.Common.{◌≡◌, ◌∙◌, ℕ, Bool, true, false, IsTrue, List, sym, refl}
use Rattle.std.specs.Prelude.{◌↔◌, Contains}
use Rattle.std.specs.Str.{bytes_eq}
use Rattle.std.specs.List.{list_any}
use Rattle.std.proofs.lemmas.Slice.Eq.{bytes_eq-Decides}
use Rattle.std.proofs.lemmas.Map.Views.{Contains-from_any}
use Rattle.spdx_terms.proofs.ImpreciseLemmas.{any_contained}
use Rattle.spdx_terms.proofs.items.is_exception.Goals as goal

decided : (word : List ℕ) (names : List (List ℕ)) (answer test : Bool) → list_any (bytes_eq word) names ≡ test → (IsTrue answer ↔ Contains names word) → answer ≡ test
decided word names true true is h = refl
decided word names false false is h = refl
decided word names true false is h = sym (sym is ∙ any_contained word names (h.0 refl))
decided word names false true is h = h.1 (Contains-from_any (λ x y. (bytes_eq-Decides x y).0) word names is)

pub returns : goal.returns
returns g c = decided c.args.word.now (g.C.Catalog.lists c.args.catalog.now).exceptions c.exception.result _ refl c.exception.ensures
