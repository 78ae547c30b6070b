-- Whether something in a list is so.
use Rattle.std.proofs.Common.{◌≡◌, Bool, ◌||◌, List, [], ◌∷◌, map, refl, ap}
use Rattle.std.specs.List.{list_any}

pub list_any_map : {X Y : Type 0} (is : Y → Bool) (view : X → Y) (items : List X) → list_any (λ item. is (view item)) items ≡ list_any is (map view items)
list_any_map is view [] = refl
list_any_map is view (item ∷ items) = ap (λ rest. is (view item) || rest) (list_any_map is view items)
