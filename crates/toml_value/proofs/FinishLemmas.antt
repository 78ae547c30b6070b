-- The entries of a table, one after another.
use Rattle.std.proofs.Common.{◌≡◌, List, [], ◌∷◌, map, length, refl, sym, ap, ◌∙◌, arith}
use Rattle.toml_subset.specs.Data as «data»
use Rattle.deny_text.specs.declared.span.Span.{Span}
use Rattle.toml_subset.specs.Data.{Entries, Items, Toml}
use Rattle.toml_subset.specs.Tables.{Branches, entries_of, items_of}
use Rattle.toml_subset.specs.declared.string.Key.{Key}
use Rattle.toml_subset.specs.frames.Levels.{bodies_to}
use Rattle.toml_value.specs.BranchViews.{node_view, branches_view, body_view, body_items, node_value}
use Rattle.toml_value.specs.FinishViews.{joined_entries, left_of, item_of}
use Rattle.toml_value.specs.Lookup.{with_item, with_entry}
use Rattle.toml_value.specs.declared.tree.Body.{Body as BodyOf}
use Rattle.toml_value.proofs.LevelLemmas.{body_view-is}
use Rattle.toml_value.specs.declared.tree.Node.{Node as NodeOf}

pub followed_none : (entries : Entries) → joined_entries entries data.no_entry ≡ entries
followed_none data.no_entry = refl
followed_none (data.entry key span content more) = ap (data.entry key span content) (followed_none more)

pub followed_push : (entries : Entries) (key : Key) (value : Toml) (others : Entries)
    → joined_entries (with_entry entries key value) others ≡ joined_entries entries (data.entry key value.span value.content others)
followed_push data.no_entry key value others = refl
followed_push (data.entry k span content more) key value others = ap (data.entry k span content) (followed_push more key value others)

pub left_step : (entries new : Entries) (key : Key) (node : NodeOf) (keys : List Key) (nodes : List NodeOf) (value : Toml)
    → value ≡ node_value (node_view node) → new ≡ with_entry entries key value
    → joined_entries entries (left_of (key ∷ keys) (node ∷ nodes)) ≡ joined_entries new (left_of keys nodes)
left_step entries new key node keys nodes value is pushed =
    sym (ap (λ es. joined_entries es (left_of keys nodes)) (pushed ∙ ap (with_entry entries key) is) ∙ followed_push entries key (node_value (node_view node)) (left_of keys nodes))

pub none_left : (keys : List Key) → left_of keys [] ≡ data.no_entry
none_left [] = refl
none_left (key ∷ more) = refl

pub none_of_length : {A : Type 0} (xs : List A) → length xs ≡ 0 → xs ≡ []
none_of_length [] e = refl
none_of_length (x ∷ xs) e = absurd (omega arith)

-- items, and others behind them
abbrev pub items_followed : Items → Items → Items
items_followed data.no_item others = others
items_followed (data.item span content more) others = data.item span content (items_followed more others)

pub items_followed_none : (items : Items) → items_followed items data.no_item ≡ items
items_followed_none data.no_item = refl
items_followed_none (data.item span content more) = ap (data.item span content) (items_followed_none more)

pub items_followed_push : (items : Items) (value : Toml) (others : Items)
    → items_followed (with_item items value) others ≡ items_followed items (data.item value.span value.content others)
items_followed_push data.no_item value others = refl
items_followed_push (data.item span content more) value others = ap (data.item span content) (items_followed_push more value others)

pub items_step : (items new : Items) (body : BodyOf) (bodies : List BodyOf) → new ≡ with_item items (item_of (body.span, branches_view body.table))
    → items_followed items (body_items (map (λ b. body_view b) (body ∷ bodies))) ≡ items_followed new (body_items (map (λ b. body_view b) bodies))
items_step items new body bodies pushed =
    ap (λ (x : Span × Branches). items_followed items (data.item x.0 (data.table (entries_of x.1)) (body_items (map (λ b. body_view b) bodies)))) (body_view-is body)
    ∙ sym (ap (λ is. items_followed is (body_items (map (λ b. body_view b) bodies))) pushed
    ∙ items_followed_push items (item_of (body.span, branches_view body.table)) (body_items (map (λ b. body_view b) bodies)))

pub last_items : (before : List (Span × Branches)) (at : Span) (inner : Branches) → items_of (bodies_to before at inner) ≡ with_item (body_items before) (item_of (at, inner))
last_items [] at inner = refl
last_items (x ∷ xs) at inner = ap (data.item x.0 (data.table (entries_of x.1))) (last_items xs at inner)
