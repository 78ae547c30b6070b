use Rattle.std.proofs.Common.{◌≡◌, ◌<◌, ◌∷◌, ◌++◌, length, sym, ap, ◌∙◌, rules, arith}
use Rattle.spdx_terms.specs.catalog.NameOrder.{name_order}
use Rattle.spdx_terms.proofs.catalog.NameLemmas.{front_in_order, behind_in_order, entry_at, entry_front, entry_behind}
use Rattle.spdx_terms.proofs.catalog.table.+entry_among.Goals as goal

pub entry_among-requires : goal.entry_among-requires
entry_among-requires t c =
    let back : c.split_at.result.1.now ≡ c.in-Some.middle.now ∷ c.in-Some.behind.now = search rules in
    let whole : c.args.licenses.now ≡ c.split_at.result.0.now ++ c.in-Some.middle.now ∷ c.in-Some.behind.now = c.split_at.ensures.by_index.0 ∙ ap (λ rest. c.split_at.result.0.now ++ rest) back in
    let longer = ap length back in
    let falls : length c.split_at.result.0.now < t = (let start = c.decreases in omega (arith, longer, c.split_at.ensures.front_len, c.split_at.ensures.back_len)) in
    (falls, front_in_order c.args.licenses.now c.split_at.result.0.now c.in-Some.behind.now c.in-Some.middle.now c.args.name.now whole c.requires)

pub entry_among-requires-in-Greater : goal.entry_among-requires-in-Greater
entry_among-requires-in-Greater t c =
    let back : c.split_at.result.1.now ≡ c.in-Some.middle.now ∷ c.in-Some.behind.now = search rules in
    let whole : c.args.licenses.now ≡ c.split_at.result.0.now ++ c.in-Some.middle.now ∷ c.in-Some.behind.now = c.split_at.ensures.by_index.0 ∙ ap (λ rest. c.split_at.result.0.now ++ rest) back in
    let longer = ap length back in
    let falls : length c.in-Some.behind.now < t = (let start = c.decreases in omega (arith, longer, c.split_at.ensures.front_len, c.split_at.ensures.back_len)) in
    (falls, behind_in_order c.args.licenses.now c.split_at.result.0.now c.in-Some.behind.now c.in-Some.middle.now c.args.name.now whole c.requires)

pub returns-in-Less : goal.returns-in-Less
returns-in-Less t c =
    let back : c.split_at.result.1.now ≡ c.in-Some.middle.now ∷ c.in-Some.behind.now = search rules in
    let whole : c.args.licenses.now ≡ c.split_at.result.0.now ++ c.in-Some.middle.now ∷ c.in-Some.behind.now = c.split_at.ensures.by_index.0 ∙ ap (λ rest. c.split_at.result.0.now ++ rest) back in
    c.entry_among.ensures ∙ sym (entry_front c.args.licenses.now c.split_at.result.0.now c.in-Some.behind.now c.in-Some.middle.now c.args.name.now whole c.requires (ap (name_order c.args.name.now) (sym c.as_bytes.ensures.value) ∙ sym c.name_order.ensures ∙ c.in-Less.is))

pub returns-in-Equal : goal.returns-in-Equal
returns-in-Equal t c =
    let back : c.split_at.result.1.now ≡ c.in-Some.middle.now ∷ c.in-Some.behind.now = search rules in
    let whole : c.args.licenses.now ≡ c.split_at.result.0.now ++ c.in-Some.middle.now ∷ c.in-Some.behind.now = c.split_at.ensures.by_index.0 ∙ ap (λ rest. c.split_at.result.0.now ++ rest) back in
    sym (entry_at c.args.licenses.now c.split_at.result.0.now c.in-Some.behind.now c.in-Some.middle.now c.args.name.now whole c.requires (ap (name_order c.args.name.now) (sym c.as_bytes.ensures.value) ∙ sym c.name_order.ensures ∙ c.in-Equal.is))

pub returns-in-Greater : goal.returns-in-Greater
returns-in-Greater t c =
    let back : c.split_at.result.1.now ≡ c.in-Some.middle.now ∷ c.in-Some.behind.now = search rules in
    let whole : c.args.licenses.now ≡ c.split_at.result.0.now ++ c.in-Some.middle.now ∷ c.in-Some.behind.now = c.split_at.ensures.by_index.0 ∙ ap (λ rest. c.split_at.result.0.now ++ rest) back in
    c.entry_among-in-Greater.ensures ∙ sym (entry_behind c.args.licenses.now c.split_at.result.0.now c.in-Some.behind.now c.in-Some.middle.now c.args.name.now whole c.requires (ap (name_order c.args.name.now) (sym c.as_bytes.ensures.value) ∙ sym c.name_order.ensures ∙ c.in-Greater.is))
