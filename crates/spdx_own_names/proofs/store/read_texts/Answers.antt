use Rattle.std.proofs.Common.{arith}
use Rattle.tree_core.proofs.MadeLemmas.{some-later, some_joined}
use Rattle.spdx_own_names.proofs.StoreLemmas.{entries_end, entries_on, entries_refused, texts_as}
use Rattle.spdx_own_names.proofs.store.read_texts.Goals as goal

pub entries-preserved : goal.entries-preserved
entries-preserved g c =
    let before = c.entries.invariant.0 in
    let risen = c.entries.invariant.1 in
    let later = some-later c.in_ok-texts.ensures.made in (
      omega arith,
      omega arith,
      entries_on c.args.entries.now c.entries.entry-index c.entry-item.result c.entries.texts c.in_ok-texts.texts c.entries-test.true c.entry-item.is c.entries.invariant.2 c.in_ok-texts.ensures.read,
      some_joined c.entries.invariant.3 c.in_ok-texts.ensures.made,
    )

pub returns-clause-read : goal.returns-clause-read
returns-clause-read g c = entries_end c.args.entries.now c.entries.entry-index c.entries.texts c.entries-test.false c.entries.invariant.2

pub returns-in_err-texts-clause-made : goal.returns-in_err-texts-clause-made
returns-in_err-texts-clause-made g c = some_joined c.entries.invariant.3 c.in_err-texts.ensures.made

pub returns-in_err-texts-clause-read : goal.returns-in_err-texts-clause-read
returns-in_err-texts-clause-read g c =
    texts_as _ _ _ c.from_residual.result c.in_err-texts.field-0.0 c.from_residual.ensures.1
    (entries_refused c.args.entries.now c.entries.entry-index c.entry-item.result c.entries.texts c.in_err-texts.field-0.0 c.entries-test.true c.entry-item.is c.entries.invariant.2 c.in_err-texts.ensures.read)
