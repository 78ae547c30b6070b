use Rattle.std.proofs.Common.{◌≡◌, ◌+◌, ◌*◌, ◌/◌, ◌<◌, ℕ, length, take, ap, ◌∙◌, arith}
use Rattle.std.specs.List.{count_by}
use Rattle.std.proofs.lemmas.Grind.{common_steps}
use Rattle.std.proofs.lemmas.List.{length_push}
use Rattle.std.proofs.lemmas.List.Sums.{count_by-le-length}
use Rattle.diag_core.specs.Position.{begins_character}
use Rattle.diag_core.proofs.BlockLemmas.{count_more, each_more}
use Rattle.diag_core.proofs.characters.count_blocks.Goals as goal

pub overflow_add-count : goal.overflow_add-count
overflow_add-count c =
    let text = c.args.text.now in
    let i = c.counted.block-index in
    let blocks : length c.as_chunks.result.0.now ≡ length text / 256 = c.as_chunks.ensures.front_len in
    let within : i < length text / 256 = omega (arith, blocks, c.counted-test.true) in
    let total = count_more begins_character text c.as_chunks.result.0.now i c.counted.count c.character_count-count.result _ c.as_chunks.ensures.front within c.counted.invariant.1 c.character_count-count.ensures in
    let fits = count_by-le-length begins_character (take ((i + 1) * 256) text) in
    grind (arith, common_steps)

pub counted-preserved : goal.counted-preserved
counted-preserved c =
    let text = c.args.text.now in
    let i = c.counted.block-index in
    let blocks : length c.as_chunks.result.0.now ≡ length text / 256 = c.as_chunks.ensures.front_len in
    let within : i < length text / 256 = omega (arith, blocks, c.counted-test.true) in
    let total = count_more begins_character text c.as_chunks.result.0.now i c.counted.count c.character_count-count.result _ c.as_chunks.ensures.front within c.counted.invariant.1 c.character_count-count.ensures in
    let want : ℕ → ℕ = λ k. count_by begins_character (take (k * 256) text) in (
      ap length c.in_ok-push-2.ensures.items ∙ length_push c.counted.counts.items _ ∙ ap (λ n. n + 1) c.counted.invariant.0,
      total,
      λ k early. rw c.in_ok-push-2.ensures.items (each_more c.counted.counts.items i _ want c.counted.invariant.0 c.counted.invariant.2 total k early),
    )

pub returns : goal.returns
returns c =
    let text = c.args.text.now in
    let i = c.counted.block-index in
    let blocks : length c.as_chunks.result.0.now ≡ length text / 256 = c.as_chunks.ensures.front_len in
    let done : i ≡ length text / 256 = omega (arith, blocks, c.counted-test.false, c.counted.auto.block-index-end) in
    record { all = c.counted.invariant.0 ∙ ap (λ n. n + 1) done; each = λ block inside. c.counted.invariant.2 block (omega (arith, done, inside)) }
