use Rattle.std.proofs.Common.{◌≡◌, rules}
use Rattle.std.specs.Ordering.{is_lt}
use Rattle.std.proofs.lemmas.List.Sorted.{answers_always, ranks_by}
use Rattle.deny_text.specs.Path.{path_order_total}
use Rattle.policy_parts.specs.declared.file_source.FileSource.{FileSource}
use Rattle.policy_core.specs.validate.Order.{by_path}
use Rattle.policy_core.proofs.validate.SortLemmas.{puts_in_order}
use Rattle.policy_core.proofs.validate.order.sort_files.Goals as goal

pub returns : goal.returns
returns c =
    let sorts = c.in_ok-sort_by.ensures in
    let order = ranks_by path_order_total (λ (file : FileSource). file.path.value) in
    puts_in_order by_path c.args.files c.into_vec-items.result.items c.sort_by.new.self.items c.from.result c.into_vec-items.ensures c.from.ensures
    sorts.permutation
    (sorts.sorted (λ one other. is_lt (by_path one other)) order (answers_always _ (λ a r. is_lt r ≡ is_lt (by_path a.0.now a.1.0.now)) _ (λ f a r q k. search rules)))
    (sorts.stable (λ one other. is_lt (by_path one other)) order (answers_always _ (λ a r. is_lt r ≡ is_lt (by_path a.0.now a.1.0.now)) _ (λ f a r q k. search rules)))
