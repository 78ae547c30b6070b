use Rattle.std.proofs.Common.{◌∙◌, sym, ap, Ok}
use Rattle.std.specs.Result.{result_ok}
use Rattle.graph_core.specs.source.Reading.{address_of}
use Rattle.policy_core.proofs.validate.AddressLemmas.{judged_read}
use Rattle.policy_core.proofs.validate.addresses.judge_address.Goals as goal

pub returns-in_ok-normalize_git_url-in-Some : goal.returns-in_ok-normalize_git_url-in-Some
returns-in_ok-normalize_git_url-in-Some c =
    ap (λ kept. Ok kept) c.in_ok-normalize_git_url-in-Some.ensures.address
    ∙ judged_read c.args.file c.args.string.now.span (address_of c.args.string.now.value) c.in-Some.address
    (sym c.in-Some.is ∙ c.in_ok-address.ensures ∙ ap (λ text. result_ok (address_of text)) c.as_str.ensures)
