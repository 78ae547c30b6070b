use Rattle.std.proofs.Common.{◌≡◌, ◌∙◌, ap, subst, ℕ, ◌+◌, Bool, List, [], ◌∷◌, Some, drop}
use Rattle.std.specs.Prelude.{slice_get}
use Rattle.std.specs.Str.{IsUtf8, IsCharBoundary}
use Rattle.spdx_terms.specs.declared.item.Token.{Token}
use Rattle.spdx_terms.specs.Tokens.{token_of, rest_len}
use Rattle.spdx_terms.proofs.ItemBorders.{first_border}
use Rattle.spdx_terms.proofs.items.first_item.Goals as goal

border : (text rest : List ℕ) (first len : ℕ) (slash : Bool) (token : Token) → IsUtf8 text → slice_get text 0 ≡ Some first → rest ≡ drop 1 text → token ≡ token_of slash first → len ≡ rest_len token rest → IsCharBoundary text (1 + len)
border [] rest first len slash token utf8 begins behind is size = cc
border (b ∷ tail) rest first len slash token utf8 begins behind is size =
    let same : b ≡ first = cc in
    let total : rest_len (token_of slash b) tail ≡ len = cc in
    subst (λ n. IsCharBoundary (b ∷ tail) (1 + n)) total (first_border slash b tail utf8)

pub word_item-requires-clause-border : goal.word_item-requires-clause-border
word_item-requires-clause-border g c =
    border c.args.text.now c.split_at.result.1.now c.args.first c.rest_len-len.result c.args.mode.allow_slash_as_or_operator c.token_of-token.result c.utf8.text c.requires.begins
    (c.split_at.ensures.back ∙ ap (drop 1) c.as_bytes.ensures.value) c.token_of-token.ensures c.rest_len-len.ensures.len
