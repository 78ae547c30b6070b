-- Prefixes and references.
use Rattle.std.proofs.Common.{◌≡◌, ◌∙◌, sym, ap, subst, ℕ, List, Option, Some, None, true, false, cond, length, drop, Bor}
use Rattle.std.specs.Option.{MatchOption, option_copied}
use Rattle.std.specs.Str.{IsCharBoundary}
use Rattle.std.specs.Str.Pattern.{FindsTextPrefix, StripsPrefix}
use Rattle.std.proofs.lemmas.Str.Pattern.{starts_text}
use Rattle.spdx_terms.specs.Tokens.{after_prefix}

-- what `strip_prefix` says at a text
pub strips : (prefix text : List ℕ) (found : Option (Bor (List ℕ))) → MatchOption found (FindsTextPrefix prefix text None) (λ x. StripsPrefix (FindsTextPrefix prefix) text x.now) → option_copied found ≡ after_prefix prefix text
strips prefix text None h = ap (λ b. cond b (Some (drop (length prefix) text)) None) (starts_text false prefix text h)
strips prefix text (Some x) (n, found, is, len) =
    ap Some (is ∙ ap (λ k. drop k text) found.0)
    ∙ ap (λ b. cond b (Some (drop (length prefix) text)) None) (starts_text true prefix text (n, found, subst (λ k. IsCharBoundary text k) (sym found.0) found.2))
