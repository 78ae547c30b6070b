-- Texts that are compared in any case, and ends that are stripped.
use Rattle.std.proofs.Common.{◌≡◌, ◌≤◌, ◌-◌, ◌↔◌, ℕ, Bool, true, false, cond, ◌&&◌, IsTrue, List, [], ◌∷◌, length, take, map, Option, Some, None, Bor, refl, sym, ap, subst, ◌∙◌, arith}
use Rattle.std.proofs.lemmas.Slice.Eq.{bytes_eq-Decides}
use Rattle.std.proofs.lemmas.Str.Pattern.{ends_text}
use Rattle.std.specs.Char.{to_ascii_lowercase}
use Rattle.std.specs.List.{list_all, slice_split}
use Rattle.std.specs.Option.{MatchOption, option_copied}
use Rattle.std.specs.Str.{bytes_eq, str_eq_ignore_ascii_case, IsCharBoundary}
use Rattle.std.specs.Str.Pattern.{FindsTextSuffix, StripsSuffix}
use Rattle.spdx_terms.specs.catalog.Words.{is_space, is_word}
use Rattle.spdx_own_names.specs.Folder.{before_end}
use Rattle.spdx_own_names.proofs.CutLemmas.{IsCut}

-- what a test of two texts in any case says
pub same_lower : (word other : List ℕ) (test : Bool) → (IsTrue test ↔ (map to_ascii_lowercase word ≡ map to_ascii_lowercase other)) → test ≡ str_eq_ignore_ascii_case word other
same_lower word other test is = by test (bytes_eq (map to_ascii_lowercase word) (map to_ascii_lowercase other)) is (bytes_eq-Decides (map to_ascii_lowercase word) (map to_ascii_lowercase other))
  where
    by : (r s : Bool) → (IsTrue r ↔ (map to_ascii_lowercase word ≡ map to_ascii_lowercase other)) → (s ≡ true → map to_ascii_lowercase word ≡ map to_ascii_lowercase other) × (map to_ascii_lowercase word ≡ map to_ascii_lowercase other → s ≡ true) → r ≡ s
    by true true p q = refl
    by true false p q = sym (q.1 (p.0 refl))
    by false true p q = p.1 (q.0 refl)
    by false false p q = refl

-- what `strip_suffix` says at a text
pub strips_end : (end name : List ℕ) (found : Option (Bor (List ℕ))) → MatchOption found (FindsTextSuffix end name None) (λ x. StripsSuffix (FindsTextSuffix end) name x.now) → option_copied found ≡ before_end end name
strips_end end name None h = ap (λ b. cond b (Some (take (length name - length end) name)) None) (ends_text false end name h)
strips_end end name (Some x) (n, found, is, len) =
    let fits : n ≤ length name = omega arith in
    ap Some (is ∙ ap (λ k. take (length name - k) name) found.0)
    ∙ ap (λ b. cond b (Some (take (length name - length end) name)) None)
    (ends_text true end name (n, found, fits, subst (λ k. IsCharBoundary name (length name - k)) (sym found.0) found.2))

and_assoc : (a b c : Bool) → ((a && b) && c) ≡ (a && (b && c))
and_assoc true b c = refl
and_assoc false b c = refl

-- one word more
pub words_on : (text rest word behind : List ℕ) (all new : Bool) → list_all is_word (slice_split is_space text) ≡ (all && list_all is_word (slice_split is_space rest)) → IsCut is_space rest word behind → new ≡ (all && is_word word)
    → list_all is_word (slice_split is_space text) ≡ (new && list_all is_word (slice_split is_space behind))
words_on text rest word behind all new so_far cut is =
    so_far ∙ ap (λ pieces. all && list_all is_word pieces) cut.pieces
    ∙ sym (and_assoc all (is_word word) (list_all is_word (slice_split is_space behind)))
    ∙ ap (λ b. b && list_all is_word (slice_split is_space behind)) (sym is)

and_true : (b : Bool) → (b && true) ≡ b
and_true true = refl
and_true false = refl

-- the last word
pub words_end : (text rest : List ℕ) (all last : Bool) → list_all is_word (slice_split is_space text) ≡ (all && list_all is_word (slice_split is_space rest)) → slice_split is_space rest ≡ rest ∷ [] → last ≡ (all && is_word rest)
    → last ≡ list_all is_word (slice_split is_space text)
words_end text rest all last so_far end is =
    is ∙ ap (λ b. all && b) (sym (and_true (is_word rest))) ∙ sym (so_far ∙ ap (λ pieces. all && list_all is_word pieces) end)
