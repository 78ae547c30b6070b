-- What is read of bytes.
use Rattle.std.proofs.Common.{◌≡◌, ℕ, List, Some, Bool, true, false, cond, refl, ap}
use Rattle.std.specs.Str.{IsUtf8, is_utf8}
use Rattle.std.proofs.lemmas.Str.{is_utf8-from_IsUtf8, IsUtf8-from_is_utf8}
use Rattle.tree_core.specs.Content.{file}
use Rattle.tree_core.specs.file_reads.Heard.{not_utf8, text, file_heard}

pub heard_text : (bytes : List ℕ) → IsUtf8 bytes → file_heard (Some (file bytes)) ≡ text bytes
unfolding file_heard
heard_text bytes utf8 = ap (λ b. cond b (text bytes) not_utf8) (is_utf8-from_IsUtf8 bytes utf8)

not_true : (b : Bool) → ¬ (b ≡ true) → b ≡ false
not_true true fails = absurd (fails refl)
not_true false fails = refl

pub heard_no_text : (bytes : List ℕ) → ¬ (IsUtf8 bytes) → file_heard (Some (file bytes)) ≡ not_utf8
unfolding file_heard
heard_no_text bytes bad = ap (λ b. cond b (text bytes) not_utf8) (not_true (is_utf8 bytes) (λ holds. bad (IsUtf8-from_is_utf8 bytes holds)))
