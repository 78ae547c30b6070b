use Rattle.std.proofs.Common.{sym, ap, ◌∙◌}
use Rattle.std.specs.Ordering.{nat_cmp}
use Rattle.std.specs.Cmp.Lexicographic.{slice_cmp}
use Rattle.std.specs.FinMap.{get, get-empty}
use Rattle.deny_text.specs.Path.{key_of}
use Rattle.diag_core.specs.File.{file_id_at}
use Rattle.diag_core.proofs.files.Files.new.Goals as goal

pub invariant_of-result : goal.invariant_of-result
invariant_of-result c path =
    ap (λ ids. get ids (key_of path)) c.new-2.ensures ∙ get-empty (slice_cmp nat_cmp) (key_of path) ∙ sym (ap (λ files. file_id_at files path) c.new.ensures.items)
