-- The file table grows.
use Rattle.std.proofs.Common.{◌≡◌, ◌∙◌, List, [], ◌∷◌, ◌++◌, sym, append-nil}
use Rattle.diag_core.specs.File.{File, Grows}

pub grows_itself : (files : List File) → Grows files files
grows_itself files = ([], sym (append-nil files))

pub grows_same : (files new : List File) → new ≡ files → Grows files new
grows_same files new same = ([], same ∙ sym (append-nil files))

pub grows_one : (files new : List File) (file : File) → new ≡ files ++ file ∷ [] → Grows files new
grows_one files new file is = (file ∷ [], is)
