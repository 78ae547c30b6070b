-- Paths of files, one after another.
use Rattle.std.proofs.Common.{◌≡◌, ◌∙◌, ℕ, List, [], ◌∷◌, ◌++◌, Option, None, Some, refl, ap}
use Rattle.std.specs.List.{cons_option}
use Rattle.std.specs.Option.{option_to_list}
use Rattle.std.proofs.lemmas.List.Elements.{filter_map-append}
use Rattle.gather_license.specs.declared.expression.files.ScannedFile.{ScannedFile}
use Rattle.gather_license.specs.Notes.{path_given, paths_given}

one_given : (o : Option (List ℕ)) → cons_option o [] ≡ option_to_list o
one_given None = refl
one_given (Some path) = refl

pub paths_push : (files : List ScannedFile) (file : ScannedFile) → paths_given (files ++ file ∷ []) ≡ paths_given files ++ option_to_list (path_given file)
paths_push files file =
    filter_map-append path_given files (file ∷ []) ∙ ap (λ last. paths_given files ++ last) (one_given (path_given file))
