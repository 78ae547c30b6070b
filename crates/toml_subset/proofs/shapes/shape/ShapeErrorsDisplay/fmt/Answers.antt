use Rattle.std.proofs.Common.{◌≡◌, ℕ, ◌≤◌, [], ◌∷◌, ◌++◌, List, map, length, take, sym, subst, ap, ◌∙◌}
use Rattle.std.proofs.lemmas.List.{take_all}
use Rattle.std.proofs.lemmas.List.Folds.{flat_map-map}
use Rattle.std.specs.Fmt.{HasWritten}
use Rattle.std.specs.List.{flat_map}
use Rattle.toml_subset.specs.shapes.ShapeViews.{reason_of, fault_of}
use Rattle.toml_subset.specs.shapes.Shapes.{ShapeFault, reason_text, faults_text}
use Rattle.toml_subset.specs.declared.shapes.shape.ShapeError.{ShapeError}
use Rattle.toml_subset.proofs.shapes.shape.ShapeErrorsDisplay.fmt.Goals as goal

lines_all : (items : List ShapeError) (i : ℕ) (faults : List ShapeFault) → length items ≤ i → map fault_of items ≡ faults
    → flat_map (λ error. reason_text (reason_of error.kind) ++ 10 ∷ []) (take i items) ≡ faults_text faults
lines_all items i faults past seen =
    ap (flat_map (λ (error : ShapeError). reason_text (reason_of error.kind) ++ 10 ∷ [])) (take_all i items past)
    ∙ sym (flat_map-map (λ (fault : ShapeFault). reason_text fault.reason ++ 10 ∷ []) fault_of items) ∙ ap faults_text seen

pub returns-clause-writes : goal.returns-clause-writes
returns-clause-writes g t c = λ ok.
    subst (λ text. HasWritten g.W.Write.write_str_gives t.args.f.now text t.errors.f)
    (lines_all t.items-error-items.result.now t.errors.error-index t.args.self.now t.errors-test.false t.items-error-items.ensures) (t.errors.invariant c)
