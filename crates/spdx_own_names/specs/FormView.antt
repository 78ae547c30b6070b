-- What a line says, as the values of the code stand for it.
use Rattle.std.specs.Prelude.{ℕ, List, map}
use Rattle.spdx_own_names.specs.declared.form.LineMarks.{LineMarks}
use Rattle.spdx_own_names.specs.declared.form.LineForm as declared
use Rattle.spdx_own_names.specs.declared.form.LineForm.TheVariants.{Nothing, License, Exception, Imprecise}
use Rattle.spdx_own_names.specs.Form.{LineForm, nothing, license, exception, imprecise, MarksSet, marks_from}

abbrev pub form_view : declared.LineForm → LineForm
form_view Nothing = nothing
form_view (License name entry) = license name.now entry
form_view (Exception name) = exception name.now
form_view (Imprecise text name) = imprecise text.now name.now

abbrev pub marks_view : LineMarks → MarksSet
marks_view marks = marks_from marks.later marks.deprecated marks.gnu

-- each of some marks with its text
abbrev pub marks_told : List LineMarks → List (List ℕ × MarksSet)
marks_told listed = map (λ one. (one.text.now, marks_view one)) listed

abbrev pub rank_view : ℕ × LineMarks → ℕ × MarksSet
rank_view (rank, marks) = (rank, marks_view marks)
