-- Findings of which nothing is written, and sinks that gained nothing.
use Rattle.std.proofs.Common.{◌≡◌, refl, sym, ap, ap₂, suc, Bool, true, false, cond, List, [], ◌∷◌, ◌++◌, append-nil, ℕ, Option, Some, None, Result, Ok, Err, OnErr, arith}
use Rattle.std.proofs.lemmas.Bool.{cond-false}
use Rattle.diag_core.specs.declared.pack.Diag.{Diag}
use Rattle.tree_core.specs.Faults.{Gained, GainedPrefix}
use Rattle.diag_core.specs.File.{File}
use Rattle.diag_print.specs.declared.context.Format.TheVariants.{Sarif}
use Rattle.diag_print.specs.declared.context.LogContext.{LogContext}
use Rattle.diag_print.specs.Printed.{is_printed, printed_of, AllBelow, all_printed_at}

pub nothing_below : (context : LogContext) (files : List File) (findings : List Diag) → AllBelow context.log_level findings → all_printed_at context files findings ≡ []
nothing_below context files [] below = refl
nothing_below context files (finding ∷ findings) below =
    ap₂ ◌++◌ (cond-false _ _ _ (below 0 finding (omega arith))) (nothing_below context files findings (λ k d within. below (suc k) d (omega arith)))

either_nothing : (b : Bool) (text : List ℕ) → text ≡ [] → cond b text [] ≡ []
either_nothing true text none = none
either_nothing false text none = refl

pub nothing_in_sarif : (context : LogContext) (files : List File) (findings : List Diag) → context.format ≡ Sarif → all_printed_at context files findings ≡ []
nothing_in_sarif context files [] sarif = refl
nothing_in_sarif context files (finding ∷ findings) sarif =
    ap₂ ◌++◌ (either_nothing (is_printed context.log_level finding.diag.severity) _ (ap (λ format. printed_of format files finding.diag) sarif)) (nothing_in_sarif context files findings sarif)

same_held : (held : Option (List ℕ)) → Gained held held []
same_held None = refl
same_held (Some bytes) = ap Some (sym (append-nil bytes))

-- a sink that is as it was has gained a prefix of any text
pub gained_none : {T E : Type 0} (result : Result T E) (held : Option (List ℕ)) (text : List ℕ) → OnErr result (GainedPrefix held held text)
gained_none (Ok value) held text = tt
gained_none (Err error) held text = record { front = []; rest = text; parts = refl; gained = same_held held }
