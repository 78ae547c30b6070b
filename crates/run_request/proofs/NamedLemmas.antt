-- A subcommand by its name, and the one that was entered.
use Rattle.std.proofs.Common.{◌≡◌, refl, sym, subst, true, List, Option, Some, None, Result, option_map}
use Rattle.std.proofs.lemmas.Slice.Eq.{bytes_eq-Decides}
use Rattle.std.specs.Prelude.{codes}
use Rattle.std.specs.Str.{bytes_eq}
use Rattle.clap.specs.Words.{Text, Row}
use Rattle.run_request.specs.declared.error.ArgsError.{ArgsError}
use Rattle.run_request.specs.declared.request.Subcommand.{Subcommand}
use Rattle.run_request.specs.Reading.{AnswersArgs}
use Rattle.run_request.specs.Request.{bill_of, path_at, subcommand_asked, subcommand_named}

pub named_bill : (name : Text) (rows : List Row) (cwd : Text) → bytes_eq name (codes "bill") ≡ true → subcommand_named name rows cwd ≡ bill_of rows (path_at cwd (codes "against") rows)
named_bill name rows cwd is =
    subst (λ own. subcommand_named own rows cwd ≡ bill_of rows (path_at cwd (codes "against") rows)) (sym ((bytes_eq-Decides name (codes "bill")).0 is)) refl

same_some : {T : Type 0} {one two : T} → Some one ≡ Some two → one ≡ two
same_some e = cc

-- the subcommand that was entered has this name and these rows
pub asked_named : {T : Type 0} (name_in : T → Text) (rows_in : T → List Row) (entered : Option T) (name : Text) (rows : List Row) (cwd : Text) (result : Result Subcommand ArgsError)
    → Some name ≡ option_map name_in entered → Some rows ≡ option_map (λ (pair : Text × List Row). pair.1) (option_map (λ own. (name_in own, rows_in own)) entered)
    → AnswersArgs (subcommand_named name rows cwd) result → AnswersArgs (subcommand_asked (option_map (λ own. (name_in own, rows_in own)) entered) cwd) result
asked_named name_in rows_in None name rows cwd result names has is = absurd (cc)
asked_named name_in rows_in (Some own) name rows cwd result names has is =
    subst (λ n. AnswersArgs (subcommand_named n (rows_in own) cwd) result) (same_some names)
    (subst (λ r. AnswersArgs (subcommand_named name r cwd) result) (same_some has) is)
