-- What a sink that held no packs has gained of a check.
use Rattle.std.proofs.Common.{◌≡◌, ◌∙◌, refl, sym, ap, subst, List, [], ◌∷◌, ◌++◌, map, None, Result, Ok, Err, OnOk, OnErr}
use Rattle.std.specs.Prelude.{All}
use Rattle.diag_core.specs.File.{File}
use Rattle.diag_core.specs.Overrides.{pack_overridden}
use Rattle.diag_core.specs.Pack.{PackOf}
use Rattle.diag_core.specs.declared.overrides.ErrorSink.{ErrorSink}
use Rattle.check_core.specs.Check.{sink_with_packs}
use Rattle.check_core.specs.Labels.{GainLies, PackLies}

-- without overrides each pack is as it was
pub not_overridden : (packs : List PackOf) → map (pack_overridden None) packs ≡ packs
not_overridden [] = refl
not_overridden (pack ∷ packs) = ap (λ rest. pack ∷ rest) (not_overridden packs)

pub packs_gained : (old new : ErrorSink) (packs : List PackOf) → old.packs ≡ [] → new ≡ sink_with_packs old packs → new.packs ≡ map (pack_overridden old.overrides) packs
packs_gained old new packs empty is =
    ap (λ (one : ErrorSink). one.packs) is ∙ ap (λ held. held ++ map (pack_overridden old.overrides) packs) empty

pub labels_gained : (files : List File) (old new : ErrorSink) → old.packs ≡ [] → GainLies files old new → All (PackLies files) new.packs
labels_gained files old new empty gain = subst (All (PackLies files)) (sym (gain.1 ∙ ap (λ held. held ++ gain.0) empty)) gain.2

-- what is so is so of a success
pub of_success : {T E : Type 0} (result : Result T E) (P : Type 0) → P → OnOk result P
of_success (Ok value) P is = is
of_success (Err error) P is = tt

-- and of an error
pub of_error : {T E : Type 0} (result : Result T E) (P : Type 0) → P → OnErr result P
of_error (Ok value) P is = tt
of_error (Err error) P is = is
