use Rattle.std.proofs.Common.{◌≡◌, map, take}
use Rattle.spdx_terms.specs.declared.catalog.built_in.BuiltIn.{BuiltIn}
use Rattle.spdx_terms.specs.catalog.BuiltIn.{license_text}
use Rattle.spdx_terms.proofs.catalog.built_in.built_in_texts.Given as goal

-- the texts so far
abbrev pub invariant-listed : goal.invariant-listed
invariant-listed l = l.texts ≡ map (λ (built : BuiltIn). license_text built.name.now built.heading.now built.body.now) (take l.built-index l.listed)
