-- Computed examples: each row holds as it is there.
use Rattle.std.proofs.Common.{◌≡◌, ℕ, List, [], ◌∷◌, codes, Bool, false, true, Option, Some, None, refl}
use Rattle.run_request.specs.declared.context.KrateContext.{KrateContext}
use Rattle.graph_workspace.specs.declared.error.UnsupportedPart.TheVariants.{MetadataPath, ExcludeSpec}
use Rattle.run_context.specs.Asked.{LeavesOut, by_specs, choice_asked, unsupported_part}

-- a request with a path of metadata, or none, and with such specs
abbrev asks : Option (List ℕ) → List (List ℕ) → KrateContext
asks path specs = record {
  manifest_path = [];
  config_path = None;
  metadata_path = path;
  workspace = false;
  exclude = specs;
  targets = [];
  no_default_features = false;
  all_features = false;
  features = [];
  frozen = false;
  locked = false;
  offline = false;
  exclude_dev = false;
  exclude_unpublished = false;
  cwd = [];
}

-- ---- the first part that is not carried

path_first : unsupported_part (asks None (codes "x#1" ∷ [])) [] ≡ Some MetadataPath
path_first = refl

number_sign : unsupported_part (asks (Some (codes "m.json")) (codes "x#1" ∷ [])) [] ≡ Some ExcludeSpec
number_sign = refl

slash_behind_others : unsupported_part (asks (Some (codes "m.json")) (codes "a" ∷ codes "x/y" ∷ [])) [] ≡ Some ExcludeSpec
slash_behind_others = refl

slash_of_the_policy : unsupported_part (asks (Some (codes "m.json")) (codes "a" ∷ [])) (codes "x/y" ∷ []) ≡ Some ExcludeSpec
slash_of_the_policy = refl

-- unreadable ones are carried
unreadable : unsupported_part (asks (Some (codes "m.json")) (codes "a@1" ∷ [])) (codes "a:1.0.0@x" ∷ []) ≡ None
unreadable = refl

-- ---- what is left out

-- what a policy leaves out by its flags alone
abbrev by_flags : Bool → Bool → LeavesOut
by_flags exclude_dev exclude_unpublished = record { exclude = []; exclude_dev = exclude_dev; exclude_unpublished = exclude_unpublished }

-- without dev dependencies where the policy or the request says so
dev_of_the_policy : (choice_asked (asks None []) (by_flags true false)).exclude_dev ≡ true
dev_of_the_policy = refl

dev_of_the_request : (choice_asked (record (asks None []) { exclude_dev = true }) (by_flags false false)).exclude_dev ≡ true
dev_of_the_request = refl

unpublished_of_the_policy : (choice_asked (asks None []) (by_flags false true)).exclude_unpublished ≡ true
unpublished_of_the_policy = refl

no_flag : (choice_asked (asks None []) (by_specs (codes "a" ∷ []))).exclude_dev ≡ false
no_flag = refl
