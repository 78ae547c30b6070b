-- One feature more, the first fault, and the end.
use Rattle.std.proofs.Common.{◌≡◌, ℕ, List, [], ◌∷◌, Ok, Err, sym, ◌∙◌, ap, String, string_bytes}
use Rattle.std.specs.Global.{Global}
use Rattle.std.specs.FinMap as finmap
use Rattle.deny_text.specs.TextMap.{TextMapTo}
use Rattle.serde_json.specs.View.{view, members_view}
use Rattle.serde_json.specs.declared.value.Value.{Value}
use Rattle.graph_metadata.specs.declared.fault.MetaError.{MetaError}
use Rattle.graph_metadata.specs.declared.fault.MetaError.TheVariants.{Syntax, Shape, Memory}
use Rattle.graph_metadata.specs.Packages.{feature_row, features_in}
use Rattle.graph_metadata.specs.Told.{MetadataReading, ◌>>=◌, Fails}

module _ (index : ℕ) (found : TextMapTo (List (List ℕ))) (left : List (String Global × Value)) (name : String Global)
    (value : Value) (rest : List (String Global × Value)) (shown : List ℕ) where
  row_is : shown ≡ string_bytes name → (told : MetadataReading (List (List ℕ))) → feature_row index shown (view value) ≡ told
      → feature_row index (string_bytes name) (view value) ≡ told
  row_is s told e = ap (λ text. feature_row index text (view value)) (sym s) ∙ e

  pub features-next : (key : List ℕ) (texts : List (List ℕ)) (new : TextMapTo (List (List ℕ)))
      → left ≡ (name, value) ∷ rest → shown ≡ string_bytes name → key ≡ string_bytes name
      → feature_row index shown (view value) ≡ Ok texts → new ≡ finmap.insert found key texts
      → features_in index found (members_view left) ≡ features_in index new (members_view rest)
  unfolding features_in
  features-next key texts new e s k f n =
      ap (λ all. features_in index found (members_view all)) e
      ∙ (ap (λ told. told >>= (λ texts. features_in index (finmap.insert found (string_bytes name) texts) (members_view rest)))
      (row_is s (Ok texts) f)
      ∙ (ap (λ text. features_in index (finmap.insert found text texts) (members_view rest)) (sym k)
      ∙ ap (λ held. features_in index held (members_view rest)) (sym n)))

  pub features-fail : (error : MetaError) → left ≡ (name, value) ∷ rest → shown ≡ string_bytes name
      → Fails error (feature_row index shown (view value)) → Fails error (features_in index found (members_view left))
  unfolding features_in
  features-fail Memory e s f = tt
  features-fail (Shape fault) e s f =
      ap (λ all. features_in index found (members_view all)) e
      ∙ ap (λ told. told >>= (λ texts. features_in index (finmap.insert found (string_bytes name) texts) (members_view rest)))
      (row_is s (Err fault) f)
  features-fail Syntax e s f = f

pub features-end : (index : ℕ) (found : TextMapTo (List (List ℕ))) (left : List (String Global × Value)) → left ≡ []
    → features_in index found (members_view left) ≡ Ok found
unfolding features_in
features-end index found left e = ap (λ all. features_in index found (members_view all)) e
