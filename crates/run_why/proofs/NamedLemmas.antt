-- The crates that words name.
use Rattle.std.proofs.Common.{◌≡◌, ◌∙◌, refl, sym, ap, ap₂, ℕ, Bool, true, false, not, ◌||◌, cond, List, [], ◌∷◌, ◌++◌, ◌+◌, ◌<◌, length, take, get_or, map, Option, Some, None}
use Rattle.std.specs.Option.{option_to_list}
use Rattle.std.specs.List.{cons_option, filter_map, list_any}
use Rattle.std.proofs.lemmas.List.{take_more}
use Rattle.graph_core.specs.declared.krate.Krate.{Krate}
use Rattle.graph_core.specs.Krate.{CrateRecord, record_of}
use Rattle.graph_core.specs.declared.selection.exclude.ExcludeSpec.{ExcludeSpec}
use Rattle.graph_core.specs.selection.Choice.{ExcludeSpecView, exclude_spec_of, excludes, is_excluded, read_one, spec_read}
use Rattle.graph_walk.specs.Unchecked.{leaves_out}
use Rattle.run_why.specs.Named.{first_unknown, is_named, marks_of, named_by, names, unknown_or}

-- what one word is read as
read_as : (spec : Option ExcludeSpecView) → cons_option spec [] ≡ option_to_list spec
read_as (Some spec) = refl
read_as None = refl

pub read_alone : (word : List ℕ) → filter_map spec_read (word ∷ []) ≡ read_one word
read_alone word = read_as (spec_read word)

or_false : (a : Bool) → (a || false) ≡ a
or_false true = refl
or_false false = refl

-- of a word and of others
named_first : (spec : Option ExcludeSpecView) (rest : List ExcludeSpecView) (krate : CrateRecord)
    → is_excluded (cons_option spec rest) krate ≡ (is_excluded (option_to_list spec) krate || is_excluded rest krate)
named_first None rest krate = refl
named_first (Some spec) rest krate = ap (λ (own : Bool). own || is_excluded rest krate) (sym (or_false (excludes spec krate)))

pub named_by_words : (words : List (List ℕ)) (krate : CrateRecord) → is_excluded (filter_map spec_read words) krate ≡ is_named words krate
named_by_words [] krate = refl
named_by_words (word ∷ words) krate =
    named_first (spec_read word) (filter_map spec_read words) krate ∙ ap (λ (rest : Bool). names word krate || rest) (named_by_words words krate)

-- the marks of crates are those of their records
pub marks_are : (words : List (List ℕ)) (krates : List Krate) → marks_of (filter_map spec_read words) krates ≡ map (is_named words) (map record_of krates)
marks_are words [] = refl
marks_are words (krate ∷ krates) =
    ap₂ (λ (mark : Bool) (marks : List Bool). mark ∷ marks) (named_by_words words (record_of krate)) (marks_are words krates)

-- one of crates is named, as one of their records is
pub any_named : (specs : List ExcludeSpecView) (krates : List Krate) → list_any (named_by specs) krates ≡ list_any (is_excluded specs) (map record_of krates)
any_named specs [] = refl
any_named specs (krate ∷ krates) = ap (λ (rest : Bool). named_by specs krate || rest) (any_named specs krates)

-- one of specs is for a crate, as one of what they are read as
pub any_is : (specs : List ExcludeSpec) (krate : CrateRecord) → list_any (leaves_out krate) specs ≡ is_excluded (map exclude_spec_of specs) krate
any_is [] krate = refl
any_is (spec ∷ specs) krate = ap (λ (rest : Bool). leaves_out krate spec || rest) (any_is specs krate)

-- ---- words that name none

either_some : (b : Bool) (first word : List ℕ) (crates : List CrateRecord) (rest : Option (List ℕ)) → unknown_or (cond b (Some first) rest) word crates ≡ cond b (Some first) (unknown_or rest word crates)
either_some true first word crates rest = refl
either_some false first word crates rest = refl

-- among some words and one more
pub unknown_push : (words : List (List ℕ)) (word : List ℕ) (crates : List CrateRecord) → first_unknown (words ++ word ∷ []) crates ≡ unknown_or (first_unknown words crates) word crates
unknown_push [] word crates = refl
unknown_push (first ∷ words) word crates =
    ap (λ (rest : Option (List ℕ)). cond (not (list_any (names first) crates)) (Some first) rest) (unknown_push words word crates)
    ∙ sym (either_some (not (list_any (names first) crates)) first word crates (first_unknown words crates))

pub words_more : (words : List (List ℕ)) (i : ℕ) (word : List ℕ) (crates : List CrateRecord) → i < length words → get_or words i word ≡ word
    → unknown_or (first_unknown (take i words) crates) word crates ≡ first_unknown (take (i + 1) words) crates
words_more words i word crates within is =
    sym (unknown_push (take i words) word crates)
    ∙ ap (λ (last : List ℕ). first_unknown (take i words ++ last ∷ []) crates) (sym is)
    ∙ ap (λ (front : List (List ℕ)). first_unknown front crates) (sym (take_more words i word within))
