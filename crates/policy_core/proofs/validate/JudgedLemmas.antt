-- Items that are judged one after another.
use Rattle.std.proofs.Common.{◌≡◌, ◌∙◌, refl, sym, ap, List, [], ◌∷◌, ◌++◌, map, Option, Some, None, append_assoc}
use Rattle.std.proofs.lemmas.List.{map-append}
use Rattle.std.proofs.lemmas.List.Elements.{filter_map-append}
use Rattle.std.specs.List.{AllZip, cons_option, filter_map}
use Rattle.std.specs.Option.{option_to_list}
use Rattle.std.specs.Result.{result_ok, result_err}
use Rattle.diag_core.specs.declared.diagnostic.Diagnostic.{Diagnostic}
use Rattle.policy_core.specs.validate.Valid.{ItemOrFinding, kept_by, findings_by_each}

alone : {A : Type 0} (o : Option A) → cons_option o [] ≡ option_to_list o
alone None = refl
alone (Some x) = refl

pub filter_map_more : {A B : Type 0} (h : A → Option B) (xs : List A) (x : A) → filter_map h (xs ++ x ∷ []) ≡ filter_map h xs ++ option_to_list (h x)
filter_map_more h xs x = filter_map-append h xs (x ∷ []) ∙ ap (λ more. filter_map h xs ++ more) (alone (h x))

pub kept_more : {A B : Type 0} (judge : A → ItemOrFinding B) (items : List A) (item : A) → kept_by judge (items ++ item ∷ []) ≡ kept_by judge items ++ option_to_list (result_ok (judge item))
kept_more judge items item = filter_map_more (λ one. result_ok (judge one)) items item

pub told_more : {A B : Type 0} (judge : A → ItemOrFinding B) (items : List A) (item : A) → findings_by_each judge (items ++ item ∷ []) ≡ findings_by_each judge items ++ option_to_list (result_err (judge item))
told_more judge items item = filter_map_more (λ one. result_err (judge one)) items item

-- findings so far, and those of one item more
pub found_more : {A B : Type 0} (judge : A → ItemOrFinding B) (items : List A) (item : A) (judged : ItemOrFinding B) (first before after : List Diagnostic)
    → judged ≡ judge item → after ≡ before ++ option_to_list (result_err judged) → before ≡ first ++ findings_by_each judge items
    → after ≡ first ++ findings_by_each judge (items ++ item ∷ [])
found_more judge items item judged first before after is added so_far =
    added ∙ ap (λ b. b ++ option_to_list (result_err judged)) so_far
    ∙ append_assoc first (findings_by_each judge items) (option_to_list (result_err judged))
    ∙ ap (λ j. first ++ (findings_by_each judge items ++ option_to_list (result_err j))) is
    ∙ ap (λ t. first ++ t) (sym (told_more judge items item))

-- what is kept so far, and one item more
pub held_more : {A B : Type 0} (judge : A → ItemOrFinding B) (items : List A) (item : A) (judged : ItemOrFinding B) (before after : List B)
    → judged ≡ judge item → after ≡ before ++ option_to_list (result_ok judged) → before ≡ kept_by judge items
    → after ≡ kept_by judge (items ++ item ∷ [])
held_more judge items item judged before after is added so_far =
    added ∙ ap (λ b. b ++ option_to_list (result_ok judged)) so_far
    ∙ ap (λ j. kept_by judge items ++ option_to_list (result_ok j)) is
    ∙ sym (kept_more judge items item)

-- what is reported of items so far, and of one more that may tell nothing
pub filtered_more : {A B : Type 0} (f : A → Option B) (items : List A) (item : A) (first before after : List B)
    → after ≡ before ++ option_to_list (f item) → before ≡ first ++ filter_map f items → after ≡ first ++ filter_map f (items ++ item ∷ [])
filtered_more f items item first before after added so_far =
    added ∙ ap (λ b. b ++ option_to_list (f item)) so_far
    ∙ append_assoc first (filter_map f items) (option_to_list (f item))
    ∙ ap (λ t. first ++ t) (sym (filter_map_more f items item))

-- what is reported of items so far, and of one more
pub mapped_more : {A B : Type 0} (f : A → B) (items : List A) (item : A) (first before after : List B)
    → after ≡ before ++ f item ∷ [] → before ≡ first ++ map f items → after ≡ first ++ map f (items ++ item ∷ [])
mapped_more f items item first before after added so_far =
    added ∙ ap (λ b. b ++ f item ∷ []) so_far
    ∙ append_assoc first (map f items) (f item ∷ [])
    ∙ ap (λ t. first ++ t) (sym (map-append f items (item ∷ [])))

pub zipped_append : {A B : Type 0} (R : A → B → Type 0) (xs : List A) (ys : List B) (more : List A) (others : List B)
    → AllZip R xs ys → AllZip R more others → AllZip R (xs ++ more) (ys ++ others)
zipped_append R [] [] more others one other = other
zipped_append R [] (y ∷ ys) more others one other = absurd one
zipped_append R (x ∷ xs) [] more others one other = absurd one
zipped_append R (x ∷ xs) (y ∷ ys) more others one other = (one.0, zipped_append R xs ys more others one.1 other)

-- four lists of findings, one behind another
joined : (first a b c d : List Diagnostic) → ((((first ++ a) ++ b) ++ c) ++ d) ≡ first ++ (((a ++ b) ++ c) ++ d)
joined first a b c d = simp append_assoc refl

pub all_told : (first a b c d one two three four : List Diagnostic) → one ≡ first ++ a → two ≡ one ++ b → three ≡ two ++ c → four ≡ three ++ d
    → four ≡ first ++ (((a ++ b) ++ c) ++ d)
all_told first a b c d one two three four told more further last =
    last ∙ ap (λ x. x ++ d) (further ∙ ap (λ x. x ++ c) (more ∙ ap (λ x. x ++ b) told)) ∙ joined first a b c d
