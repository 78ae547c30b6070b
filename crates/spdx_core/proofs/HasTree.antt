-- Where items have no fault, there is a tree.
use Rattle.std.proofs.Common.{◌≡◌, ◌∙◌, refl, sym, ap, subst, ℕ, ◌+◌, false, cond, IsTrue, List, [], ◌∷◌, ◌++◌, map, append_assoc, append-nil, Option, Some, None, length, drop}
use Rattle.std.proofs.lemmas.Bool.{true≢false}
use Rattle.deny_text.specs.declared.span.Span.{Span}
use Rattle.spdx_terms.specs.catalog.Catalog.{CatalogLists}
use Rattle.spdx_terms.specs.declared.mode.ParseMode.{ParseMode}
use Rattle.spdx_terms.specs.declared.error.ParseError.{ParseError}
use Rattle.spdx_terms.specs.declared.error.ParseReason.TheVariants.{Unexpected, UnopenedParens}
use Rattle.spdx_terms.specs.declared.term.ExpressionReq.{ExpressionReq}
use Rattle.spdx_terms.specs.declared.item.WantedItem.{WantedItem}
use Rattle.spdx_terms.specs.declared.item.WantedItem.TheVariants.{Term as wants_term, Exception as wants_exception, AfterTerm, AfterPart}
use Rattle.spdx_terms.specs.declared.item.ItemKind.{ItemKind}
use Rattle.spdx_terms.specs.declared.item.ItemKind.TheVariants.{Term, Exception, And, Or, With, Open, Close, Plus, Word, Other}
use Rattle.spdx_terms.specs.declared.item.Item.{Item}
use Rattle.spdx_terms.specs.declared.item.Simple.{Simple}
use Rattle.spdx_terms.specs.Items.{items_of}
use Rattle.spdx_terms.specs.Faults.{fault_from, fault_of, first_fault, first_of, mark_fault, end_fault, last_open, fault_unless, fault_over, takes_operator, has_open}
use Rattle.spdx_terms.proofs.FaultLemmas.{no, first_of-left, first_of-right, marks_taken}
use Rattle.spdx_core.specs.Grammar.{ExpressionTree, leaf, both, either, Rule, expression, conjunction, part, ReadsAs, Spells, AllowedForms, allowed_in, takes, simple, simple_with, grouped, one_part, and, one_conjunction, or, item}

-- items can be read by a rule, from whatever place on
abbrev pub CanRead : AllowedForms → Rule → List Item → Type 0
CanRead allowed rule items = (n : ℕ) → (tree : ExpressionTree) × (terms : List ExpressionReq) × ReadsAs allowed rule n items tree terms

can_and : {allowed : AllowedForms} (xs ys : List Item) (from to : ℕ) → CanRead allowed conjunction xs → CanRead allowed part ys → CanRead allowed conjunction (xs ++ item And from to ∷ ys)
can_and xs ys from to left right n =
    let l = left n in
    let r = right (n + length l.1) in
    (both l.0 r.0, l.1 ++ r.1, and n from to xs ys l.0 r.0 l.1 r.1 l.2 r.2)

can_or : {allowed : AllowedForms} (xs ys : List Item) (from to : ℕ) → CanRead allowed expression xs → CanRead allowed conjunction ys → CanRead allowed expression (xs ++ item Or from to ∷ ys)
can_or xs ys from to left right n =
    let l = left n in
    let r = right (n + length l.1) in
    (either l.0 r.0, l.1 ++ r.1, or n from to xs ys l.0 r.0 l.1 r.1 l.2 r.2)

can_group : {allowed : AllowedForms} (xs : List Item) (from to last end : ℕ) → CanRead allowed expression xs → CanRead allowed part (item Open from to ∷ xs ++ item Close last end ∷ [])
can_group xs from to last end reads n = let r = reads n in (r.0, r.1, grouped n from to last end xs r.0 r.1 r.2)

-- a left side that waits for its right one
record Left (allowed : AllowedForms) (rule : Rule) : Type 0 where
  items : List Item
  from : ℕ
  to : ℕ
  reads : CanRead allowed rule items

-- what is before a part, since the last open parenthesis
record Pending (allowed : AllowedForms) : Type 0 where
  sum : Option (Left allowed expression)
  product : Option (Left allowed conjunction)

-- a conjunction was read, and perhaps what is before its OR
record Done (allowed : AllowedForms) : Type 0 where
  sum : Option (Left allowed expression)
  items : List Item
  reads : CanRead allowed conjunction items

before : {allowed : AllowedForms} {rule : Rule} → ItemKind → Option (Left allowed rule) → List Item → List Item
before what None rest = rest
before what (Some left) rest = left.items ++ item what left.from left.to ∷ rest

abbrev shown : {allowed : AllowedForms} → Pending allowed → List Item → List Item
shown pending rest = before Or pending.sum (before And pending.product rest)

abbrev shown_done : {allowed : AllowedForms} → Done allowed → List Item → List Item
shown_done done rest = before Or done.sum (done.items ++ rest)

with_part : {allowed : AllowedForms} → Option (Left allowed conjunction) → Option (Left allowed expression) → (items : List Item) → CanRead allowed part items → Done allowed
with_part None sum items reads = record { sum = sum; items = items; reads = λ n. let r = reads n in (r.0, r.1, one_part n items r.0 r.1 r.2) }
with_part (Some left) sum items reads = record { sum = sum; items = left.items ++ item And left.from left.to ∷ items; reads = can_and left.items items left.from left.to left.reads reads }

with_part-shown : {allowed : AllowedForms} (product : Option (Left allowed conjunction)) (sum : Option (Left allowed expression)) (items rest : List Item) (reads : CanRead allowed part items)
    → shown_done (with_part product sum items reads) rest ≡ before Or sum (before And product (items ++ rest))
unfolding before with_part
with_part-shown None sum items rest reads = refl
with_part-shown (Some left) sum items rest reads = ap (before Or sum) (append_assoc left.items (item And left.from left.to ∷ items) rest)

as_sum : {allowed : AllowedForms} → Option (Left allowed expression) → (items : List Item) → CanRead allowed conjunction items → (all : List Item) × CanRead allowed expression all
as_sum None items reads = (items, λ n. let r = reads n in (r.0, r.1, one_conjunction n items r.0 r.1 r.2))
as_sum (Some left) items reads = (left.items ++ item Or left.from left.to ∷ items, can_or left.items items left.from left.to left.reads reads)

as_sum-shown : {allowed : AllowedForms} (sum : Option (Left allowed expression)) (items rest : List Item) (reads : CanRead allowed conjunction items) → (as_sum sum items reads).0 ++ rest ≡ before Or sum (items ++ rest)
unfolding before as_sum
as_sum-shown None items rest reads = refl
as_sum-shown (Some left) items rest reads = append_assoc left.items (item Or left.from left.to ∷ items) rest

record Frame (allowed : AllowedForms) : Type 0 where
  pending : Pending allowed
  from : ℕ
  to : ℕ

shown_stack : {allowed : AllowedForms} → List (Frame allowed) → List Item → List Item
shown_stack [] rest = rest
shown_stack (f ∷ fs) rest = shown_stack fs (shown f.pending (item Open f.from f.to ∷ rest))

abbrev opened : {allowed : AllowedForms} → List (Frame allowed) → List Span
opened fs = map (λ f. record { start = f.from; end = f.to }) fs

abbrev Whole : (allowed : AllowedForms) → List (Frame allowed) → List Item → Type 0
Whole allowed fs rest = CanRead allowed expression (shown_stack fs rest)

-- a term was read in its place
term_done : {allowed : AllowedForms} (pending : Pending allowed) (named : Simple) (start end : ℕ) → IsTrue (takes allowed named.marks) → Done allowed
term_done pending named start end ok =
    with_part pending.product pending.sum (item (Term named) start end ∷ []) (λ n. (leaf n, _, simple n named start end ok))

term_done-shown : {allowed : AllowedForms} (pending : Pending allowed) (named : Simple) (start end : ℕ) (ok : IsTrue (takes allowed named.marks)) (rest : List Item)
    → shown_done (term_done pending named start end ok) rest ≡ shown pending (item (Term named) start end ∷ rest)
unfolding term_done
term_done-shown pending named start end ok rest = with_part-shown pending.product pending.sum (item (Term named) start end ∷ []) rest _

-- a term with its exception was read
exception_done : {allowed : AllowedForms} (pending : Pending allowed) (named : Simple) (name : List ℕ) (start mid from to last end : ℕ) → IsTrue (takes allowed named.marks) → Done allowed
exception_done pending named name start mid from to last end ok =
    with_part pending.product pending.sum (item (Term named) start mid ∷ item With from to ∷ item (Exception name) last end ∷ [])
    (λ n. (leaf n, _, simple_with n named name start mid from to last end ok))

exception_done-shown : {allowed : AllowedForms} (pending : Pending allowed) (named : Simple) (name : List ℕ) (start mid from to last end : ℕ) (ok : IsTrue (takes allowed named.marks)) (rest : List Item)
    → shown_done (exception_done pending named name start mid from to last end ok) rest
    ≡ shown pending (item (Term named) start mid ∷ item With from to ∷ item (Exception name) last end ∷ rest)
unfolding exception_done
exception_done-shown pending named name start mid from to last end ok rest =
    with_part-shown pending.product pending.sum (item (Term named) start mid ∷ item With from to ∷ item (Exception name) last end ∷ []) rest _

after_and : {allowed : AllowedForms} → Done allowed → ℕ → ℕ → Pending allowed
after_and done from to = record { sum = done.sum; product = Some (record { items = done.items; from = from; to = to; reads = done.reads }) }

after_or : {allowed : AllowedForms} → Done allowed → ℕ → ℕ → Pending allowed
after_or done from to = let s = as_sum done.sum done.items done.reads in record { sum = Some (record { items = s.0; from = from; to = to; reads = s.1 }); product = None }

after_or-shown : {allowed : AllowedForms} (done : Done allowed) (from to : ℕ) (rest : List Item) → shown (after_or done from to) rest ≡ shown_done done (item Or from to ∷ rest)
unfolding before after_or
after_or-shown done from to rest = as_sum-shown done.sum done.items (item Or from to ∷ rest) done.reads

after_and-shown : {allowed : AllowedForms} (done : Done allowed) (from to : ℕ) (rest : List Item) → shown (after_and done from to) rest ≡ shown_done done (item And from to ∷ rest)
unfolding before after_and
after_and-shown done from to rest = refl

close_done : {allowed : AllowedForms} → Frame allowed → Done allowed → ℕ → ℕ → Done allowed
close_done f done last end =
    let s = as_sum done.sum done.items done.reads in
    with_part f.pending.product f.pending.sum (item Open f.from f.to ∷ s.0 ++ item Close last end ∷ []) (can_group s.0 f.from f.to last end s.1)

close_done-shown : {allowed : AllowedForms} (f : Frame allowed) (done : Done allowed) (last end : ℕ) (rest : List Item)
    → shown_done (close_done f done last end) rest ≡ shown f.pending (item Open f.from f.to ∷ shown_done done (item Close last end ∷ rest))
unfolding close_done
close_done-shown f done last end rest =
    with_part-shown f.pending.product f.pending.sum (item Open f.from f.to ∷ (as_sum done.sum done.items done.reads).0 ++ item Close last end ∷ []) rest _
    ∙ ap (λ all. shown f.pending (item Open f.from f.to ∷ all))
    (append_assoc (as_sum done.sum done.items done.reads).0 (item Close last end ∷ []) rest
    ∙ as_sum-shown done.sum done.items (item Close last end ∷ rest) done.reads)

at_end : {allowed : AllowedForms} (len : ℕ) (fs : List (Frame allowed)) (done : Done allowed) → end_fault len AfterPart (last_open (opened fs)) ≡ None → Whole allowed fs (shown_done done [])
unfolding shown_stack
at_end {allowed = allowed} len [] done h =
    subst (λ all. CanRead allowed expression all)
    (sym (append-nil (as_sum done.sum done.items done.reads).0) ∙ as_sum-shown done.sum done.items [] done.reads)
    (as_sum done.sum done.items done.reads).1
at_end len (f ∷ fs) done h = no h

move : {allowed : AllowedForms} (fs : List (Frame allowed)) {a b : List Item} → a ≡ b → Whole allowed fs a → Whole allowed fs b
move {allowed = allowed} fs e whole = subst (λ all. Whole allowed fs all) e whole

nothing : {allowed : AllowedForms} → Pending allowed
nothing = record { sum = None; product = None }

no_close : {X : Type 0} (opened : List Span) (wanted : WantedItem) (span : Span) (x : Option ParseError) → takes_operator wanted ≡ false
    → first_of (cond (has_open opened) (fault_unless (takes_operator wanted) Unexpected span) (fault_over UnopenedParens span)) x ≡ None → X
no_close [] wanted span x e h = no h
no_close (o ∷ os) wants_term span x e h = no h
no_close (o ∷ os) wants_exception span x e h = no h
no_close (o ∷ os) AfterTerm span x e h = absurd (true≢false e)
no_close (o ∷ os) AfterPart span x e h = absurd (true≢false e)

-- what is to be shown of what is behind an item, from each state
record Later (mode : ParseMode) (len : ℕ) (items : List Item) : Type 0 where
  go_term : (fs : List (Frame (allowed_in mode))) (pending : Pending (allowed_in mode)) → fault_from mode len wants_term (opened fs) items ≡ None → Whole (allowed_in mode) fs (shown pending items)
  go_after : (fs : List (Frame (allowed_in mode))) (pending : Pending (allowed_in mode)) (named : Simple) (s e : ℕ) (ok : IsTrue (takes (allowed_in mode) named.marks))
      → fault_from mode len AfterTerm (opened fs) items ≡ None → Whole (allowed_in mode) fs (shown pending (item (Term named) s e ∷ items))
  go_with : (fs : List (Frame (allowed_in mode))) (pending : Pending (allowed_in mode)) (named : Simple) (s e : ℕ) (ok : IsTrue (takes (allowed_in mode) named.marks)) (from to : ℕ)
      → fault_from mode len wants_exception (opened fs) items ≡ None → Whole (allowed_in mode) fs (shown pending (item (Term named) s e ∷ item With from to ∷ items))
  go_done : (fs : List (Frame (allowed_in mode))) (done : Done (allowed_in mode)) → fault_from mode len AfterPart (opened fs) items ≡ None → Whole (allowed_in mode) fs (shown_done done items)

term_step : (mode : ParseMode) (len : ℕ) (fs : List (Frame (allowed_in mode))) (pending : Pending (allowed_in mode)) (what : ItemKind) (s2 e2 : ℕ) (items : List Item) → Later mode len items → fault_from mode len wants_term (opened fs) (item what s2 e2 ∷ items) ≡ None → Whole (allowed_in mode) fs (shown pending (item what s2 e2 ∷ items))
unfolding shown_stack before nothing
term_step mode len fs pending (Term other) s2 e2 items later h =
    let a = mark_fault mode other (record { start = s2; end = e2 }) in
    let b = fault_from mode len AfterTerm (opened fs) items in
    later.go_after fs pending other s2 e2 (marks_taken mode other (record { start = s2; end = e2 }) (first_of-left a b h)) (first_of-right a b h)
term_step mode len fs pending (Exception other) s2 e2 items later h = no h
term_step mode len fs pending And s2 e2 items later h = no h
term_step mode len fs pending Or s2 e2 items later h = no h
term_step mode len fs pending With s2 e2 items later h = no h
term_step mode len fs pending Open s2 e2 items later h = later.go_term (record { pending = pending; from = s2; to = e2 } ∷ fs) nothing h
term_step mode len fs pending Close s2 e2 items later h = no_close (opened fs) wants_term (record { start = s2; end = e2 }) (fault_from mode len AfterPart (drop 1 (opened fs)) items) refl h
term_step mode len fs pending Plus s2 e2 items later h = no h
term_step mode len fs pending Word s2 e2 items later h = no h
term_step mode len fs pending Other s2 e2 items later h = no h

after_step : (mode : ParseMode) (len : ℕ) (fs : List (Frame (allowed_in mode))) (pending : Pending (allowed_in mode)) (named : Simple) (s e : ℕ) (ok : IsTrue (takes (allowed_in mode) named.marks)) (what : ItemKind) (s2 e2 : ℕ) (items : List Item) → Later mode len items → fault_from mode len AfterTerm (opened fs) (item what s2 e2 ∷ items) ≡ None → Whole (allowed_in mode) fs (shown pending (item (Term named) s e ∷ item what s2 e2 ∷ items))
unfolding shown_stack before nothing
after_step mode len fs pending named s e ok (Term other) s2 e2 items later h = no h
after_step mode len fs pending named s e ok (Exception other) s2 e2 items later h = no h
after_step mode len fs pending named s e ok And s2 e2 items later h =
    move fs (after_and-shown (term_done pending named s e ok) s2 e2 items ∙ term_done-shown pending named s e ok (item And s2 e2 ∷ items)) (later.go_term fs (after_and (term_done pending named s e ok) s2 e2) h)
after_step mode len fs pending named s e ok Or s2 e2 items later h =
    move fs (after_or-shown (term_done pending named s e ok) s2 e2 items ∙ term_done-shown pending named s e ok (item Or s2 e2 ∷ items)) (later.go_term fs (after_or (term_done pending named s e ok) s2 e2) h)
after_step mode len fs pending named s e ok With s2 e2 items later h = later.go_with fs pending named s e ok s2 e2 h
after_step mode len fs pending named s e ok Open s2 e2 items later h = no h
after_step mode len [] pending named s e ok Close s2 e2 items later h = no h
after_step mode len (f ∷ fs) pending named s e ok Close s2 e2 items later h =
    move fs (close_done-shown f (term_done pending named s e ok) s2 e2 items ∙ ap (λ all. shown f.pending (item Open f.from f.to ∷ all)) (term_done-shown pending named s e ok (item Close s2 e2 ∷ items)))
    (later.go_done fs (close_done f (term_done pending named s e ok) s2 e2) h)
after_step mode len fs pending named s e ok Plus s2 e2 items later h = no h
after_step mode len fs pending named s e ok Word s2 e2 items later h = no h
after_step mode len fs pending named s e ok Other s2 e2 items later h = no h

with_step : (mode : ParseMode) (len : ℕ) (fs : List (Frame (allowed_in mode))) (pending : Pending (allowed_in mode)) (named : Simple) (s e : ℕ) (ok : IsTrue (takes (allowed_in mode) named.marks)) (from to : ℕ) (what : ItemKind) (s2 e2 : ℕ) (items : List Item) → Later mode len items → fault_from mode len wants_exception (opened fs) (item what s2 e2 ∷ items) ≡ None → Whole (allowed_in mode) fs (shown pending (item (Term named) s e ∷ item With from to ∷ item what s2 e2 ∷ items))
unfolding shown_stack before nothing
with_step mode len fs pending named s e ok from to (Term other) s2 e2 items later h = no h
with_step mode len fs pending named s e ok from to (Exception other) s2 e2 items later h = move fs (exception_done-shown pending named other s e from to s2 e2 ok items) (later.go_done fs (exception_done pending named other s e from to s2 e2 ok) h)
with_step mode len fs pending named s e ok from to And s2 e2 items later h = no h
with_step mode len fs pending named s e ok from to Or s2 e2 items later h = no h
with_step mode len fs pending named s e ok from to With s2 e2 items later h = no h
with_step mode len fs pending named s e ok from to Open s2 e2 items later h = no h
with_step mode len fs pending named s e ok from to Close s2 e2 items later h = no_close (opened fs) wants_exception (record { start = s2; end = e2 }) (fault_from mode len AfterPart (drop 1 (opened fs)) items) refl h
with_step mode len fs pending named s e ok from to Plus s2 e2 items later h = no h
with_step mode len fs pending named s e ok from to Word s2 e2 items later h = no h
with_step mode len fs pending named s e ok from to Other s2 e2 items later h = no h

done_step : (mode : ParseMode) (len : ℕ) (fs : List (Frame (allowed_in mode))) (done : Done (allowed_in mode)) (what : ItemKind) (s2 e2 : ℕ) (items : List Item) → Later mode len items → fault_from mode len AfterPart (opened fs) (item what s2 e2 ∷ items) ≡ None → Whole (allowed_in mode) fs (shown_done done (item what s2 e2 ∷ items))
unfolding shown_stack before nothing
done_step mode len fs done (Term other) s2 e2 items later h = no h
done_step mode len fs done (Exception other) s2 e2 items later h = no h
done_step mode len fs done And s2 e2 items later h = move fs (after_and-shown done s2 e2 items) (later.go_term fs (after_and done s2 e2) h)
done_step mode len fs done Or s2 e2 items later h = move fs (after_or-shown done s2 e2 items) (later.go_term fs (after_or done s2 e2) h)
done_step mode len fs done With s2 e2 items later h = no h
done_step mode len fs done Open s2 e2 items later h = no h
done_step mode len [] done Close s2 e2 items later h = no h
done_step mode len (f ∷ fs) done Close s2 e2 items later h = move fs (close_done-shown f done s2 e2 items) (later.go_done fs (close_done f done s2 e2) h)
done_step mode len fs done Plus s2 e2 items later h = no h
done_step mode len fs done Word s2 e2 items later h = no h
done_step mode len fs done Other s2 e2 items later h = no h

all_later : (mode : ParseMode) (len : ℕ) (items : List Item) → Later mode len items
all_later mode len [] = record {
  go_term = λ fs pending h. no h;
  go_after = λ fs pending named s e ok h. move fs (term_done-shown pending named s e ok []) (at_end len fs (term_done pending named s e ok) h);
  go_with = λ fs pending named s e ok from to h. no h;
  go_done = λ fs done h. at_end len fs done h;
}
all_later mode len (it ∷ items) =
    let later = all_later mode len items in
    record {
      go_term = λ fs pending h. term_step mode len fs pending it.what it.span.start it.span.end items later h;
      go_after = λ fs pending named s e ok h. after_step mode len fs pending named s e ok it.what it.span.start it.span.end items later h;
      go_with = λ fs pending named s e ok from to h. with_step mode len fs pending named s e ok from to it.what it.span.start it.span.end items later h;
      go_done = λ fs done h. done_step mode len fs done it.what it.span.start it.span.end items later h;
    }

tree_of_items : (mode : ParseMode) (len : ℕ) (items : List Item) → fault_of mode len items ≡ None → (tree : ExpressionTree) × (terms : List ExpressionReq) × ReadsAs (allowed_in mode) expression 0 items tree terms
unfolding shown_stack before nothing
tree_of_items mode len [] h = no h
tree_of_items mode len (it ∷ items) h = (all_later mode len (it ∷ items)).go_term [] nothing h 0

-- a text without a fault has a tree
pub has_tree : (mode : ParseMode) (lists : CatalogLists) (text : List ℕ) → first_fault mode lists text ≡ None → (tree : ExpressionTree) × (terms : List ExpressionReq) × Spells mode lists text tree terms
has_tree mode lists text h = tree_of_items mode (length text) (items_of mode lists text) h
