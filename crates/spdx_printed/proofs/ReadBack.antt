-- A printed expression is read back.
use Rattle.std.proofs.Common.{◌≡◌, ◌∙◌, refl, sym, ap, subst, ℕ, ◌+◌, Bool, true, false, ◌||◌, List, [], ◌∷◌, ◌++◌, append_assoc, append-nil, Option, Some, None, length, arith}
use Rattle.std.proofs.lemmas.List.{length-append, length-map, map-append}
use Rattle.std.proofs.lemmas.List.Elements.{recursion_from_All}
use Rattle.std.proofs.lemmas.Bool.{false≢true}
use Rattle.std.specs.Prelude.{codes, slice_get, unwrap_or}
use Rattle.std.specs.Option.{option_map}
use Rattle.std.specs.List.{AllByRecursion}
use Rattle.spdx_terms.specs.catalog.Catalog.{CatalogLists, IsCatalog}
use Rattle.spdx_terms.specs.declared.term.LicenseItem.{LicenseItem}
use Rattle.spdx_terms.specs.declared.term.LicenseItem.TheVariants.{Spdx, Reference}
use Rattle.spdx_terms.specs.declared.term.LicenseReq.{LicenseReq}
use Rattle.spdx_terms.specs.declared.term.ExpressionReq.{ExpressionReq}
use Rattle.spdx_terms.specs.declared.item.Item.{Item}
use Rattle.spdx_terms.specs.declared.item.ItemKind.{ItemKind}
use Rattle.spdx_terms.specs.declared.item.ItemKind.TheVariants.{Term, Exception, And, Or, With, Open, Close}
use Rattle.spdx_terms.specs.declared.item.Token.TheVariants.{Open as an_open, Close as a_close}
use Rattle.spdx_terms.specs.declared.item.WantedItem.{WantedItem}
use Rattle.spdx_terms.specs.declared.item.WantedItem.TheVariants.{Term as wants_term, Exception as wants_exception, AfterTerm, AfterPart}
use Rattle.spdx_terms.specs.Tokens.{is_white, rest_len}
use Rattle.spdx_terms.specs.Items.{item_at, word_item, first_item, items_of, items_from, item_here, with_item, wanted_behind, used_behind, wanted_after}
use Rattle.spdx_terms.specs.Terms.{item_text, exception_text, req_text}
use Rattle.spdx_terms.proofs.ItemLemmas.{items_at}
use Rattle.spdx_terms.proofs.ItemBorders.{step_white}
use Rattle.spdx_core.specs.Grammar.{ExpressionTree, leaf, both, either, Rule, expression, conjunction, part, ReadsAs, AllowedForms, allowed_in, simple, simple_with, grouped, one_part, and, one_conjunction, or, item, term}
use Rattle.spdx_core.specs.Printing.{IsItemOf, IsExceptionOf, IsTermOf, printed_mode}
use Rattle.spdx_core.proofs.NameItems.{word_step}
use Rattle.spdx_core.proofs.TermsOf.{terms_of}
use Rattle.spdx_printed.specs.Laws.{HasLicense, HasNames, texts_of, PrintedIsRead}
use Rattle.spdx_printed.specs.Printed.{is_and, is_or, grouped_if, term_text, printed_of}
use Rattle.spdx_printed.proofs.PrintedItems.{Ends, IsPlainItem, PrintedItem, printed_item, behind_with}

-- ---- marks and operators

-- an operator or a `)` may follow
abbrev is_after : WantedItem → Bool
is_after wants_term = false
is_after wants_exception = false
is_after AfterTerm = true
is_after AfterPart = true

-- a mark of one byte
mark_step : (lists : CatalogLists) (wanted : WantedItem) (place b : ℕ) (rest : List ℕ) (what : ItemKind) → is_white b ≡ false → first_item printed_mode lists wanted place b rest ≡ item_at what place 1
    → items_from printed_mode lists wanted place place (b ∷ rest) ≡ item_at what place 1 ∷ items_from printed_mode lists (wanted_after wanted what) (place + 1) (place + 1) rest
mark_step lists wanted place b rest what dark first =
    items_at printed_mode lists wanted place b rest
    ∙ ap (λ (t : Bool). let found = item_here t printed_mode lists wanted place b rest in with_item found (items_from printed_mode lists (wanted_behind wanted found) (place + 1) (used_behind place found) rest)) dark
    ∙ ap (λ (found : Item). found ∷ items_from printed_mode lists (wanted_after wanted found.what) (place + 1) found.span.end rest) first

open_len : (rest : List ℕ) → rest_len an_open rest ≡ 0
open_len [] = refl
open_len (b ∷ rest) = refl

close_len : (rest : List ℕ) → rest_len a_close rest ≡ 0
close_len [] = refl
close_len (b ∷ rest) = refl

one_open : (lists : CatalogLists) (place : ℕ) (rest : List ℕ)
    → items_from printed_mode lists wants_term place place (codes "(" ++ rest) ≡ item Open place (place + 1) ∷ items_from printed_mode lists wants_term (place + 1) (place + 1) rest
one_open lists place rest = mark_step lists wants_term place 40 rest Open refl (ap (λ n. item_at Open place (1 + n)) (open_len rest))

one_close : (lists : CatalogLists) (after : WantedItem) (place : ℕ) (rest : List ℕ)
    → items_from printed_mode lists after place place (codes ")" ++ rest) ≡ item Close place (place + 1) ∷ items_from printed_mode lists AfterPart (place + 1) (place + 1) rest
one_close lists after place rest = mark_step lists after place 41 rest Close refl (ap (λ n. item_at Close place (1 + n)) (close_len rest))

-- how an operator between spaces is read
abbrev IsOperator : CatalogLists → ItemKind → ℕ → List ℕ → Type 0
IsOperator lists what len text = (after : WantedItem) → is_after after ≡ true → (place : ℕ) (rest : List ℕ)
    → items_from printed_mode lists after place place (text ++ rest)
    ≡ item what (place + 1) (place + 1 + len) ∷ items_from printed_mode lists wants_term (place + 1 + len + 1) (place + 1 + len + 1) rest

word_and : (lists : CatalogLists) (after : WantedItem) → is_after after ≡ true → (place : ℕ) (rest : List ℕ) → word_item printed_mode lists after place (codes "AND " ++ rest) 3 ≡ item_at And place 3
word_and lists wants_term h place rest = absurd (false≢true h)
word_and lists wants_exception h place rest = absurd (false≢true h)
word_and lists AfterTerm h place rest = refl
word_and lists AfterPart h place rest = refl

word_or : (lists : CatalogLists) (after : WantedItem) → is_after after ≡ true → (place : ℕ) (rest : List ℕ) → word_item printed_mode lists after place (codes "OR " ++ rest) 2 ≡ item_at Or place 2
word_or lists wants_term h place rest = absurd (false≢true h)
word_or lists wants_exception h place rest = absurd (false≢true h)
word_or lists AfterTerm h place rest = refl
word_or lists AfterPart h place rest = refl

one_and : (lists : CatalogLists) → IsOperator lists And 3 (codes " AND ")
one_and lists after is place rest =
    step_white printed_mode lists after place 32 (codes "AND " ++ rest) refl
    ∙ word_step printed_mode lists after (place + 1) (codes "AND") (32 ∷ rest) (item_at And (place + 1) 3) 3 refl refl (word_and lists after is (place + 1) rest) refl (omega arith) (omega arith)
    ∙ ap (λ items. item And (place + 1) (place + 1 + 3) ∷ items) (step_white printed_mode lists wants_term (place + 1 + 3) 32 rest refl)

one_or : (lists : CatalogLists) → IsOperator lists Or 2 (codes " OR ")
one_or lists after is place rest =
    step_white printed_mode lists after place 32 (codes "OR " ++ rest) refl
    ∙ word_step printed_mode lists after (place + 1) (codes "OR") (32 ∷ rest) (item_at Or (place + 1) 2) 2 refl refl (word_or lists after is (place + 1) rest) refl (omega arith) (omega arith)
    ∙ ap (λ items. item Or (place + 1) (place + 1 + 2) ∷ items) (step_white printed_mode lists wants_term (place + 1 + 2) 32 rest refl)

-- ---- parts of a printed expression

-- a text from a place on is read by a rule, as a tree with terms that print so, and what is behind it goes on
record PrintedAs (lists : CatalogLists) (rule : Rule) (n : ℕ) (tree : ExpressionTree) (texts : List (List ℕ)) (text : List ℕ) (place : ℕ) (rest : List ℕ) : Type 0 where
  items : List Item
  read : List ExpressionReq
  says : texts_of read ≡ texts
  reads : ReadsAs (allowed_in printed_mode) rule n items tree read
  after : WantedItem
  behind : is_after after ≡ true
  are : items_from printed_mode lists wants_term place place (text ++ rest) ≡ items ++ items_from printed_mode lists after (place + length text) (place + length text) rest

abbrev Prints : CatalogLists → Rule → ℕ → ExpressionTree → List (List ℕ) → List ℕ → Type 0
Prints lists rule n tree texts text = (place : ℕ) (rest : List ℕ) → Ends rest → PrintedAs lists rule n tree texts text place rest

as_conjunction : (lists : CatalogLists) (n : ℕ) (tree : ExpressionTree) (texts : List (List ℕ)) (text : List ℕ) → Prints lists part n tree texts text → Prints lists conjunction n tree texts text
as_conjunction lists n tree texts text prints place rest ends =
    let p = prints place rest ends in
    record { items = p.items; read = p.read; says = p.says; reads = one_part n p.items tree p.read p.reads; after = p.after; behind = p.behind; are = p.are }

as_expression : (lists : CatalogLists) (n : ℕ) (tree : ExpressionTree) (texts : List (List ℕ)) (text : List ℕ) → Prints lists conjunction n tree texts text → Prints lists expression n tree texts text
as_expression lists n tree texts text prints place rest ends =
    let p = prints place rest ends in
    record { items = p.items; read = p.read; says = p.says; reads = one_conjunction n p.items tree p.read p.reads; after = p.after; behind = p.behind; are = p.are }

-- in parentheses
in_group : (lists : CatalogLists) (n : ℕ) (tree : ExpressionTree) (texts : List (List ℕ)) (text : List ℕ) → Prints lists expression n tree texts text → Prints lists part n tree texts (codes "(" ++ (text ++ codes ")"))
in_group lists n tree texts text prints place rest ends =
    let p : PrintedAs lists expression n tree texts text (place + 1) (41 ∷ rest) = prints (place + 1) (41 ∷ rest) (record { word = refl; bare = refl }) in
    let last : ℕ = place + 1 + length text in
    let first : Item = item Open place (place + 1) in
    let final : Item = item Close last (last + 1) in
    let long : length (text ++ 41 ∷ []) ≡ length text + 1 = length-append text (41 ∷ []) in
    let same : place + 1 + length text + 1 ≡ place + length (40 ∷ (text ++ 41 ∷ [])) = omega arith in
    record {
      items = first ∷ (p.items ++ final ∷ []);
      read = p.read;
      says = p.says;
      reads = grouped n place (place + 1) last (last + 1) p.items tree p.read p.reads;
      after = AfterPart;
      behind = refl;
      are =
          ap (λ (more : List ℕ). items_from printed_mode lists wants_term place place (40 ∷ more)) (append_assoc text (41 ∷ []) rest)
          ∙ one_open lists place (text ++ 41 ∷ rest)
          ∙ ap (λ (more : List Item). first ∷ more) (p.are ∙ ap (λ (more : List Item). p.items ++ more) (one_close lists p.after last rest)
          ∙ sym (append_assoc p.items (final ∷ []) (items_from printed_mode lists AfterPart (last + 1) (last + 1) rest)))
          ∙ ap (λ (end : ℕ). (first ∷ (p.items ++ final ∷ [])) ++ items_from printed_mode lists AfterPart end end rest) same;
    }

-- how a rule joins two sides
abbrev Joins : ItemKind → Rule → Rule → Rule → ℕ → ExpressionTree → ExpressionTree → ExpressionTree → Type 0
Joins what first second whole n left right tree = (from to : ℕ) (before behind : List Item) (some more : List ExpressionReq)
    → ReadsAs (allowed_in printed_mode) first n before left some → ReadsAs (allowed_in printed_mode) second (n + length some) behind right more
    → ReadsAs (allowed_in printed_mode) whole n (before ++ item what from to ∷ behind) tree (some ++ more)

-- two sides with an operator between
joined : (lists : CatalogLists) (what : ItemKind) (len : ℕ) (between : List ℕ) (first second whole : Rule) (n m : ℕ) (left right tree : ExpressionTree) (some more : List (List ℕ)) (text other : List ℕ)
    → IsOperator lists what len between → length between ≡ len + 2 → ((rest : List ℕ) → Ends (between ++ rest)) → Joins what first second whole n left right tree → n + length some ≡ m
    → Prints lists first n left some text → Prints lists second m right more other → Prints lists whole n tree (some ++ more) (text ++ (between ++ other))
joined lists what len between first second whole n m left right tree some more text other operator long stops joins count to_left to_right place rest ends =
    let l : PrintedAs lists first n left some text place (between ++ (other ++ rest)) = to_left place (between ++ (other ++ rest)) (stops (other ++ rest)) in
    let from : ℕ = place + length text in
    let start : ℕ = from + 1 + len + 1 in
    let r : PrintedAs lists second m right more other start rest = to_right start rest ends in
    let sign : Item = item what (from + 1) (from + 1 + len) in
    let as_many : length l.read ≡ length some = sym (length-map l.read (λ (one : ExpressionReq). req_text one.req)) ∙ ap length l.says in
    let number : m ≡ n + length l.read = sym count ∙ ap (λ k. n + k) (sym as_many) in
    let all : length (text ++ (between ++ other)) ≡ length text + length (between ++ other) = length-append text (between ++ other) in
    let tail : length (between ++ other) ≡ length between + length other = length-append between other in
    let same : place + length text + 1 + len + 1 + length other ≡ place + length (text ++ (between ++ other)) = omega arith in
    record {
      items = l.items ++ sign ∷ r.items;
      read = l.read ++ r.read;
      says =
          map-append (λ (one : ExpressionReq). req_text one.req) l.read r.read
          ∙ ap (λ (texts : List (List ℕ)). texts ++ texts_of r.read) l.says
          ∙ ap (λ (texts : List (List ℕ)). some ++ texts) r.says;
      reads = joins (from + 1) (from + 1 + len) l.items r.items l.read r.read l.reads
          (subst (λ k. ReadsAs (allowed_in printed_mode) second k r.items right r.read) number r.reads);
      after = r.after;
      behind = r.behind;
      are =
          ap (λ (all : List ℕ). items_from printed_mode lists wants_term place place all) (append_assoc text (between ++ other) rest ∙ ap (λ (all : List ℕ). text ++ all) (append_assoc between other rest))
          ∙ l.are
          ∙ ap (λ (all : List Item). l.items ++ all) (operator l.after l.behind from (other ++ rest) ∙ ap (λ (all : List Item). sign ∷ all) r.are)
          ∙ sym (append_assoc l.items (sign ∷ r.items) (items_from printed_mode lists r.after (start + length other) (start + length other) rest))
          ∙ ap (λ (end : ℕ). (l.items ++ sign ∷ r.items) ++ items_from printed_mode lists r.after end end rest) same;
    }

-- ---- terms

-- a term whose names the catalogue has, and whose references are made of words
record IsPrintable (lists : CatalogLists) (req : LicenseReq) : Type 0 where
  license : IsPlainItem lists req.item
  exception : IsExceptionOf lists req.exception

plain_term : (lists : CatalogLists) → IsCatalog lists → (it : LicenseItem) (exception : Option (List ℕ)) → IsPlainItem lists it → IsExceptionOf lists exception → (n : ℕ)
    → Prints lists part n (leaf n) ((item_text it ++ exception_text exception) ∷ []) (item_text it ++ exception_text exception)
plain_term lists laws it None is none n place rest ends =
    let p : PrintedItem lists it place rest = printed_item lists laws it is place rest ends in
    let same : p.end ≡ place + length (item_text it ++ []) = p.ends ∙ ap (λ (text : List ℕ). place + length text) (sym (append-nil (item_text it))) in
    record {
      items = item (Term p.named) place p.end ∷ [];
      read = term p.named.item None place p.end ∷ [];
      says = ap (λ (text : List ℕ). (text ++ []) ∷ []) p.says;
      reads = simple n p.named place p.end refl;
      after = AfterTerm;
      behind = refl;
      are =
          ap (λ (front : List ℕ). items_from printed_mode lists wants_term place place (front ++ rest)) (append-nil (item_text it))
          ∙ p.items
          ∙ ap (λ (end : ℕ). item (Term p.named) place p.end ∷ items_from printed_mode lists AfterTerm end end rest) same;
    }
plain_term lists laws it (Some name) is known n place rest ends =
    let p : PrintedItem lists it place (codes " WITH " ++ (name ++ rest)) = printed_item lists laws it is place (codes " WITH " ++ (name ++ rest)) (record { word = refl; bare = refl }) in
    let last : ℕ = p.end + 1 + 4 + 1 in
    let end : ℕ = last + length name in
    let items : List Item = item (Term p.named) place p.end ∷ item With (p.end + 1) (p.end + 1 + 4) ∷ item (Exception name) last end ∷ [] in
    let with_len : length (codes " WITH " ++ name) ≡ 6 + length name = length-append (codes " WITH ") name in
    let long : length (item_text it ++ (codes " WITH " ++ name)) ≡ length (item_text it) + length (codes " WITH " ++ name) = length-append (item_text it) (codes " WITH " ++ name) in
    let front : p.end ≡ place + length (item_text it) = p.ends in
    let same : p.end + 1 + 4 + 1 + length name ≡ place + length (item_text it ++ (codes " WITH " ++ name)) = omega arith in
    record {
      items = items;
      read = term p.named.item (Some name) place end ∷ [];
      says = ap (λ (text : List ℕ). (text ++ (codes " WITH " ++ name)) ∷ []) p.says;
      reads = simple_with n p.named name place p.end (p.end + 1) (p.end + 1 + 4) last end refl;
      after = AfterPart;
      behind = refl;
      are =
          ap (λ (all : List ℕ). items_from printed_mode lists wants_term place place all) (append_assoc (item_text it) (codes " WITH " ++ name) rest)
          ∙ p.items
          ∙ ap (λ (more : List Item). item (Term p.named) place p.end ∷ more) (behind_with lists laws name known p.end rest ends.word)
          ∙ ap (λ (to : ℕ). items ++ items_from printed_mode lists AfterPart to to rest) same;
    }

-- the term at a place
got : (before behind : List ExpressionReq) (one : ExpressionReq) → slice_get (before ++ one ∷ behind) (length before) ≡ Some one
got [] behind one = refl
got (first ∷ before) behind one = got before behind one

text_at : (all before behind : List ExpressionReq) (one : ExpressionReq) (n : ℕ) → all ≡ before ++ one ∷ behind → length before ≡ n → term_text all n ≡ req_text one.req
text_at all before behind one n is place =
    ap (λ (terms : List ExpressionReq). term_text terms n) is
    ∙ ap (λ k. term_text (before ++ one ∷ behind) k) (sym place)
    ∙ ap (λ (found : Option ExpressionReq). unwrap_or (option_map (λ one. req_text one.req) found) []) (got before behind one)

one_term : (lists : CatalogLists) → IsCatalog lists → (all before behind : List ExpressionReq) (one : ExpressionReq) (n : ℕ) → all ≡ before ++ one ∷ behind → length before ≡ n → IsPrintable lists one.req
    → Prints lists part n (leaf n) (req_text one.req ∷ []) (term_text all n)
one_term lists laws all before behind one n is place ok =
    subst (λ (text : List ℕ). Prints lists part n (leaf n) (req_text one.req ∷ []) text) (sym (text_at all before behind one n is place))
    (plain_term lists laws one.req.item one.req.exception ok.license ok.exception n)

-- ---- trees

-- the rule that reads a tree without parentheses
abbrev rule_of : ExpressionTree → Rule
rule_of (leaf place) = part
rule_of (both left right) = conjunction
rule_of (either left right) = expression

to_expression : (lists : CatalogLists) (n : ℕ) (tree : ExpressionTree) (texts : List (List ℕ)) (text : List ℕ) → Prints lists (rule_of tree) n tree texts text → Prints lists expression n tree texts text
to_expression lists n (leaf place) texts text prints = as_expression lists n (leaf place) texts text (as_conjunction lists n (leaf place) texts text prints)
to_expression lists n (both left right) texts text prints = as_expression lists n (both left right) texts text prints
to_expression lists n (either left right) texts text prints = prints

to_conjunction : (lists : CatalogLists) (n : ℕ) (tree : ExpressionTree) (texts : List (List ℕ)) (text : List ℕ) → Prints lists (rule_of tree) n tree texts text
    → Prints lists conjunction n tree texts (grouped_if (is_or tree) text)
to_conjunction lists n (leaf place) texts text prints = as_conjunction lists n (leaf place) texts text prints
to_conjunction lists n (both left right) texts text prints = prints
to_conjunction lists n (either left right) texts text prints =
    as_conjunction lists n (either left right) texts (codes "(" ++ (text ++ codes ")")) (in_group lists n (either left right) texts text prints)

to_part : (lists : CatalogLists) (n : ℕ) (tree : ExpressionTree) (texts : List (List ℕ)) (text : List ℕ) → Prints lists (rule_of tree) n tree texts text
    → Prints lists part n tree texts (grouped_if (is_or tree || is_and tree) text)
to_part lists n (leaf place) texts text prints = prints
to_part lists n (both left right) texts text prints = in_group lists n (both left right) texts text (as_expression lists n (both left right) texts text prints)
to_part lists n (either left right) texts text prints = in_group lists n (either left right) texts text prints

abbrev ArePrintable : CatalogLists → List ExpressionReq → Type 0
ArePrintable lists terms = AllByRecursion (λ one. IsPrintable lists one.req) terms

front_of : (lists : CatalogLists) (some more : List ExpressionReq) → ArePrintable lists (some ++ more) → ArePrintable lists some
front_of lists [] more ok = tt
front_of lists (one ∷ some) more ok = (ok.0, front_of lists some more ok.1)

back_of : (lists : CatalogLists) (some more : List ExpressionReq) → ArePrintable lists (some ++ more) → ArePrintable lists more
back_of lists [] more ok = ok
back_of lists (one ∷ some) more ok = back_of lists some more ok.1

-- the terms of a side stand among all terms
left_terms : (all before some more behind : List ExpressionReq) → all ≡ before ++ ((some ++ more) ++ behind) → all ≡ before ++ (some ++ (more ++ behind))
left_terms all before some more behind is = is ∙ ap (λ (rest : List ExpressionReq). before ++ rest) (append_assoc some more behind)

right_terms : (all before some more behind : List ExpressionReq) → all ≡ before ++ ((some ++ more) ++ behind) → all ≡ (before ++ some) ++ (more ++ behind)
right_terms all before some more behind is = left_terms all before some more behind is ∙ sym (append_assoc before some (more ++ behind))

right_place : (before some : List ExpressionReq) (n : ℕ) → length before ≡ n → length (before ++ some) ≡ n + length some
right_place before some n place = length-append before some ∙ ap (λ k. k + length some) place

of_both : (lists : CatalogLists) (rule : Rule) (n : ℕ) (tree : ExpressionTree) (some more : List ExpressionReq) (text : List ℕ) → Prints lists rule n tree (texts_of some ++ texts_of more) text → Prints lists rule n tree (texts_of (some ++ more)) text
of_both lists rule n tree some more text prints =
    subst (λ (texts : List (List ℕ)). Prints lists rule n tree texts text) (sym (map-append (λ (one : ExpressionReq). req_text one.req) some more)) prints

as_many : (n : ℕ) (some : List ExpressionReq) → n + length (texts_of some) ≡ n + length some
as_many n some = ap (λ k. n + k) (length-map some (λ (one : ExpressionReq). req_text one.req))

-- a tree that was read is printed as a text of its rule
tree_prints : (lists : CatalogLists) → IsCatalog lists → {allowed : AllowedForms} {rule : Rule} {n : ℕ} {items : List Item} {tree : ExpressionTree} {terms : List ExpressionReq} → ReadsAs allowed rule n items tree terms
    → (all before behind : List ExpressionReq) → all ≡ before ++ (terms ++ behind) → length before ≡ n → ArePrintable lists terms
    → Prints lists (rule_of tree) n tree (texts_of terms) (printed_of all tree)
tree_prints lists laws (simple n named start end ok) all before behind is place ok_all =
    one_term lists laws all before behind (term named.item None start end) n is place ok_all.0
tree_prints lists laws (simple_with n named name start mid from to last end ok) all before behind is place ok_all =
    one_term lists laws all before behind (term named.item (Some name) start end) n is place ok_all.0
tree_prints lists laws (grouped n from to last end inner tree terms reads) all before behind is place ok_all = tree_prints lists laws reads all before behind is place ok_all
tree_prints lists laws (one_part n items tree terms reads) all before behind is place ok_all = tree_prints lists laws reads all before behind is place ok_all
tree_prints lists laws (one_conjunction n items tree terms reads) all before behind is place ok_all = tree_prints lists laws reads all before behind is place ok_all
tree_prints lists laws (and n from to front back left right some more l r) all before behind is place ok_all =
    of_both lists conjunction n (both left right) some more (printed_of all (both left right))
    (joined lists And 3 (codes " AND ") conjunction part conjunction n (n + length some) left right (both left right) (texts_of some) (texts_of more)
    (grouped_if (is_or left) (printed_of all left)) (grouped_if (is_or right || is_and right) (printed_of all right))
    (one_and lists) refl (λ rest. record { word = refl; bare = refl })
    (λ from to front back some more l r. and n from to front back left right some more l r) (as_many n some)
    (to_conjunction lists n left (texts_of some) (printed_of all left)
    (tree_prints lists laws l all before (more ++ behind) (left_terms all before some more behind is) place (front_of lists some more ok_all)))
    (to_part lists (n + length some) right (texts_of more) (printed_of all right)
    (tree_prints lists laws r all (before ++ some) behind (right_terms all before some more behind is) (right_place before some n place) (back_of lists some more ok_all))))
tree_prints lists laws (or n from to front back left right some more l r) all before behind is place ok_all =
    of_both lists expression n (either left right) some more (printed_of all (either left right))
    (joined lists Or 2 (codes " OR ") expression conjunction expression n (n + length some) left right (either left right) (texts_of some) (texts_of more)
    (printed_of all left) (grouped_if (is_or right) (printed_of all right))
    (one_or lists) refl (λ rest. record { word = refl; bare = refl })
    (λ from to front back some more l r. or n from to front back left right some more l r) (as_many n some)
    (to_expression lists n left (texts_of some) (printed_of all left)
    (tree_prints lists laws l all before (more ++ behind) (left_terms all before some more behind is) place (front_of lists some more ok_all)))
    (to_conjunction lists (n + length some) right (texts_of more) (printed_of all right)
    (tree_prints lists laws r all (before ++ some) behind (right_terms all before some more behind is) (right_place before some n place) (back_of lists some more ok_all))))

-- ---- whole texts

plain_item : (known lists : CatalogLists) (it : LicenseItem) → IsItemOf known it → HasLicense lists it → IsPlainItem lists it
plain_item known lists (Spdx name family rank later plus) is has = has
plain_item known lists (Reference doc id) is has = is

printable : (known lists : CatalogLists) (terms : List ExpressionReq) → AllByRecursion (λ one. IsTermOf known one.req) terms → AllByRecursion (λ one. HasNames lists one.req) terms → ArePrintable lists terms
printable known lists [] are have = tt
printable known lists (one ∷ terms) are have =
    (record { license = plain_item known lists one.req.item are.0.item have.0.license; exception = have.0.exception }, printable known lists terms are.1 have.1)

pub printed_is_read : PrintedIsRead
printed_is_read mode known lists text tree terms spells laws named =
    let are = recursion_from_All (λ (one : ExpressionReq). IsTermOf known one.req) terms (terms_of mode known text tree terms spells) in
    let out : List ℕ = printed_of terms tree in
    let prints : Prints lists expression 0 tree (texts_of terms) (printed_of terms tree) =
    to_expression lists 0 tree (texts_of terms) (printed_of terms tree) (tree_prints lists laws spells terms [] [] (sym (append-nil terms)) refl (printable known lists terms are named)) in
    let p : PrintedAs lists expression 0 tree (texts_of terms) (printed_of terms tree) 0 [] = prints 0 [] (record { word = refl; bare = refl }) in
    let same : p.items ≡ items_of printed_mode lists (printed_of terms tree) =
    sym (append-nil p.items) ∙ sym p.are ∙ ap (λ (all : List ℕ). items_from printed_mode lists wants_term 0 0 all) (append-nil out) in
    (p.read, subst (λ (items : List Item). ReadsAs (allowed_in printed_mode) expression 0 items tree p.read) same p.reads, p.says)
