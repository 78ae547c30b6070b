-- The sample's metadata reads as the value that it is.
use Rattle.std.proofs.Common.{◌≡◌, ◌∙◌, refl, sym, ap, ap₂, ℕ, zero, suc, ◌+◌, ◌*◌, ◌%◌, ◌<◌, ◌≤◌, ◌^◌, ◌==◌, List, [], ◌∷◌, ◌++◌, Bool, true, false, cond, codes, decimal, Option, Some, None, option_map, option_and_then, append_assoc, append-nil, arith, ne_eqb}
use Rattle.std.specs.Prelude.{nat_lt}
use Rattle.std.specs.List.{flat_map, range_with_len}
use Rattle.std.proofs.lemmas.Bool.{lt-ltb, ltb-true}
use Rattle.std.proofs.lemmas.Fmt.{decimal_by_steps}
use Rattle.std.proofs.lemmas.List.Concat.{flat_map-append}
use Rattle.json.specs.Token.{Token}
use Rattle.json.specs.Token as token
use Rattle.json.specs.Json as json
use Rattle.json.specs.Lex.{tokens}
use Rattle.json.specs.Print.{print, print_from, escape, escape_byte}
use Rattle.json.specs.Tree.{json_tokens, items_tokens, depth, items_depth, HasNumbers, ItemsHaveNumbers}
use Rattle.json.proofs.Printed.Strings.{escape_byte_plain}
use Rattle.json.proofs.Printed.Tokens.{tokens-print}
use Rattle.json.proofs.Printed.Trees.{ArePrintable-json_tokens, value-json_tokens}
use Rattle.serde_json.specs.Data.{Data, string, item}
use Rattle.serde_json.specs.Read.{of_json, of_items, read}
use Rattle.run_sample.specs.Metadata.{comma_before, edge_text, license_text, node_text, numbers, package_head, package_tail, package_text, sample_metadata, sample_name}
use Rattle.run_sample.proofs.SampleData.{data_items, dep_data, dep_json, field_data, field_json, json_items, license_field, node_data, node_json, package_data, package_json, sample_data, sample_json, sample_manifest, sample_version, targets}

-- ---- strings

-- nothing in it is escaped
abbrev IsPlain : List ℕ → Type 0
IsPlain s = escape s ≡ s

plain_append : (xs ys : List ℕ) → IsPlain xs → IsPlain ys → IsPlain (xs ++ ys)
plain_append xs ys first second = flat_map-append escape_byte xs ys ∙ ap₂ ◌++◌ first second

plain_digit : (n : ℕ) → n < 10 → IsPlain ((48 + n) ∷ [])
plain_digit n small =
    ap (λ s. s ++ []) (escape_byte_plain (48 + n) (λ e. let same : 48 + n ≡ 34 = e in omega (arith, same)) (λ e. let same : 48 + n ≡ 92 = e in omega (arith, same)) (omega arith))

plain_more : (n : ℕ) (digits : List ℕ) → 10 ≤ n → IsPlain digits → IsPlain (digits ++ ((48 + n % 10) ∷ []))
plain_more n digits least is = plain_append digits ((48 + n % 10) ∷ []) is (plain_digit (n % 10) (omega arith))

plain_decimal : (n : ℕ) → n < 2 ^ 64 → IsPlain (decimal n)
plain_decimal = decimal_by_steps (λ n digits. IsPlain digits) plain_digit plain_more

plain_name : (i : ℕ) → i < 2 ^ 64 → IsPlain (sample_name i)
unfolding escape_byte
plain_name i small = ap (λ s. 99 ∷ s) (plain_decimal i small)

plain_version : (i : ℕ) → i < 2 ^ 64 → IsPlain (sample_version i)
unfolding escape_byte
plain_version i small = ap (λ s. codes "1.0." ++ s) (plain_decimal i small)

plain_manifest : (i : ℕ) → i < 2 ^ 64 → IsPlain (sample_manifest i)
unfolding escape_byte
plain_manifest i small = ap (λ s. codes "/s/c" ++ s) (plain_append (decimal i) (codes "/Cargo.toml") (plain_decimal i small) refl)

print_string : (s : List ℕ) (ts : List Token) → IsPlain s → print_from false (token.string s ∷ ts) ≡ 34 ∷ (s ++ 34 ∷ print_from true ts)
unfolding print_from
print_string s ts plain = ap (λ text. 34 ∷ ((text ++ 34 ∷ []) ++ print_from true ts)) plain ∙ ap (λ text. 34 ∷ text) (append_assoc s (34 ∷ []) (print_from true ts))

-- ---- commas

abbrev comma_if : Bool → List ℕ
comma_if later = cond later (codes ",") []

comma_later : (a : ℕ) → comma_if true ≡ comma_before (a + 1)
comma_later a = ap (λ b. cond b [] (codes ",")) (sym (ne_eqb (a + 1) 0 (λ e. omega (arith, e))))

-- ---- a crate

print_license : (remainder : ℕ) (ts : List Token) → print_from false (json_tokens (field_json (license_field remainder)) ++ ts) ≡ license_text remainder ++ print_from true ts
unfolding print_from escape_byte
print_license remainder ts = by (remainder == 0) (remainder == 1) (remainder == 2)
  where
    by : (a b c : Bool)
        → print_from false (json_tokens (field_json (cond a (Some (codes "MIT")) (cond b (Some (codes "MIT OR Apache-2.0")) (cond c (Some (codes "GPL-3.0-only")) None)))) ++ ts)
        ≡ cond a (codes "\"MIT\"") (cond b (codes "\"MIT OR Apache-2.0\"") (cond c (codes "\"GPL-3.0-only\"") (codes "null"))) ++ print_from true ts
    by true b c = refl
    by false true c = refl
    by false false true = refl
    by false false false = refl

abbrev field_tokens : ℕ → List Token → List Token
field_tokens i ts = token.key (codes "license") ∷ ((json_tokens (field_json (license_field (i % 4))) ++ token.end_object ∷ []) ++ ts)

abbrev tail_tokens : ℕ → List Token → List Token
tail_tokens i ts = token.string (sample_manifest i) ∷ field_tokens i ts

abbrev id_tokens : ℕ → List Token → List Token
id_tokens i ts = token.key (codes "manifest_path") ∷ tail_tokens i ts

abbrev version_tokens : ℕ → List Token → List Token
version_tokens i ts = token.key (codes "id") ∷ token.string (sample_name i) ∷ id_tokens i ts

abbrev name_tokens : ℕ → List Token → List Token
name_tokens i ts = token.key (codes "version") ∷ token.string (sample_version i) ∷ version_tokens i ts

print_tail : (i : ℕ) → i < 2 ^ 64 → (ts : List Token)
    → print_from false (tail_tokens i ts) ≡ codes "\"/s/c" ++ (decimal i ++ (codes "/Cargo.toml\",\"license\":" ++ (license_text (i % 4) ++ (125 ∷ print_from true ts))))
unfolding print_from escape_byte
print_tail i small ts =
    print_string (sample_manifest i) (field_tokens i ts) (plain_manifest i small)
    ∙ ap (λ rest. 34 ∷ (sample_manifest i ++ 34 ∷ (codes ",\"license\":" ++ rest)))
    (ap (print_from false) (append_assoc (json_tokens (field_json (license_field (i % 4)))) (token.end_object ∷ []) ts) ∙ print_license (i % 4) (token.end_object ∷ ts))
    ∙ ap (λ rest. codes "\"/s/c" ++ rest) (append_assoc (decimal i) (codes "/Cargo.toml") (34 ∷ (codes ",\"license\":" ++ (license_text (i % 4) ++ (125 ∷ print_from true ts)))))

print_head : (i : ℕ) → i < 2 ^ 64 → (ts : List Token)
    → print_from false (json_tokens (package_json i) ++ ts)
    ≡ codes "{\"name\":\"c" ++ (decimal i ++ (codes "\",\"version\":\"1.0." ++ (decimal i ++ (codes "\",\"id\":\"c" ++ (decimal i ++ (codes "\",\"manifest_path\":" ++ print_from false (tail_tokens i ts)))))))
unfolding print_from escape_byte
print_head i small ts =
    ap (λ rest. codes "{\"name\":" ++ rest)
    (print_string (sample_name i) (name_tokens i ts) (plain_name i small)
    ∙ ap (λ rest. 34 ∷ (sample_name i ++ 34 ∷ (codes ",\"version\":" ++ rest)))
    (print_string (sample_version i) (version_tokens i ts) (plain_version i small)
    ∙ ap (λ rest. 34 ∷ (sample_version i ++ 34 ∷ (codes ",\"id\":" ++ rest))) (print_string (sample_name i) (id_tokens i ts) (plain_name i small))))

head_onto : (i : ℕ) (rest : List ℕ)
    → package_head i ++ rest
    ≡ comma_before i ++ (codes "{\"name\":\"c" ++ (decimal i ++ (codes "\",\"version\":\"1.0." ++ (decimal i ++ (codes "\",\"id\":\"c" ++ (decimal i ++ (codes "\"," ++ rest)))))))
head_onto i rest =
    append_assoc (comma_before i) _ rest
    ∙ ap (λ s. comma_before i ++ (codes "{\"name\":\"c" ++ s))
    (append_assoc (decimal i) _ rest
    ∙ ap (λ s. decimal i ++ (codes "\",\"version\":\"1.0." ++ s))
    (append_assoc (decimal i) _ rest ∙ ap (λ s. decimal i ++ (codes "\",\"id\":\"c" ++ s)) (append_assoc (decimal i) (codes "\",") rest)))

tail_onto : (i : ℕ) (license rest : List ℕ)
    → package_tail i license ++ rest ≡ codes "\"manifest_path\":\"/s/c" ++ (decimal i ++ (codes "/Cargo.toml\",\"license\":" ++ (license ++ (125 ∷ rest))))
tail_onto i license rest =
    ap (λ s. codes "\"manifest_path\":\"/s/c" ++ s)
    (append_assoc (decimal i) _ rest ∙ ap (λ s. decimal i ++ (codes "/Cargo.toml\",\"license\":" ++ s)) (append_assoc license (codes "}") rest))

print_open : (later : Bool) (ts : List Token) → print_from later (token.begin_object ∷ ts) ≡ comma_if later ++ print_from false (token.begin_object ∷ ts)
unfolding print_from
print_open true ts = refl
print_open false ts = refl

print_package : (i : ℕ) → i < 2 ^ 64 → (later : Bool) (ts : List Token) → comma_if later ≡ comma_before i
    → print_from later (json_tokens (package_json i) ++ ts) ≡ package_text i ++ print_from true ts
print_package i small later ts comma =
    print_open later (token.key (codes "name") ∷ token.string (sample_name i) ∷ name_tokens i ts)
    ∙ ap₂ ◌++◌ comma (print_head i small ts ∙ ap (λ s. codes "{\"name\":\"c" ++ (decimal i ++ (codes "\",\"version\":\"1.0." ++ (decimal i ++ (codes "\",\"id\":\"c" ++ (decimal i ++ (codes "\",\"manifest_path\":" ++ s))))))) (print_tail i small ts))
    ∙ sym (append_assoc (package_head i) (package_tail i (license_text (i % 4))) (print_from true ts)
    ∙ head_onto i (package_tail i (license_text (i % 4)) ++ print_from true ts)
    ∙ ap (λ s. comma_before i ++ (codes "{\"name\":\"c" ++ (decimal i ++ (codes "\",\"version\":\"1.0." ++ (decimal i ++ (codes "\",\"id\":\"c" ++ (decimal i ++ (codes "\"," ++ s))))))))
    (tail_onto i (license_text (i % 4)) (print_from true ts)))

-- ---- the edges of a crate

print_dep : (j : ℕ) → j < 2 ^ 64 → (later : Bool) (ts : List Token) → print_from later (json_tokens (dep_json j) ++ ts) ≡ (comma_if later ++ (codes "{\"pkg\":\"c" ++ (decimal j ++ codes "\"}"))) ++ print_from true ts
unfolding print_from escape_byte
print_dep j small later ts =
    print_open later (token.key (codes "pkg") ∷ token.string (sample_name j) ∷ token.end_object ∷ ts)
    ∙ ap (λ s. comma_if later ++ (codes "{\"pkg\":" ++ s)) (print_string (sample_name j) (token.end_object ∷ ts) (plain_name j small))
    ∙ sym (append_assoc (comma_if later) _ (print_from true ts) ∙ ap (λ s. comma_if later ++ (codes "{\"pkg\":\"c" ++ s)) (append_assoc (decimal j) (codes "\"}") (print_from true ts)))

print_deps : (n i : ℕ) → 2 * i + 2 < 2 ^ 64 → (ts : List Token)
    → print_from false (items_tokens (json_items dep_json (targets n i)) ++ ts) ≡ edge_text n [] (2 * i + 1) ++ (edge_text n (codes ",") (2 * i + 2) ++ (93 ∷ print_from true ts))
unfolding print_from
print_deps n i small ts = by (nat_lt (2 * i + 1) n) (nat_lt (2 * i + 2) n) refl refl
  where
    x : ℕ
    x = 2 * i + 1

    y : ℕ
    y = 2 * i + 2

    both_there : print_from false (items_tokens (json_items dep_json (x ∷ y ∷ [])) ++ ts) ≡ (codes "{\"pkg\":\"c" ++ (decimal x ++ codes "\"}")) ++ ((codes "," ++ (codes "{\"pkg\":\"c" ++ (decimal y ++ codes "\"}"))) ++ (93 ∷ print_from true ts))
    both_there =
        ap (print_from false) (append_assoc (json_tokens (dep_json x)) (json_tokens (dep_json y) ++ token.end_array ∷ []) ts)
        ∙ print_dep x (omega (arith, small)) false ((json_tokens (dep_json y) ++ token.end_array ∷ []) ++ ts)
        ∙ ap (λ s. (codes "{\"pkg\":\"c" ++ (decimal x ++ codes "\"}")) ++ s)
        (ap (print_from true) (append_assoc (json_tokens (dep_json y)) (token.end_array ∷ []) ts) ∙ print_dep y small true (token.end_array ∷ ts))

    one_there : print_from false (items_tokens (json_items dep_json (x ∷ [])) ++ ts) ≡ (codes "{\"pkg\":\"c" ++ (decimal x ++ codes "\"}")) ++ (93 ∷ print_from true ts)
    one_there =
        ap (print_from false) (append_assoc (json_tokens (dep_json x)) (token.end_array ∷ []) ts)
        ∙ print_dep x (omega (arith, small)) false (token.end_array ∷ ts)

    by : (a b : Bool) → nat_lt x n ≡ a → nat_lt y n ≡ b
        → print_from false (items_tokens (json_items dep_json (cond a (x ∷ cond b (y ∷ []) []) [])) ++ ts)
        ≡ cond a ([] ++ (codes "{\"pkg\":\"c" ++ (decimal x ++ codes "\"}"))) [] ++ (cond b (codes "," ++ (codes "{\"pkg\":\"c" ++ (decimal y ++ codes "\"}"))) [] ++ (93 ∷ print_from true ts))
    by true true first second = both_there
    by true false first second = one_there
    by false true first second =
        let more : y < n = ltb-true y n second in
        let bad : false ≡ true = sym first ∙ lt-ltb x n (omega (arith, more)) in
        absurd (cc bad)
    by false false first second = refl

print_node : (n i : ℕ) → 2 * i + 2 < 2 ^ 64 → (later : Bool) (ts : List Token) → comma_if later ≡ comma_before i
    → print_from later (json_tokens (node_json n i) ++ ts) ≡ node_text n i ++ print_from true ts
unfolding print_from escape_byte
print_node n i small later ts comma =
    let deps = items_tokens (json_items dep_json (targets n i)) in
    let first = edge_text n [] (2 * i + 1) in
    let second = edge_text n (codes ",") (2 * i + 2) in
    let rest = print_from true ts in
    let behind = token.key (codes "deps") ∷ token.begin_array ∷ ((deps ++ token.end_object ∷ []) ++ ts) in
    print_open later (token.key (codes "id") ∷ token.string (sample_name i) ∷ behind)
    ∙ ap₂ ◌++◌ comma
    (ap (λ s. codes "{\"id\":" ++ s)
    (print_string (sample_name i) behind (plain_name i (omega (arith, small)))
    ∙ ap (λ s. 34 ∷ (sample_name i ++ 34 ∷ (codes ",\"deps\":[" ++ s)))
    (ap (print_from false) (append_assoc deps (token.end_object ∷ []) ts) ∙ print_deps n i small (token.end_object ∷ ts))))
    ∙ sym (append_assoc (comma_before i) _ rest
    ∙ ap (λ s. comma_before i ++ (codes "{\"id\":\"c" ++ s))
    (append_assoc (decimal i) _ rest
    ∙ ap (λ s. decimal i ++ (codes "\",\"deps\":[" ++ s)) (append_assoc first _ rest ∙ ap (λ s. first ++ s) (append_assoc second (codes "]}") rest))))

-- ---- all crates

-- what each of some numbers prints as
abbrev Prints : (ℕ → json.Json) → (ℕ → List ℕ) → ℕ → Type 0
Prints make text i = (later : Bool) (ts : List Token) → comma_if later ≡ comma_before i → print_from later (json_tokens (make i) ++ ts) ≡ text i ++ print_from true ts

print_end : (later : Bool) (ts : List Token) → print_from later (token.end_array ∷ ts) ≡ 93 ∷ print_from true ts
unfolding print_from
print_end true ts = refl
print_end false ts = refl

print_items : (make : ℕ → json.Json) (text : ℕ → List ℕ) (a k : ℕ) → ((i : ℕ) → i < a + k → Prints make text i) → (later : Bool) (ts : List Token) → comma_if later ≡ comma_before a
    → print_from later (items_tokens (json_items make (range_with_len a k)) ++ ts) ≡ flat_map text (range_with_len a k) ++ (93 ∷ print_from true ts)
print_items make text a zero each later ts comma = print_end later ts
print_items make text a (suc k) each later ts comma =
    let more = items_tokens (json_items make (range_with_len (a + 1) k)) in
    ap (print_from later) (append_assoc (json_tokens (make a)) more ts)
    ∙ each a (omega arith) later (more ++ ts) comma
    ∙ ap (λ s. text a ++ s) (print_items make text (a + 1) k (λ i less. each i (omega (arith, less))) true ts (comma_later a))
    ∙ sym (append_assoc (text a) (flat_map text (range_with_len (a + 1) k)) (93 ∷ print_from true ts))

print_sample : (n : ℕ) → n ≤ 2 ^ 32 → print (json_tokens (sample_json n)) ≡ sample_metadata n
unfolding print_from escape_byte
print_sample n small =
    let nodes = items_tokens (json_items (node_json n) (numbers n)) in
    let behind = token.key (codes "workspace_members") ∷ token.begin_array ∷ token.string (codes "c0") ∷ token.end_array ∷ token.key (codes "workspace_root") ∷ token.string (codes "/s")
    ∷ token.key (codes "resolve") ∷ token.begin_object ∷ token.key (codes "root") ∷ token.string (codes "c0") ∷ token.key (codes "nodes") ∷ token.begin_array
    ∷ ((nodes ++ token.end_object ∷ []) ++ token.end_object ∷ []) in
    ap (λ s. codes "{\"packages\":[" ++ s)
    (print_items package_json package_text 0 n (λ i less later ts comma. print_package i (omega (arith, less)) later ts comma) false behind refl
    ∙ ap (λ s. flat_map package_text (numbers n) ++ (codes "],\"workspace_members\":[\"c0\"],\"workspace_root\":\"/s\",\"resolve\":{\"root\":\"c0\",\"nodes\":[" ++ s))
    (ap (print_from false) (append_assoc nodes (token.end_object ∷ []) (token.end_object ∷ []))
    ∙ print_items (node_json n) (node_text n) 0 n (λ i less later ts comma. print_node n i (omega (arith, less)) later ts comma) false (token.end_object ∷ token.end_object ∷ []) refl))

-- ---- read back

field_numbers : (field : Option (List ℕ)) → HasNumbers (field_json field)
field_numbers None = tt
field_numbers (Some text) = tt

items_numbers : (make : ℕ → json.Json) (xs : List ℕ) → ((i : ℕ) → HasNumbers (make i)) → ItemsHaveNumbers (json_items make xs)
items_numbers make [] each = tt
items_numbers make (x ∷ xs) each = (each x, items_numbers make xs each)

package_numbers : (i : ℕ) → HasNumbers (package_json i)
package_numbers i = (tt, (tt, (tt, (tt, (field_numbers (license_field (i % 4)), tt)))))

node_numbers : (n i : ℕ) → HasNumbers (node_json n i)
node_numbers n i = (tt, (items_numbers dep_json (targets n i) (λ j. (tt, tt)), tt))

sample_numbers : (n : ℕ) → HasNumbers (sample_json n)
sample_numbers n = (items_numbers package_json (numbers n) package_numbers, ((tt, tt), (tt, ((tt, (items_numbers (node_json n) (numbers n) (node_numbers n), tt)), tt))))

field_depth : (field : Option (List ℕ)) → depth (field_json field) ≤ 0
field_depth None = omega arith
field_depth (Some text) = omega arith

items_depth_by : (make : ℕ → json.Json) (most : ℕ) (xs : List ℕ) → ((i : ℕ) → depth (make i) ≤ most) → items_depth (json_items make xs) ≤ most
items_depth_by make most [] each = omega arith
items_depth_by make most (x ∷ xs) each = let first = each x in let more = items_depth_by make most xs each in omega (arith, first, more)

package_depth : (i : ℕ) → depth (package_json i) ≤ 1
package_depth i = let field = field_depth (license_field (i % 4)) in omega (arith, field)

node_depth : (n i : ℕ) → depth (node_json n i) ≤ 3
node_depth n i = let deps = items_depth_by dep_json 1 (targets n i) (λ j. omega arith) in omega (arith, deps)

sample_depth : (n : ℕ) → depth (sample_json n) ≤ 127
sample_depth n =
    let packages = items_depth_by package_json 1 (numbers n) package_depth in
    let nodes = items_depth_by (node_json n) 3 (numbers n) (node_depth n) in
    omega (arith, packages, nodes)

field_of : (field : Option (List ℕ)) → of_json (field_json field) ≡ Some (field_data field)
field_of None = refl
field_of (Some text) = refl

items_of : (make : ℕ → json.Json) (made : ℕ → Data) (xs : List ℕ) → ((i : ℕ) → of_json (make i) ≡ Some (made i)) → of_items (json_items make xs) ≡ Some (data_items made xs)
items_of make made [] each = refl
items_of make made (x ∷ xs) each =
    ap (option_and_then (λ d. option_map (item d) (of_items (json_items make xs)))) (each x) ∙ ap (option_map (item (made x))) (items_of make made xs each)

package_of : (i : ℕ) → of_json (package_json i) ≡ Some (package_data i)
package_of i = rw (field_of (license_field (i % 4))) refl

node_of : (n i : ℕ) → of_json (node_json n i) ≡ Some (node_data n i)
node_of n i = rw (items_of dep_json dep_data (targets n i) (λ j. refl)) refl

sample_of : (n : ℕ) → of_json (sample_json n) ≡ Some (sample_data n)
sample_of n = rw (items_of package_json package_data (numbers n) package_of, items_of (node_json n) (node_data n) (numbers n) (node_of n)) refl

pub read_sample : (n : ℕ) → n ≤ 2 ^ 32 → read (sample_metadata n) ≡ Some (sample_data n)
read_sample n small =
    let own = sample_json n in
    let told = ap tokens (sym (print_sample n small)) ∙ tokens-print (json_tokens own) (ArePrintable-json_tokens own (sample_numbers n)) in
    ap (λ found. option_and_then of_json (option_and_then (λ p. json.if_last p.0 p.1) found))
    (ap (json.value 127) (told ∙ sym (append-nil (json_tokens own))) ∙ value-json_tokens own 127 [] (sample_depth n))
    ∙ sample_of n
