-- A larger bound on how often reading calls itself changes no answer.
use Rattle.std.proofs.Common.{◌≡◌, ℕ, zero, suc, ◌+◌, ◌-◌, ◌*◌, ◌<◌, ◌≤◌, Bool, true, false, cond, eqb, ◌||◌, List, length, Option, Some, None, Ok, Err, refl, ap, ◌∙◌, arith}
use Rattle.std.proofs.lemmas.Bool.Decides.{nat_tests}
use Rattle.toml_subset.specs.Answer.{TomlReading, then_read, fault_or}
use Rattle.toml_subset.specs.Bytes.{comma, open_bracket, close_bracket, open_brace, close_brace}
use Rattle.toml_subset.specs.Data as «data»
use Rattle.toml_subset.specs.Data.{depth_limit}
use Rattle.toml_subset.specs.Places.{stands, after_blanks, after_space}
use Rattle.toml_subset.specs.Reading.{ItemsFound, cut_in_comment, array_items_behind, edit_reading, entries_behind, entry_put, array_read, table_read, read_value, read_items, read_entries, call_bound, value_at}
use Rattle.toml_subset.specs.StringReading.{read_left}
use Rattle.toml_subset.specs.TableFaults.{put_fault}
use Rattle.toml_subset.specs.Tables.{Branches, unbranched, closed, branches_with_value}
use Rattle.toml_subset.specs.declared.error.SyntaxError.{SyntaxError}
use Rattle.toml_subset.proofs.Law.Basics.{made_ok}
use Rattle.toml_subset.proofs.Law.Depths.{depth}
use Rattle.toml_subset.proofs.Law.Forward.{space_goes, value_goes, keys_go}
use Rattle.toml_subset.proofs.Law.Fronts.{passes_inside}
use Rattle.toml_subset.proofs.Law.Texts.{left_sound}
use Rattle.toml_subset.proofs.Law.Values.{value_sound}
use Rattle.toml_subset.proofs.Law.Ways.{put_below, put_room}

then_same : {A B : Type 0} (f g : A → TomlReading B) (o p : TomlReading A) → o ≡ p → ((x : A) → o ≡ Ok x → f x ≡ g x) → then_read f o ≡ then_read g p
then_same f g (Ok x) p e same = same x refl ∙ ap (then_read g) e
then_same f g (Err fault) p e same = ap (then_read g) e

if_same : {A : Type 0} (b : Bool) (x y z w : A) → (b ≡ true → x ≡ z) → (b ≡ false → y ≡ w) → cond b x y ≡ cond b z w
if_same true x y z w first second = first refl
if_same false x y z w first second = second refl

unless_same : {A : Type 0} (fault : Option SyntaxError) (x y : TomlReading A) → (fault ≡ None → x ≡ y) → fault_or fault x ≡ fault_or fault y
unless_same (Some fault) x y same = refl
unless_same None x y same = same refl

pub opens_inside : (text : List ℕ) (i : ℕ) → (stands text i open_bracket || stands text i open_brace) ≡ true → i < length text
opens_inside text i h =
    elim (stands text i open_bracket) as (λ b. stands text i open_bracket ≡ b → (b || stands text i open_brace) ≡ true → i < length text) [
      | true ↦ λ is all. passes_inside (λ c. eqb c open_bracket) text i is
      | false ↦ λ is all. passes_inside (λ c. eqb c open_brace) text i all
    ] refl h

abbrev Bound : List ℕ → ℕ → ℕ → Type 0
Bound text i n = 2 * (length text - i) + 2 ≤ n

mutual
  pub value_steady : (n m : ℕ) (text : List ℕ) (above i : ℕ) → above ≤ depth_limit → 2 * (length text - i) + 1 ≤ n → 2 * (length text - i) + 1 ≤ m
      → read_value n text above i ≡ read_value m text above i
  value_steady zero m text above i low a b = absurd (omega arith)
  value_steady (suc n) zero text above i low a b = absurd (omega arith)
  value_steady (suc n) (suc m) text above i low a b =
      let j = after_blanks text (i + 1) in
      if_same (stands text i open_bracket || stands text i open_brace) _ _ _ _
      (λ opens.
      let inside = opens_inside text i opens in
      if_same (eqb above depth_limit) _ _ _ _ (λ deep. refl)
      (λ shallow.
      let room : above + 1 ≤ depth_limit = grind (arith, nat_tests) in
      if_same (stands text i open_bracket) _ _ _ _
      (λ array. ap (then_read (array_read i)) (items_steady n m text (above + 1) (i + 1) room (omega arith) (omega arith)))
      (λ table. ap (then_read (table_read i))
      (if_same (stands text j close_brace) _ _ _ _ (λ none. refl)
      (λ some. entries_steady n m text (above + 1) unbranched j (omega arith) (omega arith) (omega arith))))))
      (λ scalar. refl)

  pub items_steady : (n m : ℕ) (text : List ℕ) (above i : ℕ) → above ≤ depth_limit → Bound text i n → Bound text i m
      → read_items n text above i ≡ read_items m text above i
  items_steady zero m text above i low a b = absurd (omega arith)
  items_steady (suc n) zero text above i low a b = absurd (omega arith)
  items_steady (suc n) (suc m) text above i low a b =
      let j = after_space text i in
      let space = space_goes text i in
      if_same (cut_in_comment text i) _ _ _ _ (λ cut. refl)
      (λ whole. if_same (stands text j close_bracket) _ _ _ _ (λ closed_here. refl)
      (λ further. then_same (array_items_behind (read_items n text above) text) (array_items_behind (read_items m text above) text)
      (read_value n text above j) (read_value m text above j) (value_steady n m text above j low (omega arith) (omega arith))
      (λ v is.
      let stood = value_sound n text above j v low is in
      let goes = value_goes text j v.0 stood.0 v.2 stood.1 in
      let k = after_space text v.2 in
      let gap = space_goes text v.2 in
      if_same (stands text k close_bracket) _ _ _ _ (λ last_one. refl)
      (λ more. if_same (stands text k comma) _ _ _ _
      (λ at.
      let inside = passes_inside (λ c. eqb c comma) text k at in
      ap (then_read (λ (r : ItemsFound). Ok (data.item v.0 v.1 r.0, r.1))) (items_steady n m text above (k + 1) low (omega arith) (omega arith)))
      (λ none. refl)))))

  pub entries_steady : (n m : ℕ) (text : List ℕ) (above : ℕ) (branches : Branches) (i : ℕ) → above + depth branches ≤ depth_limit → Bound text i n → Bound text i m
      → read_entries n text above branches i ≡ read_entries m text above branches i
  entries_steady zero m text above branches i low a b = absurd (omega arith)
  entries_steady (suc n) zero text above branches i low a b = absurd (omega arith)
  entries_steady (suc n) (suc m) text above branches i low a b =
      then_same _ _ (read_left text i) (read_left text i) refl
      (λ left is_left.
      let at = left_sound text i left is_left in
      let keys = keys_go text i left.0 at.0 at.1 in
      let place = at.3 in
      let high = above + (length left.0 - 1) in
      unless_same (put_fault left.0 branches above) _ _
      (λ free.
      let room = put_room left.0 branches above free low in
      then_same (entry_put (read_entries n text above) text left.0 branches) (entry_put (read_entries m text above) text left.0 branches)
      (read_value n text high left.1) (read_value m text high left.1) (value_steady n m text high left.1 room (omega arith) (omega arith))
      (λ v is.
      let stood = value_sound n text high left.1 v room is in
      let goes = value_goes text left.1 v.0 stood.0 v.2 stood.1 in
      let edit = edit_reading text (branches_with_value left.0 (closed v.0 v.1) branches) in
      then_same (entries_behind (read_entries n text above) text v.2) (entries_behind (read_entries m text above) text v.2) edit edit refl
      (λ new is_new.
      let put_it = made_ok text (branches_with_value left.0 (closed v.0 v.1) branches) new is_new in
      let under = put_below left.0 (closed v.0 v.1) branches new above free put_it stood.3 low in
      let k = after_blanks text v.2 in
      if_same (stands text k close_brace) _ _ _ _ (λ last_one. refl)
      (λ more. if_same (stands text k comma) _ _ _ _
      (λ here.
      let inside = passes_inside (λ c. eqb c comma) text k here in
      entries_steady n m text above new (after_blanks text (k + 1)) under (omega arith) (omega arith))
      (λ none. refl))))))

pub enough_calls : (text : List ℕ) (above i n : ℕ) → above ≤ depth_limit → call_bound text ≤ n → read_value n text above i ≡ value_at text above i
enough_calls text above i n low more = value_steady n (call_bound text) text above i low (omega arith) (omega arith)
