-- Lines, as the program reads them.
use Rattle.std.proofs.Common.{◌≡◌, ℕ, ◌+◌, ◌-◌, ◌<◌, ◌≤◌, Bool, true, false, cond, List, length, Option, Some, None, Result, Ok, Err, refl, ap, sym, subst, ◌∙◌, arith}
use Rattle.std.specs.Str.{IsUtf8}
use Rattle.toml_subset.specs.Answer.{TomlReading, AnswersToml, then_read, fault_or}
use Rattle.toml_subset.specs.Data.{Toml, depth_of, depth_limit}
use Rattle.toml_subset.specs.Faults.{IsFirstFault}
use Rattle.toml_subset.specs.Lines.{Document}
use Rattle.toml_subset.specs.Reading.{ValueFound, LineFound, call_bound, value_at, section_of, line_rest, with_root as with_root_at, pair_put, pair_from, line_from, read_text}
use Rattle.toml_subset.specs.Places.{after_blanks}
use Rattle.toml_subset.specs.StringReading.{KeysFound, read_left}
use Rattle.toml_subset.specs.TableFaults.{Inside, put_fault}
use Rattle.toml_subset.specs.Tables.{Branches, closed, branches_with_value, entries_of}
use Rattle.toml_subset.specs.Text.{IsText}
use Rattle.toml_subset.specs.declared.error.SyntaxError.{SyntaxError}
use Rattle.toml_subset.specs.declared.error.TomlError.{TomlError}
use Rattle.toml_subset.specs.declared.error.TomlError.TheVariants.{Syntax, Memory}
use Rattle.toml_subset.specs.declared.string.Key.{Key}
use Rattle.toml_subset.proofs.Law.Basics.{if_true, if_false, not_ok}
use Rattle.toml_subset.proofs.Law.Depths.{depth}
use Rattle.toml_subset.proofs.Law.Headers.{section_inner}
use Rattle.toml_subset.proofs.Law.Values.{value_sound}
use Rattle.toml_subset.proofs.Law.Whole.{text_complete}
use Rattle.toml_subset.proofs.text_laws.FirstFault.{first_fault}
use Rattle.toml_subset.specs.frames.Levels.{Cursor, steps, all_plugged, at_root, IsWay, IsOpened}
use Rattle.toml_subset.specs.frames.LinesRead.{AreLinesRead}
use Rattle.toml_subset.proofs.frames.LinesRead.{line_goes_on, line_refused}
use Rattle.toml_subset.proofs.frames.Levels.{section_way, more_above, pair_low, pair_way, pair_put_is, header_line_is}
use Rattle.toml_value.specs.LevelViews.{cursor_view, pending_view, IsPending, IsShallowCursor, IsLineRead}
use Rattle.toml_value.specs.ReaderViews.{OnSyntax}
use Rattle.toml_value.specs.declared.tree.document.Document.{Document as DocumentOf}
use Rattle.toml_value.specs.declared.tree.document.Pending.{Pending}

abbrev pub LineAnswer : Type 0
LineAnswer = Result (DocumentOf × ℕ) TomlError

-- a fault, or want of memory, before anything of the line was made
pub refused_line : {A B : Type 0} (view : B → A) (f : A → TomlReading LineFound) (read : TomlReading A) (error : TomlError) → AnswersToml {B = B} view read (Err error) → IsLineRead (then_read f read) (Err error)
refused_line view f read (Syntax fault) is = ap (then_read f) is
refused_line view f read Memory is = tt

pub line_as : (wanted other : TomlReading LineFound) (result : LineAnswer) → other ≡ wanted → IsLineRead wanted result → IsLineRead other result
line_as wanted other result same is = subst (λ w. IsLineRead w result) (sym same) is

pub line_if_true : (b : Bool) (x y : TomlReading LineFound) (result : LineAnswer) → b ≡ true → IsLineRead x result → IsLineRead (cond b x y) result
line_if_true b x y result h is = line_as x (cond b x y) result (if_true b x y h) is

pub line_if_false : (b : Bool) (x y : TomlReading LineFound) (result : LineAnswer) → b ≡ false → IsLineRead y result → IsLineRead (cond b x y) result
line_if_false b x y result h is = line_as y (cond b x y) result (if_false b x y h) is

pub read_on : {A : Type 0} (f : A → TomlReading LineFound) (read : TomlReading A) (x : A) (result : LineAnswer) → read ≡ Ok x → IsLineRead (f x) result → IsLineRead (then_read f read) result
read_on f read x result e is = line_as (f x) (then_read f read) result (ap (then_read f) e) is

-- pairs

pub section_is : (seen : Document) (c : Cursor) → IsWay seen c → section_of seen.section seen.root 0 ≡ (c.here, c.above)
section_is seen c way =
    ap (λ root. section_of seen.section root 0) way.root ∙ section_way seen.section c.around c.here 0 way.leads ∙ more_above c.here (0 + steps c.around) c.above (let deep = way.deep in omega arith)

pub value_low : (text : List ℕ) (above i : ℕ) (v : ValueFound) → above ≤ depth_limit → value_at text above i ≡ Ok v → above + depth_of v.1 ≤ depth_limit
value_low text above i v low read = (value_sound (call_bound text) text above i v low read).3

-- a value that was put
pub pair_ends : (text : List ℕ) (seen : Document) (p d : Cursor) (keys : List Key) (v : ValueFound) (read : TomlReading ValueFound) (result : LineAnswer) → IsWay seen p
    → put_fault keys p.here p.above ≡ None → read ≡ Ok v → p.above + (length keys - 1) + depth_of v.1 ≤ depth_limit
    → branches_with_value keys (closed v.0 v.1) p.here ≡ Some d.here → d ≡ record { around = p.around; here = d.here; above = p.above }
    → ((new : Document) → IsWay new d → IsLineRead (line_rest text v.2 new) result)
    → IsLineRead (then_read (pair_put text keys seen) read) result
pair_ends text seen p d keys v read result way free is low made same ended =
    let under = pair_low seen p way keys (closed v.0 v.1) d.here free made low in
    let new = pair_way seen p d.here way under in
    line_as (line_rest text v.2 (record { root = all_plugged p.around d.here; section = seen.section })) (then_read (pair_put text keys seen) read) result
    (ap (then_read (pair_put text keys seen)) is ∙ pair_put_is text seen p keys v d.here way made)
    (ended (record { root = all_plugged p.around d.here; section = seen.section }) (subst (IsWay (record { root = all_plugged p.around d.here; section = seen.section })) (sym same) new))

pub record IsFreePair (fault : Option SyntaxError) (keys : List Key) (c : Cursor) (pending : Pending) : Type 0 where
  pub free : fault ≡ None
  pub keys_are : pending.awaiting.keys ≡ keys
  pub view_is : pending_view pending ≡ c

pub pended : (fault : Option SyntaxError) (keys : List Key) (c : Cursor) (pending : Pending) → IsPending fault keys c (Ok pending) → IsFreePair fault keys c pending
pended None keys c pending is = record { free = refl; keys_are = is.0; view_is = is.1 }
pended (Some fault) keys c pending is = absurd is

pub pending_refused : (fault : Option SyntaxError) (keys : List Key) (c : Cursor) (refusal : SyntaxError) → IsPending fault keys c (Err refusal) → fault ≡ Some refusal
pending_refused None keys c refusal is = absurd is
pending_refused (Some fault) keys c refusal is = ap Some (sym is)

abbrev pair_at : List ℕ → Document → KeysFound → Inside → TomlReading LineFound
pair_at text seen left here = fault_or (put_fault left.0 here.0 here.1) (then_read (pair_put text left.0 seen) (value_at text (here.1 + (length left.0 - 1)) left.1))

module _ (text : List ℕ) (seen : Document) (c : Cursor) (left : KeysFound) (i : ℕ) (way : IsWay seen c) (read : read_left text i ≡ Ok left) where
  pair_from_is : then_read (pair_from text seen) (read_left text i) ≡ pair_at text seen left (c.here, c.above)
  pair_from_is = ap (then_read (pair_from text seen)) read ∙ ap (pair_at text seen left) (section_is seen c way)

  pub pair_is : (pending : Pending) (result : LineAnswer) → IsPending (put_fault left.0 c.here c.above) left.0 c (Ok pending)
      → ((s : Document) → IsWay s (pending_view pending)
      → IsLineRead (then_read (pair_put text pending.awaiting.keys s) (value_at text (pending.above + (length pending.awaiting.keys - 1)) left.1)) result)
      → IsLineRead (then_read (pair_from text seen) (read_left text i)) result
  pair_is pending result is ended =
      let p = pended (put_fault left.0 c.here c.above) left.0 c pending is in
      let above : pending.above ≡ c.above = ap (λ (x : Cursor). x.above) p.view_is in
      line_as (then_read (pair_put text pending.awaiting.keys seen) (value_at text (pending.above + (length pending.awaiting.keys - 1)) left.1))
      (then_read (pair_from text seen) (read_left text i)) result
      (pair_from_is ∙ ap (λ f. fault_or f (then_read (pair_put text left.0 seen) (value_at text (c.above + (length left.0 - 1)) left.1))) p.free
      ∙ sym (ap (λ (ks : List Key). then_read (pair_put text ks seen) (value_at text (pending.above + (length ks - 1)) left.1)) p.keys_are
      ∙ ap (λ (n : ℕ). then_read (pair_put text left.0 seen) (value_at text (n + (length left.0 - 1)) left.1)) above))
      (ended seen (subst (IsWay seen) (sym p.view_is) way))

  pub pair_refused : (fault : SyntaxError) → IsPending (put_fault left.0 c.here c.above) left.0 c (Err fault)
      → then_read (pair_from text seen) (read_left text i) ≡ Err fault
  pair_refused fault is =
      pair_from_is ∙ ap (λ f. fault_or f (then_read (pair_put text left.0 seen) (value_at text (c.above + (length left.0 - 1)) left.1)))
      (pending_refused (put_fault left.0 c.here c.above) left.0 c fault is)

-- headers

module _ (text : List ℕ) (i : ℕ) (keys : List Key) (fault : Option SyntaxError) (made : Option Branches) (answer : TomlReading Cursor) (is : IsOpened fault made keys answer) where
  abbrev further : Cursor → TomlReading LineFound
  further c = line_rest text i (record { root = all_plugged c.around c.here; section = keys })

  pub header_ends : (d : Cursor) (result : LineAnswer) → answer ≡ Ok d → ((s : Document) → IsWay s d → IsLineRead (line_rest text i s) result)
      → IsLineRead (fault_or fault (with_root_at text i keys made)) result
  header_ends d result e ended =
      let opened : IsOpened fault made keys (Ok d) = subst (IsOpened fault made keys) e is in
      line_as (further d) (fault_or fault (with_root_at text i keys made)) result (header_line_is text i keys fault made answer is ∙ ap (then_read further) e)
      (ended (record { root = all_plugged d.around d.here; section = keys }) opened.2)

  pub header_refused : {B : Type 0} (view : B → Cursor) (error : TomlError) → AnswersToml {B = B} view answer (Err error) → IsLineRead (fault_or fault (with_root_at text i keys made)) (Err error)
  header_refused view error e =
      line_as (then_read further answer) (fault_or fault (with_root_at text i keys made)) (Err error) (header_line_is text i keys fault made answer is) (refused_line view further answer error e)

-- the root

pub whole_is : (text : List ℕ) (seen : Document) (c : Cursor) → IsWay seen c
    → entries_of (all_plugged c.around c.here) ≡ entries_of seen.root
whole_is text seen c way = ap entries_of (sym way.root)

pub way_low : (seen : Document) (c : Cursor) → IsWay seen c → IsShallowCursor c
way_low seen c way =
    let inner = section_inner seen.section seen.root 0 in
    let here = ap (λ (x : Inside). x.1 + depth x.0) (section_is seen c way) in
    let low = way.low in
    omega arith

pub root_low : (seen : Document) (c : Cursor) → IsWay seen c → IsShallowCursor (at_root c)
root_low seen c way = subst (λ b. 0 + depth b ≤ depth_limit) way.root (let low = way.low in omega arith)

-- whole texts

pub line_on : (text : List ℕ) (c : Cursor) (d : DocumentOf) (i next : ℕ) (are : AreLinesRead text c i) → i < length text → next ≤ length text
    → IsLineRead (line_from text are.document (after_blanks text i)) (Ok (d, next)) → AreLinesRead text (cursor_view d) next
line_on text c d i next are inside within is = line_goes_on text c (cursor_view d) i next are inside within is.0 is.1 is.2

pub text_refused : {B : Type 0} (view : B → Toml) (text : List ℕ) (c : Cursor) (i : ℕ) (error : TomlError) (are : AreLinesRead text c i) → i < length text
    → IsLineRead (line_from text are.document (after_blanks text i)) (Err error) → AnswersToml {B = B} view (read_text text) (Err error)
text_refused view text c i (Syntax fault) are inside is = line_refused text c i fault are inside is
text_refused view text c i Memory are inside is = tt

pub no_value : (text : List ℕ) (fault : SyntaxError) → read_text text ≡ Err fault → (value : Toml) → IsText text value → ⊥
no_value text fault e value is = not_ok fault value (sym e ∙ text_complete text value is)

pub outside_by : {B : Type 0} (view : B → Toml) (text : List ℕ) (error : TomlError) → AnswersToml {B = B} view (read_text text) (Err error)
    → OnSyntax {A = B} (Err error) (λ fault. (value : Toml) → IsText text value → ⊥)
outside_by view text (Syntax fault) is = no_value text fault is
outside_by view text Memory is = tt

-- what a fault that is reported is of the text
pub first_by : {B : Type 0} (view : B → Toml) (text : List ℕ) → IsUtf8 text → (error : TomlError) → AnswersToml {B = B} view (read_text text) (Err error)
    → OnSyntax {A = B} (Err error) (λ fault. IsFirstFault text fault)
first_by view text utf8 (Syntax fault) is = first_fault text fault utf8 is
first_by view text utf8 Memory is = tt
