-- Overrides that are set to what items say, one item after another.
use Rattle.std.proofs.Common.{◌≡◌, ◌∙◌, refl, sym, ap, ap₂, subst, ℕ, ◌+◌, ◌<◌, ◌≤◌, Bool, true, false, cond, List, [], ◌∷◌, ◌++◌, length, get_or, take, drop, Option, None, Some, arith}
use Rattle.std.specs.Prelude.{unwrap_or, bytes_eq, AllPairs, option_map}
use Rattle.std.specs.Option.{option_or}
use Rattle.std.specs.Cmp.Lexicographic.{slice_cmp, nat_list_cmp_total}
use Rattle.std.specs.FinMap.{empty, entries_sorted, get, get-empty, get-insert, insert}
use Rattle.std.specs.Ordering.{nat_cmp}
use Rattle.std.proofs.lemmas.List.{take_more, drop_more, take_all, at_drop_all, get_or_default}
use Rattle.std.proofs.lemmas.List.Quantifiers.{all_pairs_push}
use Rattle.std.proofs.lemmas.Map.Text.{is_eq-slice_cmp}
use Rattle.std.proofs.lemmas.Slice.Eq.{bytes_eq-Decides}
use Rattle.diag_core.specs.Code.{code_name}
use Rattle.diag_core.specs.declared.overrides.DiagnosticOverrides.{DiagnosticOverrides}
use Rattle.diag_core.specs.declared.severity.Severity.{Severity}
use Rattle.run_request.specs.Names.{severity_of_level}
use Rattle.run_request.specs.declared.level.CodeOrLevel.{CodeOrLevel}
use Rattle.run_request.specs.declared.level.CodeOrLevel.TheVariants.{Code, Level}
use Rattle.run_request.specs.declared.level.LintLevels.{LintLevels}
use Rattle.run_overrides.specs.declared.error.OverrideError.{OverrideError}
use Rattle.run_overrides.specs.declared.error.OverrideError.TheVariants.{Memory, OverrideTwice}
use Rattle.run_overrides.specs.declared.items.LevelItem.{LevelItem}
use Rattle.run_overrides.specs.Items.{asked_of, by_code, is_code, is_level, is_same, items_of}
use Rattle.run_overrides.specs.Overrides.{AreAsked, HaveOtherInputs, IsFirstTold, StandOnce}
use Rattle.run_overrides.specs.Put.{AreSet, IsTold, output_of, pair_of, set_before, with_item, with_subject}
use Rattle.run_overrides.specs.Twice.{Twice, name_of, twice_behind, twice_of}
use Rattle.run_overrides.proofs.ItemLemmas.{asked-push, first_output-output, none_there, one_output, or_none, output-push}

-- ---- one more

placed : (here : Bool) (severity : Severity) (asked : Option Severity) → (here ≡ true → asked ≡ None) → cond here (Some severity) asked ≡ option_or asked (cond here (Some severity) None)
placed true severity asked none = ap (λ before. option_or before (Some severity)) (sym (none refl))
placed false severity asked none = sym (or_none asked)

codes_more : (subject : CodeOrLevel) (severity : Severity) (overrides : DiagnosticOverrides) (name : List ℕ) (asked : Option Severity) → get overrides.code_overrides name ≡ asked
    → set_before overrides subject ≡ None → get (with_subject overrides subject severity).code_overrides name ≡ option_or asked (cond (is_code name subject) (Some severity) None)
codes_more (Code code) severity overrides name asked is none =
    let known = overrides.code_overrides in
    let own = code_name code in
    get-insert nat_list_cmp_total known own severity name
    ∙ (ap (λ here. cond here (Some severity) (get known name)) (is_eq-slice_cmp name own)
    ∙ (ap (cond (bytes_eq name own) (Some severity)) is
    ∙ placed (bytes_eq name own) severity asked (λ here. sym is ∙ (ap (get known) ((bytes_eq-Decides name own).0 here) ∙ none))))
codes_more (Level level) severity overrides name asked is none = is ∙ sym (or_none asked)

levels_more : (subject : CodeOrLevel) (severity : Severity) (overrides : DiagnosticOverrides) (input : Severity) (asked : Option Severity) → output_of overrides.level_overrides input ≡ asked
    → output_of (with_subject overrides subject severity).level_overrides input ≡ option_or asked (cond (is_level input subject) (Some severity) None)
levels_more (Code code) severity overrides input asked is = is ∙ sym (or_none asked)
levels_more (Level level) severity overrides input asked is =
    output-push overrides.level_overrides (pair_of level severity) input ∙ ap (λ before. option_or before (one_output (pair_of level severity) input)) is

once_more : (subject : CodeOrLevel) (severity : Severity) (overrides : DiagnosticOverrides) → StandOnce overrides → set_before overrides subject ≡ None → StandOnce (with_subject overrides subject severity)
once_more (Code code) severity overrides once none =
    record { codes = entries_sorted (insert overrides.code_overrides (code_name code) severity); levels = once.levels }
once_more (Level level) severity overrides once none = record {
  codes = once.codes;
  levels = all_pairs_push HaveOtherInputs overrides.level_overrides (pair_of level severity) once.levels (none_there overrides.level_overrides (severity_of_level level) none);
}

one_more : (items : List LevelItem) (item : LevelItem) (overrides : DiagnosticOverrides) → AreSet items overrides → set_before overrides item.subject ≡ None → AreSet (items ++ item ∷ []) (with_item overrides item)
one_more items item overrides set none = record {
  codes = λ name. codes_more item.subject item.severity overrides name (asked_of (is_code name) items) (set.codes name) none ∙ sym (asked-push (is_code name) items item);
  levels = λ input. levels_more item.subject item.severity overrides input (asked_of (is_level input) items) (set.levels input) ∙ sym (asked-push (is_level input) items item);
  once = once_more item.subject item.severity overrides set.once none;
}

-- what a subject is set to is what was asked for it
asked_before : (items : List LevelItem) (overrides : DiagnosticOverrides) → AreSet items overrides → (subject : CodeOrLevel) → asked_of (is_same subject) items ≡ set_before overrides subject
asked_before items overrides set (Code code) = sym (set.codes (code_name code))
asked_before items overrides set (Level level) = sym (set.levels (severity_of_level level))

-- ---- in a loop

-- the first items are set, and what is there twice is behind them
pub record IsSoFar (items : List LevelItem) (place : ℕ) (overrides : DiagnosticOverrides) : Type 0 where
  pub set : AreSet (take place items) overrides
  pub twice : twice_behind (take place items) (drop place items) ≡ twice_behind [] items

-- nothing is set yet
pub none_set : (items : List LevelItem) (overrides : DiagnosticOverrides) → overrides.code_overrides ≡ empty → overrides.level_overrides ≡ [] → IsSoFar items 0 overrides
none_set items overrides no_codes no_levels = record {
  set = record {
    codes = λ name. ap (λ known. get known name) no_codes ∙ get-empty (slice_cmp nat_cmp) name;
    levels = λ input. ap (λ pairs. output_of pairs input) no_levels;
    once = record {
      codes = entries_sorted overrides.code_overrides;
      levels = subst (AllPairs HaveOtherInputs) (sym no_levels) (λ i j d before within. absurd (omega arith));
    };
  };
  twice = refl;
}

front_more : (items : List LevelItem) (place : ℕ) (item : LevelItem) → place < length items → item ≡ get_or items place item → take (place + 1) items ≡ take place items ++ item ∷ []
front_more items place item within at = take_more items place item within ∙ ap (λ one. take place items ++ one ∷ []) (sym at)

rest_more : (items : List LevelItem) (place : ℕ) (item : LevelItem) → place < length items → item ≡ get_or items place item → drop place items ≡ item ∷ drop (place + 1) items
rest_more items place item within at = drop_more items place item within ∙ ap (λ one. one ∷ drop (place + 1) items) (sym at)

-- the next one is set
next_set : (items : List LevelItem) (place : ℕ) (item : LevelItem) (overrides new : DiagnosticOverrides) → place < length items → item ≡ get_or items place item → IsSoFar items place overrides
    → set_before overrides item.subject ≡ None → new ≡ with_item overrides item → IsSoFar items (place + 1) new
next_set items place item overrides new within at so none is =
    let earlier = take place items in
    let more = drop (place + 1) items in
    let front = front_more items place item within at in
    record {
      set = subst (λ all. AreSet all new) (sym front) (subst (AreSet (earlier ++ item ∷ [])) (sym is) (one_more earlier item overrides so.set none));
      twice =
          ap (λ all. twice_behind all more) front
          ∙ (sym (ap (λ before. option_or (option_map (twice_of item) before) (twice_behind (earlier ++ item ∷ []) more)) (asked_before earlier overrides so.set item.subject ∙ none))
          ∙ (ap (twice_behind earlier) (sym (rest_more items place item within at))
          ∙ so.twice));
    }

abbrev told_twice : List ℕ → Severity → Severity → Twice
told_twice name first second = record { name = name; first = first; second = second }

-- the next one is there twice
next_twice : (items : List LevelItem) (place : ℕ) (item : LevelItem) (overrides : DiagnosticOverrides) → place < length items → item ≡ get_or items place item → IsSoFar items place overrides
    → (error : OverrideError) → IsTold (set_before overrides item.subject) (name_of item.subject) item.severity error → IsFirstTold (twice_behind [] items) error
next_twice items place item overrides within at so Memory told = tt
next_twice items place item overrides within at so (OverrideTwice name first second) told =
    let earlier = take place items in
    let more = drop (place + 1) items in
    sym so.twice
    ∙ (ap (twice_behind earlier) (rest_more items place item within at)
    ∙ (ap (λ before. option_or (option_map (twice_of item) before) (twice_behind (earlier ++ item ∷ []) more)) (asked_before earlier overrides so.set item.subject ∙ told.0)
    ∙ ap₂ (λ known last. Some (told_twice known first last)) (sym told.1) (sym told.2)))

-- the same, where the next one is read out of the list
module _ (items : List LevelItem) (place : ℕ) (d : LevelItem) (overrides : DiagnosticOverrides) (within : place < length items) (so : IsSoFar items place overrides) where
  abbrev next : LevelItem
  next = get_or items place d

  same_read : next ≡ get_or items place next
  same_read = get_or_default items place d next within

  pub read_set : (new : DiagnosticOverrides) → set_before overrides next.subject ≡ None → new ≡ with_item overrides next → IsSoFar items (place + 1) new
  read_set new none is = next_set items place next overrides new within same_read so none is

  pub read_twice : (error : OverrideError) → IsTold (set_before overrides next.subject) (name_of next.subject) next.severity error → IsFirstTold (twice_behind [] items) error
  read_twice error told = next_twice items place next overrides within same_read so error told

-- all are set
pub all_set : (items : List LevelItem) (place : ℕ) (overrides : DiagnosticOverrides) → length items ≤ place → IsSoFar items place overrides → AreSet items overrides
all_set items place overrides past so = subst (λ all. AreSet all overrides) (take_all place items past) so.set

pub all_once : (items : List LevelItem) (place : ℕ) (overrides : DiagnosticOverrides) → length items ≤ place → IsSoFar items place overrides → twice_behind [] items ≡ None
all_once items place overrides past so = sym so.twice ∙ at_drop_all (twice_behind (take place items)) items place past

-- ---- the levels of findings

pub asked_levels : (levels : LintLevels) (overrides : DiagnosticOverrides) → AreSet (items_of levels) overrides → AreAsked levels overrides
asked_levels levels overrides set code severity =
    let own = by_code (items_of levels) code severity in
    first_output-output overrides.level_overrides (unwrap_or (get overrides.code_overrides code) severity)
    ∙ (ap (λ first. unwrap_or (output_of overrides.level_overrides first) first) (ap (λ told. unwrap_or told severity) (set.codes code))
    ∙ ap (λ told. unwrap_or told own) (set.levels own))
