-- What the sinks gained of a summary.
use Rattle.std.proofs.Common.{◌≡◌, ◌≢◌, refl, sym, ap, subst, ℕ, ◌≤◌, List, [], ◌∷◌, ◌++◌, Option, Some, None, Result, Ok, Err, OnErr, append-nil, arith}
use Rattle.std.specs.Prelude.{IfErr, IsOk}
use Rattle.std.proofs.lemmas.Bool.{false≢true}
use Rattle.tree_core.specs.Faults.{Rose, Gained, GainedPrefix}
use Rattle.tree_core.specs.Script.{OutputSink, to_out, to_err, FaultCounts, RefusedBy}
use Rattle.diag_print.specs.Refusal.{HasReason}
use Rattle.diag_print.specs.declared.printer.PrintError.{PrintError}
use Rattle.diag_print.specs.declared.printer.PrintError.TheVariants.{WriteFault, Memory}
use Rattle.diag_stats.specs.Summary.{HasCountBehind, IsCutShort, IsUnwritten, count_of, piece_of, sink_counts}

held_still : (held : Option (List ℕ)) → Gained held held []
held_still None = refl
held_still (Some held) = ap Some (sym (append-nil held))

one_piece : (old new : Option (List ℕ)) (text : List ℕ) → Gained old new text → Gained old new (text ++ [])
one_piece old new text gained = subst (Gained old new) (sym (append-nil text)) gained

module _ (old new other : Option (List ℕ)) where
  cut_out : (counts : FaultCounts) (before after : ℕ) (text : List ℕ) → text ≢ [] → GainedPrefix old new text → RefusedBy counts to_out before after
      → IsCutShort counts before after (record { out = old; err = other }) (record { out = new; err = other }) (piece_of to_out text)
  cut_out counts before after [] some front refused = absurd (some refl)
  cut_out counts before after (byte ∷ text) some front refused = record {
    begun = (to_out, front.front) ∷ [];
    cut = record {
      earlier = [];
      target = to_out;
      front = front.front;
      rest = front.rest;
      later = [];
      parts = ap (λ whole. (to_out, whole) ∷ []) front.parts;
      written = refl;
      refused = refused;
    };
    gains = record { out = one_piece old new front.front front.gained; err = held_still other };
  }

  cut_err : (counts : FaultCounts) (before after : ℕ) (text : List ℕ) → text ≢ [] → GainedPrefix old new text → RefusedBy counts to_err before after
      → IsCutShort counts before after (record { out = other; err = old }) (record { out = other; err = new }) (piece_of to_err text)
  cut_err counts before after [] some front refused = absurd (some refl)
  cut_err counts before after (byte ∷ text) some front refused = record {
    begun = (to_err, front.front) ∷ [];
    cut = record {
      earlier = [];
      target = to_err;
      front = front.front;
      rest = front.rest;
      later = [];
      parts = ap (λ whole. (to_err, whole) ∷ []) front.parts;
      written = refl;
      refused = refused;
    };
    gains = record { out = held_still other; err = one_piece old new front.front front.gained };
  }

some_text : (text : List ℕ) (error : PrintError) → (text ≡ [] → IsOk {T = Unit {0}} (Err error)) → text ≢ []
some_text text error nothing none = false≢true (nothing none)

pub unwritten_out : (result : Result (Unit {0}) PrintError) (old new other : Option (List ℕ)) (text : List ℕ) (before after other_before other_after : ℕ) → OnErr result (GainedPrefix old new text)
    → IfErr result (HasReason before after) → result ≢ Err Memory → (text ≡ [] → IsOk result)
    → IfErr result (IsUnwritten (sink_counts before after other_before other_after) (record { out = old; err = other }) (record { out = new; err = other }) (piece_of to_out text))
unwritten_out (Ok value) old new other text before after other_before other_after front reason never nothing = tt
unwritten_out (Err (WriteFault first last)) old new other text before after other_before other_after front reason never nothing =
    cut_out old new other (sink_counts before after other_before other_after) first last text (some_text text (WriteFault first last) nothing) front reason
unwritten_out (Err Memory) old new other text before after other_before other_after front reason never nothing = absurd (never refl)

pub unwritten_err : (result : Result (Unit {0}) PrintError) (old new other : Option (List ℕ)) (text : List ℕ) (before after other_before other_after : ℕ) → OnErr result (GainedPrefix old new text)
    → IfErr result (HasReason before after) → result ≢ Err Memory → (text ≡ [] → IsOk result)
    → IfErr result (IsUnwritten (sink_counts other_before other_after before after) (record { out = other; err = old }) (record { out = other; err = new }) (piece_of to_err text))
unwritten_err (Ok value) old new other text before after other_before other_after front reason never nothing = tt
unwritten_err (Err (WriteFault first last)) old new other text before after other_before other_after front reason never nothing =
    cut_err old new other (sink_counts other_before other_after before after) first last text (some_text text (WriteFault first last) nothing) front
    (reason.0, (let e : last ≤ after = omega (arith, reason.1) in e), subst (λ n. Rose n last) (sym reason.0) (subst (Rose before) (sym reason.1) reason.2))
unwritten_err (Err Memory) old new other text before after other_before other_after front reason never nothing = absurd (never refl)

-- the count behind a refused write is that of its sink
pub count_behind : (result : Result (Unit {0}) PrintError) (target : OutputSink) (before out err : ℕ) → IfErr result (HasReason before (count_of target out err)) → IfErr result (HasCountBehind target out err)
count_behind (Ok value) target before out err reason = tt
count_behind (Err (WriteFault first last)) target before out err reason = reason.1
count_behind (Err Memory) target before out err reason = tt
