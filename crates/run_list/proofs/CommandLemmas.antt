-- What the command `list` promises, where a part of the request is not carried, and where all of it is.
use Rattle.std.proofs.Common.{◌≡◌, ◌≤◌, ◌∙◌, arith, refl, sym, ap, ℕ, List, Option, Some, None, Result, Err, IfErr}
use Rattle.tree_core.specs.Call.{Call}
use Rattle.tree_core.specs.Content.{Content}
use Rattle.tree_core.proofs.MadeLemmas.{made_none}
use Rattle.tree_core.specs.texts.Cause.{ReadCounts}
use Rattle.graph_workspace.specs.declared.error.UnsupportedPart.{UnsupportedPart}
use Rattle.run_found.specs.declared.error.Error.{Error}
use Rattle.run_found.specs.declared.error.Error.TheVariants.{NotCarried}
use Rattle.run_found.specs.declared.reads.CrateRead.{CrateRead}
use Rattle.run_found.specs.Error.{EndsLawful, cause_of}
use Rattle.run_found.specs.Hearing.{TreeSeen, tree_seen}
use Rattle.run_found.specs.Written.{SinkSeen, sink_seen}
use Rattle.run_command.specs.Complete.{AreQuiet}
use Rattle.run_command.proofs.LawfulLemmas.{NoRefusal, no_refusal_read, no_refusal_told}
use Rattle.run_command.proofs.WrittenLemmas.{writes_lawful}
use Rattle.run_list.specs.Command.{IsListRun}
use Rattle.run_list.specs.Given.{ListArguments}
use Rattle.run_list.specs.Listed.{listing_text}
use Rattle.run_list.specs.Listing.{IsListing, Lists}
use Rattle.run_list.proofs.RiseLemmas.{lists_rise}

apart : (own : Option UnsupportedPart) (what : UnsupportedPart) → own ≡ Some what → own ≡ None → ⊥
apart own what some none = let both : Some what ≡ None = sym some ∙ none in cc

abbrev refused_for : UnsupportedPart → Result (List CrateRead) Error
refused_for what = Err (NotCarried what)

same_refusal : (one other : UnsupportedPart) (own : Option UnsupportedPart) → own ≡ Some one → own ≡ Some other → refused_for one ≡ refused_for other
same_refusal one other own first second = ap refused_for (some_same (sym first ∙ second))
  where
    some_same : ◌≡◌ {A = Option UnsupportedPart} (Some one) (Some other) → one ≡ other
    some_same e = cc

-- ---- a part is not carried

module _ (given : ListArguments) (told : Option Content) (count : ℕ) (calls : List Call) (held : Option (List ℕ)) (faults : ℕ) (out_held : Option (List ℕ)) (out_faults : ℕ) (what : UnsupportedPart)
    (is : given.command.options.unsupported ≡ Some what) where
  pub unsupported_run : IsListRun given (tree_seen told told count count calls calls) (sink_seen held held faults faults) (sink_seen out_held out_held out_faults out_faults) (Err (NotCarried what))
  unsupported_run = record {
    unsupported = λ other is_other. (same_refusal what other given.command.options.unsupported is is_other, made_none told count calls, refl, refl);
    lists = λ carried. absurd (apart given.command.options.unsupported what is carried);
    counts = tt;
    rises = tt;
    later = omega arith;
    out_later = omega arith;
    complete_read = λ hearing behind asked lawful quiet. absurd (apart given.command.options.unsupported what is lawful.asks.carried);
    complete = λ content tells hearing asked lawful quiet. absurd (apart given.command.options.unsupported what is lawful.asks.carried);
  }

-- ---- all of it is carried

module _ (given : ListArguments) (tree : TreeSeen) (err out : SinkSeen) (result : Result (List CrateRead) Error) (lists : Lists given tree err out result) where
  ends_lawful : NoRefusal given.command tree → AreQuiet err out → EndsLawful result
  ends_lawful free quiet =
      writes_lawful given.command tree err out (IsListing given) (λ listing. listing_text given listing.crates) (λ listing. listing.reads) free quiet.err_quiet quiet.out_quiet result lists

  pub carried_run : given.command.options.unsupported ≡ None → IfErr result (λ error. ReadCounts tree.count_before tree.count_before tree.count_after (cause_of error)) → err.before ≤ err.after → out.before ≤ out.after
      → IsListRun given tree err out result
  carried_run carried counts later out_later = record {
    unsupported = λ what is. absurd (apart given.command.options.unsupported what is carried);
    lists = λ none. lists;
    counts = counts;
    rises = lists_rise given tree err out result lists;
    later = later;
    out_later = out_later;
    complete_read = λ hearing behind asked lawful quiet. ends_lawful (no_refusal_read given.command tree hearing behind asked lawful) quiet;
    complete = λ content told hearing asked lawful quiet. ends_lawful (no_refusal_told given.command content tree hearing asked told lawful) quiet;
  }
