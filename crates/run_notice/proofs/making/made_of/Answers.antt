use Rattle.std.proofs.Common.{◌≡◌, ◌∙◌, ℤ, inr, map, [], ap, rules, SFits, sym, append-nil, subst, w64}
use Rattle.std.proofs.lemmas.Int.{to_z-of_z}
use Rattle.graph_core.specs.selection.Listed.{record_behind}
use Rattle.gather_license.proofs.files.CallLemmas.{on_err}
use Rattle.check_notice.specs.Notice.{AnswersNotice}
use Rattle.run_found.specs.Hearing.{seen_between}
use Rattle.run_found.specs.own_names.Given.{texts_given}
use Rattle.run_check.specs.Judged.{crates_judged}
use Rattle.run_notice.specs.Noticed.{sources_by, unaccepted_id}
use Rattle.run_notice.specs.Steps.{judged_sources, noticed_by}
use Rattle.run_notice.proofs.MakingLemmas.{all_accepted, made_by}
use Rattle.run_notice.proofs.OwnLemmas.{cut_behind}
use Rattle.run_notice.proofs.making.made_of.Goals as goal

pub notice_by-made-requires : goal.notice_by-made-requires
notice_by-made-requires g c =
    let reports : c.items-reports.result.now ≡ c.args.judged.now.report.crates = c.items-reports.ensures in
    all_accepted (map record_behind c.items-listed.result.now) c.items-reports.result.now c.items.result.now (ap unaccepted_id reports ∙ c.requires)

pub returns-in_err-reads-clause-cut : goal.returns-in_err-reads-clause-cut
returns-in_err-reads-clause-cut g c =
    let crates : map record_behind c.items-listed.result.now ≡ crates_judged c.args.judged.now = ap (map record_behind) c.items-listed.ensures ∙ c.in_ok-krates.ensures in
    on_err c.from_residual-in_err-reads.result _
    (inr (cut_behind (map record_behind c.items-listed.result.now) (crates_judged c.args.judged.now) c.in_ok-own.own c.in_ok-own.ensures.own ([], sym crates ∙ sym (append-nil _))))

pub returns-clause-made : goal.returns-clause-made
returns-clause-made g c =
    let texts = texts_given (g.I.Identifier.match_of c.args.identifier.now) (g.I.TextLookup.text_of c.args.identifier.now) in
    let judged = c.args.judged.now in
    let listed = map record_behind c.items-listed.result.now in
    let crates : listed ≡ crates_judged judged = ap (map record_behind) c.items-listed.ensures ∙ c.in_ok-krates.ensures in
    let reports : c.items-reports.result.now ≡ judged.report.crates = c.items-reports.ensures in
    let own : c.items.result.now ≡ c.in_ok-own.own = c.items.ensures in
    let threshold = judged.report.policy.confidence_threshold in
    let fits : SFits w64 threshold = search rules in
    let answers : AnswersNotice (judged_sources texts judged) (noticed_by listed c.items-reports.result.now c.items.result.now) c.notice_by-made.result =
    subst (λ (cut : ℤ). AnswersNotice (sources_by texts cut) (noticed_by listed c.items-reports.result.now c.items.result.now) c.notice_by-made.result) (to_z-of_z w64 threshold fits) c.notice_by-made.ensures in
    made_by texts judged
    (seen_between g.T.Tree.content g.T.Tree.fault_count g.T.Tree.trace c.args.tree.now c.own_of_crates.new.tree)
    listed c.in_ok-own.own
    (record { made = c.notice_by-made.result; own = c.in_ok-reads.reads }) crates c.in_ok-own.ensures.own
    (subst (λ mine. AnswersNotice (judged_sources texts judged) (noticed_by listed judged.report.crates mine) c.notice_by-made.result) own
    (subst (λ those. AnswersNotice (judged_sources texts judged) (noticed_by listed those c.items.result.now) c.notice_by-made.result) reports answers))
    c.in_ok-reads.ensures
