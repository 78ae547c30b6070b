use Rattle.std.proofs.Common.{◌≡◌, ◌∙◌, ◌+◌, ◌<◌, ◌++◌, [], ◌∷◌, All, length, map, ap, sym}
use Rattle.std.proofs.lemmas.List.Elements.{All-rest, All-same}
use Rattle.memchr.specs.Find.{Passes, is_byte, places}
use Rattle.memchr.proofs.lemmas.CallerLemmas.{All-places}
use Rattle.diag_core.specs.Position.{line_starts}
use Rattle.diag_core.proofs.FeedLemmas.{one_more, starts_at_feeds}
use Rattle.diag_core.proofs.line_index.line_starts.Goals as goal

pub feeds-init : goal.feeds-init
feeds-init c =
    let text = c.args.text.now in
    let found : c.memchr_iter-feeds.result ≡ places (is_byte 10) text = c.memchr_iter-feeds.ensures.value ∙ ap (places (is_byte 10)) c.as_bytes.ensures.value in record {
      lines = ap (λ starts. starts ++ map (λ feed. feed + 1) c.memchr_iter-feeds.result) (c.in_ok-push.ensures.items ∙ ap (λ starts. starts ++ 0 ∷ []) c.new-starts.ensures.items)
          ∙ ap (λ feeds. 0 ∷ map (λ feed. feed + 1) feeds) found
          ∙ starts_at_feeds text;
      within = All-same (λ feed. (feed < length text) × Passes (is_byte 10) text feed) c.memchr_iter-feeds.result (places (is_byte 10) text) found (All-places (is_byte 10) text);
    }

pub feeds-preserved : goal.feeds-preserved
feeds-preserved c =
    let text = c.args.text.now in
    let before = c.feeds.invariant in record {
      lines = ap (λ starts. starts ++ map (λ feed. feed + 1) c.next.new.self) c.in_ok-push-2.ensures.items
          ∙ one_more c.feeds.starts.items (line_starts text) c.feeds.feeds c.next.new.self c.in-Some.feed c.in-Some.ensures.steps before.lines;
      within = All-rest (λ feed. (feed < length text) × Passes (is_byte 10) text feed) c.in-Some.feed c.next.new.self c.feeds.feeds c.in-Some.ensures.steps before.within;
    }
