use Rattle.std.proofs.Common.{◌≡◌, ◌+◌, ◌<◌, ◌≤◌, true, false, [], ◌∷◌, Ok, length, length-append, sym, ap, subst, ◌∙◌, arith}
use Rattle.std.proofs.lemmas.Bool.Decides.{nat_tests}
use Rattle.toml_subset.specs.Bytes.{dot}
use Rattle.toml_subset.specs.Places.{stands, after_blanks}
use Rattle.toml_subset.proofs.KeyRuns.{AreRead, none_read, key_last, key_more, key_refused_so}
use Rattle.toml_subset.proofs.keys.read_keys.Goals as goal

pub parts-init : goal.parts-init
parts-init c =
    (c.requires, subst (λ keys. AreRead c.args.text.now c.args.place keys c.args.place) (sym c.new-keys.ensures) (none_read c.args.text.now c.args.place))

pub returns-then-not-stands-clause-answer : goal.returns-then-not-stands-clause-answer
returns-then-not-stands-clause-answer c =
    let text = c.args.text.now in
    let same = c.as_bytes-bytes.ensures.value in
    let end = c.in-Ok.end in
    let dot_is : c.after_blanks-dot.result ≡ after_blanks text end = rw same at c.after_blanks-dot.ensures.end in
    let stands_is : c.stands.result ≡ stands text c.after_blanks-dot.result dot = rw same at c.stands.ensures in
    let no : c.stands.result ≡ false = grind (arith, nat_tests, c.if-not-stands.true) in
    let none : stands text (after_blanks text end) dot ≡ false = sym (stands_is ∙ ap (λ k. stands text k dot) dot_is) ∙ no in
    key_last text c.args.place c.parts.keys c.parts.place c.in-Ok.key end c.parts.invariant.0 c.parts.invariant.1 c.in-Ok.ensures.answer none
    ∙ ap (λ keys. Ok (keys, end)) (sym c.in_ok-push-in-Ok.ensures.ok)

pub returns-then-not-stands-clause-some : goal.returns-then-not-stands-clause-some
returns-then-not-stands-clause-some c =
    subst (λ keys. 0 < length keys) (sym c.in_ok-push-in-Ok.ensures.ok) (let longer = length-append c.parts.keys (c.in-Ok.key ∷ []) in omega arith)

pub parts-smaller : goal.parts-smaller
parts-smaller c =
    let text = c.args.text.now in
    let same = c.as_bytes-bytes.ensures.value in
    let end = c.in-Ok.end in
    let dot_is : c.after_blanks-dot.result ≡ after_blanks text end = rw same at c.after_blanks-dot.ensures.end in
    let stands_is : c.stands.result ≡ stands text c.after_blanks-dot.result dot = rw same at c.stands.ensures in
    let yes : c.stands.result ≡ true = grind (arith, nat_tests, c.if-not-stands.false) in
    let some : stands text (after_blanks text end) dot ≡ true = sym (stands_is ∙ ap (λ k. stands text k dot) dot_is) ∙ yes in
    let place_is = rw same at c.after_blanks-place.ensures.end in
    let next : c.after_blanks-place.result ≡ after_blanks text (after_blanks text end + 1) =
    place_is ∙ ap (λ k. after_blanks text (k + 1)) dot_is in
    let more = key_more text c.args.place c.parts.keys c.parts.place c.in-Ok.key end c.parts.invariant.0 c.parts.invariant.1 c.in-Ok.ensures.answer some in
    let within : c.after_blanks-place.result ≤ length text = rw same at c.after_blanks-place.ensures.within in
    let goes = more.0 in
    omega arith

pub parts-preserved : goal.parts-preserved
parts-preserved c =
    let text = c.args.text.now in
    let same = c.as_bytes-bytes.ensures.value in
    let end = c.in-Ok.end in
    let dot_is : c.after_blanks-dot.result ≡ after_blanks text end = rw same at c.after_blanks-dot.ensures.end in
    let stands_is : c.stands.result ≡ stands text c.after_blanks-dot.result dot = rw same at c.stands.ensures in
    let yes : c.stands.result ≡ true = grind (arith, nat_tests, c.if-not-stands.false) in
    let some : stands text (after_blanks text end) dot ≡ true = sym (stands_is ∙ ap (λ k. stands text k dot) dot_is) ∙ yes in
    let place_is = rw same at c.after_blanks-place.ensures.end in
    let next : c.after_blanks-place.result ≡ after_blanks text (after_blanks text end + 1) =
    place_is ∙ ap (λ k. after_blanks text (k + 1)) dot_is in
    let more = key_more text c.args.place c.parts.keys c.parts.place c.in-Ok.key end c.parts.invariant.0 c.parts.invariant.1 c.in-Ok.ensures.answer some in
    let within : c.after_blanks-place.result ≤ length text = rw same at c.after_blanks-place.ensures.within in (
      within,
      subst (λ k. AreRead text c.args.place c.push.new.self k) (sym next)
          (subst (λ keys. AreRead text c.args.place keys (after_blanks text (after_blanks text end + 1))) (sym c.in_ok-push-in-Ok.ensures.ok) more.1),
    )

pub returns-in-Err-clause-answer : goal.returns-in-Err-clause-answer
returns-in-Err-clause-answer c =
    key_refused_so c.args.text.now c.args.place c.parts.keys c.parts.place c.parts.invariant.0 c.parts.invariant.1 c.in-Err.error c.in-Err.ensures.answer
