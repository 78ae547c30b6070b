use Rattle.std.proofs.Common.{◌≡◌, ◌-◌, ◌∙◌, sym, ap, Ok, Err, take, drop}
use Rattle.toml_subset.specs.Bytes.{is_run}
use Rattle.toml_subset.specs.Classes.{class_answer}
use Rattle.toml_subset.specs.Numbers.{class_of}
use Rattle.toml_subset.specs.Places.{run_end, run_at}
use Rattle.toml_subset.proofs.NumberRuns.{run_slice, class_read, class_refused}
use Rattle.toml_subset.proofs.number.read_number.Goals as goal

pub returns-in-Ok : goal.returns-in-Ok
returns-in-Ok c =
    let text = c.args.text.now in
    let place = c.args.place in
    let same = c.as_bytes-bytes.ensures.value in
    let ends : c.run_end-end.result ≡ run_end is_run text place = rw same at c.run_end-end.ensures.end in
    let slice : take (c.run_end-end.result - place) (drop place c.as_bytes-bytes.result.now) ≡ run_at is_run text place =
    rw same (run_slice text place c.run_end-end.result ends) in
    let answer : class_answer (class_of (run_at is_run text place)) ≡ Ok c.in-Ok.number =
    sym (ap (λ r. class_answer (class_of r)) slice) ∙ sym c.classify.ensures ∙ c.in-Ok.is in
    rw ends (class_read text place (class_of (run_at is_run text place)) c.in-Ok.number answer)

pub returns-in-Err : goal.returns-in-Err
returns-in-Err c =
    let text = c.args.text.now in
    let place = c.args.place in
    let same = c.as_bytes-bytes.ensures.value in
    let ends : c.run_end-end.result ≡ run_end is_run text place = rw same at c.run_end-end.ensures.end in
    let slice : take (c.run_end-end.result - place) (drop place c.as_bytes-bytes.result.now) ≡ run_at is_run text place =
    rw same (run_slice text place c.run_end-end.result ends) in
    let answer : class_answer (class_of (run_at is_run text place)) ≡ Err c.in-Err.reason =
    sym (ap (λ r. class_answer (class_of r)) slice) ∙ sym c.classify.ensures ∙ c.in-Err.is in
    rw (c.fault_at.ensures, ends) (class_refused text place (class_of (run_at is_run text place)) c.in-Err.reason answer)
