use Rattle.std.proofs.Common.{◌≡◌, ◌-◌, ◌||◌, false, ◌∙◌, sym, ap, take, drop}
use Rattle.toml_subset.specs.Bytes.{is_run, begins_run}
use Rattle.toml_subset.specs.Numbers.{is_special}
use Rattle.toml_subset.specs.Places.{passes_at, run_end, run_at}
use Rattle.toml_subset.proofs.NumberRuns.{run_slice}
use Rattle.toml_subset.proofs.number.begins_number.Goals as goal

pub returns-else-starts_number : goal.returns-else-starts_number
returns-else-starts_number c =
    let text = c.args.text.now in
    let place = c.args.place in
    let same = c.as_bytes-bytes.ensures.value in
    let ends : c.run_end-end.result ≡ run_end is_run text place = rw same at c.run_end-end.ensures.end in
    let slice : take (c.run_end-end.result - place) (drop place c.as_bytes-bytes.result.now) ≡ run_at is_run text place =
    rw same (run_slice text place c.run_end-end.result ends) in
    let other : passes_at begins_run text place ≡ false = sym (ap (λ s. passes_at begins_run s place) same) ∙ sym c.starts_number.ensures ∙ c.if-starts_number.false in
    c.is_special.ensures ∙ ap is_special slice ∙ sym (ap (λ b. b || is_special (run_at is_run text place)) other)
