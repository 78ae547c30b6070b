use Rattle.std.proofs.Common.{◌<◌, length, arith}
use Rattle.toml_subset.specs.key_index.KeyPlaces.{few_keys}
use Rattle.toml_subset.proofs.key_index.Lemmas.{first_indexed, more_indexed}
use Rattle.toml_subset.proofs.key_index.places.noted.Goals as goal

pub returns-then-keys-eq-FEW : goal.returns-then-keys-eq-FEW
returns-then-keys-eq-FEW c =
    first_indexed c.in_ok-before.before c.in_ok-first.first c.args.keys.now c.args.key.now (omega arith) c.in_ok-before.ensures c.requires.new c.in_ok-first.ensures

pub returns : goal.returns
returns c =
    let many : few_keys < length c.args.keys.now = omega (arith, c.if-keys-lt-FEW.false, c.if-keys-eq-FEW.false) in
    more_indexed c.args.places c.in_ok-further.further c.args.keys.now c.args.key.now many c.requires.index c.requires.new c.in_ok-further.ensures
