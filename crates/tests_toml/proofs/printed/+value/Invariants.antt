-- What is in a value is put with one less of the depth.
use Rattle.std.proofs.Common.{◌+◌, ◌*◌}
use Rattle.tests_toml.proofs.printed.+value.Given as goal

abbrev pub decreases-put_value : goal.decreases-put_value
decreases-put_value l = 2 * l.depth

abbrev pub decreases-put_items : goal.decreases-put_items
decreases-put_items l = 2 * l.depth + 1

abbrev pub decreases-put_entries : goal.decreases-put_entries
decreases-put_entries l = 2 * l.depth + 1
