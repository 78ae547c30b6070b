-- What the faults of the program stand for. Two texts that are equal may be two for the program; here they are one.
use Rattle.toml_subset.specs.shapes.Shapes.{ShapeReason, ShapeFault, wanted, missing, unexpected_keys, unexpected_value}
use Rattle.toml_subset.specs.shapes.Shapes.{custom, out_of_range}
use Rattle.toml_subset.specs.declared.shapes.shape.ErrorKind.{ErrorKind}
use Rattle.toml_subset.specs.declared.shapes.shape.ErrorKind.TheVariants.{Wanted, MissingField, UnexpectedKeys}
use Rattle.toml_subset.specs.declared.shapes.shape.ErrorKind.TheVariants.{UnexpectedValue, Custom, OutOfRange}
use Rattle.toml_subset.specs.declared.shapes.shape.ShapeError.{ShapeError}

abbrev pub reason_of : ErrorKind → ShapeReason
reason_of (Wanted expected found) = wanted expected.now found.now
reason_of (MissingField name) = missing name.now
reason_of (UnexpectedKeys names) = unexpected_keys names
reason_of (UnexpectedValue names) = unexpected_value names
reason_of (Custom text) = custom text
reason_of (OutOfRange type) = out_of_range type.now

abbrev pub fault_of : ShapeError → ShapeFault
fault_of error = record { reason = reason_of error.kind; span = error.span }
