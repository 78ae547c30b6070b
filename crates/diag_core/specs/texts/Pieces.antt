-- The pieces of a text, as the code has them.
use Rattle.diag_core.specs.texts.Synthetic.{Bit, plain, marked}
use Rattle.diag_core.specs.declared.texts.synthetic.TextPiece.{TextPiece}
use Rattle.diag_core.specs.declared.texts.synthetic.TextPiece.TheVariants.{Plain, Marked}

abbrev pub bit_of : TextPiece → Bit
bit_of (Plain text) = plain text.now
bit_of (Marked text) = marked text.now
