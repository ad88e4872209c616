use Rattle.std.proofs.Common.{◌∙◌, sym}
use Rattle.command_words.proofs.Numerals.{numeral_read}
use Rattle.command_words.proofs.numbers.value_of.Goals as goal

pub returns-then-is_numeral : goal.returns-then-is_numeral
returns-then-is_numeral c = c.ok.ensures.value ∙ numeral_read c.args.max_digits c.args.text.now c.parse.result c.parse.ensures.value.0 (sym c.if-is_numeral.ensures)
