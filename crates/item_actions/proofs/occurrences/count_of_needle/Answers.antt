use Rattle.std.proofs.Common.{◌∙◌, ap, arith}
use Rattle.item_actions.specs.Bytes.{occurrences}
use Rattle.item_actions.proofs.OneByte.{occurrences-one}
use Rattle.item_actions.proofs.occurrences.count_of_needle.Goals as goal

pub returns-in-len1 : goal.returns-in-len1
returns-in-len1 c =
    c.count_of_byte.ensures
    ∙ occurrences-one c.bytes.result.now c.args.bytes.now (omega (arith, c.in-len1.len_at_least, c.in-len1.len_below))
    ∙ ap (λ needle. occurrences needle c.args.bytes.now) c.bytes.ensures.bytes
