use Rattle.std.proofs.Common.{◌∙◌, bit_and}
use Rattle.item_actions.proofs.Agreement.{mask-next}
use Rattle.item_actions.proofs.places.still_agreeing.Goals as goal

pub returns : goal.returns
returns c =
    (λ i. bit_and (c.requires.places i) (c.places_of.ensures i))
    ∙ mask-next c.args.bytes.now c.args.needle.now c.args.at c.args.agreed c.requires.within c.requires.room
