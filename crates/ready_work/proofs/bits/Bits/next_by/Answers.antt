use Rattle.ready_work.specs.Lowest.{IsFrom, IsNone}
use Rattle.ready_work.specs.WordBits.{HasBit}
use Rattle.ready_work.proofs.Sets.{if_none, lowest_filled, none_filled}
use Rattle.ready_work.proofs.bits.Bits.next_by.Goals as goal

pub returns-in_err-place-clause-none : goal.returns-in_err-place-clause-none
returns-in_err-place-clause-none c = if_none (IsNone (IsFrom c.args.from (HasBit c.args.self.now.words.items))) c.from_residual.result
    (none_filled c.args.self.now.words.items c.args.summary.now.words.items c.args.from c.requires c.in_default.ensures.none c.in_err-place.ensures.none)

pub lowest_in-requires-clause-filled : goal.lowest_in-requires-clause-filled
lowest_in-requires-clause-filled c = c.requires.filled c.in_ok-place.place c.in_ok-place.ensures.some.is.such

pub returns-clause-some : goal.returns-clause-some
returns-clause-some c = lowest_filled c.args.self.now.words.items c.args.summary.now.words.items c.args.from c.in_ok-place.place c.lowest_in.result c.requires c.in_default.ensures.none c.in_ok-place.ensures.some c.lowest_in.ensures
