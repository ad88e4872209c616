use Rattle.std.proofs.Common.{◌≡◌, List, ℕ, subst}
use Rattle.ready_work.specs.Lowest.{IsFrom, IsLowest, IsNone}
use Rattle.ready_work.specs.NumberSet.{set_in}
use Rattle.ready_work.specs.NumberSetView.{NumberSetView, IsMember}
use Rattle.ready_work.specs.WordBits.{HasBit}
use Rattle.ready_work.proofs.Sets.{if_none, lowest_filled, lowest_member, no_member, none_filled, number_fits}
use Rattle.ready_work.proofs.number_sets.NumberSet.next_member.Goals as goal

-- the next bit is the next member
shown : (words : List ℕ) (set : NumberSetView) (from n : ℕ) → set_in words ≡ set → IsLowest (IsFrom from (HasBit words)) n → IsLowest (IsFrom from (IsMember set)) n
shown words set from n is low = subst (λ (set : NumberSetView). IsLowest (IsFrom from (IsMember set)) n) is (lowest_member words from n low)

pub returns-in-Some-clause-some : goal.returns-in-Some-clause-some
returns-in-Some-clause-some c = shown c.self.inside.members.words.items c.args.self.now c.args.from c.in-Some.number c.self.view_is c.in-Some.ensures.some

pub returns-in_err-place-clause-none : goal.returns-in_err-place-clause-none
returns-in_err-place-clause-none c = if_none (IsNone (IsFrom c.args.from (IsMember c.args.self.now))) c.from_residual.result
    (subst (λ (set : NumberSetView). IsNone (IsFrom c.args.from (IsMember set))) c.self.view_is
    (no_member c.self.inside.members.words.items c.args.from
    (none_filled c.self.inside.members.words.items c.self.inside.filled.words.items c.args.from c.self.invariant.members c.in_default.ensures.none c.in_err-place.ensures.none)))

pub lowest_in-requires-clause-filled : goal.lowest_in-requires-clause-filled
lowest_in-requires-clause-filled c = c.self.invariant.members.filled c.in_ok-place.place c.in_ok-place.ensures.some.is.such

-- the lowest bit of the next word that isn't 0
low : (c : goal.After-lowest_in) → IsLowest (IsFrom c.args.from (HasBit c.self.inside.members.words.items)) c.lowest_in.result
low c = lowest_filled c.self.inside.members.words.items c.self.inside.filled.words.items c.args.from c.in_ok-place.place c.lowest_in.result c.self.invariant.members c.in_default.ensures.none c.in_ok-place.ensures.some c.lowest_in.ensures

pub returns-clause-few : goal.returns-clause-few
returns-clause-few c = number_fits c.self.inside.members.words.items c.self.inside.filled.words.items c.lowest_in.result c.self.invariant.members (low c).is.such

pub returns-clause-some : goal.returns-clause-some
returns-clause-some c = shown c.self.inside.members.words.items c.args.self.now c.args.from c.lowest_in.result c.self.view_is (low c)
