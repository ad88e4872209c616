use Rattle.std.proofs.Common.{arith}
use Rattle.ready_work.proofs.Sets.{none_has, room_set, summarizes_none}
use Rattle.ready_work.proofs.number_sets.NumberSet.new.Goals as goal

pub invariant_of-result : goal.invariant_of-result
invariant_of-result c =
    let len = c.ranges.len.fits in
    let few = c.in_ok-members.ensures.few in
    let few_filled = c.in_ok-filled.ensures.few in
    let few_blocks = c.in_ok-blocks.ensures.few in
    let words = c.word_count.ensures in
    let count = c.word_count-2.ensures in
    let room = c.in_ok-filled.ensures.room in
    let room_blocks = c.in_ok-blocks.ensures.room in
    record {
      members = summarizes_none c.in_ok-members.members.words.items c.in_ok-filled.filled.words.items (omega arith) (omega arith) (omega arith) c.in_ok-members.ensures.clear c.in_ok-filled.ensures.clear;
      filled = summarizes_none c.in_ok-filled.filled.words.items c.in_ok-blocks.blocks.words.items (omega arith) (omega arith) (omega arith) c.in_ok-filled.ensures.clear c.in_ok-blocks.ensures.clear;
    }

pub returns-clause-room : goal.returns-clause-room
returns-clause-room c = let room = c.in_ok-members.ensures.room in omega (arith, room_set c.in_ok-members.members.words.items)

pub returns-clause-empty : goal.returns-clause-empty
returns-clause-empty c = none_has c.in_ok-members.members.words.items c.in_ok-members.ensures.clear
