use Rattle.std.proofs.Common.{◌≡◌, ◌≢◌, ◌*◌, ℕ, List, length, not, sym, ap, ◌∙◌, arith}
use Rattle.ready_work.specs.NumberSet.{set_in}
use Rattle.ready_work.specs.WordBits.{bit_in}
use Rattle.ready_work.specs.NumberSetView.{NumberSetView, has, room_of}
use Rattle.ready_work.proofs.Sets.{filled_flipped, flip_member, room_set, same_member, still_filled}
use Rattle.ready_work.proofs.number_sets.NumberSet.flip.Goals as goal

pub flip-requires : goal.flip-requires
flip-requires c =
    let room = c.requires in
    let is = ap room_of c.self.view_is in
    let inside = room_set c.self.inside.members.words.items in
    omega arith

pub flip_with-requires-clause-within : goal.flip_with-requires-clause-within
flip_with-requires-clause-within c =
    let room = c.requires in
    let is = ap room_of c.self.view_is in
    let inside = room_set c.self.inside.members.words.items in
    let size = c.self.invariant.members.size in
    omega arith

pub invariant_of-self : goal.invariant_of-self
invariant_of-self c = record {
  members = filled_flipped c.self.inside.members.words.items c.flip.new.self.words.items c.self.inside.filled.words.items c.flip_with.new.self.words.items c.args.number c.self.invariant.members c.flip.ensures.size c.flip_with.ensures.size c.flip.ensures.words c.flip.ensures.flipped (sym c.flip.ensures.empty ∙ c.if-flip.true) c.flip_with.ensures.flipped c.flip_with.ensures.bits;
  filled = c.flip_with.ensures.summarized;
}

pub invariant_of-self-else-flip : goal.invariant_of-self-else-flip
invariant_of-self-else-flip c = record {
  members = still_filled c.self.inside.members.words.items c.flip.new.self.words.items c.self.inside.filled.words.items c.args.number c.self.invariant.members c.flip.ensures.size c.flip.ensures.words (sym c.flip.ensures.empty ∙ c.if-flip.false);
  filled = c.self.invariant.filled;
}

same_room : (old new : List ℕ) (set : NumberSetView) → set_in old ≡ set → length new ≡ length old → room_of (set_in new) ≡ room_of set
same_room old new set is size = room_set new ∙ ap (λ n. 64 * n) size ∙ sym (room_set old) ∙ ap room_of is

other_members : (old new : List ℕ) (set : NumberSetView) (n : ℕ) → set_in old ≡ set → ((k : ℕ) → k ≢ n → bit_in new k ≡ bit_in old k) → (k : ℕ) → k ≢ n → has (set_in new) k ≡ has set k
other_members old new set n is same k ne = same_member old new k (same k ne) ∙ ap (λ (s : NumberSetView). has s k) is

pub returns-then-flip-clause-room : goal.returns-then-flip-clause-room
returns-then-flip-clause-room c = same_room c.self.inside.members.words.items c.flip.new.self.words.items c.args.self.now c.self.view_is c.flip.ensures.size

pub returns-then-flip-clause-flipped : goal.returns-then-flip-clause-flipped
returns-then-flip-clause-flipped c = flip_member c.self.inside.members.words.items c.flip.new.self.words.items c.args.number c.flip.ensures.flipped ∙ ap (λ (set : NumberSetView). not (has set c.args.number)) c.self.view_is

pub returns-then-flip-clause-others : goal.returns-then-flip-clause-others
returns-then-flip-clause-others c = other_members c.self.inside.members.words.items c.flip.new.self.words.items c.args.self.now c.args.number c.self.view_is c.flip.ensures.bits

pub returns-else-flip-clause-room : goal.returns-else-flip-clause-room
returns-else-flip-clause-room c = same_room c.self.inside.members.words.items c.flip.new.self.words.items c.args.self.now c.self.view_is c.flip.ensures.size

pub returns-else-flip-clause-flipped : goal.returns-else-flip-clause-flipped
returns-else-flip-clause-flipped c = flip_member c.self.inside.members.words.items c.flip.new.self.words.items c.args.number c.flip.ensures.flipped ∙ ap (λ (set : NumberSetView). not (has set c.args.number)) c.self.view_is

pub returns-else-flip-clause-others : goal.returns-else-flip-clause-others
returns-else-flip-clause-others c = other_members c.self.inside.members.words.items c.flip.new.self.words.items c.args.self.now c.args.number c.self.view_is c.flip.ensures.bits
