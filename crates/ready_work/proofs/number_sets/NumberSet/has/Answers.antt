use Rattle.std.proofs.Common.{sym, ap, ◌∙◌, arith}
use Rattle.ready_work.specs.NumberSetView.{NumberSetView, has, room_of}
use Rattle.ready_work.proofs.Sets.{has_set, room_set}
use Rattle.ready_work.proofs.number_sets.NumberSet.has.Goals as goal

pub has-requires : goal.has-requires
has-requires c =
    let room = c.requires in
    let is = ap room_of c.self.view_is in
    let inside = room_set c.self.inside.members.words.items in
    omega arith

pub returns : goal.returns
returns c = c.has.ensures ∙ sym (has_set c.self.inside.members.words.items c.args.number) ∙ ap (λ (set : NumberSetView). has set c.args.number) c.self.view_is
