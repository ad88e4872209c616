use Rattle.std.proofs.Common.{◌<◌, length, get_or, take, arith}
use Rattle.std.proofs.lemmas.List.{take_more}
use Rattle.ready_work.proofs.GainedFronts.{adds_at_front}
use Rattle.ready_work.proofs.dependents.note_dependent.Goals as goal

pub push-requires : goal.push-requires
push-requires c = omega (arith, c.requires c.loop-name.name-index 0 c.loop-name-test.true, c.loop-name.invariant.size)

pub loop-name-preserved : goal.loop-name-preserved
loop-name-preserved c =
    let a = c.loop-name.invariant in
    let names = c.args.names.now in
    let i = c.loop-name.name-index in
    let lt : get_or names i 0 < length c.loop-name.dependents = omega (arith, c.requires i 0 c.loop-name-test.true, a.size) in
    let next = adds_at_front c.args.dependents.now c.loop-name.dependents (take i names) (get_or names i 0) c.args.task lt a in
    rw (take_more names i 0 c.loop-name-test.true, c.in_ok-push.ensures) next
