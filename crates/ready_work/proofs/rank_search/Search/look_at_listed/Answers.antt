use Rattle.std.proofs.Common.{◌≤◌, length, sym, arith}
use Rattle.std.proofs.lemmas.List.{length-map}
use Rattle.ready_work.specs.Rank.{lists_of}
use Rattle.ready_work.specs.Search.{work_left}
use Rattle.ready_work.proofs.Listed.{listed_step, none_listed}
use Rattle.ready_work.proofs.rank_search.Search.look_at_listed.Goals as goal

pub loop-task-preserved : goal.loop-task-preserved
loop-task-preserved c =
    let looks = c.in_ok-look_at.ensures.looks in
    let less : work_left c.look_at.new.self ≤ work_left c.loop-task.self = looks.work in
    let before : work_left c.loop-task.self ≤ work_left c.args.self.now = c.loop-task.invariant.2 in (
      c.in_ok-look_at.ensures.sound,
      listed_step (lists_of c.args.rows.now) c.args.popped c.args.list.now c.loop-task.task-index c.loop-task.self c.look_at.new.self c.loop-task-test.true looks c.loop-task.invariant.1,
      omega (arith, less, before),
    )

pub returns-clause-waits : goal.returns-clause-waits
returns-clause-waits c =
    none_listed (lists_of c.args.rows.now) c.args.popped (length c.args.rows.now) c.args.list.now c.loop-task.task-index c.loop-task.self
    (sym (length-map c.args.rows.now (λ row. row.items))) c.loop-task-test.false c.loop-task.invariant.1
