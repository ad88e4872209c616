use Rattle.std.proofs.Common.{◌≡◌, List, length, map, refl, sym, ap, ◌∙◌, arith}
use Rattle.std.specs.Prelude.{sum_by}
use Rattle.std.proofs.lemmas.List.{length_push}
use Rattle.std.proofs.lemmas.List.Sums.{sum_by_push}
use Rattle.coordination.specs.Passes.{PassView}
use Rattle.build_workers.specs.Desks.{desk_view}
use Rattle.build_workers.specs.WorkerView.{WorkerView}
use Rattle.build_workers.specs.declared.kits.Kit.{Kit}
use Rattle.build_runner.proofs.Seating.{all_moved, and_one, and_one_seen, moved}
use Rattle.build_runner.proofs.team.part.Goals as goal

pub loop-worker-init : goal.loop-worker-init
loop-worker-init g c =
    let none = c.requires.empty in
    let room = c.requires.room in
    let gives = c.into_iter-worker-iterator.ensures.into_iter_gives in
    let passes = ap (λ (l : List PassView). length l) none.0 in
    let desks = ap (λ (l : List g.row.T-Desk.Denot). length l) none.1 in
    let kits = ap (λ (l : List Kit). length l) none.2 in (
      sym gives.0,
      none.0,
      ap (map (desk_view g.T.Desk.Files.files g.T.Desk.Files.faults g.T.Desk.Desk.sends g.T.Desk.Desk.sent)) none.1,
      omega (arith, passes, gives.1, room.0, c.args.passes.now.ok.0),
      omega (arith, desks, gives.1, room.1, c.args.desks.now.ok.0),
      ap (map (λ (k : Kit). k.watcher)) none.2,
      omega (arith, kits, gives.1, room.2, c.args.kits.now.ok.0),
      refl,
      omega arith,
      omega arith,
      omega arith,
    )

pub loop-worker-preserved : goal.loop-worker-preserved
loop-worker-preserved g c =
    let inv = c.loop-worker.invariant in
    let ws = c.loop-worker.yielded in
    let w = c.in-Some.worker in
    let x = c.worker.inside in
    let is = c.worker.view_is in
    let step = c.in-Some.ensures.steps in
    let passes = c.push_reserved.ensures in
    let desks = c.push_reserved-in-loop-worker.ensures in
    let kits = c.push_reserved-in-loop-worker-2.ensures in
    let tally = c.merge.ensures in (
      moved c.args.team.items ws w inv.0 step.0,
      and_one (λ (v : WorkerView). v.pass) c.loop-worker.passes.items ws x.pass w passes.items inv.1 (ap (λ (v : WorkerView). v.pass) is),
      and_one_seen (desk_view g.T.Desk.Files.files g.T.Desk.Files.faults g.T.Desk.Desk.sends g.T.Desk.Desk.sent) (λ (v : WorkerView). v.desk) c.loop-worker.desks.items ws x.desk w desks.items inv.2 (ap (λ (v : WorkerView). v.desk) is),
      omega (arith, inv.3, step.1, passes.len, passes.capacity),
      omega (arith, inv.4, step.1, desks.len, desks.capacity),
      and_one_seen (λ (k : Kit). k.watcher) (λ (v : WorkerView). v.watcher) c.loop-worker.kits.items ws x.kit w kits.items inv.5 (ap (λ (v : WorkerView). v.watcher) is),
      omega (arith, inv.6, step.1, kits.len, kits.capacity),
      desks.capacity ∙ inv.7,
      omega (arith, inv.8, tally.parts, length_push ws w),
      omega (arith, inv.9, tally.reserved, sum_by_push (λ (v : WorkerView). v.tally.reserved) ws w, ap (λ (v : WorkerView). v.tally.reserved) is),
      omega (arith, inv.10, tally.failed, sum_by_push (λ (v : WorkerView). v.tally.failed) ws w, ap (λ (v : WorkerView). v.tally.failed) is),
    )

pub returns-clause-passes : goal.returns-clause-passes
returns-clause-passes g c =
    let inv = c.loop-worker.invariant in
    let rest = c.loop-worker.worker-iterator in
    let none : length rest.rest.items ≡ 0 = omega (arith, rest.rest.ok.0, c.in-None.ensures.steps.0) in
    let all = all_moved c.args.team.items c.loop-worker.yielded rest.rest.items inv.0 none in
    inv.1 ∙ ap (map (λ (v : WorkerView). v.pass)) (sym all)

pub returns-clause-desks : goal.returns-clause-desks
returns-clause-desks g c =
    let inv = c.loop-worker.invariant in
    let rest = c.loop-worker.worker-iterator in
    let none : length rest.rest.items ≡ 0 = omega (arith, rest.rest.ok.0, c.in-None.ensures.steps.0) in
    let all = all_moved c.args.team.items c.loop-worker.yielded rest.rest.items inv.0 none in
    inv.2 ∙ ap (map (λ (v : WorkerView). v.desk)) (sym all)

pub returns-clause-watchers : goal.returns-clause-watchers
returns-clause-watchers g c =
    let inv = c.loop-worker.invariant in
    let rest = c.loop-worker.worker-iterator in
    let none : length rest.rest.items ≡ 0 = omega (arith, rest.rest.ok.0, c.in-None.ensures.steps.0) in
    let all = all_moved c.args.team.items c.loop-worker.yielded rest.rest.items inv.0 none in
    inv.5 ∙ ap (map (λ (v : WorkerView). v.watcher)) (sym all)

pub returns-clause-parts : goal.returns-clause-parts
returns-clause-parts g c =
    let inv = c.loop-worker.invariant in
    let rest = c.loop-worker.worker-iterator in
    let none : length rest.rest.items ≡ 0 = omega (arith, rest.rest.ok.0, c.in-None.ensures.steps.0) in
    let all = all_moved c.args.team.items c.loop-worker.yielded rest.rest.items inv.0 none in
    omega (arith, inv.8, ap (λ (l : List WorkerView). length l) all, c.args.team.ok.0)

pub returns-clause-reserved : goal.returns-clause-reserved
returns-clause-reserved g c =
    let inv = c.loop-worker.invariant in
    let rest = c.loop-worker.worker-iterator in
    let none : length rest.rest.items ≡ 0 = omega (arith, rest.rest.ok.0, c.in-None.ensures.steps.0) in
    let all = all_moved c.args.team.items c.loop-worker.yielded rest.rest.items inv.0 none in
    omega (arith, inv.9, ap (λ (l : List WorkerView). sum_by (λ v. v.tally.reserved) l) all)

pub returns-clause-failed : goal.returns-clause-failed
returns-clause-failed g c =
    let inv = c.loop-worker.invariant in
    let rest = c.loop-worker.worker-iterator in
    let none : length rest.rest.items ≡ 0 = omega (arith, rest.rest.ok.0, c.in-None.ensures.steps.0) in
    let all = all_moved c.args.team.items c.loop-worker.yielded rest.rest.items inv.0 none in
    omega (arith, inv.10, ap (λ (l : List WorkerView). sum_by (λ v. v.tally.failed) l) all)

pub returns-clause-capacity : goal.returns-clause-capacity
returns-clause-capacity g c = c.loop-worker.invariant.7
