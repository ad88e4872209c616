use Rattle.std.proofs.Common.{◌≡◌, List, [], ◌∷◌, ◌++◌, false, length, map, refl, sym, ap, ◌∙◌, arith}
use Rattle.std.specs.Prelude.{sum_by}
use Rattle.std.proofs.lemmas.List.{length_push, map_push}
use Rattle.std.proofs.lemmas.List.Sums.{sum_by_push}
use Rattle.coordination.specs.Passes.{PassView}
use Rattle.build_workers.specs.Desks.{desk_view}
use Rattle.build_workers.specs.WorkerView.{WorkerView}
use Rattle.build_workers.specs.declared.kits.Kit.{Kit}
use Rattle.build_runner.proofs.Seating.{all_moved, all_taken, moved, one_taken}
use Rattle.build_runner.proofs.team.seat.Goals as goal

pub loop-pass-init : goal.loop-pass-init
loop-pass-init g c =
    let gives = c.into_iter-pass-iterator.ensures.into_iter_gives in
    let desks = c.into_iter-rest.ensures in
    let kits = c.into_iter-rest_of_kits.ensures in
    let none = c.requires.empty in
    let few = ap (λ (l : List WorkerView). length l) none in
    let reserved = ap (λ (l : List WorkerView). sum_by (λ v. v.tally.reserved) l) none in
    let failed = ap (λ (l : List WorkerView). sum_by (λ v. v.tally.failed) l) none in (
      sym gives.0,
      ap (map (desk_view g.T.Desk.Files.files g.T.Desk.Files.faults g.T.Desk.Desk.sends g.T.Desk.Desk.sent)) (sym desks.rest) ∙ ap (λ (l : List WorkerView). map (λ v. v.desk) l ++ map (desk_view g.T.Desk.Files.files g.T.Desk.Files.faults g.T.Desk.Desk.sends g.T.Desk.Desk.sent) (c.into_iter-rest.result.rest.items)) (sym none),
      ap (map (λ (v : WorkerView). v.pass)) none,
      omega (arith, desks.len, gives.1, c.requires.same),
      ap (map (λ (k : Kit). k.watcher)) (sym kits.rest) ∙ ap (λ (l : List WorkerView). map (λ v. v.watcher) l ++ map (λ (k : Kit). k.watcher) (c.into_iter-rest_of_kits.result.rest.items)) (sym none),
      omega (arith, kits.len, gives.1, c.requires.kits, c.args.kits.ok.0),
      omega (arith, few, gives.1, c.requires.room, c.args.team.now.ok.0),
      omega arith,
      omega (arith, gives.1, c.requires.parts),
      omega (arith, reserved),
      omega (arith, failed),
    )

pub loop-pass-preserved : goal.loop-pass-preserved
loop-pass-preserved g c =
    let inv = c.loop-pass.invariant in
    let ws = c.loop-pass.team.items in
    let step = c.in-Some.ensures.steps in
    let desk = c.in-Some-next.ensures in
    let kit = c.in-Some-next-2.ensures in
    let put = c.push_reserved.ensures in
    let tally = c.split_off.ensures in
    let w : WorkerView = record { pass = c.in-Some.pass; desk = (desk_view g.T.Desk.Files.files g.T.Desk.Files.faults g.T.Desk.Desk.sends g.T.Desk.Desk.sent) c.in-Some-next.desk; tally = c.split_off.result; watcher = c.in-Some-next-2.kit.watcher; ended = false } in
    let items : c.push_reserved.new.self.items ≡ ws ++ w ∷ [] = put.items in (
      moved c.args.passes.items c.loop-pass.yielded c.in-Some.pass inv.0 step.0,
      one_taken (desk_view g.T.Desk.Files.files g.T.Desk.Files.faults g.T.Desk.Desk.sends g.T.Desk.Desk.sent) (λ (v : WorkerView). v.desk) (map (desk_view g.T.Desk.Files.files g.T.Desk.Files.faults g.T.Desk.Desk.sends g.T.Desk.Desk.sent) c.args.desks.items) ws c.in-Some-next.desk w inv.1 desk.items items refl,
      ap (map (λ (v : WorkerView). v.pass)) items ∙ (map_push (λ (v : WorkerView). v.pass) ws w ∙ ap (λ l. l ++ c.in-Some.pass ∷ []) inv.2),
      omega (arith, inv.3, step.1, desk.len),
      one_taken (λ (k : Kit). k.watcher) (λ (v : WorkerView). v.watcher) (map (λ (k : Kit). k.watcher) c.args.kits.items) ws c.in-Some-next-2.kit w inv.4 kit.items items refl,
      omega (arith, inv.5, step.1, kit.len),
      omega (arith, inv.6, step.1, put.len, put.capacity),
      omega (arith, inv.7, tally.parts, length_push c.loop-pass.yielded c.in-Some.pass),
      omega (arith, inv.8, step.1, length_push c.loop-pass.yielded c.in-Some.pass),
      omega (arith, inv.9, tally.reserved, ap (λ (l : List WorkerView). sum_by (λ v. v.tally.reserved) l) items, sum_by_push (λ (v : WorkerView). v.tally.reserved) ws w, ap (λ t. t.reserved) tally.tally),
      omega (arith, inv.10, tally.failed, ap (λ (l : List WorkerView). sum_by (λ v. v.tally.failed) l) items, sum_by_push (λ (v : WorkerView). v.tally.failed) ws w, ap (λ t. t.failed) tally.tally),
    )

pub returns-clause-passes : goal.returns-clause-passes
returns-clause-passes g c =
    let inv = c.loop-pass.invariant in
    let rest = c.loop-pass.pass-iterator in
    let none : length rest.rest.items ≡ 0 = omega (arith, rest.rest.ok.0, c.in-None.ensures.steps.0) in
    inv.2 ∙ sym (all_moved c.args.passes.items c.loop-pass.yielded rest.rest.items inv.0 none)

pub returns-clause-desks : goal.returns-clause-desks
returns-clause-desks g c =
    let inv = c.loop-pass.invariant in
    let rest = c.loop-pass.pass-iterator in
    let none : length rest.rest.items ≡ 0 = omega (arith, rest.rest.ok.0, c.in-None.ensures.steps.0) in
    all_taken (desk_view g.T.Desk.Files.files g.T.Desk.Files.faults g.T.Desk.Desk.sends g.T.Desk.Desk.sent) (λ (v : WorkerView). v.desk) (map (desk_view g.T.Desk.Files.files g.T.Desk.Files.faults g.T.Desk.Desk.sends g.T.Desk.Desk.sent) c.args.desks.items) c.loop-pass.team.items c.loop-pass.rest.rest.items inv.1 (omega (arith, inv.3, c.loop-pass.rest.rest.ok.0, c.in-None.ensures.steps.0))

pub returns-clause-watchers : goal.returns-clause-watchers
returns-clause-watchers g c =
    let inv = c.loop-pass.invariant in
    let rest = c.loop-pass.pass-iterator in
    let none : length rest.rest.items ≡ 0 = omega (arith, rest.rest.ok.0, c.in-None.ensures.steps.0) in
    all_taken (λ (k : Kit). k.watcher) (λ (v : WorkerView). v.watcher) (map (λ (k : Kit). k.watcher) c.args.kits.items) c.loop-pass.team.items c.loop-pass.rest_of_kits.rest.items inv.4 (omega (arith, inv.5, c.loop-pass.rest_of_kits.rest.ok.0, c.in-None.ensures.steps.0))

pub returns-clause-parts : goal.returns-clause-parts
returns-clause-parts g c =
    let inv = c.loop-pass.invariant in
    let rest = c.loop-pass.pass-iterator in
    let none : length rest.rest.items ≡ 0 = omega (arith, rest.rest.ok.0, c.in-None.ensures.steps.0) in
    omega (arith, inv.7, ap (λ (l : List PassView). length l) (all_moved c.args.passes.items c.loop-pass.yielded rest.rest.items inv.0 none), c.args.passes.ok.0)

pub returns-clause-reserved : goal.returns-clause-reserved
returns-clause-reserved g c = c.loop-pass.invariant.9

pub returns-clause-failed : goal.returns-clause-failed
returns-clause-failed g c = c.loop-pass.invariant.10
