use Rattle.std.proofs.Common.{◌≡◌, ℕ, ◌+◌, ◌<◌, ◌≤◌, List, Option, Vec, drop, get_or, length, map, true, refl, sym, ap, ◌∙◌, subst, arith, vec_capacity}
use Rattle.std.specs.List.{All}
use Rattle.std.specs.Prelude.{sum_by}
use Rattle.std.proofs.lemmas.List.{take_at}
use Rattle.std.proofs.lemmas.List.Elements.{All-map}
use Rattle.std.specs.declared.alloc.Global.{Global}
use Rattle.logbook.specs.Pages.{Book as Ledger}
use Rattle.coordination.specs.Passes.{PassView}
use Rattle.build_workers.specs.Desks.{DeskView, desk_view}
use Rattle.build_runner.specs.Failing.{unreal_seen}
use Rattle.build_workers.specs.Looking.{LooksAt}
use Rattle.build_workers.specs.Worked.{CanWork}
use Rattle.build_workers.specs.WorkerView.{WorkerView}
use Rattle.build_workers.specs.declared.kits.Kit.{Kit}
use Rattle.build_runner.proofs.Failing.{failed_of}
use Rattle.coordination.proofs.lemmas.Numbered.{of_each}
use Rattle.build_runner.proofs.Seated.{each_worked}
use Rattle.build_runner.proofs.Tallied.{in_sum, sum_of_parts}
use Rattle.build_runner.proofs.Watched.{of_map}
use Rattle.build_runner.proofs.runs.run_team.Goals as goal

pub work-requires-clause-ready : goal.work-requires-clause-ready
work-requires-clause-ready g c κs within =
    let can : PassView → Type 0 = CanWork c.args.site.now.service c.args.site.now.graph in
    subst (λ (ws : List WorkerView). All (λ w. can w.pass) ws) (sym c.as_mut_slice.ensures.value) (of_each {W = WorkerView} (λ w. w.pass) can c.seat.new.team.items c.args.passes.now.items (c.seat.ensures.passes ∙ ap (λ (v : Vec PassView Global). v.items) c.replace.ensures.value) c.requires.ready)

pub work-requires-clause-watched : goal.work-requires-clause-watched
work-requires-clause-watched g c κs within =
    let looks : Option Ledger → Type 0 = LooksAt c.args.site.now.service.service in
    let are = c.seat.ensures.watchers ∙ ap (λ (v : Vec Kit Global). map (λ k. k.watcher) v.items) c.replace-3.ensures.value in
    subst (λ (ws : List WorkerView). All (λ w. looks w.watcher) ws) (sym c.as_mut_slice.ensures.value)
    (of_map (λ (w : WorkerView). w.watcher) looks c.seat.new.team.items (subst (All looks) (sym are) (All-map looks (λ (k : Kit). k.watcher) c.args.kits.now.items c.requires.watched)))

pub returns-clause-worked : goal.returns-clause-worked
returns-clause-worked g c = λ i p d low.
    let D : Type 0 = g.row.T-Desk.Denot in
    let view : D → DeskView = desk_view g.T.Desk.Files.files g.T.Desk.Files.faults g.T.Desk.Desk.sends g.T.Desk.Desk.sent in
    let old : List WorkerView = c.as_mut_slice.result.now in
    let new : List WorkerView = c.work.new.team in
    let back = take_at new (drop (length new) c.seat.new.team.items) c.seat.new.team.len (c.work.ensures.len ∙ c.as_mut_slice.ensures.len) in
    each_worked view old new c.work.ensures.len c.args.desks.now.items c.part.new.desks.items c.args.passes.now.items c.part.new.passes.items
    (ap (λ (l : List WorkerView). map (λ w. w.desk) l) c.as_mut_slice.ensures.value ∙ (c.seat.ensures.desks ∙ ap (λ (v : Vec D Global). map view v.items) c.replace-2.ensures.value))
    (c.part.ensures.desks ∙ ap (λ (l : List WorkerView). map (λ w. w.desk) l) back)
    (ap (λ (l : List WorkerView). map (λ w. w.pass) l) c.as_mut_slice.ensures.value ∙ (c.seat.ensures.passes ∙ ap (λ (v : Vec PassView Global). v.items) c.replace.ensures.value))
    (c.part.ensures.passes ∙ ap (λ (l : List WorkerView). map (λ w. w.pass) l) back)
    c.args.site.now c.all_ended-ended.result (λ is. subst (λ (ws : List WorkerView). All (λ w. w.ended ≡ true) ws) (c.as_slice.ensures.value ∙ back) (c.all_ended-ended.ensures is)) c.work.ensures.worked i p d (omega (arith, c.args.desks.now.ok.0, low))

pub returns-clause-reserved : goal.returns-clause-reserved
returns-clause-reserved g c =
    let D : Type 0 = g.row.T-Desk.Denot in
    let view : D → DeskView = desk_view g.T.Desk.Files.files g.T.Desk.Files.faults g.T.Desk.Desk.sends g.T.Desk.Desk.sent in
    let sends : DeskView → ℕ = λ d. d.sent.count in
    let old : List WorkerView = c.as_mut_slice.result.now in
    let new : List WorkerView = c.work.new.team in
    let mine : List D = c.args.desks.now.items in
    let left : List D = c.part.new.desks.items in
    let back = take_at new (drop (length new) c.seat.new.team.items) c.seat.new.team.len (c.work.ensures.len ∙ c.as_mut_slice.ensures.len) in
    let all = in_sum (λ (w : WorkerView). w.desk.sent.count) (λ (w : WorkerView). w.tally.reserved) old new c.work.ensures.len (λ i w low. (c.work.ensures.worked i w low).step.reserved) in
    let before = sum_of_parts (λ (w : WorkerView). w.desk) sends old (map view mine) (ap (λ (l : List WorkerView). map (λ w. w.desk) l) c.as_mut_slice.ensures.value ∙ (c.seat.ensures.desks ∙ ap (λ (v : Vec D Global). map view v.items) c.replace-2.ensures.value)) in
    let after = sum_of_parts (λ (w : WorkerView). w.desk) sends new (map view left) (sym (c.part.ensures.desks ∙ ap (λ (l : List WorkerView). map (λ w. w.desk) l) back)) in
    let sent : sum_by sends (map view mine) ≡ sum_by g.T.Desk.Desk.sends mine = sum_of_parts view sends mine (map view mine) refl in
    let sent_then : sum_by sends (map view left) ≡ sum_by g.T.Desk.Desk.sends left = sum_of_parts view sends left (map view left) refl in
    let begun = ap (λ (l : List WorkerView). sum_by (λ w. w.tally.reserved) l) c.as_mut_slice.ensures.value in
    let gone = ap (λ (l : List WorkerView). sum_by (λ w. w.tally.reserved) l) back in
    omega (arith, all, before, after, sent, sent_then, begun, gone, c.seat.ensures.reserved, c.part.ensures.reserved)

pub returns-clause-failed : goal.returns-clause-failed
returns-clause-failed g c = λ is.
    let old : List WorkerView = c.as_mut_slice.result.now in
    let new : List WorkerView = c.work.new.team in
    let back = take_at new (drop (length new) c.seat.new.team.items) c.seat.new.team.len (c.work.ensures.len ∙ c.as_mut_slice.ensures.len) in
    let ended : All (λ (w : WorkerView). w.ended ≡ true) new = subst (λ (ws : List WorkerView). All (λ w. w.ended ≡ true) ws) (c.as_slice.ensures.value ∙ back) (c.all_ended-ended.ensures is) in
    let each : (i : ℕ) (w : WorkerView) → i < length old → (get_or new i w).tally.failed + unreal_seen (get_or old i w).pass ≤ (get_or old i w).tally.failed + unreal_seen (get_or new i w).pass =
    λ i w low.
    let step = (c.work.ensures.worked i w low).step in
    failed_of (get_or old i w).pass (get_or new i w).pass (get_or old i w).tally (get_or new i w).tally step.proceeds.keeps.worker (step.failed (ended i w (omega (arith, c.work.ensures.len, low)))) in
    let all = in_sum (λ (w : WorkerView). w.tally.failed) (λ (w : WorkerView). unreal_seen w.pass) old new c.work.ensures.len each in
    let before = sum_of_parts (λ (w : WorkerView). w.pass) unreal_seen old c.args.passes.now.items (ap (λ (l : List WorkerView). map (λ w. w.pass) l) c.as_mut_slice.ensures.value ∙ (c.seat.ensures.passes ∙ ap (λ (v : Vec PassView Global). v.items) c.replace.ensures.value)) in
    let after = sum_of_parts (λ (w : WorkerView). w.pass) unreal_seen new c.part.new.passes.items (sym (c.part.ensures.passes ∙ ap (λ (l : List WorkerView). map (λ w. w.pass) l) back)) in
    let begun = ap (λ (l : List WorkerView). sum_by (λ w. w.tally.failed) l) c.as_mut_slice.ensures.value in
    let gone = ap (λ (l : List WorkerView). sum_by (λ w. w.tally.failed) l) back in
    omega (arith, all, before, after, begun, gone, c.seat.ensures.failed, c.part.ensures.failed)

pub returns-clause-watched : goal.returns-clause-watched
returns-clause-watched g c =
    let new : List WorkerView = c.work.new.team in
    let looks : Option Ledger → Type 0 = LooksAt c.args.site.now.service.service in
    let back = take_at new (drop (length new) c.seat.new.team.items) c.seat.new.team.len (c.work.ensures.len ∙ c.as_mut_slice.ensures.len) in
    let each : All (λ (w : WorkerView). looks w.watcher) new = λ i w low. (c.work.ensures.worked i w (omega (arith, c.work.ensures.len, low))).step.of.looks in
    let are = c.part.ensures.watchers ∙ ap (λ (l : List WorkerView). map (λ w. w.watcher) l) back in
    of_map (λ (k : Kit). k.watcher) looks c.part.new.kits.items (subst (All looks) (sym are) (All-map looks (λ (w : WorkerView). w.watcher) new each))

pub seat-requires-clause-same : goal.seat-requires-clause-same
seat-requires-clause-same g c =
    let passes = ap (λ (v : Vec PassView Global). v.len) c.replace.ensures.value in
    let desks = ap (λ (v : Vec g.row.T-Desk.Denot Global). v.len) c.replace-2.ensures.value in
    omega (arith, passes, desks, c.requires.same)

pub seat-requires-clause-kits : goal.seat-requires-clause-kits
seat-requires-clause-kits g c =
    let passes = ap (λ (v : Vec PassView Global). v.len) c.replace.ensures.value in
    let kits = ap (λ (v : Vec Kit Global). length v.items) c.replace-3.ensures.value in
    omega (arith, passes, kits, c.requires.same, c.requires.kits)

pub seat-requires-clause-empty : goal.seat-requires-clause-empty
seat-requires-clause-empty g c κs within = ap (λ r. r.team.items) c.into_inner-team.ensures ∙ c.requires.team.0

pub seat-requires-clause-room : goal.seat-requires-clause-room
seat-requires-clause-room g c =
    let passes = ap (λ (v : Vec PassView Global). v.len) c.replace.ensures.value in
    let room = ap (λ r. vec_capacity r.team) c.into_inner-team.ensures in
    omega (arith, passes, room, c.requires.same, c.requires.team.1)

pub seat-requires-clause-parts : goal.seat-requires-clause-parts
seat-requires-clause-parts g c =
    let passes = ap (λ (v : Vec PassView Global). v.len) c.replace.ensures.value in
    omega (arith, passes, c.requires.same, c.requires.parts)
