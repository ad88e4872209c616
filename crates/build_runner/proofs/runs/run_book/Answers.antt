use Rattle.std.proofs.Common.{◌≡◌, ◌++◌, Box, List, Vec, ℕ, ◌<◌, drop, get_or, length, map, ap, sym, ◌∙◌, subst, arith}
use Rattle.std.specs.List.{All}
use Rattle.std.specs.declared.alloc.Global.{Global}
use Rattle.lock_journal.specs.Names.{GraphView, BookView}
use Rattle.coordination.specs.Passes.{PassView}
use Rattle.build_runner.specs.declared.prepared.OpenedRun.{OpenedRun}
use Rattle.plan_reader.specs.Units.{PlannedUnit, unit_view}
use Rattle.run_watch.specs.declared.boards.Watch.{Watch}
use Rattle.build_runner.specs.Books.{GivesBook, IsClosedBook, Leaves}
use Rattle.build_workers.specs.RunDesks.{desks_view, known_by}
use Rattle.build_workers.specs.Desks.{DeskView, desk_view}
use Rattle.build_workers.specs.Run.{WasBrokenOff}
use Rattle.build_workers.specs.Site.{SiteView}
use Rattle.build_workers.specs.Units.{AllMayAsk}
use Rattle.build_runner.specs.Watching.{HasRoomToLook, IsBoardFor, IsWatchedBy}
use Rattle.build_runner.specs.Worked.{HasComeToTheEnd, WasThere}
use Rattle.plan_reader.specs.declared.units.UnitWork.{UnitWork}
use Rattle.build_runner.proofs.AtFirst.{from_ok}
use Rattle.build_runner.proofs.Begun.{IsBegun, pass_count, pass_numbers}
use Rattle.build_runner.proofs.Failing.{unreal_at_end, unreal_at_first}
use Rattle.build_runner.proofs.Joined.{all_come, all_leave, all_were_there, left_numbers, left_service}
use Rattle.build_workers.proofs.lemmas.Results.{at_err}
use Rattle.build_runner.proofs.PlannedUnits.{units_of_graph}
use Rattle.build_runner.proofs.Untouched.{leaves_all}
use Rattle.build_runner.proofs.lemmas.Within.{nothing_done}
use Rattle.build_runner.proofs.runs.run_book.Goals as goal

-- a book, and what was seen
abbrev Ran : Type 0
Ran = Box BookView Global × Vec Watch Global

pub run_team-ended-requires-clause-same : goal.run_team-ended-requires-clause-same
run_team-ended-requires-clause-same g c κs within =
    let start = c.in_ok-prepared.ensures in
    let begun = c.deref_mut-parts.result.now in
    let opened = subst (IsBegun c.in_ok-prepared.prepared.graph) (sym c.deref_mut-parts.ensures.value) start.opened in
    let size = c.in_ok-rest.ensures.len in
    let count = pass_count start begun.service begun.passes.items opened in
    omega (arith, size, count, begun.passes.ok.0)

pub run_team-ended-requires-clause-watched : goal.run_team-ended-requires-clause-watched
run_team-ended-requires-clause-watched g c κs within =
    subst (λ (o : OpenedRun _). All (IsWatchedBy o.service.service) c.in_ok-prepared.prepared.kits.items) (sym c.deref_mut-parts.ensures.value) c.in_ok-prepared.ensures.watched

pub run_team-ended-requires-clause-ready : goal.run_team-ended-requires-clause-ready
run_team-ended-requires-clause-ready g c κs within =
    (subst (IsBegun c.in_ok-prepared.prepared.graph) (sym c.deref_mut-parts.ensures.value) c.in_ok-prepared.ensures.opened).ready

pub invariant_of-site : goal.invariant_of-site
invariant_of-site g c =
    let options = c.args.input.now.options.now in
    let start = c.in_ok-prepared.ensures in
    let units = ap (λ (us : List UnitWork). map unit_view us) c.deref.ensures.value ∙ start.units in (
      units_of_graph c.args.input.now.plan.now options.workers options.max_leases options.parallel c.in_ok-prepared.prepared.graph (map unit_view c.deref.result.now) c.tasks.ensures.plan c.tasks-2.ensures.fits start.graph units,
      subst (AllMayAsk g.T.Reserved.ReservationLedger.asks) (sym units) c.requires.asks,
    )

pub close_run-requires-clause-graph : goal.close_run-requires-clause-graph
close_run-requires-clause-graph g c =
    let start = c.in_ok-prepared.ensures in
    ap (λ (o : OpenedRun _). o.service.book.graph) c.deref_mut-parts.ensures.value ∙ (start.opened.graph ∙ start.graph)

pub board_of-board-requires-clause-some : goal.board_of-board-requires-clause-some
board_of-board-requires-clause-some g c =
    let left = ap (λ (ps : List PassView). length ps) c.deref-2.ensures.value in
    omega (arith, left, c.run_team-ended.ensures.passes, c.in_ok-rest.ensures.len, c.requires.some_worker)

pub board_of-board-requires-clause-watched : goal.board_of-board-requires-clause-watched
board_of-board-requires-clause-watched g c =
    let D : Type 0 = g.row.T-Desk.Denot in
    let n = c.args.input.now.options.now.workers in
    let old : List D = c.args.desks.now.items in
    let worked : List D = c.run_team-ended.new.desks.items in
    let start = c.in_ok-prepared.ensures in
    let team = c.run_team-ended.ensures in
    let begun = c.deref_mut-parts.result.now in
    let opened = subst (IsBegun c.in_ok-prepared.prepared.graph) (sym c.deref_mut-parts.ensures.value) start.opened in
    let site : SiteView = record { service = begun.service; graph = c.in_ok-prepared.prepared.graph; units = map unit_view c.deref.result.now } in
    let view : D → DeskView = desk_view g.T.Desk.Files.files g.T.Desk.Files.faults g.T.Desk.Desk.sends g.T.Desk.Desk.sent in
    let size : c.split_off.new.self.len ≡ n = c.in_ok-rest.ensures.len in
    let count = pass_count start begun.service begun.passes.items opened in
    let left = left_service view site n c.run_team-ended.result old c.split_off.new.self.items worked begun.passes.items c.run_team-ended.new.passes.items
    c.requires.enough c.in_ok-rest.ensures.items count (team.desks ∙ size) (team.passes ∙ size) (λ i p d low. team.worked i p d (omega (arith, size, low))) in
    (begun.service.service, subst (λ (ps : List PassView). All (λ p. p.service ≡ begun.service.service) ps) (sym c.deref-2.ensures.value) left, team.watched)

pub close_run-requires-clause-watched : goal.close_run-requires-clause-watched
close_run-requires-clause-watched g c =
    let start = c.in_ok-prepared.ensures in
    let looks = c.in_ok-prepared.prepared.looks in
    let units = ap (λ (o : OpenedRun _). o.service.book.graph.units) c.deref_mut-parts.ensures.value ∙ ap (λ (k : GraphView). k.units) start.opened.graph in (
      looks,
      subst (λ (n : ℕ). HasRoomToLook c.args.input.now.options.now.watch n looks) (sym units) start.looks,
      subst (λ (ps : List PassView). IsBoardFor ps looks c.board_of-board.result) c.deref-2.ensures.value c.board_of-board.ensures,
    )

pub close_run-requires-clause-service : goal.close_run-requires-clause-service
close_run-requires-clause-service g c =
    let D : Type 0 = g.row.T-Desk.Denot in
    let n = c.args.input.now.options.now.workers in
    let old : List D = c.args.desks.now.items in
    let worked : List D = c.run_team-ended.new.desks.items in
    let start = c.in_ok-prepared.ensures in
    let team = c.run_team-ended.ensures in
    let begun = c.deref_mut-parts.result.now in
    let opened = subst (IsBegun c.in_ok-prepared.prepared.graph) (sym c.deref_mut-parts.ensures.value) start.opened in
    let site : SiteView = record { service = begun.service; graph = c.in_ok-prepared.prepared.graph; units = map unit_view c.deref.result.now } in
    let view : D → DeskView = desk_view g.T.Desk.Files.files g.T.Desk.Files.faults g.T.Desk.Desk.sends g.T.Desk.Desk.sent in
    let size : c.split_off.new.self.len ≡ n = c.in_ok-rest.ensures.len in
    let count = pass_count start begun.service begun.passes.items opened in
    left_service view site n c.run_team-ended.result old c.split_off.new.self.items worked begun.passes.items c.run_team-ended.new.passes.items
    c.requires.enough c.in_ok-rest.ensures.items count (team.desks ∙ size) (team.passes ∙ size) (λ i p d low. team.worked i p d (omega (arith, size, low)))

pub close_run-requires-clause-workers : goal.close_run-requires-clause-workers
close_run-requires-clause-workers g c =
    let D : Type 0 = g.row.T-Desk.Denot in
    let n = c.args.input.now.options.now.workers in
    let old : List D = c.args.desks.now.items in
    let worked : List D = c.run_team-ended.new.desks.items in
    let start = c.in_ok-prepared.ensures in
    let team = c.run_team-ended.ensures in
    let begun = c.deref_mut-parts.result.now in
    let opened = subst (IsBegun c.in_ok-prepared.prepared.graph) (sym c.deref_mut-parts.ensures.value) start.opened in
    let site : SiteView = record { service = begun.service; graph = c.in_ok-prepared.prepared.graph; units = map unit_view c.deref.result.now } in
    let view : D → DeskView = desk_view g.T.Desk.Files.files g.T.Desk.Files.faults g.T.Desk.Desk.sends g.T.Desk.Desk.sent in
    let size : c.split_off.new.self.len ≡ n = c.in_ok-rest.ensures.len in
    let count = pass_count start begun.service begun.passes.items opened in
    left_numbers view site n c.run_team-ended.result old c.split_off.new.self.items worked begun.passes.items c.run_team-ended.new.passes.items
    c.requires.enough c.in_ok-rest.ensures.items count (team.desks ∙ size) (team.passes ∙ size) (λ i p d low. team.worked i p d (omega (arith, size, low))) (pass_numbers start begun.service begun.passes.items opened)

pub returns-clause-leaves : goal.returns-clause-leaves
returns-clause-leaves g c =
    let D : Type 0 = g.row.T-Desk.Denot in
    let n = c.args.input.now.options.now.workers in
    let old : List D = c.args.desks.now.items in
    let worked : List D = c.run_team-ended.new.desks.items in
    let start = c.in_ok-prepared.ensures in
    let team = c.run_team-ended.ensures in
    let begun = c.deref_mut-parts.result.now in
    let opened = subst (IsBegun c.in_ok-prepared.prepared.graph) (sym c.deref_mut-parts.ensures.value) start.opened in
    let site : SiteView = record { service = begun.service; graph = c.in_ok-prepared.prepared.graph; units = map unit_view c.deref.result.now } in
    let view : D → DeskView = desk_view g.T.Desk.Files.files g.T.Desk.Files.faults g.T.Desk.Desk.sends g.T.Desk.Desk.sent in
    let size : c.split_off.new.self.len ≡ n = c.in_ok-rest.ensures.len in
    let count = pass_count start begun.service begun.passes.items opened in
    let new : List D = c.put_behind.new.desks.items in
    let back : new ≡ worked ++ drop n old = c.put_behind.ensures ∙ ap (λ (l : List D). worked ++ l) c.in_ok-rest.ensures.tail in
    all_leave view site n c.run_team-ended.result old c.split_off.new.self.items worked begun.passes.items c.run_team-ended.new.passes.items
    c.requires.enough c.in_ok-rest.ensures.items count (team.desks ∙ size) (team.passes ∙ size) (λ i p d low. team.worked i p d (omega (arith, size, low))) new back c.args.tallies.now c.run_team-ended.new.tallies team.parts team.reserved

pub returns-clause-run : goal.returns-clause-run
returns-clause-run g c =
    let D : Type 0 = g.row.T-Desk.Denot in
    let n = c.args.input.now.options.now.workers in
    let old : List D = c.args.desks.now.items in
    let worked : List D = c.run_team-ended.new.desks.items in
    let start = c.in_ok-prepared.ensures in
    let team = c.run_team-ended.ensures in
    let begun = c.deref_mut-parts.result.now in
    let opened = subst (IsBegun c.in_ok-prepared.prepared.graph) (sym c.deref_mut-parts.ensures.value) start.opened in
    let site : SiteView = record { service = begun.service; graph = c.in_ok-prepared.prepared.graph; units = map unit_view c.deref.result.now } in
    let view : D → DeskView = desk_view g.T.Desk.Files.files g.T.Desk.Files.faults g.T.Desk.Desk.sends g.T.Desk.Desk.sent in
    let size : c.split_off.new.self.len ≡ n = c.in_ok-rest.ensures.len in
    let count = pass_count start begun.service begun.passes.items opened in
    let new : List D = c.put_behind.new.desks.items in
    let back : new ≡ worked ++ drop n old = c.put_behind.ensures ∙ ap (λ (l : List D). worked ++ l) c.in_ok-rest.ensures.tail in
    let units = ap (λ (us : List UnitWork). map unit_view us) c.deref.ensures.value ∙ start.units in
    let first = unreal_at_first begun.passes.items (λ i p low. opened.untouched i p low) in
    from_ok (λ (ran : Ran). IsClosedBook c.args.input.now.plan.now c.args.input.now.options.now c.run_team-ended.result c.run_team-ended.new.passes.items ran.0.value ran.1.items)
    (λ (ran : Ran). GivesBook view c.args.input.now.plan.now c.args.input.now.options.now old new c.args.tallies.now c.run_team-ended.new.tallies ran.0.value ran.1.items) c.close_run.result c.close_run.ensures.run
    (λ ran closed. record {
      run = λ d. closed.run (desks_view view old d) (desks_view view new d)
          (subst (λ (us : List PlannedUnit). (i : ℕ) (p : PassView) → i < n
          → HasComeToTheEnd (known_by n (desks_view view old d)) us (view (get_or old i d)) (view (get_or new i d)) (get_or c.run_team-ended.new.passes.items i p)) units
          (all_come view site n c.run_team-ended.result old c.split_off.new.self.items worked begun.passes.items c.run_team-ended.new.passes.items
          c.requires.enough c.in_ok-rest.ensures.items count (team.desks ∙ size) (team.passes ∙ size) (λ i p d low. team.worked i p d (omega (arith, size, low)))
          new back opened.untouched d (c.requires.alike d) closed.ended));
      watch = closed.watch;
      failed =
          let last = unreal_at_end c.run_team-ended.new.passes.items n ran.0.value.history (team.passes ∙ size) closed.closings in
          let failed = team.failed closed.ended in
          omega (arith, failed, first, last);
    })

pub returns-clause-broken_off : goal.returns-clause-broken_off
returns-clause-broken_off g c =
    let D : Type 0 = g.row.T-Desk.Denot in
    let n = c.args.input.now.options.now.workers in
    let old : List D = c.args.desks.now.items in
    let worked : List D = c.run_team-ended.new.desks.items in
    let start = c.in_ok-prepared.ensures in
    let team = c.run_team-ended.ensures in
    let begun = c.deref_mut-parts.result.now in
    let opened = subst (IsBegun c.in_ok-prepared.prepared.graph) (sym c.deref_mut-parts.ensures.value) start.opened in
    let site : SiteView = record { service = begun.service; graph = c.in_ok-prepared.prepared.graph; units = map unit_view c.deref.result.now } in
    let view : D → DeskView = desk_view g.T.Desk.Files.files g.T.Desk.Files.faults g.T.Desk.Desk.sends g.T.Desk.Desk.sent in
    let size : c.split_off.new.self.len ≡ n = c.in_ok-rest.ensures.len in
    let count = pass_count start begun.service begun.passes.items opened in
    let new : List D = c.put_behind.new.desks.items in
    let back : new ≡ worked ++ drop n old = c.put_behind.ensures ∙ ap (λ (l : List D). worked ++ l) c.in_ok-rest.ensures.tail in
    let units = ap (λ (us : List UnitWork). map unit_view us) c.deref.ensures.value ∙ start.units in
    λ d. at_err c.close_run.result (c.close_run.ensures.broken_off (desks_view view old d) (desks_view view new d)
    (subst (λ (us : List PlannedUnit). (i : ℕ) (p : PassView) → i < n
    → WasThere us (view (get_or old i d)) (view (get_or new i d)) (get_or c.run_team-ended.new.passes.items i p)) units
    (all_were_there view site n c.run_team-ended.result old c.split_off.new.self.items worked begun.passes.items c.run_team-ended.new.passes.items
    c.requires.enough c.in_ok-rest.ensures.items count (team.desks ∙ size) (team.passes ∙ size) (λ i p d low. team.worked i p d (omega (arith, size, low)))
    new back opened.untouched d)))

pub returns-in_err-room-clause-leaves : goal.returns-in_err-room-clause-leaves
returns-in_err-room-clause-leaves g c = leaves_all (desk_view g.T.Desk.Files.files g.T.Desk.Files.faults g.T.Desk.Desk.sends g.T.Desk.Desk.sent) c.args.input.now.options.now.workers c.args.desks.now.items c.args.tallies.now

pub returns-in_err-room-clause-broken_off : goal.returns-in_err-room-clause-broken_off
returns-in_err-room-clause-broken_off g c = λ d. at_err _ (nothing_done c.args.input.now.plan.now c.args.input.now.options.now (desks_view (desk_view g.T.Desk.Files.files g.T.Desk.Files.faults g.T.Desk.Desk.sends g.T.Desk.Desk.sent) c.args.desks.now.items d))

pub returns-in_err-prepared-clause-leaves : goal.returns-in_err-prepared-clause-leaves
returns-in_err-prepared-clause-leaves g c = leaves_all (desk_view g.T.Desk.Files.files g.T.Desk.Files.faults g.T.Desk.Desk.sends g.T.Desk.Desk.sent) c.args.input.now.options.now.workers c.args.desks.now.items c.args.tallies.now

pub returns-in_err-prepared-clause-broken_off : goal.returns-in_err-prepared-clause-broken_off
returns-in_err-prepared-clause-broken_off g c = λ d. at_err _ (nothing_done c.args.input.now.plan.now c.args.input.now.options.now (desks_view (desk_view g.T.Desk.Files.files g.T.Desk.Files.faults g.T.Desk.Desk.sends g.T.Desk.Desk.sent) c.args.desks.now.items d))

pub returns-in_err-rest-clause-leaves : goal.returns-in_err-rest-clause-leaves
returns-in_err-rest-clause-leaves g c =
    let D : Type 0 = g.row.T-Desk.Denot in
    let view : D → DeskView = desk_view g.T.Desk.Files.files g.T.Desk.Files.faults g.T.Desk.Desk.sends g.T.Desk.Desk.sent in
    let n = c.args.input.now.options.now.workers in
    subst (λ (v : Vec D Global). Leaves view n c.args.desks.now.items v.items c.args.tallies.now c.args.tallies.now) (sym c.in_err-rest.ensures.err) (leaves_all view n c.args.desks.now.items c.args.tallies.now)

pub returns-in_err-rest-clause-broken_off : goal.returns-in_err-rest-clause-broken_off
returns-in_err-rest-clause-broken_off g c = λ d.
    let D : Type 0 = g.row.T-Desk.Denot in
    let view : D → DeskView = desk_view g.T.Desk.Files.files g.T.Desk.Files.faults g.T.Desk.Desk.sends g.T.Desk.Desk.sent in
    let before = desks_view view c.args.desks.now.items d in
    at_err _ (subst (λ (v : Vec D Global). WasBrokenOff c.args.input.now.plan.now c.args.input.now.options.now before (desks_view view v.items d)) (sym c.in_err-rest.ensures.err) (nothing_done c.args.input.now.plan.now c.args.input.now.options.now before))
