use Rattle.std.proofs.Common.{◌≡◌, List, refl, subst, sym}
use Rattle.daemon_manager.specs.Asking.{AreAskedFor}
use Rattle.daemon_manager.specs.declared.events.Event.{Event}
use Rattle.build_workers.specs.Desks.{DeskView, desk_view}
use Rattle.build_workers.proofs.lemmas.FirstDesk.{of_each}
use Rattle.build_runner.proofs.daemons.close_pool.Goals as goal

pub returns-clause-desks : goal.returns-clause-desks
returns-clause-desks g c = λ i d.
    let view : g.row.D.Denot → DeskView = desk_view g.D.Files.files g.D.Files.faults g.D.Desk.sends g.D.Desk.sent in
    of_each (λ x y. view y ≡ view x) c.args.desks.now.items c.index_mut.result.now c.stop_idle.new.desk i d c.requires.some c.index_mut.ensures.value (λ x. refl) c.stop_idle.ensures.desk

pub returns-clause-units : goal.returns-clause-units
returns-clause-units g c = subst (λ (events : List Event). AreAskedFor g.U.ReservationLedger.asks events) (sym c.into_events.ensures.value) c.audit.ensures.units
