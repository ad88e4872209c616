use Rattle.std.proofs.Common.{◌≡◌, ◌+◌, ◌<◌, ◌++◌, ◌∷◌, [], sym, ap, ◌∙◌, subst, arith, refl, get_or, IsSomeAnd}
use Rattle.std.proofs.lemmas.Option.{get_or_from_slice_get}
use Rattle.daemon_manager.specs.declared.event_log.Daemon.{Daemon}
use Rattle.daemon_manager.specs.Events.{daemon_of, pool}
use Rattle.daemon_manager.specs.EventLogView.{EventLogView, one_if_busy}
use Rattle.daemon_manager.proofs.EventLogKept.{at_most_one, busy_bound, known_of, noted, noted_busy}
use Rattle.daemon_manager.proofs.event_log.EventLog.note.Goals as goal

pub overflow_add-self : goal.overflow_add-self
overflow_add-self c =
    let inside = c.self.inside in
    omega (arith, busy_bound inside.events.items inside.daemons.items inside.busy c.self.invariant, c.one_if_busy.ensures, at_most_one c.state-state.result, inside.daemons.ok.0, inside.daemons.ok.1, inside.daemons.small)

pub overflow_sub-self : goal.overflow_sub-self
overflow_sub-self c =
    let inside = c.self.inside in
    let found = known_of inside.events.items inside.daemons.items inside.busy c.self.invariant (daemon_of c.args.event) c.args.before (subst (λ (v : EventLogView). IsSomeAnd (pool v.events (daemon_of c.args.event)) (λ x. x.state ≡ c.args.before)) (sym c.self.view_is) c.requires.known) in
    let sums = noted_busy inside.events.items inside.daemons.items inside.busy c.self.invariant c.args.event (daemon_of c.args.event) found.0 refl c.requires.no_start found.1 in
    omega (arith, sums, ap one_if_busy found.2, c.one_if_busy.ensures, c.one_if_busy-2.ensures, ap one_if_busy c.state-state.ensures)

pub invariant_of-self : goal.invariant_of-self
invariant_of-self c =
    let inside = c.self.inside in
    let found = known_of inside.events.items inside.daemons.items inside.busy c.self.invariant (daemon_of c.args.event) c.args.before (subst (λ (v : EventLogView). IsSomeAnd (pool v.events (daemon_of c.args.event)) (λ x. x.state ≡ c.args.before)) (sym c.self.view_is) c.requires.known) in
    let sums = noted_busy inside.events.items inside.daemons.items inside.busy c.self.invariant c.args.event (daemon_of c.args.event) found.0 refl c.requires.no_start found.1 in
    let room : Rattle.std.specs.Vec.vec_len inside.events < Rattle.std.specs.Vec.vec_capacity inside.events = omega (arith, c.requires.room, ap (λ (v : EventLogView). v.room) c.self.view_is) in
    let items : c.push.new.self.items ≡ inside.events.items ++ c.args.event ∷ [] = rw (c.push.ensures.items, c.push.ensures.succeeds room) refl in
    let started : c.index_mut.result.now.started ≡ found.0.started = ap (λ (y : Daemon). y.started) (c.index_mut.ensures.value ∙ ap (λ k. get_or inside.daemons.items k c.index_mut.result.now) c.daemon-daemon.ensures ∙ get_or_from_slice_get inside.daemons.items (daemon_of c.args.event) found.0 c.index_mut.result.now found.1) in
    rw (items, started, c.state-state.ensures, c.daemon-daemon.ensures)
    (noted inside.events.items inside.daemons.items inside.busy c.self.invariant c.args.event (daemon_of c.args.event) found.0 refl c.requires.no_start found.1 _
    (omega (arith, ap one_if_busy found.2, c.one_if_busy.ensures, c.one_if_busy-2.ensures, ap one_if_busy c.state-state.ensures, sums)))

pub returns : goal.returns
returns c =
    let inside = c.self.inside in
    let found = known_of inside.events.items inside.daemons.items inside.busy c.self.invariant (daemon_of c.args.event) c.args.before (subst (λ (v : EventLogView). IsSomeAnd (pool v.events (daemon_of c.args.event)) (λ x. x.state ≡ c.args.before)) (sym c.self.view_is) c.requires.known) in
    let sums = noted_busy inside.events.items inside.daemons.items inside.busy c.self.invariant c.args.event (daemon_of c.args.event) found.0 refl c.requires.no_start found.1 in
    let room : Rattle.std.specs.Vec.vec_len inside.events < Rattle.std.specs.Vec.vec_capacity inside.events = omega (arith, c.requires.room, ap (λ (v : EventLogView). v.room) c.self.view_is) in
    let items : c.push.new.self.items ≡ inside.events.items ++ c.args.event ∷ [] = rw (c.push.ensures.items, c.push.ensures.succeeds room) refl in
    let longer : Rattle.std.specs.Vec.vec_len c.push.new.self ≡ Rattle.std.specs.Vec.vec_len inside.events + 1 = rw (c.push.ensures.len, c.push.ensures.succeeds room) refl in
    record {
      events = items ∙ ap (λ (v : EventLogView). v.events ++ c.args.event ∷ []) c.self.view_is;
      busy = omega (arith, ap one_if_busy found.2, c.one_if_busy.ensures, c.one_if_busy-2.ensures, ap one_if_busy c.state-state.ensures, sums, ap (λ (v : EventLogView). v.busy) c.self.view_is);
      room = omega (arith, longer, c.push.ensures.capacity, ap (λ (v : EventLogView). v.room) c.self.view_is);
    }
