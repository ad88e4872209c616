use Rattle.std.proofs.Common.{◌≡◌, true, ◌++◌, ◌∷◌, [], Some, length, slice_get, sym, ap, ◌∙◌, arith, refl, inl, inr, append_assoc, length-append}
use Rattle.std.proofs.lemmas.List.Edits.{length-remove}
use Rattle.std.proofs.lemmas.List.Elements.{All-push}
use Rattle.std.proofs.lemmas.Option.{slice_get_within}
use Rattle.daemon_manager.specs.declared.events.Event.TheVariants.{Released, Stopped}
use Rattle.daemon_manager.specs.declared.events.DaemonState.TheVariants.{Busy}
use Rattle.daemon_manager.specs.declared.idle.TheConstants.{MAX_IDLE_DAEMONS}
use Rattle.daemon_manager.specs.Events.{pool}
use Rattle.daemon_manager.specs.PoolView.{PoolView}
use Rattle.daemon_manager.proofs.lemmas.PoolKept.{All-left, first_and_rest, released_pool, released_stopped_pool, released_known}
use Rattle.daemon_manager.proofs.pools.Pool.release.Goals as goal

pub invariant_of-self : goal.invariant_of-self
invariant_of-self g c =
    let inside = c.self.inside in
    let busy : pool inside.event_log.events c.args.reserved.daemon ≡ Some (record { requirements = g.L.Linked.requirements c.args.reserved.link; state = Busy }) = rw (← c.made_for-asked.ensures) (c.is_busy_with-is_own.ensures.value.0 c.if-not-is_own.false) in (
      rw (c.note.ensures.events, c.push.ensures) (released_pool g.L.Linked.requirements inside.event_log.events inside.idle c.self.invariant.0 c.args.reserved.daemon c.args.reserved.link busy (omega (arith, c.if-len-le-MAX_IDLE_DAEMONS.true, c.len.ensures, ap length c.push.ensures))),
      omega (arith, c.self.invariant.1, c.note.ensures.busy, c.note.ensures.room, ap length c.push.ensures, length-append inside.idle (record { daemon = c.args.reserved.daemon; link = c.args.reserved.link } ∷ [])),
      rw c.push.ensures (All-push (λ i. g.L.Linked.settled i.link ≡ true) inside.idle (record { daemon = c.args.reserved.daemon; link = c.args.reserved.link }) c.self.invariant.2 c.requires),
    )

pub note-requires-2-clause-known : goal.note-requires-2-clause-known
note-requires-2-clause-known g c =
    let inside = c.self.inside in
    let busy : pool inside.event_log.events c.args.reserved.daemon ≡ Some (record { requirements = g.L.Linked.requirements c.args.reserved.link; state = Busy }) = rw (← c.made_for-asked.ensures) (c.is_busy_with-is_own.ensures.value.0 c.if-not-is_own.false) in
    let there = ap (λ xs. slice_get xs 0) (sym c.push.ensures) ∙ c.remove-daemon.ensures.daemon in
    rw c.note.ensures.events (released_known g.L.Linked.requirements inside.event_log.events inside.idle c.self.invariant.0 c.args.reserved.daemon c.args.reserved.link c.remove-daemon.result busy there)

pub invariant_of-self-2 : goal.invariant_of-self-2
invariant_of-self-2 g c =
    let inside = c.self.inside in
    let busy : pool inside.event_log.events c.args.reserved.daemon ≡ Some (record { requirements = g.L.Linked.requirements c.args.reserved.link; state = Busy }) = rw (← c.made_for-asked.ensures) (c.is_busy_with-is_own.ensures.value.0 c.if-not-is_own.false) in
    let there = ap (λ xs. slice_get xs 0) (sym c.push.ensures) ∙ c.remove-daemon.ensures.daemon in (
      rw (c.note-2.ensures.events, c.note.ensures.events, c.remove-daemon.ensures.others, c.push.ensures) (released_stopped_pool g.L.Linked.requirements inside.event_log.events inside.idle c.self.invariant.0 c.args.reserved.daemon c.args.reserved.link c.remove-daemon.result busy there),
      omega (arith, c.self.invariant.1, c.note.ensures.busy, c.note.ensures.room, c.note-2.ensures.busy, c.note-2.ensures.room, ap length c.push.ensures, ap length c.remove-daemon.ensures.others, length-append inside.idle (record { daemon = c.args.reserved.daemon; link = c.args.reserved.link } ∷ []), length-remove c.push.new.self 0 (slice_get_within c.push.new.self 0 c.remove-daemon.result c.remove-daemon.ensures.daemon)),
      rw (c.remove-daemon.ensures.others, c.push.ensures) (All-left (λ i. g.L.Linked.settled i.link ≡ true) _ 0 (slice_get_within _ 0 c.remove-daemon.result there) (All-push (λ i. g.L.Linked.settled i.link ≡ true) inside.idle (record { daemon = c.args.reserved.daemon; link = c.args.reserved.link }) c.self.invariant.2 c.requires)),
    )

pub returns : goal.returns
returns g c =
    let inside = c.self.inside in
    let busy : pool inside.event_log.events c.args.reserved.daemon ≡ Some (record { requirements = g.L.Linked.requirements c.args.reserved.link; state = Busy }) = rw (← c.made_for-asked.ensures) (c.is_busy_with-is_own.ensures.value.0 c.if-not-is_own.false) in
    let full : length inside.idle ≡ MAX_IDLE_DAEMONS = omega (arith, c.self.invariant.0.few, c.if-len-le-MAX_IDLE_DAEMONS.false, c.len.ensures, ap length c.push.ensures, length-append inside.idle (record { daemon = c.args.reserved.daemon; link = c.args.reserved.link } ∷ [])) in
    inl (
      rw (← c.self.view_is) busy,
      inr (record {
        full = ap (λ (v : PoolView g.row.L.Denot). length v.idle) (sym c.self.view_is) ∙ full;
        first = c.remove-daemon.result;
        idle = rw (← c.self.view_is) (sym c.push.ensures ∙ first_and_rest c.push.new.self c.remove-daemon.result c.remove-daemon.ensures.daemon ∙ ap (λ xs. c.remove-daemon.result ∷ xs) (sym c.remove-daemon.ensures.others));
        events = rw (← c.self.view_is) (c.note-2.ensures.events ∙ ap (λ xs. xs ++ Stopped c.remove-daemon.result.daemon ∷ []) c.note.ensures.events ∙ append_assoc inside.event_log.events (Released c.args.reserved.daemon ∷ []) (Stopped c.remove-daemon.result.daemon ∷ []));
        stopped = refl;
      }),
    )
