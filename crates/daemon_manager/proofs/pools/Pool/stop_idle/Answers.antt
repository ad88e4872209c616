use Rattle.std.proofs.Common.{◌≡◌, ◌∷◌, true, length, sym, ap, ◌∙◌, arith, refl}
use Rattle.std.proofs.lemmas.List.Edits.{length-remove}
use Rattle.std.proofs.lemmas.Option.{slice_get_within}
use Rattle.daemon_manager.proofs.lemmas.PoolKept.{All-left, first_and_rest, stopped_pool}
use Rattle.daemon_manager.proofs.pools.Pool.stop_idle.Goals as goal

pub invariant_of-self : goal.invariant_of-self
invariant_of-self g c =
    let inside = c.self.inside in
    let there = c.remove-daemon.ensures.daemon in (
      rw (c.note.ensures.events, c.remove-daemon.ensures.others) (stopped_pool g.L.Linked.requirements inside.event_log.events inside.idle c.self.invariant.0 0 c.remove-daemon.result there refl),
      omega (arith, c.self.invariant.1, c.note.ensures.busy, c.note.ensures.room, ap length c.remove-daemon.ensures.others, length-remove inside.idle 0 (slice_get_within inside.idle 0 c.remove-daemon.result there)),
      rw c.remove-daemon.ensures.others (All-left (λ i. g.L.Linked.settled i.link ≡ true) inside.idle 0 (slice_get_within inside.idle 0 c.remove-daemon.result there) c.self.invariant.2),
    )

pub returns : goal.returns
returns g c =
    let inside = c.self.inside in
    let there = c.remove-daemon.ensures.daemon in
    record {
      daemon = c.remove-daemon.result.daemon;
      first = rw (← c.self.view_is) (first_and_rest inside.idle c.remove-daemon.result there ∙ ap (λ xs. c.remove-daemon.result ∷ xs) (sym c.remove-daemon.ensures.others));
      events = rw (← c.self.view_is) c.note.ensures.events;
    }
