use Rattle.std.proofs.Common.{◌≡◌, ◌+◌, true, ◌++◌, ◌∷◌, [], suc, length, take, drop, All, ap, ◌∙◌, subst, arith, refl, IsSomeAnd}
use Rattle.std.proofs.lemmas.List.Edits.{length-remove}
use Rattle.std.proofs.lemmas.Option.{slice_get_within}
use Rattle.daemon_requirements.specs.Covers.{Covers}
use Rattle.daemon_manager.specs.declared.events.Event.TheVariants.{Reserved}
use Rattle.daemon_manager.proofs.lemmas.PoolKept.{All-left, All-there, split_at, reserved_pool, reserved_own}
use Rattle.daemon_manager.proofs.pools.Pool.reserve_idle.Goals as goal

pub invariant_of-self-2 : goal.invariant_of-self-2
invariant_of-self-2 g c =
    let inside = c.self.inside in
    let there = c.remove-daemon.ensures.daemon in
    let room = c.in_ok-make_room.ensures in (
      rw (c.note.ensures.events, room.same.events, c.remove-daemon.ensures.others) (reserved_pool g.L.Linked.requirements inside.event_log.events inside.idle c.self.invariant.0 _ c.remove-daemon.result there c.args.unit),
      omega (arith, room.room, room.same.busy, c.needed-more.ensures.value, c.len.ensures, c.note.ensures.busy, c.note.ensures.room, ap length c.remove-daemon.ensures.others, length-remove inside.idle _ (slice_get_within inside.idle _ c.remove-daemon.result there)),
      rw c.remove-daemon.ensures.others (All-left (λ i. g.L.Linked.settled i.link ≡ true) inside.idle _ (slice_get_within inside.idle _ c.remove-daemon.result there) c.self.invariant.2),
    )

pub returns-clause-reserved : goal.returns-clause-reserved
returns-clause-reserved g c =
    let inside = c.self.inside in
    let there = c.remove-daemon.ensures.daemon in
    let room = c.in_ok-make_room.ensures in
    let last = c.in-Some.ensures in
    let next : c.in-Some.place + 1 ≡ suc c.in-Some.place = omega arith in
    record {
      before = take c.in-Some.place inside.idle;
      after = drop (suc c.in-Some.place) inside.idle;
      chosen = rw (← c.self.view_is) (split_at inside.idle c.in-Some.place c.remove-daemon.result there);
      covers = subst (λ o. IsSomeAnd o (λ i. Covers (g.L.Linked.requirements i.link) c.args.asked.now)) there last.0;
      last = subst (λ n. All (λ i. ¬ Covers (g.L.Linked.requirements i.link) c.args.asked.now) (drop n inside.idle)) next last.1;
      left = c.remove-daemon.ensures.others;
      events = rw (← c.self.view_is) (c.note.ensures.events ∙ ap (λ xs. xs ++ Reserved c.remove-daemon.result.daemon c.args.unit ∷ []) room.same.events);
      for_unit = refl;
      own = rw (c.note.ensures.events, room.same.events) (reserved_own g.L.Linked.requirements inside.event_log.events inside.idle c.self.invariant.0 c.in-Some.place c.remove-daemon.result there c.args.unit);
    }

pub returns-clause-settled : goal.returns-clause-settled
returns-clause-settled g c =
    All-there (λ i. g.L.Linked.settled i.link ≡ true) c.self.inside.idle _ c.remove-daemon.result c.remove-daemon.ensures.daemon c.self.invariant.2
