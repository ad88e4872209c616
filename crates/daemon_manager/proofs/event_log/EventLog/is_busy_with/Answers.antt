use Rattle.std.proofs.Common.{◌≡◌, ◌<◌, ◌≤◌, List, Some, slice_get, length, sym, ◌∙◌, subst, arith}
use Rattle.std.proofs.lemmas.Bool.{true≢false}
use Rattle.std.proofs.lemmas.Option.{slice_get_read, slice_get_within}
use Rattle.daemon_manager.specs.declared.event_log.Daemon.{Daemon}
use Rattle.daemon_manager.proofs.EventLogKept.{busy_with, counted, not_busy, unknown}
use Rattle.daemon_manager.proofs.event_log.EventLog.is_busy_with.Goals as goal

pub index-requires : goal.index-requires
index-requires c =
    let inside = c.self.inside in
    let there : slice_get inside.daemons.items c.args.daemon ≡ Some c.in-Some.kept.now = subst (λ xs. slice_get xs c.args.daemon ≡ Some c.in-Some.kept.now) c.deref.ensures.value (slice_get_read c.deref.result.now (length c.deref.result.now) c.args.daemon c.in-Some.kept.now (λ _. length c.deref.result.now) c.in-Some.ensures.lookup.3.0 c.in-Some.ensures.lookup.1) in
    let kept = c.self.invariant.kept c.args.daemon c.in-Some.kept.now there in
    let within : c.in-Some.kept.now.started < length inside.events.items = slice_get_within _ _ _ kept.start in
    omega (arith, within, inside.events.ok.0)

pub returns-then-is_busy : goal.returns-then-is_busy
returns-then-is_busy c =
    let inside = c.self.inside in
    let there : slice_get inside.daemons.items c.args.daemon ≡ Some c.in-Some.kept.now = subst (λ xs. slice_get xs c.args.daemon ≡ Some c.in-Some.kept.now) c.deref.ensures.value (slice_get_read c.deref.result.now (length c.deref.result.now) c.args.daemon c.in-Some.kept.now (λ _. length c.deref.result.now) c.in-Some.ensures.lookup.3.0 c.in-Some.ensures.lookup.1) in
    let kept = c.self.invariant.kept c.args.daemon c.in-Some.kept.now there in
    let value = busy_with inside.events.items c.args.daemon c.in-Some.kept.now kept c.index.result.now c.args.requirements.now c.is_start_with.result (c.is_busy.ensures.0 c.if-is_busy.true) c.index.ensures c.is_start_with.ensures in
    record {
      value = rw (← c.self.view_is) value;
      counted = λ t. rw (← c.self.view_is) (counted inside.events.items inside.daemons.items inside.busy c.self.invariant c.args.daemon c.args.requirements.now (value.0 t));
    }

pub returns-else-is_busy-clause-value : goal.returns-else-is_busy-clause-value
returns-else-is_busy-clause-value c =
    let inside = c.self.inside in
    let there : slice_get inside.daemons.items c.args.daemon ≡ Some c.in-Some.kept.now = subst (λ xs. slice_get xs c.args.daemon ≡ Some c.in-Some.kept.now) c.deref.ensures.value (slice_get_read c.deref.result.now (length c.deref.result.now) c.args.daemon c.in-Some.kept.now (λ _. length c.deref.result.now) c.in-Some.ensures.lookup.3.0 c.in-Some.ensures.lookup.1) in
    let kept = c.self.invariant.kept c.args.daemon c.in-Some.kept.now there in
    rw (← c.self.view_is) (not_busy inside.events.items c.args.daemon c.in-Some.kept.now kept c.args.requirements.now c.is_busy.result c.if-is_busy.false (λ e. true≢false (sym (c.is_busy.ensures.1 e) ∙ c.if-is_busy.false)))

pub returns-in-None-clause-value : goal.returns-in-None-clause-value
returns-in-None-clause-value c =
    let inside = c.self.inside in
    let past : length inside.daemons.items ≤ c.args.daemon = subst (λ (xs : List Daemon). length xs ≤ c.args.daemon) c.deref.ensures.value c.in-None.ensures.lookup.3 in
    rw (← c.self.view_is) (unknown inside.events.items inside.daemons.items inside.busy c.args.daemon c.args.requirements.now c.self.invariant past)
