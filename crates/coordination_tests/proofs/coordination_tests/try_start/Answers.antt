use Rattle.std.proofs.Common.{◌≡◌, true, List, [], ◌∷◌, ◌++◌, None, Some, sym, ap, ◌∙◌, subst}
use Rattle.lock_journal.specs.Names.{Good, GraphView, Holding, StateView, holding_of, owner_of, holding_after, make_all, Change, WorkerId, Entry}
use Rattle.lock_journal.specs.Names.{entry, replay, Start, after_all}
use Rattle.coordination.specs.declared.rule.Sight.{Sight}
use Rattle.coordination_tests.proofs.coordination_tests.try_start.Goals as goal

pub returns-clause-good : goal.returns-clause-good
returns-clause-good g c = λ is.
    let f = c.with_state_lock.ensures.finished is in
    subst (λ (s : Sight). Good s.seen.state) (sym f.sight) (c.sound_books_have_good_states.ensures.good f.after f.left)

pub returns-clause-lease : goal.returns-clause-lease
returns-clause-lease g c = λ is.
    let f = c.with_state_lock.ensures.finished is in
    let w = c.args.pass.now.sight.worker in
    let known = c.sound_books_have_good_states.ensures.known f.before w f.found.sound f.found.known in
    let holding : holding_of (make_all f.before.state w f.changes) w ≡ after_all holding_after (holding_of f.before.state w) f.changes = c.own_changes_say_all.ensures.holding f.before.state w f.changes known in
    let taken = ap (λ (cs : List Change). (after_all holding_after (holding_of f.before.state w) cs).lease) f.finished.made in
    subst (λ (s : Sight). (holding_of s.seen.state s.worker).lease ≡ true) (sym f.sight)
    (ap (λ (s : StateView). (holding_of s w).lease) f.finished.state ∙ (ap (λ (h : Holding). h.lease) holding ∙ taken))

pub returns-clause-refused : goal.returns-clause-refused
returns-clause-refused g c = λ is.
    let f = c.with_state_lock.ensures.failed is in
    let h : List Entry = f.before.history in
    let worker : c.with_state_lock.new.pass.sight.worker ≡ c.args.pass.now.sight.worker = ap (λ (s : Sight). s.worker) f.sight in
    let graph : c.with_state_lock.new.pass.sight.seen.graph ≡ f.before.graph = ap (λ (s : Sight). s.seen.graph) f.sight ∙ f.graph in
    let by : WorkerId = f.failed.cause.1 in (
      h,
      ap (λ (s : Sight). s.seen.history) f.sight ∙ (f.failed.history ∙ ap (λ (w : WorkerId). h ++ entry w (Start c.args.attempt.now.wait.start.task) None ∷ []) (sym worker)),
      by,
      (λ (same : by ≡ c.with_state_lock.new.pass.sight.worker). f.failed.cause.2 (same ∙ worker)),
      subst (λ (k : GraphView). owner_of (replay k h) c.args.attempt.now.lock ≡ Some by) (sym graph)
          (ap (λ (s : StateView). owner_of s c.args.attempt.now.lock) (sym f.found.sound.replays) ∙ f.failed.cause.3),
    )
