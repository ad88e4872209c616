-- A fetch that is ready stays so through the entries of others.
use Rattle.std.proofs.Common.{◌≡◌, ℕ, true, List, ◌++◌, Option, None, Some, inl, sym, ap, ◌∙◌, subst}
use Rattle.std.specs.Prelude.{◌&&◌, ◌==◌}
use Rattle.std.specs.List.{range_with_len}
use Rattle.std.proofs.lemmas.Bool.{and_from, and_parts, eqb-true, false≢true}
use Rattle.std.proofs.lemmas.List.Folds.{Any-from_list_any}
use Rattle.lock_journal.specs.Names.{same_mark, GraphView, action_of, IsActionOf, IsFetchOf, earlier_actions, task_with, units_of, StateView, mark_of}
use Rattle.lock_journal.specs.Names.{WorkerId, Waiting, Running, Passed, MarkId, TaskOf, ActionOf, UnitOf, Lawful, BookView, Entry, replay}
use Rattle.lock_journal.specs.Names.{earlier_passed, has_passed, units_passed, works_on, IsEnded}
use Rattle.resource_lock.proofs.lemmas.Undo.{same_mark_is}
use Rattle.resource_lock.proofs.lemmas.Units.{action_there}
use Rattle.lock_transforms.proofs.lemmas.Disabled.{all_of_still, and_still}
use Rattle.lock_journal.proofs.lemmas.Fitting.{RangesApart, apart_of}
use Rattle.lock_journal.proofs.lemmas.Growing.{marks_stay}
use Rattle.lock_journal.proofs.lemmas.OwnTasks.{actions_stay, waiting_units_stay}
use Rattle.worker_notes.specs.Agrees.{Finds}
use Rattle.coordination.specs.declared.rule.Sight.{Sight}
use Rattle.blocking_section.specs.Sections.{CouldEnter, IsNotReady, is_ready}

module _ (u : ℕ) (old : Sight) (book : BookView) (found : Finds old.worker old.seen book) (could : CouldEnter (Some u) old) where
  before : StateView
  before = old.seen.state

  g : GraphView
  g = old.seen.graph

  is_now : book.state ≡ replay old.seen.graph (old.seen.history ++ found.agrees.between)
  is_now = found.sound.replays ∙ (λ i. replay (found.agrees.graph i) (found.agrees.history i))

  lawful : Lawful old.seen.graph (old.seen.history ++ found.agrees.between)
  lawful = subst (λ (p : GraphView × List Entry). Lawful p.0 p.1) (λ i. (found.agrees.graph i, found.agrees.history i)) found.sound.lawful

  at_first : (m : MarkId) → mark_of (replay old.seen.graph old.seen.history) m ≡ mark_of old.seen.state m
  at_first m = ap (λ (s : StateView). mark_of s m) (sym could.sound.replays)

  at_last : (m : MarkId) → mark_of book.state m ≡ mark_of (replay old.seen.graph (old.seen.history ++ found.agrees.between)) m
  at_last m = ap (λ (s : StateView). mark_of s m) is_now

  passed_still : (m : MarkId) → has_passed (mark_of old.seen.state m) ≡ true → has_passed (mark_of book.state m) ≡ true
  passed_still m h =
      let passed : mark_of (replay old.seen.graph old.seen.history) m ≡ Passed = at_first m ∙ same_mark_is (mark_of old.seen.state m) Passed h in
      ap has_passed (at_last m ∙ (marks_stay old.seen.graph old.seen.history found.agrees.between m lawful (subst IsEnded (sym passed) tt) ∙ passed))

  earlier_still : (a : ℕ) → earlier_passed old.seen.graph old.seen.state a ≡ true → earlier_passed old.seen.graph book.state a ≡ true
  earlier_still a = all_of_still (λ b. has_passed (mark_of book.state (ActionOf b)) && units_passed old.seen.graph book.state b) (λ b. has_passed (mark_of old.seen.state (ActionOf b)) && units_passed old.seen.graph old.seen.state b)
      (λ b. and_still _ _ _ _ (passed_still (ActionOf b)) (all_of_still (λ n. has_passed (mark_of book.state (UnitOf n))) (λ n. has_passed (mark_of old.seen.state (UnitOf n))) (λ n. passed_still (UnitOf n)) (units_of old.seen.graph b)))
      (earlier_actions old.seen.graph a)

  -- of the action that the condition found
  ready_at : (a : ℕ) → IsFetchOf old.seen.graph a u → works_on old.seen.state old.worker (task_with old.seen.graph a) ≡ true → is_ready old.seen.graph old.seen.state a u ≡ true → is_ready old.seen.graph book.state a u ≡ true
  ready_at a fetch works ready =
      let apart : RangesApart old.seen.graph = apart_of old.seen.graph could.fits in
      let first = and_parts (same_mark (mark_of old.seen.state (ActionOf a)) Waiting && same_mark (mark_of old.seen.state (UnitOf u)) Waiting) (earlier_passed old.seen.graph old.seen.state a) ready in
      let waits = and_parts (same_mark (mark_of old.seen.state (ActionOf a)) Waiting) (same_mark (mark_of old.seen.state (UnitOf u)) Waiting) first.0 in
      let own : IsActionOf old.seen.graph (task_with old.seen.graph a) a = apart.own_task a (action_there old.seen.graph a u (inl fetch)) in
      let task : mark_of (replay old.seen.graph old.seen.history) (TaskOf (task_with old.seen.graph a)) ≡ Running old.worker =
      at_first (TaskOf (task_with old.seen.graph a)) ∙ same_mark_is (mark_of old.seen.state (TaskOf (task_with old.seen.graph a))) (Running old.worker) (and_parts _ _ (and_parts _ _ works).0).0 in
      let action : mark_of (replay old.seen.graph old.seen.history) (ActionOf a) ≡ Waiting = at_first (ActionOf a) ∙ same_mark_is (mark_of old.seen.state (ActionOf a)) Waiting waits.0 in
      let unit : mark_of (replay old.seen.graph old.seen.history) (UnitOf u) ≡ Waiting = at_first (UnitOf u) ∙ same_mark_is (mark_of old.seen.state (UnitOf u)) Waiting waits.1 in
      let action_now : mark_of book.state (ActionOf a) ≡ Waiting =
      at_last (ActionOf a) ∙ (actions_stay old.seen.graph old.seen.history found.agrees.between old.worker (task_with old.seen.graph a) a could.fits lawful found.agrees.others task own (λ v runs. absurd (cc (runs, action))) ∙ action) in
      let unit_now : mark_of book.state (UnitOf u) ≡ Waiting =
      at_last (UnitOf u) ∙ waiting_units_stay old.seen.graph old.seen.history found.agrees.between old.worker (task_with old.seen.graph a) a u could.fits lawful found.agrees.others task own (inl fetch) unit in
      and_from _ _ (and_from _ _ (ap (λ m. same_mark m Waiting) action_now) (ap (λ m. same_mark m Waiting) unit_now)) (earlier_still a first.1)

  still_ready : (a : ℕ) → IsFetchOf book.graph a u → is_ready book.graph book.state a u ≡ true
  still_ready a fetch =
      let met = Any-from_list_any (λ b. (action_of old.seen.graph b).fetch && (action_of old.seen.graph b).first_unit == u && works_on old.seen.state old.worker (task_with old.seen.graph b) && same_mark (mark_of old.seen.state (ActionOf b)) Waiting && same_mark (mark_of old.seen.state (UnitOf u)) Waiting && earlier_passed old.seen.graph old.seen.state b) (range_with_len 0 _) could.condition in
      let earlier = and_parts _ _ met.4 in
      let unit = and_parts _ _ earlier.0 in
      let action = and_parts _ _ unit.0 in
      let works = and_parts _ _ action.0 in
      let first = and_parts _ _ works.0 in
      let own : IsFetchOf old.seen.graph met.1 u = (first.0, sym (eqb-true (action_of old.seen.graph met.1).first_unit u first.1)) in
      let here : IsFetchOf old.seen.graph a u = subst (λ (k : GraphView). IsFetchOf k a u) found.agrees.graph fetch in
      let same : met.1 ≡ a = (apart_of old.seen.graph could.fits).one_action met.1 a u (inl own) (inl here) in
      let ready : is_ready old.seen.graph book.state met.1 u ≡ true = ready_at met.1 own works.1 (and_from _ _ (and_from _ _ action.1 unit.1) earlier.1) in
      subst (λ (k : GraphView). is_ready k book.state a u ≡ true) (sym found.agrees.graph) (subst (λ n. is_ready old.seen.graph book.state n u ≡ true) same ready)

-- so it never waits for that
pub never_unready : (unit : Option ℕ) (old : Sight) (book : BookView) → Finds old.worker old.seen book → CouldEnter unit old → IsNotReady unit book.graph old.worker book.state → ⊥
never_unready None old book found could cause = cause
never_unready (Some u) old book found could cause = false≢true (sym cause.2 ∙ still_ready u old book found could cause.0 cause.1)

pub only_with_unit : (unit : Option ℕ) (g : GraphView) (w : WorkerId) (s : StateView) → unit ≡ None → IsNotReady unit g w s → ⊥
only_with_unit None g w s is cause = cause
only_with_unit (Some u) g w s is cause = absurd (cc)
