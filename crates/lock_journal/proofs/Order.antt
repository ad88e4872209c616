-- The entries of a lawful history that has come to its end: each task started once or skipped once, each item claimed once and then closed once.
use Rattle.std.proofs.Common.{◌≡◌, ℕ, ◌==◌, ◌⊎◌, true, false, cond, List, [], ◌∷◌, Option, None, Some, refl, ap, ◌∙◌, subst, inl, inr, arith}
use Rattle.std.specs.Prelude.{is_some, IfSome}
use Rattle.std.proofs.lemmas.Bool.{cases_Bool, eqb-true}
use Rattle.lock_journal.specs.Names.{Change, WorkerId, Mark, Waiting, Running, Passed, Failed, Skipped, TaskOf, UnitOf, opening_of, GraphView}
use Rattle.lock_journal.specs.Names.{StateView, mark_of, Kind, Start, Close, Unblock, Finishes, Allowed, lawful_from, Lawful, closing_of, closings}
use Rattle.lock_journal.specs.Names.{where_finished, Entry, replay, IsEnded, AfterPassed, HasEnded, IsOrderly}
use Rattle.item_actions.specs.declared.outcomes.Outcome.{Outcome}
use Rattle.lock_journal.specs.Runs.{times, starts, skips, OnceStartedOrSkipped, NeverOrOnceClosed, StandsIn}
use Rattle.lock_journal.proofs.Conditions.{MarkCondition}
use Rattle.lock_journal.proofs.lemmas.Fitting.{RangesApart}
use Rattle.lock_journal.proofs.lemmas.Replays.{lawful_from-append}
use Rattle.lock_journal.proofs.History.{ClosedAs, times_begun, times_skipped}
use Rattle.lock_journal.proofs.MarkConditions.{mark_condition}
use Rattle.lock_journal.proofs.Runs.{Holds, holds_after}

once_by : (h : List Entry) (t : ℕ) (m : Mark) → IsEnded m → times (starts t) h ≡ times_begun m → times (skips t) h ≡ times_skipped m → OnceStartedOrSkipped h t
once_by h t Passed e a b = inl (a, b)
once_by h t Failed e a b = inl (a, b)
once_by h t Skipped e a b = inr (a, b)
once_by h t _ e a b = absurd e

allowed_at : (g : GraphView) (h before later : List Entry) (e : Entry) → Lawful g h → StandsIn h before e later → Lawful g before × Allowed g (replay g before) e
allowed_at g h before later e lawful stands =
    let parts = lawful_from-append g (opening_of g) before (e ∷ later) (subst (lawful_from g (opening_of g)) stands lawful) in
    (parts.0, parts.1.0)

after_of_start : (g : GraphView) (s : StateView) (w : WorkerId) (k : Kind) (o : Option (List Change)) (t : ℕ) → RangesApart g → IfSome o (Finishes g s w k) → k ≡ Start t → is_some o ≡ true → AfterPassed g s t
after_of_start g s w k None t apart f e some = absurd (cc)
after_of_start g s w k (Some cs) t apart f e some = let c = subst (MarkCondition g s w) e (mark_condition g s w k apart f.condition) in c.1

running_of : (g : GraphView) (s : StateView) (w : WorkerId) (k : Kind) (u : ℕ) (o : Outcome) → closing_of u k ≡ o ∷ [] → MarkCondition g s w k → mark_of s (UnitOf u) ≡ Running w
running_of g s w (Close d) u o e c = at (cases_Bool (d.unit == u)) e
  where
    at : (d.unit == u ≡ true) ⊎ (d.unit == u ≡ false) → cond (d.unit == u) (d.outcome ∷ []) [] ≡ o ∷ [] → mark_of s (UnitOf u) ≡ Running w
    at (inl y) e = subst (λ z. mark_of s (UnitOf z) ≡ Running w) (eqb-true d.unit u y) c
    at (inr y) e = absurd (cc (ap (λ b. cond b (d.outcome ∷ []) []) y, e))
running_of g s w (Unblock (Some d)) u o e c = at (cases_Bool (d.unit == u)) e
  where
    at : (d.unit == u ≡ true) ⊎ (d.unit == u ≡ false) → cond (d.unit == u) (d.outcome ∷ []) [] ≡ o ∷ [] → mark_of s (UnitOf u) ≡ Running w
    at (inl y) e = subst (λ z. mark_of s (UnitOf z) ≡ Running w) (eqb-true d.unit u y) c
    at (inr y) e = absurd (cc (ap (λ b. cond b (d.outcome ∷ []) []) y, e))
running_of g s w _ u o e c = absurd (cc)

running_at_close : (g : GraphView) (s : StateView) (w : WorkerId) (k : Kind) (cs : Option (List Change)) (u : ℕ) (o : Outcome) → RangesApart g → IfSome cs (Finishes g s w k) → where_finished cs (closing_of u k) ≡ o ∷ [] → mark_of s (UnitOf u) ≡ Running w
running_at_close g s w k None u o apart f e = absurd (cc)
running_at_close g s w k (Some cs) u o apart f e = running_of g s w k u o e (mark_condition g s w k apart f.condition)

begun_of_closed : (os : List Outcome) (o : Outcome) (m : Mark) → ClosedAs os m → os ≡ o ∷ [] → times_begun m ≡ 1
begun_of_closed os o Passed c e = refl
begun_of_closed os o Failed c e = refl
begun_of_closed os o Waiting c e = absurd (cc (c, e))
begun_of_closed os o _ c e = absurd (cc (c, e))

never_or_once : (g : GraphView) (h : List Entry) (u : ℕ) (m : Mark) → mark_of (replay g h) (UnitOf u) ≡ m → IsEnded m → ClosedAs (closings h u) m → NeverOrOnceClosed g h u
never_or_once g h u Passed e ended c = inr (c.0, c.1)
never_or_once g h u Failed e ended c = inr (c.0, c.1)
never_or_once g h u Skipped e ended c = inl (e, c)
never_or_once g h u _ e ended c = absurd ended

pub is_orderly : (g : GraphView) (h : List Entry) → RangesApart g → Lawful g h → HasEnded (replay g h) → IsOrderly g h
is_orderly g h apart lawful ended = record {
  once = λ t within. let e = holds.kept.belongs.tasks in once_by h t (mark_of (replay g h) (TaskOf t)) (ended.tasks t Waiting (omega arith)) (holds.recorded.started t) (holds.recorded.skipped t);
  started_after = λ before later e t stands kind some. after_of_start g (replay g before) e.worker e.kind e.changes t apart (allowed_at g h before later e lawful stands).1.finished kind some;
  claimed_before = λ before later e u o i stands closes.
      let a = allowed_at g h before later e lawful stands in
      let runs = running_at_close g (replay g before) e.worker e.kind e.changes u o apart a.1.finished closes in
      (holds_after g before apart a.0).recorded.claimed u i ∙ ap times_begun runs;
  claimed_once = λ u o i closed. holds.recorded.claimed u i ∙ begun_of_closed (closings h u) o (mark_of (replay g h) (UnitOf u)) (holds.recorded.closed u) closed;
  closed_once = λ a u iu.
      let e = holds.kept.belongs.units in
      let within = (apart.unit_within a u iu).1 in
      never_or_once g h u (mark_of (replay g h) (UnitOf u)) refl (ended.units u Waiting (omega arith)) (holds.recorded.closed u);
}
  where
    holds : Holds g h (replay g h)
    holds = holds_after g h apart lawful
