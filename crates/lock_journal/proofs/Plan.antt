-- Where every mark has ended, marks and outcomes are those of the plan.
use Rattle.std.proofs.Common.{◌≡◌, ℕ, zero, suc, ◌-◌, ◌<◌, ◌⊎◌, Bool, true, false, cond, List, [], ◌∷◌, length, get_or, refl, sym, ap, ◌∙◌, subst, inl, inr, arith}
use Rattle.std.specs.List.{Any, list_all, AllByRecursion, range_with_len}
use Rattle.std.proofs.lemmas.Bool.{and_left, and_right, and_from}
use Rattle.std.proofs.lemmas.List.Elements.{recursion_from_All}
use Rattle.lock_journal.specs.Names.{Mark, Waiting, Passed, Failed, Skipped, TaskOf, UnitOf, GraphView, task_of, actions_of, units_of, IsActionOf}
use Rattle.lock_journal.specs.Names.{IsUnitOf, StateView, mark_of, Lawful, closings, last_or, outcome_in, Entry, replay, has_passed, IsEnded}
use Rattle.lock_journal.specs.Names.{HasEnded, action_passes, task_passes, task_outcome, earlier_pass, is_skipped, unit_outcome, AreRanks}
use Rattle.lock_journal.specs.Names.{GivesClosedOutcomes, ComesTo}
use Rattle.item_actions.specs.declared.outcomes.Outcome.{Outcome}
use Rattle.item_actions.specs.declared.outcomes.Outcome.TheVariants.{Skipped as NotRun}
use Rattle.item_actions.specs.Value.{passes}
use Rattle.lock_journal.proofs.Conditions.{HasFallen, EarlierFailed}
use Rattle.lock_journal.proofs.lemmas.Fitting.{RangesApart}
use Rattle.lock_journal.proofs.History.{IsRecorded, ClosedAs}
use Rattle.lock_journal.proofs.Kept.{HasFallenUnit, UnitsAre, UnitsBefore, TaskFact, UnitFact, IsKept}
use Rattle.lock_journal.proofs.Ranges.{Has, has_unit, has_action, has_in_range, each_in_range, each_unit, each_action, each_has}
use Rattle.lock_journal.proofs.Runs.{Holds, holds_after}

-- a test of every member of a list
every : {X : Type 0} (test : X → Bool) (xs : List X) → AllByRecursion (λ x. test x ≡ true) xs → list_all test xs ≡ true
every test [] h = refl
every test (x ∷ xs) h = and_from (test x) (list_all test xs) h.0 (every test xs h.1)

not_every : (test : ℕ → Bool) (x : ℕ) (xs : List ℕ) → Has x xs → test x ≡ false → list_all test xs ≡ false
not_every test x [] h e = absurd h
not_every test x (y ∷ xs) (inl same) e = and_left (test y) (list_all test xs) (subst (λ z. test z ≡ false) same e)
not_every test x (y ∷ xs) (inr h) e = and_right (test y) (list_all test xs) (not_every test x xs h e)

has_at : (xs : List ℕ) (k x : ℕ) → k < length xs → get_or xs k x ≡ x → Has x xs
has_at [] k x h e = absurd (omega arith)
has_at (y ∷ xs) zero x h e = inl (sym e)
has_at (y ∷ xs) (suc k) x h e = inr (has_at xs k x (omega arith) e)

-- what v says of a unit by its mark
passes_of : (v : ℕ → Outcome) (h : List Entry) (u : ℕ) (m : Mark) → GivesClosedOutcomes v h → ClosedAs (closings h u) m → m ≡ Passed → passes (v u) ≡ true
passes_of v h u m agrees c e =
    let p = subst (ClosedAs (closings h u)) e c in
    ap passes (agrees u p.0 p.1) ∙ p.2

fails_of : (v : ℕ → Outcome) (h : List Entry) (u : ℕ) (m : Mark) → GivesClosedOutcomes v h → ClosedAs (closings h u) m → m ≡ Failed → passes (v u) ≡ false
fails_of v h u m agrees c e =
    let p = subst (ClosedAs (closings h u)) e c in
    ap passes (agrees u p.0 p.1) ∙ p.2

-- a history that has come to its end, with what holds of it
record Ended (g : GraphView) (h : List Entry) (s : StateView) (v : ℕ → Outcome) (rank : ℕ → ℕ) : Type 0 where
  apart : RangesApart g
  ranks : AreRanks g rank
  kept : IsKept g s
  recorded : IsRecorded g h s
  agrees : GivesClosedOutcomes v h
  ended : HasEnded s

task_ended : (g : GraphView) (h : List Entry) (s : StateView) (v : ℕ → Outcome) (rank : ℕ → ℕ) → Ended g h s v rank → (t : ℕ) → t < length g.tasks → IsEnded (mark_of s (TaskOf t))
task_ended g h s v rank x t lt = let e = x.kept.belongs.tasks in x.ended.tasks t Waiting (omega arith)

unit_ended : (g : GraphView) (h : List Entry) (s : StateView) (v : ℕ → Outcome) (rank : ℕ → ℕ) → Ended g h s v rank → (a u : ℕ) → IsUnitOf g a u → IsEnded (mark_of s (UnitOf u))
unit_ended g h s v rank x a u iu = let e = x.kept.belongs.units in let lt = (x.apart.unit_within a u iu).1 in x.ended.units u Waiting (omega arith)

whole_passes : (g : GraphView) (h : List Entry) (s : StateView) (v : ℕ → Outcome) (rank : ℕ → ℕ) → Ended g h s v rank → (t : ℕ) → UnitsAre g s t Passed → task_passes g v t ≡ true
whole_passes g h s v rank x t all =
    every (action_passes g v) (actions_of g t)
    (each_action (λ a. action_passes g v a ≡ true) g t
    (λ a ia. every (λ u. passes (v u)) (units_of g a)
    (each_unit (λ u. passes (v u) ≡ true) g a
    (λ u iu. passes_of v h u (mark_of s (UnitOf u)) x.agrees (x.recorded.closed u) (all.each a u ia iu)))))

not_whole : (g : GraphView) (v : ℕ → Outcome) (t a u : ℕ) → IsActionOf g t a → IsUnitOf g a u → passes (v u) ≡ false → task_passes g v t ≡ false
not_whole g v t a u ia iu e =
    not_every (action_passes g v) a (actions_of g t) (has_action g t a ia)
    (not_every (λ u. passes (v u)) u (units_of g a) (has_unit g a u iu) e)

failed_unit : (g : GraphView) (h : List Entry) (s : StateView) (v : ℕ → Outcome) (rank : ℕ → ℕ) → Ended g h s v rank → (t : ℕ) → mark_of s (TaskOf t) ≡ Failed → HasFallenUnit g s t → task_passes g v t ≡ false
failed_unit g h s v rank x t is b = at b.fallen
  where
    skipped : (mark_of s (TaskOf t) ≡ Skipped) ⊎ EarlierFailed g s t b.action → task_passes g v t ≡ false
    skipped (inl e) = absurd (cc (e, is))
    skipped (inr e) = not_whole g v t e.0 e.1 e.2 e.4 (fails_of v h e.1 (mark_of s (UnitOf e.1)) x.agrees (x.recorded.closed e.1) e.5)

    at : HasFallen (mark_of s (UnitOf b.unit)) → task_passes g v t ≡ false
    at (inl e) = not_whole g v t b.action b.unit b.of_task b.of_action (fails_of v h b.unit (mark_of s (UnitOf b.unit)) x.agrees (x.recorded.closed b.unit) e)
    at (inr e) = skipped (subst (UnitFact g s t b.action) e (x.kept.units t b.action b.unit b.of_task b.of_action))

has_passed-fallen : (m : Mark) → HasFallen m → has_passed m ≡ false
has_passed-fallen m (inl e) = ap has_passed e
has_passed-fallen m (inr e) = ap has_passed e

-- where the tasks that t comes after have the marks of the plan
after_pass : (g : GraphView) (s : StateView) (v : ℕ → Outcome) (n : ℕ) (ps : List ℕ) → AllByRecursion (λ p. mark_of s (TaskOf p) ≡ task_outcome g v n p) ps → AllByRecursion (λ p. mark_of s (TaskOf p) ≡ Passed) ps → list_all (λ p. has_passed (task_outcome g v n p)) ps ≡ true
after_pass g s v n [] is h = refl
after_pass g s v n (p ∷ ps) is h =
    and_from (has_passed (task_outcome g v n p)) (list_all (λ p. has_passed (task_outcome g v n p)) ps)
    (ap has_passed (sym is.0 ∙ h.0)) (after_pass g s v n ps is.1 h.1)

after_fallen : (g : GraphView) (s : StateView) (v : ℕ → Outcome) (n : ℕ) (ps : List ℕ) → AllByRecursion (λ p. mark_of s (TaskOf p) ≡ task_outcome g v n p) ps → Any (λ p. HasFallen (mark_of s (TaskOf p))) ps → list_all (λ p. has_passed (task_outcome g v n p)) ps ≡ false
after_fallen g s v n ps is h =
    let here = has_at ps h.0 h.1 h.2 h.3 in
    let same = each_has (λ p. mark_of s (TaskOf p) ≡ task_outcome g v n p) h.1 ps is here in
    not_every (λ p. has_passed (task_outcome g v n p)) h.1 ps here (ap has_passed (sym same) ∙ has_passed-fallen (mark_of s (TaskOf h.1)) h.4)

one_task : (g : GraphView) (h : List Entry) (s : StateView) (v : ℕ → Outcome) (rank : ℕ → ℕ) → Ended g h s v rank → (n t : ℕ) → AllByRecursion (λ p. mark_of s (TaskOf p) ≡ task_outcome g v n p) (task_of g t).after → (m : Mark) → mark_of s (TaskOf t) ≡ m → IsEnded m → TaskFact g s t m → m ≡ task_outcome g v (suc n) t
one_task g h s v rank x n t is Passed e ended fact =
    rw (after_pass g s v n (task_of g t).after is (recursion_from_All (λ p. mark_of s (TaskOf p) ≡ Passed) (task_of g t).after fact.0), whole_passes g h s v rank x t fact.1)
one_task g h s v rank x n t is Failed e ended fact =
    rw (after_pass g s v n (task_of g t).after is (recursion_from_All (λ p. mark_of s (TaskOf p) ≡ Passed) (task_of g t).after fact.0), failed_unit g h s v rank x t e fact.1)
one_task g h s v rank x n t is Skipped e ended fact =
    rw (after_fallen g s v n (task_of g t).after is fact.0)
one_task g h s v rank x n t is Waiting e ended fact = absurd ended
one_task g h s v rank x n t is _ e ended fact = absurd ended

every_task : (g : GraphView) (h : List Entry) (s : StateView) (v : ℕ → Outcome) (rank : ℕ → ℕ) → Ended g h s v rank → (n t : ℕ) → rank t < n → t < length g.tasks → mark_of s (TaskOf t) ≡ task_outcome g v n t
every_task g h s v rank x zero t lt within = absurd (omega arith)
every_task g h s v rank x (suc n) t lt within =
    one_task g h s v rank x n t (afters (task_of g t).after (recursion_from_All (λ p. rank p < rank t) (task_of g t).after (x.ranks t)) (recursion_from_All (λ p. p < length g.tasks) (task_of g t).after (x.apart.after_within t)) (λ p below inside. every_task g h s v rank x n p (omega arith) inside))
    (mark_of s (TaskOf t)) refl (task_ended g h s v rank x t within) (x.kept.tasks t)
  where
    afters : (ps : List ℕ) → AllByRecursion (λ p. rank p < rank t) ps → AllByRecursion (λ p. p < length g.tasks) ps → ((p : ℕ) → rank p < rank t → p < length g.tasks → mark_of s (TaskOf p) ≡ task_outcome g v n p) → AllByRecursion (λ p. mark_of s (TaskOf p) ≡ task_outcome g v n p) ps
    afters [] a b f = tt
    afters (p ∷ ps) a b f = (f p a.0 b.0, afters ps a.1 b.1 f)

-- a unit
before_passes : (g : GraphView) (h : List Entry) (s : StateView) (v : ℕ → Outcome) (rank : ℕ → ℕ) → Ended g h s v rank → (t a : ℕ) → IsActionOf g t a → UnitsBefore g s t a → earlier_pass g v t a ≡ true
before_passes g h s v rank x t a ia all =
    every (action_passes g v) (range_with_len (task_of g t).first_action (a - (task_of g t).first_action))
    (each_in_range (λ b. action_passes g v b ≡ true) (task_of g t).first_action (a - (task_of g t).first_action)
    (λ b ib. every (λ u. passes (v u)) (units_of g b)
    (each_unit (λ u. passes (v u) ≡ true) g b
    (λ u iu. passes_of v h u (mark_of s (UnitOf u)) x.agrees (x.recorded.closed u) (all.each b u (omega arith, omega arith) (omega arith) iu)))))

before_fails : (g : GraphView) (h : List Entry) (s : StateView) (v : ℕ → Outcome) (rank : ℕ → ℕ) → Ended g h s v rank → (t a : ℕ) → IsActionOf g t a → EarlierFailed g s t a → earlier_pass g v t a ≡ false
before_fails g h s v rank x t a ia e =
    let low = e.2 in let lt = e.3 in
    not_every (action_passes g v) e.0 (range_with_len (task_of g t).first_action (a - (task_of g t).first_action))
    (has_in_range (task_of g t).first_action (a - (task_of g t).first_action) e.0 (omega arith, omega arith))
    (not_every (λ u. passes (v u)) e.1 (units_of g e.0) (has_unit g e.0 e.1 e.4) (fails_of v h e.1 (mark_of s (UnitOf e.1)) x.agrees (x.recorded.closed e.1) e.5))

is_skipped_false : (m : Mark) → (m ≡ Skipped → ⊥) → is_skipped m ≡ false
is_skipped_false Skipped f = absurd (f refl)
is_skipped_false Waiting f = refl
is_skipped_false _ f = refl

done_unit : (g : GraphView) (h : List Entry) (s : StateView) (v : ℕ → Outcome) (rank : ℕ → ℕ) → Ended g h s v rank → (n t a u : ℕ) → IsActionOf g t a → IsUnitOf g a u → mark_of s (TaskOf t) ≡ task_outcome g v n t → (o : Outcome) → closings h u ≡ o ∷ [] → (mark_of s (UnitOf u) ≡ Skipped → ⊥) → UnitsBefore g s t a → outcome_in h u ≡ unit_outcome g v n t a u
done_unit g h s v rank x n t a u ia iu is o c not_skipped before =
    let runs : is_skipped (task_outcome g v n t) ≡ false = is_skipped_false (task_outcome g v n t) (λ e. not_skipped ((subst (TaskFact g s t) (is ∙ e) (x.kept.tasks t)).1.each a u ia iu)) in
    rw (runs, before_passes g h s v rank x t a ia before) (ap (last_or NotRun) c ∙ sym (x.agrees u o c))

skipped_unit : (g : GraphView) (h : List Entry) (s : StateView) (v : ℕ → Outcome) (rank : ℕ → ℕ) → Ended g h s v rank → (n t a u : ℕ) → IsActionOf g t a → IsUnitOf g a u → mark_of s (TaskOf t) ≡ task_outcome g v n t → closings h u ≡ [] → (mark_of s (TaskOf t) ≡ Skipped) ⊎ EarlierFailed g s t a → outcome_in h u ≡ unit_outcome g v n t a u
skipped_unit g h s v rank x n t a u ia iu is c (inl e) =
    let skipped : is_skipped (task_outcome g v n t) ≡ true = ap is_skipped (sym is ∙ e) in
    rw skipped (ap (last_or NotRun) c)
skipped_unit g h s v rank x n t a u ia iu is c (inr e) = rw (before_fails g h s v rank x t a ia e) (ap (last_or NotRun) c ∙ both (is_skipped (task_outcome g v n t)))
  where
    both : (b : Bool) → NotRun ≡ cond b NotRun NotRun
    both true = refl
    both false = refl

one_unit : (g : GraphView) (h : List Entry) (s : StateView) (v : ℕ → Outcome) (rank : ℕ → ℕ) → Ended g h s v rank → (n t a u : ℕ) → IsActionOf g t a → IsUnitOf g a u → mark_of s (TaskOf t) ≡ task_outcome g v n t → (m : Mark) → mark_of s (UnitOf u) ≡ m → IsEnded m → UnitFact g s t a m → ClosedAs (closings h u) m → outcome_in h u ≡ unit_outcome g v n t a u
one_unit g h s v rank x n t a u ia iu is Passed e ended fact c = done_unit g h s v rank x n t a u ia iu is c.0 c.1 (λ k. cc (e, k)) fact
one_unit g h s v rank x n t a u ia iu is Failed e ended fact c = done_unit g h s v rank x n t a u ia iu is c.0 c.1 (λ k. cc (e, k)) fact
one_unit g h s v rank x n t a u ia iu is Skipped e ended fact c = skipped_unit g h s v rank x n t a u ia iu is c fact
one_unit g h s v rank x n t a u ia iu is Waiting e ended fact c = absurd ended
one_unit g h s v rank x n t a u ia iu is _ e ended fact c = absurd ended

-- The marks and outcomes of a lawful history in which every mark has ended are those of the plan.
pub comes_to : (g : GraphView) (h : List Entry) (v : ℕ → Outcome) (rank : ℕ → ℕ) (n : ℕ) → RangesApart g → AreRanks g rank → ((t : ℕ) → t < length g.tasks → rank t < n) → Lawful g h → HasEnded (replay g h) → GivesClosedOutcomes v h → ComesTo g h v n
comes_to g h v rank n apart ranks deep lawful ended agrees = record {
  tasks = tasks;
  units = λ t a u ia iu. one_unit g h (replay g h) v rank x n t a u ia iu (tasks t (apart.task_within t a ia)) (mark_of (replay g h) (UnitOf u)) refl (unit_ended g h (replay g h) v rank x a u iu) (x.kept.units t a u ia iu) (x.recorded.closed u);
}
  where
    holds : Holds g h (replay g h)
    holds = holds_after g h apart lawful

    x : Ended g h (replay g h) v rank
    x = record { apart = apart; ranks = ranks; kept = holds.kept; recorded = holds.recorded; agrees = agrees; ended = ended }

    tasks : (t : ℕ) → t < length g.tasks → mark_of (replay g h) (TaskOf t) ≡ task_outcome g v n t
    tasks t within = every_task g h (replay g h) v rank x n t (deep t within) within
