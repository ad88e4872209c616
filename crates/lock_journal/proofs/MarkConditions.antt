-- From the condition of a kind to what it says of marks.
use Rattle.std.proofs.Common.{◌≡◌, ℕ, zero, suc, ◌-◌, ◌==◌, ◌⊎◌, Bool, true, not, ◌&&◌, ◌||◌, List, [], ◌∷◌, length, Some, None, refl, sym, ap, subst, inl, inr, arith}
use Rattle.std.specs.List.{All, Any, AllByRecursion, list_any, list_all, range_with_len}
use Rattle.std.proofs.lemmas.Bool.{and_parts, or_cases, eqb-true}
use Rattle.std.proofs.lemmas.List.Elements.{All-from_recursion}
use Rattle.lock_journal.specs.Names.{WorkerId, Mark, Waiting, Queued, Running, Passed, Failed, Skipped, TaskOf, ActionOf, UnitOf, same_mark}
use Rattle.lock_journal.specs.Names.{GraphView, task_of, action_of, earlier_actions, task_with, actions_of, items_of, units_of, IsIn, IsActionOf}
use Rattle.lock_journal.specs.Names.{IsUnitOf, StateView, mark_of, Kind, Start, Skip, Submit, Park, Resume, Claim, Close, Block, Unblock, End}
use Rattle.lock_journal.specs.Names.{Acquire, HandBack, has_passed, has_ended, earlier_passed, fetch_closed, never_ran, works_on, units_passed}
use Rattle.lock_journal.specs.Names.{condition, IsDone, IsEnded}
use Rattle.resource_lock.proofs.lemmas.Undo.{same_mark_is}
use Rattle.lock_transforms.specs.Table.{has_fallen}
use Rattle.lock_journal.proofs.Conditions.{HasFallen, EarlierPassed, EarlierFailed, FetchDone, IsThrough, MarkCondition}
use Rattle.lock_journal.proofs.lemmas.Fitting.{RangesApart}
use Rattle.lock_journal.proofs.Kept.{list_all-true}
use Rattle.lock_journal.proofs.Ranges.{Has, has_in_range, has_unit, has_action, each_has, each_in_range, each_unit}

-- what a test of some member finds
pub record Found (test : ℕ → Bool) (xs : List ℕ) : Type 0 where
  pub it : ℕ
  pub has : Has it xs
  pub passes : test it ≡ true

list_any-true : (test : ℕ → Bool) (xs : List ℕ) → list_any test xs ≡ true → Found test xs
list_any-true test [] h = absurd (cc)
list_any-true test (x ∷ xs) h = at (or_cases (test x) (list_any test xs) h) (list_any-true test xs)
  where
    at : (test x ≡ true) ⊎ (list_any test xs ≡ true) → (list_any test xs ≡ true → Found test xs) → Found test (x ∷ xs)
    at (inl e) rest = record { it = x; has = inl refl; passes = e }
    at (inr e) rest = let r = rest e in record { it = r.it; has = inr r.has; passes = r.passes }

any_by : (P : ℕ → Type 0) (test : ℕ → Bool) → ((x : ℕ) → test x ≡ true → P x) → (xs : List ℕ) → list_any test xs ≡ true → Any P xs
any_by P test f [] h = absurd (cc)
any_by P test f (x ∷ xs) h = at (or_cases (test x) (list_any test xs) h) (any_by P test f xs)
  where
    at : (test x ≡ true) ⊎ (list_any test xs ≡ true) → (list_any test xs ≡ true → Any P xs) → Any P (x ∷ xs)
    at (inl e) rest = (zero, x, omega arith, refl, f x e)
    at (inr e) rest = let r = rest e in let lt = r.2 in (suc r.0, r.1, omega arith, r.3, r.4)

by_test : (P : ℕ → Type 0) (test : ℕ → Bool) → ((x : ℕ) → test x ≡ true → P x) → (xs : List ℕ) → AllByRecursion (λ x. test x ≡ true) xs → AllByRecursion P xs
by_test P test f [] h = tt
by_test P test f (x ∷ xs) h = (f x h.0, by_test P test f xs h.1)

all_by : (P : ℕ → Type 0) (test : ℕ → Bool) → ((x : ℕ) → test x ≡ true → P x) → (xs : List ℕ) → list_all test xs ≡ true → All P xs
all_by P test f xs h = All-from_recursion P xs (by_test P test f xs (list_all-true test xs h))

-- the member of a list that passes a test of all
of_all : (test : ℕ → Bool) (xs : List ℕ) (x : ℕ) → list_all test xs ≡ true → Has x xs → test x ≡ true
of_all test xs x h has = each_has (λ y. test y ≡ true) x xs (list_all-true test xs h) has

fallen_of : (m : Mark) → has_fallen m ≡ true → HasFallen m
fallen_of m h = at (or_cases (same_mark m Failed) (same_mark m Skipped) h)
  where
    at : (same_mark m Failed ≡ true) ⊎ (same_mark m Skipped ≡ true) → HasFallen m
    at (inl e) = inl (same_mark_is m Failed e)
    at (inr e) = inr (same_mark_is m Skipped e)

ended_of : (m : Mark) → has_ended m ≡ true → IsEnded m
ended_of Passed h = tt
ended_of Failed h = tt
ended_of Skipped h = tt
ended_of _ h = absurd (cc)

earlier_of : (g : GraphView) (s : StateView) (a : ℕ) → earlier_passed g s a ≡ true → EarlierPassed g s (action_of g a).task a
earlier_of g s a h = λ b ib lt.
    let low = ib.0 in
    let has : Has b (earlier_actions g a) = has_in_range (task_of g (action_of g a).task).first_action (a - (task_of g (action_of g a).task).first_action) b (omega arith, omega arith) in
    let one = and_parts (has_passed (mark_of s (ActionOf b))) (units_passed g s b) (of_all (λ b. has_passed (mark_of s (ActionOf b)) && units_passed g s b) (earlier_actions g a) b h has) in (
      same_mark_is (mark_of s (ActionOf b)) Passed one.0,
      λ u iu. same_mark_is (mark_of s (UnitOf u)) Passed (of_all (λ u. has_passed (mark_of s (UnitOf u))) (units_of g b) u one.1 (has_unit g b u iu)),
    )

fetch_of : (g : GraphView) (s : StateView) (a : ℕ) → fetch_closed g s a ≡ true → FetchDone g s a
fetch_of g s a h = λ u i. subst (λ n. IsDone (mark_of s (UnitOf n))) (sym i.1) (at i.0 (or_cases _ _ h))
  where
    done : (m : Mark) → (same_mark m Passed ≡ true) ⊎ (same_mark m Failed ≡ true) → IsDone m
    done m (inl e) = inl (same_mark_is m Passed e)
    done m (inr e) = inr (same_mark_is m Failed e)

    first : Mark
    first = mark_of s (UnitOf (action_of g a).first_unit)

    no_fetch : (action_of g a).fetch ≡ true → not (action_of g a).fetch ≡ true → IsDone first
    no_fetch e k = absurd (cc (ap not e, k))

    passed : (action_of g a).fetch ≡ true → (not (action_of g a).fetch ≡ true) ⊎ (has_passed first ≡ true) → IsDone first
    passed e (inl k) = no_fetch e k
    passed e (inr k) = done first (inl k)

    at : (action_of g a).fetch ≡ true → ((not (action_of g a).fetch || has_passed first) ≡ true) ⊎ (same_mark first Failed ≡ true) → IsDone first
    at e (inl k) = passed e (or_cases (not (action_of g a).fetch) (has_passed first) k)
    at e (inr k) = done first (inr k)

failed_of : (g : GraphView) (s : StateView) (a : ℕ) → IsActionOf g (action_of g a).task a → list_any (λ b. list_any (λ u. same_mark (mark_of s (UnitOf u)) Failed) (units_of g b)) (earlier_actions g a) ≡ true → EarlierFailed g s (action_of g a).task a
failed_of g s a ia h =
    let first : ℕ = (task_of g (action_of g a).task).first_action in
    let o = list_any-true (λ b. list_any (λ u. same_mark (mark_of s (UnitOf u)) Failed) (units_of g b)) (earlier_actions g a) h in
    let i = list_any-true (λ u. same_mark (mark_of s (UnitOf u)) Failed) (units_of g o.it) o.passes in
    let inside : IsIn first (a - first) o.it = each_has (IsIn first (a - first)) o.it (earlier_actions g a) (each_in_range (IsIn first (a - first)) first (a - first) (λ n x. x)) o.has in
    let low = inside.0 in
    let high = inside.1 in
    let own = ia.0 in
    let top = ia.1 in
    (o.it, i.it, (omega arith, omega arith), omega arith, each_has (IsUnitOf g o.it) i.it (units_of g o.it) (each_unit (IsUnitOf g o.it) g o.it (λ u iu. iu)) i.has, same_mark_is (mark_of s (UnitOf i.it)) Failed i.passes)

through_of : (g : GraphView) (s : StateView) (t a : ℕ) → RangesApart g → IsActionOf g t a → (has_passed (mark_of s (ActionOf a)) || never_ran g s a) ≡ true → IsThrough g s t a
through_of g s t a apart ia h = at (or_cases (has_passed (mark_of s (ActionOf a))) (never_ran g s a) h)
  where
    task : (action_of g a).task ≡ t
    task = apart.one_task (action_of g a).task t a (apart.own_task a (apart.action_within t a ia)) ia

    at : (has_passed (mark_of s (ActionOf a)) ≡ true) ⊎ (never_ran g s a ≡ true) → IsThrough g s t a
    at (inl e) = inl (same_mark_is (mark_of s (ActionOf a)) Passed e)
    at (inr e) =
        let p = and_parts _ _ e in
        let q = and_parts _ _ p.0 in
        inr (same_mark_is (mark_of s (ActionOf a)) Waiting q.0, subst (λ z. EarlierFailed g s z a) task (failed_of g s a (apart.own_task a (apart.action_within t a ia)) p.1))

pub mark_condition : (g : GraphView) (s : StateView) (w : WorkerId) (k : Kind) → RangesApart g → condition g s w k ≡ true → MarkCondition g s w k
mark_condition g s w (Start t) apart h =
    let p = and_parts _ _ (and_parts _ _ h).0 in
    (same_mark_is (mark_of s (TaskOf t)) Waiting p.0, all_by (λ p. mark_of s (TaskOf p) ≡ Passed) (λ p. has_passed (mark_of s (TaskOf p))) (λ x e. same_mark_is (mark_of s (TaskOf x)) Passed e) (task_of g t).after p.1)
mark_condition g s w (Skip t) apart h =
    let p = and_parts _ _ (and_parts _ _ h).0 in
    (same_mark_is (mark_of s (TaskOf t)) Waiting p.0, any_by (λ p. HasFallen (mark_of s (TaskOf p))) (λ p. has_fallen (mark_of s (TaskOf p))) (λ x e. fallen_of (mark_of s (TaskOf x)) e) (task_of g t).after p.1)
mark_condition g s w (Submit a) apart h =
    let p = and_parts _ _ h in
    (earlier_of g s a (and_parts _ _ p.0).1, fetch_of g s a p.1)
mark_condition g s w (Park a) apart h = same_mark_is (mark_of s (ActionOf a)) Queued (and_parts _ _ h).1
mark_condition g s w (Resume a) apart h =
    let p = and_parts _ _ h in (
      same_mark_is (mark_of s (ActionOf a)) (Running w) (and_parts _ _ (and_parts _ _ p.0).0).0,
      λ u i. ended_of (mark_of s (UnitOf u)) (of_all (λ u. has_ended (mark_of s (UnitOf u))) (items_of g a) u p.1 (has_in_range _ _ u i)),
    )
mark_condition g s w (Claim u) apart h = same_mark_is (mark_of s (UnitOf u)) Queued (and_parts _ _ (and_parts _ _ (and_parts _ _ (and_parts _ _ (and_parts _ _ h).0).0).0).0).1
mark_condition g s w (Close d) apart h = same_mark_is (mark_of s (UnitOf d.unit)) (Running w) (and_parts _ _ h).1
mark_condition g s w (Block (Some u)) apart h =
    let f = list_any-true (λ a. (action_of g a).fetch && (action_of g a).first_unit == u && works_on s w (task_with g a) && same_mark (mark_of s (ActionOf a)) Waiting && same_mark (mark_of s (UnitOf u)) Waiting && earlier_passed g s a) (range_with_len 0 (length g.actions)) h in
    let p = and_parts _ _ f.passes in
    let q = and_parts _ _ (and_parts _ _ (and_parts _ _ (and_parts _ _ p.0).0).0).0 in
    (f.it, (q.0, sym (eqb-true (action_of g f.it).first_unit u q.1)), earlier_of g s f.it p.1)
mark_condition g s w (Block None) apart h = tt
mark_condition g s w (Unblock (Some d)) apart h = same_mark_is (mark_of s (UnitOf d.unit)) (Running w) (and_parts _ _ h).1
mark_condition g s w (Unblock None) apart h = tt
mark_condition g s w (End t) apart h =
    let p = and_parts _ _ h in (
      same_mark_is (mark_of s (TaskOf t)) (Running w) (and_parts _ _ (and_parts _ _ (and_parts _ _ p.0).0).0).0,
      λ a ia. through_of g s t a apart ia (of_all (λ a. has_passed (mark_of s (ActionOf a)) || never_ran g s a) (actions_of g t) a p.1 (has_action g t a ia)),
    )
mark_condition g s w Acquire apart h = tt
mark_condition g s w HandBack apart h = tt
