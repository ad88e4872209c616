-- The worked histories are lawful: each entry is read against the conditions and the lists of its kind by computing.
use Rattle.std.proofs.Common.{Some, ◌≡◌, ℕ, ◌<◌, ◌≤◌, zero, suc, Bool, true, false, length, [], ◌∷◌, refl, arith}
use Rattle.std.specs.List.{All, AllByRecursion}
use Rattle.std.proofs.lemmas.Bool.{and_parts}
use Rattle.std.proofs.lemmas.List.Elements.{All-nil, All-cons}
use Rattle.lock_journal.specs.Names.{Retention, Retain, Release, ReleaseAndReacquire, WorkerId, MAX_ACTIONS_PER_TASK, MAX_AFTER, MAX_UNITS, Passed}
use Rattle.lock_journal.specs.Names.{Failed, Skipped, can_all, NamesOnly, Fits, GraphView, action_of, IsActionOf, StateView, Kind, Allowed, IsKindOf}
use Rattle.lock_journal.specs.Names.{IsListOf, Lawful, entry, condition, list_of, is_enabled}
use Rattle.item_actions.specs.declared.outcomes.Outcome.TheVariants.{Number, NotThere, Skipped as NotRun}
use Rattle.lock_journal.specs.WorkedRows.{one_task, two_tasks, no_tasks, first_run, run_that_reacquires, run_that_releases, run_that_fetches, run_that_fails, locks_by_turns, start_too_early, IsWorkedRun}
use Rattle.lock_journal.specs.WorkedRows.{all_beside_another, all_by_turns, another_beside_all, first_run_of_all, one_task_of_all, two_projects}

one : {X : Type 0} (P : X → Type 0) (x : X) → P x → All P (x ∷ [])
one P x p = All-cons P x [] p (All-nil P)

one_task_fits : (retention : Retention) (fetch : Bool) (items : ℕ) → 0 < items → items ≤ 8 → Fits (one_task retention fetch items)
one_task_fits retention fetch items some few = record {
  some_worker = omega arith;
  few_workers = omega arith;
  some_lease = omega arith;
  few_leases = omega arith;
  few_locks = omega arith;
  all_within = tt;
  few_tasks = omega arith;
  few_units = bounded fetch;
  few_actions = one (λ t. t.actions ≤ MAX_ACTIONS_PER_TASK) _ (omega arith);
  few_after = one (λ t. length t.after ≤ MAX_AFTER) _ (omega arith);
  locks_within = one (λ t. t.lock.0 < 1) _ (omega arith);
  after_within = one (λ t. All (λ p. p < 1) t.after) _ (All-nil (λ p. p < 1));
  actions_follow = (refl, refl);
  units_follow = (refl, omega arith);
  own_task = own;
  some_item = one (λ a. 0 < a.items) _ some;
}
  where
    bounded : (b : Bool) → (one_task retention b items).units ≤ MAX_UNITS
    bounded true = omega arith
    bounded false = omega arith

    own : (a : ℕ) → a < 1 → IsActionOf (one_task retention fetch items) (action_of (one_task retention fetch items) a).task a
    own zero lt = (omega arith, omega arith)
    own (suc a) lt = absurd (omega arith)

-- an entry with the list of its kind, where the kind can finish
by_list : {g : GraphView} {s : StateView} {w : WorkerId} {k : Kind} → w.0 < g.workers → IsKindOf g k → is_enabled g s w k ≡ true → IsListOf g s w k (list_of g s w k) → AllByRecursion (NamesOnly s) (list_of g s w k) → Allowed g s (entry w k (Some (list_of g s w k)))
by_list {g = g} {s = s} {w = w} {k = k} worker kind enabled list named =
    let parts = and_parts (condition g s w k) (can_all s w (list_of g s w k)) enabled in
    record { worker = worker; kind = kind; finished = record { condition = parts.0; list = list; named = named; possible = parts.1 } }

both : {A B : Type 0} → A → B → A × B
both a b = (a, b)

lawful_first_run : Lawful (one_task Retain false 1) first_run
lawful_first_run =
    both (by_list (omega arith) (omega arith) refl refl (omega arith))
    (both (by_list (omega arith) (omega arith) refl refl (omega arith))
    (both (by_list (omega arith) (omega arith) refl refl (omega arith))
    (both (by_list (omega arith) (omega arith) refl refl (omega arith))
    (both (by_list (omega arith) (omega arith, λ e. cc e) refl refl (omega arith))
    (both (by_list (omega arith) (omega arith) refl refl (omega arith))
    (both (by_list (omega arith) (omega arith) refl refl (omega arith)) tt))))))

lawful_run_that_reacquires : Lawful (one_task ReleaseAndReacquire false 2) run_that_reacquires
lawful_run_that_reacquires =
    both (by_list (omega arith) (omega arith) refl refl (omega arith))
    (both (by_list (omega arith) (omega arith) refl refl (omega arith))
    (both (by_list (omega arith) (omega arith) refl refl (omega arith))
    (both (by_list (omega arith) (omega arith) refl refl (omega arith))
    (both (by_list (omega arith) (omega arith, λ e. cc e) refl refl (omega arith))
    (both (by_list (omega arith) (omega arith) refl refl (omega arith))
    (both (by_list (omega arith) (omega arith, λ e. cc e) refl refl (omega arith))
    (both (by_list (omega arith) (omega arith) refl refl (omega arith))
    (both (by_list (omega arith) (omega arith) refl refl (omega arith)) tt))))))))

lawful_run_that_releases : Lawful (one_task Release false 1) run_that_releases
lawful_run_that_releases =
    both (by_list (omega arith) (omega arith) refl refl (omega arith))
    (both (by_list (omega arith) (omega arith) refl refl (omega arith))
    (both (by_list (omega arith) (omega arith) refl refl (omega arith))
    (both (by_list (omega arith) (omega arith) refl refl (omega arith))
    (both (by_list (omega arith) (omega arith, λ e. cc e) refl refl (omega arith))
    (both (by_list (omega arith) (omega arith) refl refl (omega arith))
    (both (by_list (omega arith) (omega arith) refl refl (omega arith)) tt))))))

lawful_run_that_fetches : Lawful (one_task Retain true 1) run_that_fetches
lawful_run_that_fetches =
    both (by_list (omega arith) (omega arith) refl refl (omega arith))
    (both (by_list (omega arith) (omega arith) refl refl (omega arith))
    (both (by_list (omega arith) (omega arith, λ e. cc e) refl refl (omega arith))
    (both (by_list (omega arith) (omega arith) refl refl (omega arith))
    (both (by_list (omega arith) (omega arith) refl refl (omega arith))
    (both (by_list (omega arith) (omega arith) refl refl (omega arith))
    (both (by_list (omega arith) (omega arith, λ e. cc e) refl refl (omega arith))
    (both (by_list (omega arith) (omega arith) refl refl (omega arith))
    (both (by_list (omega arith) (omega arith) refl refl (omega arith)) tt))))))))

lawful_run_that_fails : Lawful two_tasks run_that_fails
lawful_run_that_fails =
    both (by_list (omega arith) (omega arith) refl refl (omega arith))
    (both (by_list (omega arith) (omega arith) refl refl (omega arith))
    (both (by_list (omega arith) (omega arith) refl refl (omega arith))
    (both (by_list (omega arith) (omega arith) refl refl (omega arith))
    (both (by_list (omega arith) (omega arith, λ e. cc e) refl refl (omega arith))
    (both (by_list (omega arith) (omega arith) refl refl (omega arith))
    (both (by_list (omega arith) (omega arith) refl refl (omega arith))
    (both (by_list (omega arith) (omega arith) refl refl (omega arith)) tt)))))))

pub first_run_is : IsWorkedRun (one_task Retain false 1) first_run (Passed ∷ []) (Number 3 ∷ [])
first_run_is = record { fits = one_task_fits Retain false 1 (omega arith) (omega arith); lawful = lawful_first_run; tasks = refl; units = refl; owners = refl }

pub run_that_reacquires_is : IsWorkedRun (one_task ReleaseAndReacquire false 2) run_that_reacquires (Passed ∷ []) (Number 3 ∷ Number 14 ∷ [])
run_that_reacquires_is = record { fits = one_task_fits ReleaseAndReacquire false 2 (omega arith) (omega arith); lawful = lawful_run_that_reacquires; tasks = refl; units = refl; owners = refl }

pub run_that_releases_is : IsWorkedRun (one_task Release false 1) run_that_releases (Passed ∷ []) (Number 3 ∷ [])
run_that_releases_is = record { fits = one_task_fits Release false 1 (omega arith) (omega arith); lawful = lawful_run_that_releases; tasks = refl; units = refl; owners = refl }

pub run_that_fetches_is : IsWorkedRun (one_task Retain true 1) run_that_fetches (Passed ∷ []) (Number 14 ∷ Number 3 ∷ [])
run_that_fetches_is = record { fits = one_task_fits Retain true 1 (omega arith) (omega arith); lawful = lawful_run_that_fetches; tasks = refl; units = refl; owners = refl }

two : {X : Type 0} (P : X → Type 0) (x y : X) → P x → P y → All P (x ∷ y ∷ [])
two P x y p q = All-cons P x (y ∷ []) p (one P y q)

two_tasks_fit : Fits two_tasks
two_tasks_fit = record {
  some_worker = omega arith;
  few_workers = omega arith;
  some_lease = omega arith;
  few_leases = omega arith;
  few_locks = omega arith;
  all_within = tt;
  few_tasks = omega arith;
  few_units = omega arith;
  few_actions = two (λ t. t.actions ≤ MAX_ACTIONS_PER_TASK) _ _ (omega arith) (omega arith);
  few_after = two (λ t. length t.after ≤ MAX_AFTER) _ _ (omega arith) (omega arith);
  locks_within = two (λ t. t.lock.0 < 1) _ _ (omega arith) (omega arith);
  after_within = two (λ t. All (λ p. p < 2) t.after) _ _ (All-nil (λ p. p < 2)) (one (λ p. p < 2) 0 (omega arith));
  actions_follow = (refl, (refl, refl));
  units_follow = (refl, (refl, refl));
  own_task = own;
  some_item = two (λ a. 0 < a.items) _ _ (omega arith) (omega arith);
}
  where
    own : (a : ℕ) → a < 2 → IsActionOf two_tasks (action_of two_tasks a).task a
    own zero lt = (omega arith, omega arith)
    own (suc zero) lt = (omega arith, omega arith)
    own (suc (suc a)) lt = absurd (omega arith)

pub run_that_fails_is : IsWorkedRun two_tasks run_that_fails (Failed ∷ Skipped ∷ []) (NotThere ∷ NotRun ∷ [])
run_that_fails_is = record { fits = two_tasks_fit; lawful = lawful_run_that_fails; tasks = refl; units = refl; owners = refl }

pub locks_by_turns_lawful : Lawful no_tasks locks_by_turns
locks_by_turns_lawful =
    both record { worker = omega arith; kind = tt; finished = record { condition = refl; list = refl; named = omega arith; possible = refl } }
    (both record { worker = omega arith; kind = tt; finished = tt }
    (both (by_list (omega arith) tt refl refl (omega arith))
    (both record { worker = omega arith; kind = tt; finished = record { condition = refl; list = refl; named = omega arith; possible = refl } }
    (both record { worker = omega arith; kind = tt; finished = record { condition = refl; list = refl; named = omega arith; possible = refl } }
    tt))))

pub start_too_early_unlawful : Lawful two_tasks start_too_early → ⊥
start_too_early_unlawful lawful = absurd (cc lawful.0.finished.condition)

one_task_of_all_fits : Fits one_task_of_all
one_task_of_all_fits = record {
  some_worker = omega arith;
  few_workers = omega arith;
  some_lease = omega arith;
  few_leases = omega arith;
  few_locks = omega arith;
  all_within = omega arith;
  few_tasks = omega arith;
  few_units = omega arith;
  few_actions = one (λ t. t.actions ≤ MAX_ACTIONS_PER_TASK) _ (omega arith);
  few_after = one (λ t. length t.after ≤ MAX_AFTER) _ (omega arith);
  locks_within = one (λ t. t.lock.0 < 2) _ (omega arith);
  after_within = one (λ t. All (λ p. p < 1) t.after) _ (All-nil (λ p. p < 1));
  actions_follow = (refl, refl);
  units_follow = (refl, refl);
  own_task = own;
  some_item = one (λ a. 0 < a.items) _ (omega arith);
}
  where
    own : (a : ℕ) → a < 1 → IsActionOf one_task_of_all (action_of one_task_of_all a).task a
    own zero lt = (omega arith, omega arith)
    own (suc a) lt = absurd (omega arith)

lawful_first_run_of_all : Lawful one_task_of_all first_run_of_all
lawful_first_run_of_all =
    both (by_list (omega arith) (omega arith) refl refl (omega arith))
    (both (by_list (omega arith) (omega arith) refl refl (omega arith))
    (both (by_list (omega arith) (omega arith) refl refl (omega arith))
    (both (by_list (omega arith) (omega arith) refl refl (omega arith))
    (both (by_list (omega arith) (omega arith, λ e. cc e) refl refl (omega arith))
    (both (by_list (omega arith) (omega arith) refl refl (omega arith))
    (both (by_list (omega arith) (omega arith) refl refl (omega arith)) tt))))))

pub first_run_of_all_is : IsWorkedRun one_task_of_all first_run_of_all (Passed ∷ []) (Number 3 ∷ [])
first_run_of_all_is = record { fits = one_task_of_all_fits; lawful = lawful_first_run_of_all; tasks = refl; units = refl; owners = refl }

pub all_by_turns_lawful : Lawful two_projects all_by_turns
all_by_turns_lawful =
    both record { worker = omega arith; kind = tt; finished = record { condition = refl; list = refl; named = omega arith; possible = refl } }
    (both record { worker = omega arith; kind = tt; finished = record { condition = refl; list = refl; named = omega arith; possible = refl } }
    (both record { worker = omega arith; kind = tt; finished = tt }
    (both (by_list (omega arith) tt refl refl (omega arith))
    (both record { worker = omega arith; kind = tt; finished = record { condition = refl; list = refl; named = omega arith; possible = refl } }
    tt))))

pub all_beside_another_unlawful : Lawful two_projects all_beside_another → ⊥
all_beside_another_unlawful lawful = absurd (cc lawful.1.0.finished.possible)

pub another_beside_all_unlawful : Lawful two_projects another_beside_all → ⊥
another_beside_all_unlawful lawful = absurd (cc lawful.1.0.finished.possible)
