-- All tasks are Passed in the state exactly where they are by the plan.
use Rattle.std.proofs.Common.{◌≡◌, ℕ, ◌+◌, ◌<◌, suc, length, Bool, List, [], ◌∷◌, get_or, refl, sym, ap, ap₂, ◌∙◌, arith, ◌&&◌}
use Rattle.std.specs.List.{list_all, range_with_len}
use Rattle.lock_journal.specs.Names.{Waiting, GraphView, Entry, replay, has_passed, task_outcome, ComesTo}
use Rattle.item_actions.specs.declared.outcomes.Outcome.{Outcome}

-- a test of a list's members is the test of their places
all_places : {X : Type 0} (test : X → Bool) (at : ℕ → Bool) (d : X) (n : ℕ) (xs : List X) → ((i : ℕ) → i < length xs → test (get_or xs i d) ≡ at (n + i)) → list_all test xs ≡ list_all at (range_with_len n (length xs))
all_places test at d n [] same = refl
all_places test at d n (x ∷ xs) same =
    let here : n + 0 ≡ n = omega arith in
    ap₂ ◌&&◌ (same 0 (omega arith) ∙ ap at here)
    (all_places test at d (n + 1) xs (λ i within. let e : n + suc i ≡ n + 1 + i = omega arith in same (suc i) (omega arith) ∙ ap at e))

pub all_passed_by_plan : (g : GraphView) (h : List Entry) (v : ℕ → Outcome) (n : ℕ) → length (replay g h).tasks ≡ length g.tasks → ComesTo g h v n
    → list_all has_passed (replay g h).tasks ≡ list_all (λ t. has_passed (task_outcome g v n t)) (range_with_len 0 (length g.tasks))
all_passed_by_plan g h v n long comes =
    all_places has_passed (λ t. has_passed (task_outcome g v n t)) Waiting 0 (replay g h).tasks
    (λ t within. let e : 0 + t ≡ t = omega arith in ap has_passed (comes.tasks t (omega arith)) ∙ ap (λ t. has_passed (task_outcome g v n t)) (sym e))
    ∙ ap (λ m. list_all (λ t. has_passed (task_outcome g v n t)) (range_with_len 0 m)) long
