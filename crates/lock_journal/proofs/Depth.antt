-- How deep one looks doesn't matter above a task's rank, so the outcomes follow their rule without the bound.
use Rattle.std.proofs.Common.{◌≡◌, ℕ, zero, suc, ◌<◌, ◌≤◌, ◌⊎◌, Bool, List, [], ◌∷◌, length, refl, sym, ap, subst, inl, inr, arith}
use Rattle.std.specs.List.{All, list_all, AllByRecursion}
use Rattle.std.proofs.lemmas.Bool.{cases_lt}
use Rattle.std.proofs.lemmas.List.{get_or_past}
use Rattle.std.proofs.lemmas.List.Elements.{recursion_from_All}
use Rattle.lock_journal.specs.Names.{GraphView, no_task, task_of, has_passed, task_passes, task_outcome, AreRanks}
use Rattle.item_actions.specs.declared.outcomes.Outcome.{Outcome}
use Rattle.lock_journal.specs.Outcomes.{mark_by}

same_tests : (f k : ℕ → Bool) (xs : List ℕ) → AllByRecursion (λ x. f x ≡ k x) xs → list_all f xs ≡ list_all k xs
same_tests f k [] h = refl
same_tests f k (x ∷ xs) h = let a = h.0 in let b = same_tests f k xs h.1 in cc

pub deep_enough : (g : GraphView) (v : ℕ → Outcome) (rank : ℕ → ℕ) → AreRanks g rank → (n m t : ℕ) → rank t < n → rank t < m → task_outcome g v n t ≡ task_outcome g v m t
deep_enough g v rank ranks zero m t a b = absurd (omega arith)
deep_enough g v rank ranks (suc n) zero t a b = absurd (omega arith)
deep_enough g v rank ranks (suc n) (suc m) t a b =
    ap (λ z. mark_by z (task_passes g v t))
    (same_tests (λ p. has_passed (task_outcome g v n p)) (λ p. has_passed (task_outcome g v m p)) (task_of g t).after
    (afters (task_of g t).after (recursion_from_All (λ p. rank p < rank t) (task_of g t).after (ranks t)) (λ p below. deep_enough g v rank ranks n m p (omega arith) (omega arith))))
  where
    afters : (ps : List ℕ) → AllByRecursion (λ p. rank p < rank t) ps → ((p : ℕ) → rank p < rank t → task_outcome g v n p ≡ task_outcome g v m p) → AllByRecursion (λ p. has_passed (task_outcome g v n p) ≡ has_passed (task_outcome g v m p)) ps
    afters [] h f = tt
    afters (p ∷ ps) h f = (ap has_passed (f p h.0), afters ps h.1 f)

-- the rule of the outcomes: the bound is the same on both sides
pub outcome_rule : (g : GraphView) (v : ℕ → Outcome) (rank : ℕ → ℕ) → AreRanks g rank → (n t : ℕ) → rank t < n → task_outcome g v n t ≡ mark_by (list_all (λ p. has_passed (task_outcome g v n p)) (task_of g t).after) (task_passes g v t)
outcome_rule g v rank ranks n t below = deep_enough g v rank ranks n (suc n) t below (omega arith)

-- without `after` any rank serves
pub no_after : (g : GraphView) → All (λ t. t.after ≡ []) g.tasks → AreRanks g (λ t. 0)
no_after g none = λ t. at t (cases_lt t (length g.tasks))
  where
    at : (t : ℕ) → (t < length g.tasks) ⊎ (length g.tasks ≤ t) → All (λ p. 0 < 0) (task_of g t).after
    at t (inl within) = subst (All (λ p. 0 < 0)) (sym (none t no_task within)) (λ k d lt. absurd (omega arith))
    at t (inr past) = subst (λ x. All (λ p. 0 < 0) x.after) (sym (get_or_past g.tasks t no_task past)) (λ k d lt. absurd (omega arith))
