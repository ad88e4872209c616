-- The outcomes unit by unit are those that the actions of a task give in order.
use Rattle.std.proofs.Common.{◌≡◌, ℕ, zero, suc, ◌+◌, ◌-◌, Bool, true, false, not, cond, ◌&&◌, List, [], ◌∷◌, ◌++◌, map, refl, sym, ap, ap₂, ◌∙◌, subst, arith}
use Rattle.std.specs.List.{list_all, range_with_len, AllByRecursion}
use Rattle.std.proofs.lemmas.List.Folds.{list_all-append}
use Rattle.lock_journal.specs.Names.{GraphView, task_of, IsIn, actions_of, units_of, IsActionOf, IsUnitOf, action_passes, task_outcome, is_skipped}
use Rattle.lock_journal.specs.Names.{earlier_pass, unit_outcome}
use Rattle.item_actions.specs.declared.outcomes.Outcome.{Outcome}
use Rattle.item_actions.specs.declared.outcomes.Outcome.TheVariants.{Skipped as NotRun}
use Rattle.lock_journal.specs.InOrder.{outcomes_of_action, outcomes_of_actions, outcomes_of_task, units_of_actions}
use Rattle.lock_journal.proofs.Ranges.{each_unit}

range_more : (first n : ℕ) → range_with_len first (suc n) ≡ range_with_len first n ++ (first + n) ∷ []
range_more first zero = let e : first + 0 ≡ first = omega arith in rw e refl
range_more first (suc n) =
    let e : first + 1 + n ≡ first + suc n = omega arith in
    ap (λ z. first ∷ z) (range_more (first + 1) n ∙ ap (λ k. range_with_len (first + 1) n ++ k ∷ []) e)

-- the test of an action's units, one action more
before_more : (g : GraphView) (v : ℕ → Outcome) (t n : ℕ) → earlier_pass g v t ((task_of g t).first_action + suc n) ≡ (earlier_pass g v t ((task_of g t).first_action + n) && action_passes g v ((task_of g t).first_action + n))
before_more g v t n =
    let first : ℕ = (task_of g t).first_action in
    let test : ℕ → Bool = action_passes g v in
    let e : (task_of g t).first_action + suc n - (task_of g t).first_action ≡ suc n = omega arith in
    let k : (task_of g t).first_action + n - (task_of g t).first_action ≡ n = omega arith in
    ap (λ m. list_all test (range_with_len first m)) e
    ∙ (ap (list_all test) (range_more first n)
    ∙ (list_all-append test (range_with_len first n) ((first + n) ∷ [])
    ∙ (with_true (list_all test (range_with_len first n)) (test (first + n))
    ∙ ap (λ m. list_all test (range_with_len first m) && test (first + n)) (sym k))))
  where
    with_true : (a b : Bool) → (a && (b && true)) ≡ (a && b)
    with_true true true = refl
    with_true true false = refl
    with_true false b = refl

same_map : (f k : ℕ → Outcome) (xs : List ℕ) → AllByRecursion (λ x. f x ≡ k x) xs → map f xs ≡ map k xs
same_map f k [] h = refl
same_map f k (x ∷ xs) h = let a = h.0 in let b = same_map f k xs h.1 in cc

map-append : (f : ℕ → Outcome) (xs ys : List ℕ) → map f (xs ++ ys) ≡ map f xs ++ map f ys
map-append f [] ys = refl
map-append f (x ∷ xs) ys = ap (λ z. f x ∷ z) (map-append f xs ys)

and_three : (a b c : Bool) → (a && (b && c)) ≡ ((a && b) && c)
and_three true b c = refl
and_three false b c = refl

and_true : (a : Bool) → (a && true) ≡ a
and_true true = refl
and_true false = refl

-- one unit
unit_is : (skipped before : Bool) (o : Outcome) → cond skipped NotRun (cond before o NotRun) ≡ cond (not skipped && before) o NotRun
unit_is true before o = refl
unit_is false true o = refl
unit_is false false o = refl

from_here : (g : GraphView) (f : ℕ → Outcome) (v : ℕ → Outcome) (n t k count : ℕ) → ((a u : ℕ) → IsIn ((task_of g t).first_action + k) count a → IsUnitOf g a u → f u ≡ unit_outcome g v n t a u) → map f (units_of_actions g (range_with_len ((task_of g t).first_action + k) count)) ≡ outcomes_of_actions g v (not (is_skipped (task_outcome g v n t)) && earlier_pass g v t ((task_of g t).first_action + k)) (range_with_len ((task_of g t).first_action + k) count)
from_here g f v n t k zero h = refl
from_here g f v n t k (suc count) h =
    let a : ℕ = (task_of g t).first_action + k in
    let e : (task_of g t).first_action + k + 1 ≡ (task_of g t).first_action + suc k = omega arith in
    let skipped : Bool = is_skipped (task_outcome g v n t) in
    let here : map f (units_of g a) ≡ outcomes_of_action g v (not skipped && earlier_pass g v t a) a = same_map f (λ u. cond (not skipped && earlier_pass g v t a) (v u) NotRun) (units_of g a) (each_unit (λ u. f u ≡ cond (not skipped && earlier_pass g v t a) (v u) NotRun) g a (λ u iu. h a u (omega arith, omega arith) iu ∙ unit_is skipped (earlier_pass g v t a) (v u))) in
    let rest = from_here g f v n t (suc k) count (λ b u i iu. let low = i.0 in let high = i.1 in h b u (omega arith, omega arith) iu) in
    let both : map f (units_of_actions g (range_with_len ((task_of g t).first_action + suc k) count)) ≡ outcomes_of_actions g v ((not skipped && earlier_pass g v t a) && action_passes g v a) (range_with_len ((task_of g t).first_action + suc k) count) =
    rest ∙ ap (λ b. outcomes_of_actions g v b (range_with_len ((task_of g t).first_action + suc k) count)) (ap (λ b. not skipped && b) (before_more g v t k) ∙ and_three (not skipped) (earlier_pass g v t a) (action_passes g v a))
    in
    let tail = subst (λ m. map f (units_of_actions g (range_with_len m count)) ≡ outcomes_of_actions g v ((not skipped && earlier_pass g v t a) && action_passes g v a) (range_with_len m count)) (sym e) both in
    map-append f (units_of g a) (units_of_actions g (range_with_len ((task_of g t).first_action + k + 1) count)) ∙ ap₂ ◌++◌ here tail

-- A task's outcomes, read unit by unit, are those that its actions give in order.
pub outcomes_in_order : (g : GraphView) (f : ℕ → Outcome) (v : ℕ → Outcome) (n t : ℕ) → ((a u : ℕ) → IsActionOf g t a → IsUnitOf g a u → f u ≡ unit_outcome g v n t a u) → map f (units_of_actions g (actions_of g t)) ≡ outcomes_of_task g v n t
outcomes_in_order g f v n t h =
    let e : (task_of g t).first_action + 0 ≡ (task_of g t).first_action = omega arith in
    let z : (task_of g t).first_action - (task_of g t).first_action ≡ 0 = omega arith in
    let skipped : Bool = is_skipped (task_outcome g v n t) in
    let none : earlier_pass g v t (task_of g t).first_action ≡ true = ap (λ m. list_all (action_passes g v) (range_with_len (task_of g t).first_action m)) z in
    let start = from_here g f v n t 0 (task_of g t).actions (λ a u i iu. let low = i.0 in let high = i.1 in h a u (omega arith, omega arith) iu) in
    let there = subst (λ m. map f (units_of_actions g (range_with_len m (task_of g t).actions)) ≡ outcomes_of_actions g v (not skipped && earlier_pass g v t m) (range_with_len m (task_of g t).actions)) e start in
    there ∙ ap (λ b. outcomes_of_actions g v b (actions_of g t)) (ap (λ b. not skipped && b) none ∙ and_true (not skipped))
