-- A graph that fits has what runs rest on.
use Rattle.std.proofs.Common.{◌≡◌, ℕ, zero, suc, ◌+◌, ◌<◌, ◌≤◌, ◌⊎◌, List, [], ◌∷◌, length, get_or, sym, subst, inl, inr, arith}
use Rattle.std.specs.List.{All}
use Rattle.std.proofs.lemmas.Bool.{cases_lt, cases_order}
use Rattle.std.proofs.lemmas.List.{get_or_past}
use Rattle.lock_journal.specs.Names.{Follow, Fits, GraphView, no_task, no_action, task_of, action_of, IsIn, IsActionOf, IsUnitOf, units_in}
use Rattle.lock_journal.proofs.Ranges.{unit_range}

-- the tasks' actions and the actions' units are ranges apart
pub record RangesApart (g : GraphView) : Type 0 where
  pub own_task : (a : ℕ) → a < length g.actions → IsActionOf g (action_of g a).task a
  pub one_task : (t r a : ℕ) → IsActionOf g t a → IsActionOf g r a → t ≡ r
  pub one_action : (a b u : ℕ) → IsUnitOf g a u → IsUnitOf g b u → a ≡ b
  pub task_within : (t a : ℕ) → IsActionOf g t a → t < length g.tasks
  pub action_within : (t a : ℕ) → IsActionOf g t a → a < length g.actions
  pub unit_within : (a u : ℕ) → IsUnitOf g a u → (a < length g.actions) × (u < g.units)
  pub after_within : (t : ℕ) → All (λ p. p < length g.tasks) (task_of g t).after

stop_follow : {X : Type 0} (first count : X → ℕ) (m : ℕ) (ys : List X) (stop : ℕ) → Follow first count m ys stop → m ≤ stop
stop_follow first count m [] stop g = omega arith
stop_follow first count m (y ∷ ys) stop g = let r = stop_follow first count (m + count y) ys stop g.1 in omega arith

-- each range lies between the first number and the stop
within_follow : {X : Type 0} (first count : X → ℕ) (n : ℕ) (xs : List X) (stop i : ℕ) (d : X) → Follow first count n xs stop → i < length xs → (n ≤ first (get_or xs i d)) × (first (get_or xs i d) + count (get_or xs i d) ≤ stop)
within_follow first count n [] stop i d f lt = absurd (omega arith)
within_follow first count n (x ∷ xs) stop zero d f lt = let a = f.0 in let b = stop_follow first count (n + count x) xs stop f.1 in (omega arith, omega arith)
within_follow first count n (x ∷ xs) stop (suc i) d f lt = let r = within_follow first count (n + count x) xs stop i d f.1 (omega arith) in let a = r.0 in (omega arith, r.1)

-- a later range lies behind an earlier one
apart_follow : {X : Type 0} (first count : X → ℕ) (n : ℕ) (xs : List X) (stop i j : ℕ) (d : X) → Follow first count n xs stop → i < j → j < length xs → first (get_or xs i d) + count (get_or xs i d) ≤ first (get_or xs j d)
apart_follow first count n [] stop i j d f lt within = absurd (omega arith)
apart_follow first count n (x ∷ xs) stop i zero d f lt within = absurd (omega arith)
apart_follow first count n (x ∷ xs) stop zero (suc j) d f lt within = let a = f.0 in let r = (within_follow first count (n + count x) xs stop j d f.1 (omega arith)).0 in omega arith
apart_follow first count n (x ∷ xs) stop (suc i) (suc j) d f lt within = apart_follow first count (n + count x) xs stop i j d f.1 (omega arith) (omega arith)

one_follow : {X : Type 0} (first count : X → ℕ) (xs : List X) (stop i j a : ℕ) (d : X) → Follow first count 0 xs stop → i < length xs → j < length xs → IsIn (first (get_or xs i d)) (count (get_or xs i d)) a → IsIn (first (get_or xs j d)) (count (get_or xs j d)) a → i ≡ j
one_follow first count xs stop i j a d f wi wj ini inj = at (cases_order i j)
  where
    at : (i ≡ j) ⊎ ((i < j) ⊎ (j < i)) → i ≡ j
    at (inl e) = e
    at (inr (inl lt)) = let r = apart_follow first count 0 xs stop i j d f lt wj in let b = ini.1 in let c = inj.0 in absurd (omega arith)
    at (inr (inr lt)) = let r = apart_follow first count 0 xs stop j i d f lt wi in let b = inj.1 in let c = ini.0 in absurd (omega arith)

-- past the end there is nothing
task_within : (g : GraphView) (t a : ℕ) → IsActionOf g t a → t < length g.tasks
task_within g t a h = at (cases_lt t (length g.tasks))
  where
    at : (t < length g.tasks) ⊎ (length g.tasks ≤ t) → t < length g.tasks
    at (inl lt) = lt
    at (inr past) = let e = subst (λ z. IsIn z.first_action z.actions a) (get_or_past g.tasks t no_task past) h in let b = e.1 in absurd (omega arith)

action_within : (g : GraphView) (a u : ℕ) → IsUnitOf g a u → a < length g.actions
action_within g a u h = at (cases_lt a (length g.actions))
  where
    at : (a < length g.actions) ⊎ (length g.actions ≤ a) → a < length g.actions
    at (inl lt) = lt
    at (inr past) = let e = subst (λ z. IsIn z.first_unit (units_in z) u) (get_or_past g.actions a no_action past) (unit_range (action_of g a) u h) in let b = e.1 in absurd (omega arith)

pub apart_of : (g : GraphView) → Fits g → RangesApart g
apart_of g h = record {
  own_task = h.own_task;
  one_task = λ t r a it ir. one_follow (λ t. t.first_action) (λ t. t.actions) g.tasks (length g.actions) t r a no_task h.actions_follow (task_within g t a it) (task_within g r a ir) it ir;
  one_action = λ a b u ia ib. one_follow (λ a. a.first_unit) units_in g.actions g.units a b u no_action h.units_follow (action_within g a u ia) (action_within g b u ib) (unit_range (action_of g a) u ia) (unit_range (action_of g b) u ib);
  task_within = λ t a it. task_within g t a it;
  action_within = λ t a it. let r = (within_follow (λ t. t.first_action) (λ t. t.actions) 0 g.tasks (length g.actions) t no_task h.actions_follow (task_within g t a it)).1 in let b = it.1 in omega arith;
  unit_within = λ a u ia. let r = (within_follow (λ a. a.first_unit) units_in 0 g.actions g.units a no_action h.units_follow (action_within g a u ia)).1 in let b = (unit_range (action_of g a) u ia).1 in (action_within g a u ia, omega arith);
  after_within = λ t. afters t (cases_lt t (length g.tasks));
}
  where
    afters : (t : ℕ) → (t < length g.tasks) ⊎ (length g.tasks ≤ t) → All (λ p. p < length g.tasks) (task_of g t).after
    afters t (inl lt) = h.after_within t no_task lt
    afters t (inr past) = subst (λ z. All (λ p. p < length g.tasks) z.after) (sym (get_or_past g.tasks t no_task past)) (λ k d lt. absurd (omega arith))
