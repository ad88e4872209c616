-- The actions of a task and the units of an action, as lists and as numbers in a range.
use Rattle.std.proofs.Common.{◌≡◌, ℕ, zero, suc, ◌+◌, ◌⊎◌, Bool, true, false, List, [], ◌∷◌, ◌++◌, refl, sym, subst, inl, inr, arith}
use Rattle.std.specs.List.{AllByRecursion, range_with_len}
use Rattle.std.proofs.lemmas.Bool.{cases_eq}
use Rattle.lock_journal.specs.Names.{GraphAction, GraphView, task_of, action_of, IsIn, first_item, actions_of, items_of, fetches, units_of}
use Rattle.lock_journal.specs.Names.{IsActionOf, IsItemOf, IsUnitOf}

-- the number stands in the list
abbrev pub Has : ℕ → List ℕ → Type 0
Has n [] = ⊥
Has n (x ∷ xs) = (n ≡ x) ⊎ Has n xs

pub each_in_range : (P : ℕ → Type 0) (first count : ℕ) → ((n : ℕ) → IsIn first count n → P n) → AllByRecursion P (range_with_len first count)
each_in_range P first zero f = tt
each_in_range P first (suc n) f = (f first (omega arith, omega arith), each_in_range P (first + 1) n (λ m h. let a = h.0 in let b = h.1 in f m (omega arith, omega arith)))

pub has_in_range : (first count n : ℕ) → IsIn first count n → Has n (range_with_len first count)
has_in_range first zero n h = absurd (omega arith)
has_in_range first (suc c) n h = at (cases_eq n first) (has_in_range (first + 1) c n)
  where
    at : (n ≡ first) ⊎ (n ≡ first → ⊥) → (IsIn (first + 1) c n → Has n (range_with_len (first + 1) c)) → Has n (range_with_len first (suc c))
    at (inl e) rest = inl e
    at (inr ne) rest = inr (rest (omega arith, omega arith))

pub each-append : {X : Type 0} (P : X → Type 0) (xs ys : List X) → AllByRecursion P xs → AllByRecursion P ys → AllByRecursion P (xs ++ ys)
each-append P [] ys p q = q
each-append P (x ∷ xs) ys p q = (p.0, each-append P xs ys p.1 q)

pub each_has : (P : ℕ → Type 0) (n : ℕ) (xs : List ℕ) → AllByRecursion P xs → Has n xs → P n
each_has P n (x ∷ xs) p (inl e) = subst P (sym e) p.0
each_has P n (x ∷ xs) p (inr h) = each_has P n xs p.1 h
each_has P n [] p h = absurd h

-- the units of an action as one range: first its fetch, then its items
pub unit_range : (a : GraphAction) (u : ℕ) → ((a.fetch ≡ true) × (u ≡ a.first_unit)) ⊎ IsIn (first_item a) a.items u → IsIn a.first_unit (a.items + fetches a.fetch) u
unit_range a u h = at a.fetch refl h
  where
    at : (b : Bool) → a.fetch ≡ b → ((a.fetch ≡ true) × (u ≡ a.first_unit)) ⊎ IsIn (first_item a) a.items u → IsIn a.first_unit (a.items + fetches a.fetch) u
    at true e (inl f) = let i = f.1 in rw e (omega arith, omega arith)
    at true e (inr f) = let g = rw e at f in let b = g.0 in let c = g.1 in rw e (omega arith, omega arith)
    at false e (inl f) = absurd (cc (e, f.0))
    at false e (inr f) = let g = rw e at f in let b = g.0 in let c = g.1 in rw e (omega arith, omega arith)

pub unit_of_range : (a : GraphAction) (u : ℕ) → IsIn a.first_unit (a.items + fetches a.fetch) u → ((a.fetch ≡ true) × (u ≡ a.first_unit)) ⊎ IsIn (first_item a) a.items u
unit_of_range a u h = at a.fetch refl (cases_eq u a.first_unit)
  where
    at : (b : Bool) → a.fetch ≡ b → (u ≡ a.first_unit) ⊎ (u ≡ a.first_unit → ⊥) → ((a.fetch ≡ true) × (u ≡ a.first_unit)) ⊎ IsIn (first_item a) a.items u
    at true e (inl is) = inl (e, is)
    at true e (inr ne) = let g = rw e at h in let b = g.0 in let c = g.1 in inr (rw e (omega arith, omega arith))
    at false e _ = let g = rw e at h in let b = g.0 in let c = g.1 in inr (rw e (omega arith, omega arith))

pub each_unit : (P : ℕ → Type 0) (g : GraphView) (a : ℕ) → ((u : ℕ) → IsUnitOf g a u → P u) → AllByRecursion P (units_of g a)
each_unit P g a f = each_in_range P (action_of g a).first_unit ((action_of g a).items + fetches (action_of g a).fetch) (λ u h. f u (unit_of_range (action_of g a) u h))

pub has_unit : (g : GraphView) (a u : ℕ) → IsUnitOf g a u → Has u (units_of g a)
has_unit g a u h = has_in_range (action_of g a).first_unit ((action_of g a).items + fetches (action_of g a).fetch) u (unit_range (action_of g a) u h)

pub each_item : (P : ℕ → Type 0) (g : GraphView) (a : ℕ) → ((u : ℕ) → IsItemOf g a u → P u) → AllByRecursion P (items_of g a)
each_item P g a f = each_in_range P (first_item (action_of g a)) (action_of g a).items f

pub each_action : (P : ℕ → Type 0) (g : GraphView) (t : ℕ) → ((a : ℕ) → IsActionOf g t a → P a) → AllByRecursion P (actions_of g t)
each_action P g t f = each_in_range P (task_of g t).first_action (task_of g t).actions f

pub has_action : (g : GraphView) (t a : ℕ) → IsActionOf g t a → Has a (actions_of g t)
has_action g t a h = has_in_range (task_of g t).first_action (task_of g t).actions a h
