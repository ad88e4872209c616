-- Each unit of a graph belongs to the action that is found by its number.
use Rattle.std.proofs.Common.{◌≡◌, ℕ, zero, suc, ◌+◌, ◌<◌, ◌≤◌, Bool, true, false, List, [], ◌∷◌, length, get_or, refl, sym, ◌∙◌, ap, subst, arith, ◌⊎◌, inl, inr, cond}
use Rattle.std.proofs.lemmas.Bool.{cases_lt, and_from, and_right, le-leb, lt-ltb, le-ltb}
use Rattle.lock_journal.specs.Names.{GraphView, action_of, no_action, Fits, Follow, IsIn, IsUnitOf, units_in, fetches, first_item, task_with}
use Rattle.lock_journal.specs.Names.{GraphAction, outcome_in, Entry, outcome_by, ComesTo}
use Rattle.item_actions.specs.declared.outcomes.Outcome.{Outcome}
use Rattle.lock_journal.specs.ByNumber.{has_unit, first_with, action_with}

record IsFoundAt (u : ℕ) (xs : List GraphAction) (m k : ℕ) : Type 0 where
  index : ℕ
  is : k ≡ m + index
  within : index < length xs
  has : IsIn (get_or xs index no_action).first_unit (units_in (get_or xs index no_action)) u

found_here : (u n m : ℕ) (a : GraphAction) (rest : List GraphAction) → a.first_unit ≡ n → n ≤ u → u < n + units_in a → IsFoundAt u (a ∷ rest) m (cond (has_unit u a) m (first_with (has_unit u) (m + 1) rest))
found_here u n m a rest first le here =
    let has : has_unit u a ≡ true = and_from _ _ (le-leb a.first_unit u (omega arith)) (lt-ltb u (a.first_unit + units_in a) (omega arith)) in
    rw has (record { index = zero; is = omega arith; within = omega arith; has = (omega arith, omega arith) })

found_later : (u n m : ℕ) (a : GraphAction) (rest : List GraphAction) → a.first_unit ≡ n → n + units_in a ≤ u → IsFoundAt u rest (m + 1) (first_with (has_unit u) (m + 1) rest) → IsFoundAt u (a ∷ rest) m (cond (has_unit u a) m (first_with (has_unit u) (m + 1) rest))
found_later u n m a rest first past r =
    let lacks : has_unit u a ≡ false = and_right _ _ (le-ltb u (a.first_unit + units_in a) (omega arith)) in
    let e = r.is in
    let l = r.within in
    rw lacks (record { index = suc r.index; is = omega arith; within = omega arith; has = r.has })

found : (u n stop m : ℕ) (xs : List GraphAction) → Follow (λ a. a.first_unit) units_in n xs stop → n ≤ u → u < stop → IsFoundAt u xs m (first_with (has_unit u) m xs)
found u n stop m [] f le lt = absurd (omega arith)
found u n stop m (a ∷ rest) f le lt = at (cases_lt u (n + units_in a)) (λ past. found u (n + units_in a) stop (m + 1) rest f.1 past lt)
  where
    at : (u < n + units_in a) ⊎ (n + units_in a ≤ u) → (n + units_in a ≤ u → IsFoundAt u rest (m + 1) (first_with (has_unit u) (m + 1) rest)) → IsFoundAt u (a ∷ rest) m (cond (has_unit u a) m (first_with (has_unit u) (m + 1) rest))
    at (inl here) later = found_here u n m a rest f.0 le here
    at (inr past) later = found_later u n m a rest f.0 past (later past)

without_fetch : (a : GraphAction) (u : ℕ) → a.fetch ≡ false → IsIn a.first_unit (units_in a) u → IsIn (first_item a) a.items u
without_fetch a u e i = let none : fetches a.fetch ≡ 0 = ap fetches e in let low = i.0 in let high = i.1 in (omega arith, omega arith)

behind_fetch : (a : GraphAction) (u : ℕ) → a.fetch ≡ true → a.first_unit < u → IsIn a.first_unit (units_in a) u → IsIn (first_item a) a.items u
behind_fetch a u e lt i = let one : fetches a.fetch ≡ 1 = ap fetches e in let high = i.1 in (omega arith, omega arith)

unit_in : (a : GraphAction) (u : ℕ) → IsIn a.first_unit (units_in a) u → ((a.fetch ≡ true) × (u ≡ a.first_unit)) ⊎ IsIn (first_item a) a.items u
unit_in a u i = at a.fetch refl (cases_lt a.first_unit u)
  where
    at : (b : Bool) → a.fetch ≡ b → (a.first_unit < u) ⊎ (u ≤ a.first_unit) → ((a.fetch ≡ true) × (u ≡ a.first_unit)) ⊎ IsIn (first_item a) a.items u
    at false e _ = inr (without_fetch a u e i)
    at true e (inl lt) = inr (behind_fetch a u e lt i)
    at true e (inr le) = let low = i.0 in inl (e, omega arith)

pub action_found : (g : GraphView) (u : ℕ) → Fits g → u < g.units → (action_with g u < length g.actions) × IsUnitOf g (action_with g u) u
action_found g u fits lt =
    let r = found u 0 g.units 0 g.actions fits.units_follow (omega arith) lt in
    let e : action_with g u ≡ r.index = r.is ∙ omega arith in
    let l = r.within in
    (omega arith, subst (λ a. IsUnitOf g a u) (sym e) (unit_in (action_of g r.index) u r.has))

-- a run that comes to its plan gives each unit this outcome
pub outcomes_by_number : (g : GraphView) (h : List Entry) (v : ℕ → Outcome) (n u : ℕ) → Fits g → ComesTo g h v n → u < g.units → outcome_in h u ≡ outcome_by g v n u
outcomes_by_number g h v n u fits c lt = let a = action_found g u fits lt in c.units (task_with g (action_with g u)) (action_with g u) u (fits.own_task (action_with g u) a.0) a.1
