-- The locks that a worker owns rise, and so do the marks that it runs.
use Rattle.std.proofs.Common.{◌≡◌, ℕ, ◌+◌, ◌<◌, Bool, true, false, cond, ltb, lt-ltb, List, [], ◌∷◌, ◌++◌, map, Option, refl, sym, subst, arith, append-nil, ◌∙◌}
use Rattle.std.specs.List.{AllByRecursion}
use Rattle.lock_journal.specs.Names.{StateView, is_owner, runs_by, LockId, WorkerId, MarkId, TaskOf, ActionOf, owned, owned_from, action_at, claimed}
use Rattle.lock_journal.specs.Names.{places_from, task_at, unit_at, lock_before, mark_before}
use Rattle.worker_notes.specs.SortedLists.{IsRising}

-- all stand from the number n on, so a lower number comes before them
owned_above : (k n : ℕ) (os : List (Option WorkerId)) (w : WorkerId) → k < n → AllByRecursion (λ l. lock_before (record { 0 = k }) l ≡ true) (owned_from n os w)
owned_above k n [] w low = tt
owned_above k n (o ∷ os) w low = at (is_owner o w) (owned_above k (n + 1) os w (omega arith))
  where
    at : (b : Bool) → AllByRecursion (λ l. lock_before (record { 0 = k }) l ≡ true) (owned_from (n + 1) os w)
        → AllByRecursion (λ l. lock_before (record { 0 = k }) l ≡ true) (cond b (record { 0 = n } ∷ owned_from (n + 1) os w) (owned_from (n + 1) os w))
    at true rest = (lt-ltb k n low, rest)
    at false rest = rest

owned_rises : (n : ℕ) (os : List (Option WorkerId)) (w : WorkerId) → IsRising lock_before (owned_from n os w)
owned_rises n [] w = tt
owned_rises n (o ∷ os) w = at (is_owner o w) (owned_rises (n + 1) os w)
  where
    at : (b : Bool) → IsRising lock_before (owned_from (n + 1) os w) → IsRising lock_before (cond b (record { 0 = n } ∷ owned_from (n + 1) os w) (owned_from (n + 1) os w))
    at true rest = (owned_above n (n + 1) os w (omega arith), rest)
    at false rest = rest

pub locks_rise : (s : StateView) (w : WorkerId) (ls : List LockId) → ls ≡ owned s w → IsRising lock_before ls
locks_rise s w ls is = subst (IsRising lock_before) (sym is) (owned_rises 0 s.owners w)

module _ {X : Type 0} (test : X → Bool) where
  places_above : (k n : ℕ) (xs : List X) → k < n → AllByRecursion (λ p. ltb k p ≡ true) (places_from test n xs)
  places_above k n [] low = tt
  places_above k n (x ∷ xs) low = at (test x) (places_above k (n + 1) xs (omega arith))
    where
      at : (b : Bool) → AllByRecursion (λ p. ltb k p ≡ true) (places_from test (n + 1) xs)
          → AllByRecursion (λ p. ltb k p ≡ true) (cond b (n ∷ places_from test (n + 1) xs) (places_from test (n + 1) xs))
      at true rest = (lt-ltb k n low, rest)
      at false rest = rest

  places_rise : (n : ℕ) (xs : List X) → IsRising ltb (places_from test n xs)
  places_rise n [] = tt
  places_rise n (x ∷ xs) = at (test x) (places_rise (n + 1) xs)
    where
      at : (b : Bool) → IsRising ltb (places_from test (n + 1) xs) → IsRising ltb (cond b (n ∷ places_from test (n + 1) xs) (places_from test (n + 1) xs))
      at true rest = (places_above n (n + 1) xs (omega arith), rest)
      at false rest = rest

-- numbered things in the order of their numbers, ahead of others that rise
module _ {X : Type 0} (before : X → X → Bool) (f : ℕ → X) (same : (j k : ℕ) → before (f j) (f k) ≡ ltb j k) where
  all_behind : (x : X) (zs : List X) (j : ℕ) (ps : List ℕ) → x ≡ f j → AllByRecursion (λ p. ltb j p ≡ true) ps → AllByRecursion (λ z. before x z ≡ true) zs → AllByRecursion (λ z. before x z ≡ true) (map f ps ++ zs)
  all_behind x zs j [] is lower behind = behind
  all_behind x zs j (p ∷ ps) is lower behind = (subst (λ y. before y (f p) ≡ true) (sym is) (same j p ∙ lower.0), all_behind x zs j ps is lower.1 behind)

  rise_ahead : (zs : List X) → IsRising before zs → ((j : ℕ) → AllByRecursion (λ z. before (f j) z ≡ true) zs) → (ps : List ℕ) → IsRising ltb ps → IsRising before (map f ps ++ zs)
  rise_ahead zs others behind [] up = others
  rise_ahead zs others behind (p ∷ ps) up = (all_behind (f p) zs p ps refl up.0 (behind p), rise_ahead zs others behind ps up.1)

behind_task : (t : ℕ) (qs us : List ℕ) → AllByRecursion (λ m. mark_before (TaskOf t) m ≡ true) (map action_at qs ++ map unit_at us)
behind_task t [] [] = tt
behind_task t [] (u ∷ us) = (refl, behind_task t [] us)
behind_task t (q ∷ qs) us = (refl, behind_task t qs us)

behind_action : (a : ℕ) (us : List ℕ) → AllByRecursion (λ m. mark_before (ActionOf a) m ≡ true) (map unit_at us)
behind_action a [] = tt
behind_action a (u ∷ us) = (refl, behind_action a us)

pub marks_rise : (s : StateView) (w : WorkerId) (ms : List MarkId) → ms ≡ claimed s w → IsRising mark_before ms
marks_rise s w ms is =
    let ts : List ℕ = places_from (runs_by w) 0 s.tasks in
    let qs : List ℕ = places_from (runs_by w) 0 s.actions in
    let us : List ℕ = places_from (runs_by w) 0 s.units in
    let units : IsRising mark_before (map unit_at us) =
    subst (IsRising mark_before) (append-nil (map unit_at us)) (rise_ahead mark_before unit_at (λ j k. refl) [] tt (λ j. tt) us (places_rise (runs_by w) 0 s.units)) in
    let actions : IsRising mark_before (map action_at qs ++ map unit_at us) = rise_ahead mark_before action_at (λ j k. refl) (map unit_at us) units (λ j. behind_action j us) qs (places_rise (runs_by w) 0 s.actions) in
    subst (IsRising mark_before) (sym is) (rise_ahead mark_before task_at (λ j k. refl) (map action_at qs ++ map unit_at us) actions (λ j. behind_task j qs us) ts (places_rise (runs_by w) 0 s.tasks))
