-- What the list of a worker's claimed marks says of the marks.
use Rattle.std.proofs.Common.{◌≡◌, ℕ, suc, ◌+◌, length, Bool, true, false, not, ◌&&◌, ◌||◌, cond, eqb, List, [], ◌∷◌, ◌++◌, map, get_or, Option}
use Rattle.std.proofs.Common.{refl, sym, ap, ◌∙◌, subst, arith, inl, inr}
use Rattle.std.specs.Prelude.{Contains}
use Rattle.std.specs.List.{list_any}
use Rattle.std.proofs.lemmas.Bool.{cases_Bool, eq-eqb, eqb-true, false≢true, or_parts}
use Rattle.std.proofs.lemmas.List.Folds.{list_any_at, list_any-append}
use Rattle.lock_journal.specs.Names.{StateView, holding_of, is_idle, is_owner, is_parked, mark_of, owns_any, runs_any, runs_by, runs_task, runs_unit}
use Rattle.lock_journal.specs.Names.{LockId, WorkerId, Waiting, Running, MarkId, TaskOf, ActionOf, UnitOf, owned, owned_from, action_at, claimed}
use Rattle.lock_journal.specs.Names.{is_action, is_unit, places_from, task_at, unit_at, with_member}
use Rattle.lock_journal.proofs.lemmas.Others.{running_of}

-- a test of the marks of one kind
any_map : {X : Type 0} (p : MarkId → Bool) (q : X → Bool) (f : X → MarkId) → ((x : X) → p (f x) ≡ q x) → (xs : List X) → list_any p (map f xs) ≡ list_any q xs
any_map p q f same [] = refl
any_map p q f same (x ∷ xs) = λ i. same x i || any_map p q f same xs i

none : {X : Type 0} (xs : List X) → list_any (λ x. false) xs ≡ false
none [] = refl
none (x ∷ xs) = none xs

any_of_three : (p : MarkId → Bool) (f g h : ℕ → Bool) → ((n : ℕ) → p (TaskOf n) ≡ f n) → ((n : ℕ) → p (ActionOf n) ≡ g n) → ((n : ℕ) → p (UnitOf n) ≡ h n) → (ts qs us : List ℕ)
    → list_any p (map task_at ts ++ (map action_at qs ++ map unit_at us)) ≡ (list_any f ts || (list_any g qs || list_any h us))
any_of_three p f g h ft gt ht ts qs us =
    list_any-append p (map task_at ts) (map action_at qs ++ map unit_at us)
    ∙ (λ i. any_map p f task_at ft ts i || list_any-append p (map action_at qs) (map unit_at us) i)
    ∙ (λ i. list_any f ts || (any_map p g action_at gt qs i || any_map p h unit_at ht us i))

-- something stands at a place, or nothing does
any_place : {X : Type 0} (test : X → Bool) (n : ℕ) (xs : List X) → list_any (λ k. true) (places_from test n xs) ≡ list_any test xs
any_place test n [] = refl
any_place test n (x ∷ xs) = elim (cases_Bool (test x)) [
  | inl is ↦ (λ i. list_any (λ k. true) (cond (is i) (n ∷ places_from test (n + 1) xs) (places_from test (n + 1) xs))) ∙ sym (ap (λ b. b || list_any test xs) is)
  | inr fails ↦ (λ i. list_any (λ k. true) (cond (fails i) (n ∷ places_from test (n + 1) xs) (places_from test (n + 1) xs))) ∙ any_place test (n + 1) xs ∙ sym (ap (λ b. b || list_any test xs) fails)
]

or_nothing : (b : Bool) → (b || false) ≡ b
or_nothing true = refl
or_nothing false = refl

-- the list of claimed marks says whether the worker runs a unit, and whether it waits for an action
pub unit_claimed : (s : StateView) (w : WorkerId) → list_any is_unit (claimed s w) ≡ runs_unit s w
unit_claimed s w =
    let ts = places_from (runs_by w) 0 s.tasks in
    let qs = places_from (runs_by w) 0 s.actions in
    let us = places_from (runs_by w) 0 s.units in
    any_of_three is_unit (λ n. false) (λ n. false) (λ n. true) (λ n. refl) (λ n. refl) (λ n. refl) ts qs us
    ∙ (λ i. none ts i || (none qs i || any_place (runs_by w) 0 s.units i))

pub action_claimed : (s : StateView) (w : WorkerId) → list_any is_action (claimed s w) ≡ is_parked s w
action_claimed s w =
    let ts = places_from (runs_by w) 0 s.tasks in
    let qs = places_from (runs_by w) 0 s.actions in
    let us = places_from (runs_by w) 0 s.units in
    any_of_three is_action (λ n. false) (λ n. true) (λ n. false) (λ n. refl) (λ n. refl) (λ n. refl) ts qs us
    ∙ (λ i. none ts i || (any_place (runs_by w) 0 s.actions i || none us i)) ∙ or_nothing (is_parked s w)

-- a worker without claimed marks runs nothing
pub runs_nothing : (s : StateView) (w : WorkerId) → claimed s w ≡ [] → runs_any s w ≡ false
runs_nothing s w h =
    let ts = places_from (runs_by w) 0 s.tasks in
    let qs = places_from (runs_by w) 0 s.actions in
    let us = places_from (runs_by w) 0 s.units in
    let all : list_any (λ m. true) (claimed s w) ≡ (runs_task s w || (is_parked s w || runs_unit s w)) =
    any_of_three (λ m. true) (λ n. true) (λ n. true) (λ n. true) (λ n. refl) (λ n. refl) (λ n. refl) ts qs us
    ∙ (λ i. any_place (runs_by w) 0 s.tasks i || (any_place (runs_by w) 0 s.actions i || any_place (runs_by w) 0 s.units i)) in
    let either : (runs_task s w || (is_parked s w || runs_unit s w)) ≡ false = sym all ∙ ap (list_any (λ (m : MarkId). true)) h in
    let parts = or_parts (runs_task s w) (is_parked s w || runs_unit s w) either in
    let others = or_parts (is_parked s w) (runs_unit s w) parts.1 in
    (λ i. parts.0 i || others.0 i || others.1 i)

abbrev lock_at : ℕ → LockId
lock_at k = record { 0 = k }

owns_nothing : (n : ℕ) (os : List (Option WorkerId)) (w : WorkerId) → owned_from n os w ≡ [] → list_any (λ o. is_owner o w) os ≡ false
owns_nothing n [] w h = refl
owns_nothing n (o ∷ os) w h = elim (cases_Bool (is_owner o w)) [
  | inl own ↦ absurd (omega (arith, ap length (sym (λ i. cond (own i) (lock_at n ∷ owned_from (n + 1) os w) (owned_from (n + 1) os w)) ∙ h)))
  | inr other ↦ ap (λ b. b || list_any (λ p. is_owner p w) os) other ∙ owns_nothing (n + 1) os w (sym (λ i. cond (other i) (lock_at n ∷ owned_from (n + 1) os w) (owned_from (n + 1) os w)) ∙ h)
]

-- a worker without locks, claimed marks and a lease, which isn't blocked, is idle
pub idle_shown : (s : StateView) (w : WorkerId) → owned s w ≡ [] → claimed s w ≡ [] → (holding_of s w).lease ≡ false → (holding_of s w).blocked ≡ false → is_idle s w ≡ true
idle_shown s w locks marks lease blocked =
    let owns : owns_any s w ≡ false = owns_nothing 0 s.owners w locks in
    λ i. not (blocked i) && not (lease i) && not (owns i) && not (runs_nothing s w marks i)

-- what stands at a place passes the test
place_passes : {X : Type 0} (test : X → Bool) (d : X) (k n : ℕ) (xs : List X) → list_any (λ m. eqb m k) (places_from test n xs) ≡ true → (i : ℕ) × (n + i ≡ k) × (test (get_or xs i d) ≡ true)
place_passes test d k n [] h = absurd (false≢true h)
place_passes test d k n (x ∷ xs) h = elim (cases_Bool (test x)) [
  | inl is ↦
      let both : (eqb n k || list_any (λ m. eqb m k) (places_from test (n + 1) xs)) ≡ true = sym (λ i. list_any (λ m. eqb m k) (cond (is i) (n ∷ places_from test (n + 1) xs) (places_from test (n + 1) xs))) ∙ h in
      elim (cases_Bool (eqb n k)) [
        | inl here ↦ (0, omega (arith, eqb-true n k here), is)
        | inr other ↦ further (place_passes test d k (n + 1) xs (sym (ap (λ b. b || list_any (λ m. eqb m k) (places_from test (n + 1) xs)) other) ∙ both))
      ]
  | inr fails ↦ further (place_passes test d k (n + 1) xs (sym (λ i. list_any (λ m. eqb m k) (cond (fails i) (n ∷ places_from test (n + 1) xs) (places_from test (n + 1) xs))) ∙ h))
]
  where
    further : (i : ℕ) × (n + 1 + i ≡ k) × (test (get_or xs i d) ≡ true) → (i : ℕ) × (n + i ≡ k) × (test (get_or (x ∷ xs) i d) ≡ true)
    further found = (suc found.0, omega (arith, found.1), found.2)

first_place : {X : Type 0} (test : X → Bool) (d : X) (k : ℕ) (xs : List X) → list_any (λ m. eqb m k) (places_from test 0 xs) ≡ true → test (get_or xs k d) ≡ true
first_place test d k xs h =
    let found = place_passes test d k 0 xs h in
    let same : found.0 ≡ k = omega (arith, found.1) in
    subst (λ n. test (get_or xs n d) ≡ true) same found.2

contained : (marks : List MarkId) (m : MarkId) (p : MarkId → Bool) → p m ≡ true → Contains marks m → list_any p marks ≡ true
contained marks m p is there = list_any_at p marks there.0 m there.1 (ap p there.2 ∙ is)

unfoldable is_unit_at : ℕ → MarkId → Bool
is_unit_at u (UnitOf n) = eqb n u
is_unit_at u _ = false

unfoldable is_task_at : ℕ → MarkId → Bool
is_task_at t (TaskOf n) = eqb n t
is_task_at t _ = false

unfoldable is_action_at : ℕ → MarkId → Bool
is_action_at a (ActionOf n) = eqb n a
is_action_at a _ = false

right_of : (a b : Bool) → a ≡ false → (a || b) ≡ true → b ≡ true
right_of a b is h = sym (ap (λ x. x || b) is) ∙ h

left_of : (a b : Bool) → b ≡ false → (a || b) ≡ true → a ≡ true
left_of true b is h = refl
left_of false b is h = absurd (false≢true (sym is ∙ h))

pub unit_runs : (s : StateView) (w : WorkerId) (u : ℕ) → Contains (claimed s w) (UnitOf u) → mark_of s (UnitOf u) ≡ Running w
unfolding is_unit_at
unit_runs s w u there =
    let ts = places_from (runs_by w) 0 s.tasks in
    let qs = places_from (runs_by w) 0 s.actions in
    let us = places_from (runs_by w) 0 s.units in
    let all : (list_any (λ n. false) ts || (list_any (λ n. false) qs || list_any (λ n. eqb n u) us)) ≡ true =
    sym (any_of_three (is_unit_at u) (λ n. false) (λ n. false) (λ n. eqb n u) (λ n. refl) (λ n. refl) (λ n. refl) ts qs us) ∙ contained (claimed s w) (UnitOf u) (is_unit_at u) (eq-eqb u u refl) there in
    let found : list_any (λ n. eqb n u) us ≡ true = right_of (list_any (λ n. false) qs) (list_any (λ n. eqb n u) us) (none qs) (right_of (list_any (λ n. false) ts) (list_any (λ n. false) qs || list_any (λ n. eqb n u) us) (none ts) all) in
    running_of w (mark_of s (UnitOf u)) (first_place (runs_by w) Waiting u s.units found)

pub action_runs : (s : StateView) (w : WorkerId) (a : ℕ) → Contains (claimed s w) (ActionOf a) → mark_of s (ActionOf a) ≡ Running w
unfolding is_action_at
action_runs s w a there =
    let ts = places_from (runs_by w) 0 s.tasks in
    let qs = places_from (runs_by w) 0 s.actions in
    let us = places_from (runs_by w) 0 s.units in
    let all : (list_any (λ n. false) ts || (list_any (λ n. eqb n a) qs || list_any (λ n. false) us)) ≡ true =
    sym (any_of_three (is_action_at a) (λ n. false) (λ n. eqb n a) (λ n. false) (λ n. refl) (λ n. refl) (λ n. refl) ts qs us) ∙ contained (claimed s w) (ActionOf a) (is_action_at a) (eq-eqb a a refl) there in
    let later : (list_any (λ n. eqb n a) qs || list_any (λ n. false) us) ≡ true = right_of (list_any (λ n. false) ts) (list_any (λ n. eqb n a) qs || list_any (λ n. false) us) (none ts) all in
    running_of w (mark_of s (ActionOf a)) (first_place (runs_by w) Waiting a s.actions (left_of (list_any (λ n. eqb n a) qs) (list_any (λ n. false) us) (none us) later))

pub task_runs : (s : StateView) (w : WorkerId) (t : ℕ) → Contains (claimed s w) (TaskOf t) → mark_of s (TaskOf t) ≡ Running w
unfolding is_task_at
task_runs s w t there =
    let ts = places_from (runs_by w) 0 s.tasks in
    let qs = places_from (runs_by w) 0 s.actions in
    let us = places_from (runs_by w) 0 s.units in
    let all : (list_any (λ n. eqb n t) ts || (list_any (λ n. false) qs || list_any (λ n. false) us)) ≡ true =
    sym (any_of_three (is_task_at t) (λ n. eqb n t) (λ n. false) (λ n. false) (λ n. refl) (λ n. refl) (λ n. refl) ts qs us) ∙ contained (claimed s w) (TaskOf t) (is_task_at t) (eq-eqb t t refl) there in
    let later : (list_any (λ n. false) qs || list_any (λ n. false) us) ≡ false = (λ i. none qs i || none us i) in
    running_of w (mark_of s (TaskOf t)) (first_place (runs_by w) Waiting t s.tasks (left_of (list_any (λ n. eqb n t) ts) (list_any (λ n. false) qs || list_any (λ n. false) us) later all))

-- a member that was added is one
pub has_member : {X : Type 0} (before : X → X → Bool) (x : X) (xs : List X) → Contains (with_member before x xs) x
has_member before x [] = (0, omega arith, refl)
has_member before x (y ∷ ys) = elim (cases_Bool (before y x)) [
  | inl earlier ↦
      let rest = has_member before x ys in
      subst (λ b. Contains (cond b (y ∷ with_member before x ys) (x ∷ y ∷ ys)) x) (sym earlier) (suc rest.0, omega (arith, rest.1), rest.2)
  | inr later ↦ subst (λ b. Contains (cond b (y ∷ with_member before x ys) (x ∷ y ∷ ys)) x) (sym later) (0, omega arith, refl)
]

-- a test of the members, with one more
pub any_with : {X : Type 0} (before : X → X → Bool) (p : X → Bool) (x : X) (xs : List X) → list_any p (with_member before x xs) ≡ (p x || list_any p xs)
any_with before p x [] = refl
any_with before p x (y ∷ ys) = elim (before y x) as (λ b. list_any p (cond b (y ∷ with_member before x ys) (x ∷ y ∷ ys)) ≡ (p x || (p y || list_any p ys))) [
  | true ↦ ap (λ b. p y || b) (any_with before p x ys) ∙ swapped (p y) (p x) (list_any p ys)
  | false ↦ refl
]
  where
    swapped : (a b c : Bool) → (a || (b || c)) ≡ (b || (a || c))
    swapped true true c = refl
    swapped true false c = refl
    swapped false true c = refl
    swapped false false c = refl
