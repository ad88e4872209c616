-- A worker that owns and runs nothing.
use Rattle.std.proofs.Common.{◌≡◌, ◌≢◌, ℕ, zero, suc, ◌+◌, Bool, true, false, cond, List, [], ◌∷◌, ◌++◌, length, map, get_or, Option, None, Some, refl, sym, ap, ◌∙◌, subst, arith}
use Rattle.std.proofs.lemmas.Bool.{eq-eqb}
use Rattle.lock_journal.specs.Names.{StateView, is_owner, mark_of, owner_of, runs_by, LockId, WorkerId, Mark, Waiting, Running, MarkId, TaskOf}
use Rattle.lock_journal.specs.Names.{ActionOf, UnitOf, BookView, owned, owned_from, action_at, claimed, marks_in, places_from, task_at, unit_at}
use Rattle.lock_journal.specs.Names.{IsAtRest}
use Rattle.lock_journal.proofs.lemmas.Others.{running_of}
use Rattle.worker_notes.specs.WorkerEntries.{last_of}
use Rattle.worker_notes.specs.Parts.{ArePartsFrom, HasRoom, IsFreshPart, IsPartOf}
use Rattle.worker_notes.specs.declared.parts.WorkerPart.{WorkerPart}

-- no place where none passes, and the other way round
no_places : {X : Type 0} (test : X → Bool) (d : X) (n : ℕ) (xs : List X) → ((i : ℕ) → test (get_or xs i d) ≡ false) → places_from test n xs ≡ []
no_places test d n [] none_passes = refl
no_places test d n (x ∷ xs) none_passes =
    ap (λ b. cond b (n ∷ places_from test (n + 1) xs) (places_from test (n + 1) xs)) (none_passes 0) ∙ no_places test d (n + 1) xs (λ i. none_passes (suc i))

none_passes : {X : Type 0} (test : X → Bool) (d : X) (n : ℕ) (xs : List X) → test d ≡ false → places_from test n xs ≡ [] → (i : ℕ) → test (get_or xs i d) ≡ false
none_passes test d n [] not none_there i = not
none_passes test d n (x ∷ xs) not none_there i = at (test x) refl none_there (none_passes test d (n + 1) xs not) i
  where
    at : (b : Bool) → test x ≡ b → cond b (n ∷ places_from test (n + 1) xs) (places_from test (n + 1) xs) ≡ [] → (places_from test (n + 1) xs ≡ [] → (i : ℕ) → test (get_or xs i d) ≡ false) → (i : ℕ)
        → test (get_or (x ∷ xs) i d) ≡ false
    at true is some_there rest i = absurd (cc)
    at false is none_there rest zero = is
    at false is none_there rest (suc i) = rest none_there i

no_locks : (n : ℕ) (os : List (Option WorkerId)) (w : WorkerId) → ((i : ℕ) → is_owner (get_or os i None) w ≡ false) → owned_from n os w ≡ []
no_locks n [] w none_owned = refl
no_locks n (o ∷ os) w none_owned = ap (λ b. cond b (record { 0 = n } ∷ owned_from (n + 1) os w) (owned_from (n + 1) os w)) (none_owned 0) ∙ no_locks (n + 1) os w (λ i. none_owned (suc i))

none_owned : (n : ℕ) (os : List (Option WorkerId)) (w : WorkerId) → owned_from n os w ≡ [] → (i : ℕ) → is_owner (get_or os i None) w ≡ false
none_owned n [] w none_there i = refl
none_owned n (o ∷ os) w none_there i = at (is_owner o w) refl none_there (none_owned (n + 1) os w) i
  where
    at : (b : Bool) → is_owner o w ≡ b → cond b (record { 0 = n } ∷ owned_from (n + 1) os w) (owned_from (n + 1) os w) ≡ [] → (owned_from (n + 1) os w ≡ [] → (i : ℕ) → is_owner (get_or os i None) w ≡ false) → (i : ℕ)
        → is_owner (get_or (o ∷ os) i None) w ≡ false
    at true is some_there rest i = absurd (cc)
    at false is none_there rest zero = is
    at false is none_there rest (suc i) = rest none_there i

not_by : (w : WorkerId) (m : Mark) → m ≢ Running w → runs_by w m ≡ false
not_by w m not = at (runs_by w m) refl
  where
    at : (b : Bool) → runs_by w m ≡ b → b ≡ false
    at true is = absurd (not (running_of w m is))
    at false is = refl

-- the worker doesn't own, and doesn't run
pub owns_none : (s : StateView) (w : WorkerId) → owned s w ≡ [] → (l : LockId) → owner_of s l ≢ Some w
owns_none s w nothing l is =
    let other : is_owner (owner_of s l) w ≡ false = none_owned 0 s.owners w nothing l.0 in
    let own : is_owner (owner_of s l) w ≡ true = ap (λ o. is_owner o w) is ∙ eq-eqb w.0 w.0 refl in absurd (cc)

empty_front : {X : Type 0} (xs ys : List X) → xs ++ ys ≡ [] → (xs ≡ []) × (ys ≡ [])
empty_front [] ys none_there = (refl, none_there)
empty_front (x ∷ xs) ys none_there = absurd (cc)

empty_map : {X Y : Type 0} (f : X → Y) (xs : List X) → map f xs ≡ [] → xs ≡ []
empty_map f [] none_there = refl
empty_map f (x ∷ xs) none_there = absurd (cc)

still_not : (w : WorkerId) (m : Mark) → runs_by w m ≡ false → m ≢ Running w
still_not w m other is = let own : runs_by w m ≡ true = ap (runs_by w) is ∙ eq-eqb w.0 w.0 refl in absurd (cc)

pub runs_none : (s : StateView) (w : WorkerId) → claimed s w ≡ [] → (m : MarkId) → mark_of s m ≢ Running w
runs_none s w nothing =
    let ts : List ℕ = places_from (runs_by w) 0 s.tasks in
    let qs : List ℕ = places_from (runs_by w) 0 s.actions in
    let us : List ℕ = places_from (runs_by w) 0 s.units in
    let first = empty_front (map task_at ts) (map action_at qs ++ map unit_at us) nothing in
    let second = empty_front (map action_at qs) (map unit_at us) first.1 in elim [
      | TaskOf t ↦ still_not w (get_or s.tasks t Waiting) (none_passes (runs_by w) Waiting 0 s.tasks refl (empty_map task_at ts first.0) t)
      | ActionOf a ↦ still_not w (get_or s.actions a Waiting) (none_passes (runs_by w) Waiting 0 s.actions refl (empty_map action_at qs second.0) a)
      | UnitOf u ↦ still_not w (get_or s.units u Waiting) (none_passes (runs_by w) Waiting 0 s.units refl (empty_map unit_at us second.1) u)
    ]

-- in a state at rest a worker owns no lock and runs nothing
pub owns_nothing : (s : StateView) (w : WorkerId) → IsAtRest s → owned s w ≡ []
owns_nothing s w rest = no_locks 0 s.owners w (λ i. ap (λ o. is_owner o w) (rest.owners (record { 0 = i })))

pub runs_nothing : (s : StateView) (w : WorkerId) → IsAtRest s → claimed s w ≡ []
runs_nothing s w rest =
    let tasks = no_places (runs_by w) Waiting 0 s.tasks (λ i. not_by w (get_or s.tasks i Waiting) (rest.marks w (TaskOf i))) in
    let actions = no_places (runs_by w) Waiting 0 s.actions (λ i. not_by w (get_or s.actions i Waiting) (rest.marks w (ActionOf i))) in
    let units = no_places (runs_by w) Waiting 0 s.units (λ i. not_by w (get_or s.units i Waiting) (rest.marks w (UnitOf i))) in
    λ i. marks_in (tasks i) (actions i) (units i)

-- a fresh part is that of any worker of a state at rest
pub fresh_part : (book : BookView) (w : WorkerId) (last : ℕ) (part : WorkerPart) → IsAtRest book.state → IsFreshPart last part → last ≡ last_of w book.history → IsPartOf book w part
fresh_part book w last part rest r is = record {
  has = record {
    holding = (λ i. record { lease = r.lease i; parked = r.parked i; blocked = r.blocked i }) ∙ sym (rest.holdings w);
    locks = r.owned ∙ sym (owns_nothing book.state w rest);
    claimed = r.claimed ∙ sym (runs_nothing book.state w rest);
  };
  last = r.number ∙ is;
}

-- one part more behind those of the workers from w on
pub parts_push : (w : ℕ) (book : BookView) (parts : List WorkerPart) (part : WorkerPart) → IsPartOf book (record { 0 = w + length parts }) part → HasRoom part → ArePartsFrom w book parts
    → ArePartsFrom w book (parts ++ part ∷ [])
parts_push w book [] part is room before = (subst (λ (n : ℕ). IsPartOf book (record { 0 = n }) part) (omega arith) is, room, tt)
parts_push w book (p ∷ ps) part is room before = (before.0, before.1, parts_push (suc w) book ps part (subst (λ (n : ℕ). IsPartOf book (record { 0 = n }) part) (omega arith) is) room before.2)
