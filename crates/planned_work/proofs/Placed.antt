-- What a worker's place says of its marks, in each book that it finds.
use Rattle.std.proofs.Common.{◌≡◌, ◌<◌, ℕ, zero, suc, Bool, true, false, List, [], ◌∷◌, Option, Some, None, arith, get_or, length, refl, subst}
use Rattle.std.specs.Prelude.{Contains}
use Rattle.lock_journal.specs.Names.{mark_of, WorkerId, Mark, Running, Waiting, MarkId, TaskOf, ActionOf, UnitOf, BookView}
use Rattle.lock_journal.proofs.lemmas.Claims.{action_runs, task_runs}
use Rattle.coordination.specs.Names.{Finds, blocked_shown, claimed_shown}
use Rattle.coordination.specs.declared.rule.Sight.{Sight}
use Rattle.worker_notes.proofs.lemmas.Entries.{belongs_sound}
use Rattle.planned_work.specs.Places.{action_in, has_any, place_by, place_of, task_in, unit_in}
use Rattle.planned_work.specs.declared.places.Place.TheVariants as places

-- a list with one element more contains what the list does
pub behind : {X : Type 0} (y x : X) (xs : List X) → Contains xs x → Contains (y ∷ xs) x
behind y x xs c = (suc c.0, (let low = c.1 in omega (arith, low)), c.2)

pub first : {X : Type 0} (x : X) (xs : List X) → Contains (x ∷ xs) x
first x xs = (zero, (omega arith), refl)

some_is : (n m : ℕ) → Some n ≡ Some m → n ≡ m
some_is n m is = cc

pub action_stands : (ms : List MarkId) (a : ℕ) → action_in ms ≡ Some a → Contains ms (ActionOf a)
action_stands [] a is = absurd (cc)
action_stands (TaskOf t ∷ ms) a is = behind (TaskOf t) (ActionOf a) ms (action_stands ms a is)
action_stands (ActionOf b ∷ ms) a is = subst (λ n. Contains (ActionOf b ∷ ms) (ActionOf n)) (some_is b a is) (first (ActionOf b) ms)
action_stands (UnitOf u ∷ ms) a is = behind (UnitOf u) (ActionOf a) ms (action_stands ms a is)

pub task_stands : (ms : List MarkId) (t : ℕ) → task_in ms ≡ Some t → Contains ms (TaskOf t)
task_stands [] t is = absurd (cc)
task_stands (TaskOf k ∷ ms) t is = subst (λ n. Contains (TaskOf k ∷ ms) (TaskOf n)) (some_is k t is) (first (TaskOf k) ms)
task_stands (ActionOf a ∷ ms) t is = behind (ActionOf a) (TaskOf t) ms (task_stands ms t is)
task_stands (UnitOf u ∷ ms) t is = behind (UnitOf u) (TaskOf t) ms (task_stands ms t is)

-- the marks that a place names
parked_has : (b : Bool) (u a t : Option ℕ) (any : Bool) (n : ℕ) → place_by b u a t any ≡ places.Parked n → a ≡ Some n
parked_has true (Some u) a t any n is = absurd (cc)
parked_has true None a t any n is = absurd (cc)
parked_has false (Some u) (Some a) t any n is = absurd (cc)
parked_has false (Some u) None t any n is = absurd (cc)
parked_has false None (Some a) t any n is = cc
parked_has false None None (Some t) any n is = absurd (cc)
parked_has false None None None true n is = absurd (cc)
parked_has false None None None false n is = absurd (cc)

item_has : (b : Bool) (u a t : Option ℕ) (any : Bool) (k n : ℕ) → place_by b u a t any ≡ places.ItemIn k n → a ≡ Some n
item_has true (Some u) a t any k n is = absurd (cc)
item_has true None a t any k n is = absurd (cc)
item_has false (Some u) (Some a) t any k n is = cc
item_has false (Some u) None t any k n is = absurd (cc)
item_has false None (Some a) t any k n is = absurd (cc)
item_has false None None (Some t) any k n is = absurd (cc)
item_has false None None None true k n is = absurd (cc)
item_has false None None None false k n is = absurd (cc)

works_has : (b : Bool) (u a t : Option ℕ) (any : Bool) (n : ℕ) → place_by b u a t any ≡ places.InTask n → t ≡ Some n
works_has true (Some u) a t any n is = absurd (cc)
works_has true None a t any n is = absurd (cc)
works_has false (Some u) (Some a) t any n is = absurd (cc)
works_has false (Some u) None t any n is = absurd (cc)
works_has false None (Some a) t any n is = absurd (cc)
works_has false None None (Some t) any n is = cc
works_has false None None None true n is = absurd (cc)
works_has false None None None false n is = absurd (cc)

-- a mark that runs is there
within : (ms : List Mark) (n : ℕ) (w : WorkerId) → get_or ms n Waiting ≡ Running w → n < length ms
within [] n w is = absurd (cc)
within (m ∷ ms) zero w is = omega arith
within (m ∷ ms) (suc n) w is = let low = within ms n w is in omega (arith, low)

action_there : (s : Sight) (book : BookView) (a : ℕ) → Contains (claimed_shown s) (ActionOf a) → Finds s.worker s.seen book → a < length book.graph.actions
action_there s book a there found =
    let runs : mark_of book.state (ActionOf a) ≡ Running s.worker = (found.agrees.state.running (ActionOf a)).0 (action_runs s.seen.state s.worker a there) in
    let low = within book.state.actions a s.worker runs in
    let same = (belongs_sound book found.sound).actions in
    omega (arith, low, same)

-- the action of a worker that is parked is one of each book's graph that it finds, and so is the task that it runs
pub parked_there : (s : Sight) (book : BookView) (a : ℕ) → place_of s ≡ places.Parked a → Finds s.worker s.seen book → a < length book.graph.actions
parked_there s book a is found = action_there s book a (action_stands (claimed_shown s) a (parked_has (blocked_shown s) (unit_in (claimed_shown s)) (action_in (claimed_shown s)) (task_in (claimed_shown s)) (has_any s) a is)) found

pub item_there : (s : Sight) (book : BookView) (u a : ℕ) → place_of s ≡ places.ItemIn u a → Finds s.worker s.seen book → a < length book.graph.actions
item_there s book u a is found = action_there s book a (action_stands (claimed_shown s) a (item_has (blocked_shown s) (unit_in (claimed_shown s)) (action_in (claimed_shown s)) (task_in (claimed_shown s)) (has_any s) u a is)) found

pub task_there : (s : Sight) (book : BookView) (t : ℕ) → place_of s ≡ places.InTask t → Finds s.worker s.seen book → t < length book.graph.tasks
task_there s book t is found =
    let there = task_stands (claimed_shown s) t (works_has (blocked_shown s) (unit_in (claimed_shown s)) (action_in (claimed_shown s)) (task_in (claimed_shown s)) (has_any s) t is) in
    let runs : mark_of book.state (TaskOf t) ≡ Running s.worker = (found.agrees.state.running (TaskOf t)).0 (task_runs s.seen.state s.worker t there) in
    let low = within book.state.tasks t s.worker runs in
    let same = (belongs_sound book found.sound).tasks in
    omega (arith, low, same)
