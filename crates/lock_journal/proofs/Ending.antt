-- Where every task has ended, so has every action and every unit.
use Rattle.std.proofs.Common.{ℕ, suc, ◌+◌, ◌<◌, ◌≤◌, ◌⊎◌, List, [], ◌∷◌, length, get_or, inl, inr, arith}
use Rattle.std.specs.List.{All}
use Rattle.std.proofs.lemmas.Bool.{cases_lt}
use Rattle.std.proofs.lemmas.List.Elements.{All-from_get_or}
use Rattle.lock_journal.specs.Names.{Mark, Waiting, Passed, Failed, Skipped, TaskOf, ActionOf, UnitOf, Follow, Fits, GraphView, no_action, action_of}
use Rattle.lock_journal.specs.Names.{IsIn, units_in, StateView, mark_of, Lawful, Entry, replay, IsEnded, HasEnded}
use Rattle.lock_journal.proofs.lemmas.Fitting.{apart_of}
use Rattle.lock_journal.proofs.Kept.{TaskFact, WholeEnded, IsKept}
use Rattle.lock_journal.proofs.Ranges.{unit_of_range}
use Rattle.lock_journal.proofs.Runs.{holds_after}

-- each number before the stop lies in one of the ranges
pub record Covers {X : Type 0} (first count : X → ℕ) (xs : List X) (d : X) (n : ℕ) : Type 0 where
  pub place : ℕ
  pub within : place < length xs
  pub inside : IsIn (first (get_or xs place d)) (count (get_or xs place d)) n

covers_follow : {X : Type 0} (first count : X → ℕ) (low : ℕ) (xs : List X) (stop : ℕ) (d : X) (n : ℕ) → Follow first count low xs stop → low ≤ n → n < stop → Covers first count xs d n
covers_follow first count low [] stop d n f a b = absurd (omega arith)
covers_follow first count low (x ∷ xs) stop d n f a b = at (cases_lt n (low + count x)) (covers_follow first count (low + count x) xs stop d n f.1)
  where
    at : (n < low + count x) ⊎ (low + count x ≤ n) → (low + count x ≤ n → n < stop → Covers first count xs d n) → Covers first count (x ∷ xs) d n
    at (inl lt) rest = let e = f.0 in record { place = 0; within = omega arith; inside = (omega arith, omega arith) }
    at (inr past) rest = let r = rest past b in let lt = r.within in record { place = suc r.place; within = omega arith; inside = r.inside }

task_whole : (g : GraphView) (s : StateView) (t : ℕ) (m : Mark) → IsEnded m → TaskFact g s t m → WholeEnded g s t
task_whole g s t Passed e f = f.2
task_whole g s t Failed e f = f.2
task_whole g s t Skipped e f = f.2
task_whole g s t _ e f = absurd e

pub ended_by_tasks : (g : GraphView) (h : List Entry) → Fits g → Lawful g h → All IsEnded (replay g h).tasks → HasEnded (replay g h)
ended_by_tasks g h fits lawful tasks = record {
  tasks = tasks;
  actions = All-from_get_or IsEnded (replay g h).actions Waiting (λ a lt. let e = kept.belongs.actions in action a (omega arith));
  units = All-from_get_or IsEnded (replay g h).units Waiting (λ u lt. let e = kept.belongs.units in unit u (omega arith));
}
  where
    kept : IsKept g (replay g h)
    kept = (holds_after g h (apart_of g fits) lawful).kept

    whole : (t : ℕ) → t < length g.tasks → WholeEnded g (replay g h) t
    whole t lt = let e = kept.belongs.tasks in task_whole g (replay g h) t (mark_of (replay g h) (TaskOf t)) (tasks t Waiting (omega arith)) (kept.tasks t)

    action : (a : ℕ) → a < length g.actions → IsEnded (mark_of (replay g h) (ActionOf a))
    action a lt =
        let own = fits.own_task a lt in
        (whole (action_of g a).task ((apart_of g fits).task_within (action_of g a).task a own)).actions a own

    unit : (u : ℕ) → u < g.units → IsEnded (mark_of (replay g h) (UnitOf u))
    unit u lt =
        let c = covers_follow (λ a. a.first_unit) units_in 0 g.actions g.units no_action u fits.units_follow (omega arith) lt in
        let own = fits.own_task c.place c.within in
        (whole (action_of g c.place).task ((apart_of g fits).task_within (action_of g c.place).task c.place own)).units c.place u own (unit_of_range (action_of g c.place) u c.inside)
