-- The first mark of a sort among marks, one after the other.
use Rattle.std.proofs.Common.{◌≡◌, ◌+◌, ◌<◌, ◌≤◌, ℕ, List, [], ◌∷◌, Some, drop, get_or, length, sym, ap, ◌∙◌}
use Rattle.std.proofs.lemmas.List.{drop_more}
use Rattle.std.proofs.Math.ListN.{drop_of_length-le}
use Rattle.lock_journal.specs.Names.{MarkId, TaskOf, ActionOf, UnitOf}
use Rattle.planned_work.specs.Places.{action_in, task_in, unit_in}

-- those from this one on
pub front : (ms : List MarkId) (i : ℕ) (m : MarkId) → i < length ms → m ≡ get_or ms i m → drop i ms ≡ m ∷ drop (i + 1) ms
front ms i m low is = drop_more ms i m low ∙ ap (λ k. k ∷ drop (i + 1) ms) (sym is)

pub unit_found : (ms : List MarkId) (i : ℕ) (m : MarkId) (u : ℕ) → i < length ms → m ≡ get_or ms i m → m ≡ UnitOf u → unit_in (drop i ms) ≡ Some u
unit_found ms i m u low is mark = ap unit_in (front ms i m low is) ∙ ap (λ k. unit_in (k ∷ drop (i + 1) ms)) mark

pub unit_not_task : (ms : List MarkId) (i : ℕ) (m : MarkId) (t : ℕ) → i < length ms → m ≡ get_or ms i m → m ≡ TaskOf t → unit_in (drop i ms) ≡ unit_in (drop (i + 1) ms)
unit_not_task ms i m t low is mark = ap unit_in (front ms i m low is) ∙ ap (λ k. unit_in (k ∷ drop (i + 1) ms)) mark

pub unit_not_action : (ms : List MarkId) (i : ℕ) (m : MarkId) (a : ℕ) → i < length ms → m ≡ get_or ms i m → m ≡ ActionOf a → unit_in (drop i ms) ≡ unit_in (drop (i + 1) ms)
unit_not_action ms i m a low is mark = ap unit_in (front ms i m low is) ∙ ap (λ k. unit_in (k ∷ drop (i + 1) ms)) mark

pub action_found : (ms : List MarkId) (i : ℕ) (m : MarkId) (a : ℕ) → i < length ms → m ≡ get_or ms i m → m ≡ ActionOf a → action_in (drop i ms) ≡ Some a
action_found ms i m a low is mark = ap action_in (front ms i m low is) ∙ ap (λ k. action_in (k ∷ drop (i + 1) ms)) mark

pub action_not_task : (ms : List MarkId) (i : ℕ) (m : MarkId) (t : ℕ) → i < length ms → m ≡ get_or ms i m → m ≡ TaskOf t → action_in (drop i ms) ≡ action_in (drop (i + 1) ms)
action_not_task ms i m t low is mark = ap action_in (front ms i m low is) ∙ ap (λ k. action_in (k ∷ drop (i + 1) ms)) mark

pub action_not_unit : (ms : List MarkId) (i : ℕ) (m : MarkId) (u : ℕ) → i < length ms → m ≡ get_or ms i m → m ≡ UnitOf u → action_in (drop i ms) ≡ action_in (drop (i + 1) ms)
action_not_unit ms i m u low is mark = ap action_in (front ms i m low is) ∙ ap (λ k. action_in (k ∷ drop (i + 1) ms)) mark

pub task_found : (ms : List MarkId) (i : ℕ) (m : MarkId) (t : ℕ) → i < length ms → m ≡ get_or ms i m → m ≡ TaskOf t → task_in (drop i ms) ≡ Some t
task_found ms i m t low is mark = ap task_in (front ms i m low is) ∙ ap (λ k. task_in (k ∷ drop (i + 1) ms)) mark

pub task_not_action : (ms : List MarkId) (i : ℕ) (m : MarkId) (a : ℕ) → i < length ms → m ≡ get_or ms i m → m ≡ ActionOf a → task_in (drop i ms) ≡ task_in (drop (i + 1) ms)
task_not_action ms i m a low is mark = ap task_in (front ms i m low is) ∙ ap (λ k. task_in (k ∷ drop (i + 1) ms)) mark

pub task_not_unit : (ms : List MarkId) (i : ℕ) (m : MarkId) (u : ℕ) → i < length ms → m ≡ get_or ms i m → m ≡ UnitOf u → task_in (drop i ms) ≡ task_in (drop (i + 1) ms)
task_not_unit ms i m u low is mark = ap task_in (front ms i m low is) ∙ ap (λ k. task_in (k ∷ drop (i + 1) ms)) mark

-- none is left
pub none_left : (ms : List MarkId) (i : ℕ) → length ms ≤ i → drop i ms ≡ []
none_left ms i end = drop_of_length-le ms end
