-- The plan that is made from a number: 40 projects and 400 tasks, each after an earlier one, with two actions of four items.
use Rattle.std.specs.Prelude.{ℕ, ◌+◌, ◌*◌, ◌-◌, ◌%◌, ◌==◌, List, [], ◌∷◌, ◌++◌, codes, decimal, slice_index_or}
use Rattle.std.specs.Prelude.{if◌then◌else◌}
use Rattle.std.specs.List.{flat_map, range_with_len}
use Rattle.item_actions.specs.Words.{action_word}
use Rattle.item_actions.specs.declared.action_kinds.ActionKind.{ActionKind}
use Rattle.item_actions.specs.declared.action_kinds.ActionKind.TheVariants.{Lines, Words, Bytes, Longest, Sha256}
use Rattle.resource_lock.specs.Words.{retention_word}
use Rattle.resource_lock.specs.declared.graphs.Retention.{Retention}
use Rattle.resource_lock.specs.declared.graphs.Retention.TheVariants.{Retain, Release, ReleaseAndReacquire}
use Rattle.generated_plan.specs.Draws.{draw, after_draws}

abbrev pub project_text : ℕ → List ℕ
project_text i = codes "[[project]]\nname = \"p" ++ decimal i ++ codes "\"\n"

-- what an item does, and how an action waits, by what was drawn
abbrev pub kind_drawn : ℕ → ActionKind
kind_drawn n = slice_index_or (Lines ∷ Words ∷ Bytes ∷ Longest ∷ Sha256 ∷ []) (n % 5) Lines

abbrev pub first_wait : ℕ → Retention
first_wait n = slice_index_or (Retain ∷ ReleaseAndReacquire ∷ []) (n % 2) Retain

abbrev pub second_wait : ℕ → Retention
second_wait n = slice_index_or (Retain ∷ ReleaseAndReacquire ∷ Release ∷ []) (n % 3) Retain

-- an item; x is the number before its draw
abbrev pub item_text : List ℕ → ℕ → List ℕ
item_text file x = codes "[[task.action.item]]\ndo = \"" ++ action_word (kind_drawn (draw x)) ++ codes "\"\nfile = \"" ++ file ++ codes "\"\n"

abbrev pub wait_text : Retention → List ℕ
wait_text wait = codes "[[task.action]]\nwait = \"" ++ retention_word wait ++ codes "\"\n"

-- the items of an action, with a draw for each
abbrev pub items_text : List ℕ → ℕ → List ℕ
items_text file x = flat_map (λ i. item_text file (after_draws i x)) (range_with_len 0 4)

-- an action, with a draw for how it waits before those of its items
abbrev pub action_text : (ℕ → Retention) → List ℕ → ℕ → List ℕ
action_text wait file x = wait_text (wait (draw x)) ++ items_text file (after_draws 1 x)

-- the key `after` of task k, for which there is a draw but for task 0
abbrev pub after_text : ℕ → ℕ → List ℕ
after_text k x = if k == 0 then [] else codes "after = [\"t" ++ decimal (draw x % k) ++ codes "\"]\n"

abbrev pub draws_for_after : ℕ → ℕ
draws_for_after k = if k == 0 then 0 else 1

abbrev pub head_text : ℕ → ℕ → List ℕ
head_text k project = codes "[[task]]\nname = \"t" ++ decimal k ++ codes "\"\nproject = \"p" ++ decimal project ++ codes "\"\n"

-- task k; x is the number before its draws
abbrev pub task_text : List ℕ → ℕ → ℕ → List ℕ
task_text file k x =
    head_text k (draw x % 40)
    ++ after_text k (after_draws 1 x)
    ++ action_text first_wait file (after_draws (1 + draws_for_after k) x)
    ++ action_text second_wait file (after_draws (6 + draws_for_after k) x)

-- how many draws come before those of task k: 11 for task 0, and 12 for each other
abbrev pub draws_before : ℕ → ℕ
draws_before k = 12 * k - 1

abbrev pub projects_text : List ℕ
projects_text = flat_map project_text (range_with_len 0 40)

abbrev pub tasks_text : ℕ → List ℕ → List ℕ
tasks_text seed file = flat_map (λ k. task_text file k (after_draws (draws_before k) seed)) (range_with_len 0 400)

abbrev pub made : ℕ → List ℕ → List ℕ
made seed file = projects_text ++ tasks_text seed file
