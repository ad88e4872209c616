-- What is known of the desks of a run.
use Rattle.std.specs.Prelude.{ℕ, ◌≡◌, ◌<◌, if◌then◌else◌, List, get_or, is_some, Option, None, Some}
use Rattle.std.specs.List.{list_all, range_with_len}
use Rattle.item_actions.specs.Files.{Folder}
use Rattle.build_workers.specs.Desks.{DeskView}

-- each desk by its number; d stands for each that isn't there
abbrev pub desks_view : {D : Type 0} → (D → DeskView) → List D → D → ℕ → DeskView
desks_view view desks d = λ i. view (get_or desks i d)

-- Of the first n desks, those that know their files know the same.
abbrev pub AreAlike : ℕ → (ℕ → DeskView) → Type 0
AreAlike n desks = (i j : ℕ) (one other : Folder) → i < n → j < n → (desks i).files ≡ Some one → (desks j).files ≡ Some other → one ≡ other

-- the files that the first n desks know, where each of them knows its files
abbrev pub known_by : ℕ → (ℕ → DeskView) → Option Folder
known_by n desks = if list_all (λ i. is_some (desks i).files) (range_with_len 0 n) then (desks 0).files else None
