-- What others have to count on of a worker between its calls.
use Rattle.std.specs.Prelude.{ℕ, Bool, true, false, List, count_by}
use Rattle.worker_choices.specs.declared.stances.Stance.{Stance}
use Rattle.worker_choices.specs.declared.stances.Stance.TheVariants.{Away, Looks, Sleeps}

abbrev pub looks : Stance → Bool
looks Away = false
looks Looks = true
looks (Sleeps a) = false

abbrev pub sleeps : Stance → Bool
sleeps Away = false
sleeps Looks = false
sleeps (Sleeps a) = true

-- how many workers look
abbrev pub looking : List Stance → ℕ
looking stances = count_by looks stances

-- how many workers sleep
abbrev pub asleep : List Stance → ℕ
asleep stances = count_by sleeps stances
