-- The first task without a rank, from the marks.
use Rattle.std.proofs.Common.{◌≡◌, ◌<◌, ℕ, Bool, true, false, List, length, get_or, Option, Some, None, arith, MatchOption}
use Rattle.std.proofs.lemmas.Bool.{both_ways}
use Rattle.ready_work.specs.Rank.{Dependencies, MarksRanked, IsFirstCycle}

pub first_from_marks : (d : Dependencies) (marks : List Bool) (r : Option ℕ) → MarksRanked d marks
    → MatchOption r ((k : ℕ) → k < length marks → get_or marks k false ≡ true) (λ i. (i < length marks) × (get_or marks i false ≡ false) × ((k : ℕ) → k < i → get_or marks k false ≡ true))
    → IsFirstCycle d r
first_from_marks d marks None m h = λ t lt. m.sound t lt (h t (rw m.size lt))
first_from_marks d marks (Some i) m h =
    let low : i < length d = rw m.size at h.0 in
    (low, λ has. both_ways (get_or marks i false) h.1 (m.complete i low has), λ u lt. m.sound u (omega arith) (h.2 u lt))
