-- Room for what the members of a list take, one after the other.
use Rattle.std.proofs.Common.{◌≡◌, ℕ, ◌+◌, ◌<◌, List, length, take, get_or, Option, Some, None, is_some, not, nat_lt, Bool, arith, ap, sym, ◌∙◌}
use Rattle.std.specs.List.{sum_by}
use Rattle.std.proofs.lemmas.Bool.{lt-ltb, le-ltb, not-true, not-false}
use Rattle.std.proofs.lemmas.List.Sums.{sum_by_more_le}
use Rattle.plan_reader.specs.Rooms.{IsLeft}

-- where a member takes more than is left, all take more than there was
pub too_many : {X : Type 0} (f : X → ℕ) (xs : List X) (i : ℕ) (x : X) (room left : ℕ) → i < length xs → x ≡ get_or xs i x
    → left + sum_by f (take i xs) ≡ room → left < f x → room < sum_by f xs
too_many f xs i x room left within is so_far more =
    let here : f x ≡ f (get_or xs i x) = ap f is in
    omega (arith, sum_by_more_le f xs i x within)

-- nothing is left exactly where the room is too small
pub is_too_small : (room taken : ℕ) (o : Option ℕ) (none : Bool) → IsLeft room taken o → not none ≡ is_some o → none ≡ nat_lt room taken
is_too_small room taken None none more e = not-false none e ∙ sym (lt-ltb room taken more)
is_too_small room taken (Some left) none fits e = not-true none e ∙ sym (le-ltb room taken (omega arith))
