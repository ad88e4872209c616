-- The heaps of the permits that are out.
use Rattle.std.proofs.Common.{◌≡◌, ℕ, ◌+◌, List, [], ◌∷◌, ◌++◌, Some, ap, arith, Contains, remove, slice_get}
use Rattle.std.proofs.lemmas.List.Sums.{sum_by-append, sum_by-cons, sum_by-remove}
use Rattle.std.proofs.lemmas.Option.{slice_get_within, get_or_from_slice_get}
use Rattle.memory_budget.specs.declared.permits.OpenPermit.{OpenPermit}
use Rattle.memory_budget.specs.BudgetView.{permitted}

pub permitted_less : (permits : List OpenPermit) (place : ℕ) (p : OpenPermit) → slice_get permits place ≡ Some p → permitted (remove permits place) + p.heap_mb ≡ permitted permits
permitted_less permits place p there =
    omega (arith, sum_by-remove (λ (q : OpenPermit). q.heap_mb) permits place p (slice_get_within permits place p there), ap (λ (q : OpenPermit). q.heap_mb) (get_or_from_slice_get permits place p p there))

pub permitted_more : (permits : List OpenPermit) (p : OpenPermit) → permitted (permits ++ p ∷ []) ≡ permitted permits + p.heap_mb
permitted_more permits p = omega (arith, sum_by-append (λ (q : OpenPermit). q.heap_mb) permits (p ∷ []), sum_by-cons (λ (q : OpenPermit). q.heap_mb) p [])

-- a permit that has a place is among them
pub is_there : (permits : List OpenPermit) (place : ℕ) (p : OpenPermit) → slice_get permits place ≡ Some p → Contains permits p
is_there permits place p there = (place, slice_get_within permits place p there, get_or_from_slice_get permits place p p there)
