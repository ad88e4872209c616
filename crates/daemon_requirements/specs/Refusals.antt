-- Why fields are no requirements.
use Rattle.std.specs.Prelude.{◌≡◌, ℕ, List, take, slice_get, IsSomeAnd, Any}
use Rattle.daemon_requirements.specs.declared.fields.Pair.{Pair}
use Rattle.daemon_requirements.specs.declared.requirement.PairList.TheVariants.{Properties, Variables}
use Rattle.daemon_requirements.specs.declared.requirement.RequirementRefusal.{RequirementRefusal}
use Rattle.daemon_requirements.specs.declared.requirement.RequirementRefusal.TheVariants.{HeapRange, TwiceNamed}
use Rattle.daemon_requirements.specs.RequirementsView.{RequirementsView, IsHeap, HasDistinctNames}

-- the first place whose pair has the name of an earlier one
pub record IsFirstTwice (pairs : List Pair) (place : ℕ) : Type 0 where
  pub twice : IsSomeAnd (slice_get pairs place) (λ p. Any (λ q. q.name ≡ p.name) (take place pairs))
  pub first : HasDistinctNames (take place pairs)

abbrev pub IsCauseOf : RequirementRefusal → RequirementsView → Type 0
IsCauseOf HeapRange p = ¬ IsHeap p.heap_mb
IsCauseOf (TwiceNamed Properties place) p = IsHeap p.heap_mb × IsFirstTwice p.properties place
IsCauseOf (TwiceNamed Variables place) p = IsHeap p.heap_mb × HasDistinctNames p.properties × IsFirstTwice p.variables place
