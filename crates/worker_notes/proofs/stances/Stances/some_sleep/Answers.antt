use Rattle.std.proofs.Common.{◌≡◌, List, arith, subst}
use Rattle.std.proofs.lemmas.Bool.{ltb-false}
use Rattle.worker_choices.specs.Stances.{asleep}
use Rattle.worker_choices.specs.declared.stances.Stance.{Stance}
use Rattle.worker_notes.proofs.stances.Stances.some_sleep.Goals as goal

pub returns : goal.returns
returns c none = subst (λ (xs : List Stance). asleep xs ≡ 0) c.self.view_is (omega (arith, c.self.invariant.1, ltb-false _ _ none))
