use Rattle.planned_work.proofs.KeptInPlace.{in_place}
use Rattle.planned_work.proofs.laws.workers_are_in_place.Goals as goal

pub returns : goal.returns
returns c = λ g h w fits lawful. in_place g h w fits lawful
