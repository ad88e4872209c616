-- What the fields of a `Tentative` stand for, and what holds of them.
use Rattle.std.specs.Prelude.{◌-◌, vec_capacity, vec_len}
use Rattle.lock_transforms.specs.TentativeView.{TentativeView, IsSoundTentative}
use Rattle.lock_transforms.specs.declared.tentatives.Tentative.TheInside.{Inside}

abbrev pub tentative_view : Inside → TentativeView
tentative_view a = record { graph = a.graph; state = a.state; worker = a.worker; made = a.made.items; room = vec_capacity a.made - vec_len a.made }

abbrev pub IsSound : Inside → Type 0
IsSound a = IsSoundTentative (tentative_view a)
