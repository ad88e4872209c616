use Rattle.std.proofs.Common.{refl}
use Rattle.build_workers.proofs.Keeping.{gave_closes}
use Rattle.build_workers.proofs.lemmas.Results.{ok_any}
use Rattle.build_workers.proofs.fetching.enter_for.Goals as goal

pub returns-clause-closed : goal.returns-clause-closed
returns-clause-closed g c = let e = c.enter.ensures in gave_closes _ _ c.enter.result refl (ok_any _ c.enter.result e.entry) (λ is. (e.no_memory is).0) (λ by is. (e.stopped by is).0)
