-- a kit for each worker so far, with views of the same ledger
use Rattle.std.proofs.Common.{◌≡◌, length, Some}
use Rattle.std.specs.List.{All}
use Rattle.coordination.specs.Passes.{ServiceId}
use Rattle.build_runner.specs.Watching.{IsWatchedBy}
use Rattle.build_runner.proofs.prepared.kits_of.Given as goal

abbrev pub invariant-loop : goal.invariant-loop
invariant-loop l = record {
  len : length l.kits.items ≡ l.counter;
  views : (service : ServiceId) → All (λ v. service.ledger ≡ Some v.ledger) l.fn.views.items → All (λ v. service.ledger ≡ Some v.ledger) l.views.items;
  watched : (service : ServiceId) → All (λ v. service.ledger ≡ Some v.ledger) l.fn.views.items → All (IsWatchedBy service) l.kits.items;
}
