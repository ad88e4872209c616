-- What a worker looks with.
use Rattle.std.specs.Prelude.{◌≡◌, IfSome, Option, Some}
use Rattle.logbook.specs.Pages.{Book as Ledger}
use Rattle.coordination.specs.Passes.{ServiceId}

-- what a worker looks with, if it does, is of the ledger of the service
abbrev pub LooksAt : ServiceId → Option Ledger → Type 0
LooksAt service watcher = IfSome watcher (λ w. service.ledger ≡ Some w)
