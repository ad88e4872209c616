-- What lies in the slot of a service.
use Rattle.std.specs.Prelude.{Option}
use Rattle.logbook.specs.Pages.{Book as Ledger}
use Rattle.lock_journal.specs.BookView.{BookView}

-- the book, and the ledger that shows its history, if one does
pub record KeptView : Type 0 where
  pub book : BookView
  pub ledger : Option Ledger

abbrev pub kept : BookView → Option Ledger → KeptView
kept b l = record { book = b; ledger = l }
