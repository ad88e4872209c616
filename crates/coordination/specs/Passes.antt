-- A pass and a service, as contracts see them.
use Rattle.std.specs.Prelude.{◌≡◌, List, [], ◌∷◌, Option}
use Rattle.logbook.specs.Pages.{Book as Ledger}
use Rattle.atomic_table.specs.Seated.{TableId}
use Rattle.lock_journal.specs.Names.{WorkerId, BookView}
use Rattle.coordination.specs.declared.rule.Sight.{Sight}
use Rattle.worker_notes.specs.Parts.{HasRoom, IsPartOf}
use Rattle.coordination.specs.declared.passes.Notes.{Notes}
use Rattle.coordination.specs.declared.rule.SeatView.{SeatView}
use Rattle.history_views.specs.ShownBooks.{IsTold}
use Rattle.coordination.specs.Sights.{nobody, one, sight_of}
use Rattle.coordination.specs.Rule.{M}

-- which service it is, and the ledger that shows its history, if one does
pub record ServiceId : Type 0 where
  pub table : TableId
  pub ledger : Option Ledger

-- which service it is of, and what its worker has seen
pub record PassView : Type 0 where
  pub service : ServiceId
  pub sight : Sight

-- what a badge shows that is one
abbrev pub view_in : List SeatView → SeatView
view_in [] = nobody
view_in (v ∷ vs) = v

-- the seat that a badge becomes
abbrev pub me_in : List SeatView → M
me_in views = (view_in views, [])

-- how the fields of a pass are tied to its seat
pub record IsPass (worker : WorkerId) (notes : Notes) (me : M) : Type 0 where
  pub lone : me ≡ (one me.0.ledger (sight_of me.0), [])
  pub worker_is : worker ≡ (sight_of me.0).worker
  pub part_is : IsPartOf (sight_of me.0).seen (sight_of me.0).worker notes.part
  pub room : HasRoom notes.part
  pub told : IsTold me.0.ledger notes.reach (sight_of me.0).seen

-- which one it is, and the book that it was opened with
pub record CoordinationView : Type 0 where
  pub service : ServiceId
  pub book : BookView
