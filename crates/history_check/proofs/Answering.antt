-- What entries that were admitted come to, told of the history that they are of.
use Rattle.std.proofs.Common.{◌≡◌, ℕ, false, List, [], Option, None, Result, Ok, Err, sym, ap, subst, ◌∙◌, inl, inr}
use Rattle.std.specs.Prelude.{IsErrAnd}
use Rattle.std.specs.declared.alloc.AllocError.{AllocError}
use Rattle.std.proofs.lemmas.Bool.{true≢false}
use Rattle.item_actions.specs.Files.{Folder}
use Rattle.lock_journal.specs.Names.{Entry, Closed, GraphView}
use Rattle.file_access.specs.SourceView.{SourceView}
use Rattle.plan_reader.specs.Graph.{graph_of}
use Rattle.plan_reader.specs.PlanView.{PlanView}
use Rattle.history_text.specs.HistoryView.{HistoryView}
use Rattle.history_check.specs.Admitting.{AdmitsInput, IsAdmission, IsAdmissionOf, checked_of}
use Rattle.history_check.specs.Checking.{Fails}
use Rattle.history_check.specs.Verdict.{names_other_locks}
use Rattle.history_check.specs.declared.admitted.Admitted.{Admitted}
use Rattle.history_check.specs.declared.admitted.Admitted.TheVariants as admitted
use Rattle.history_check.specs.declared.checks.Checked.TheVariants as checked
use Rattle.history_check.specs.declared.fails.CheckFail.{CheckFail}
use Rattle.history_check.specs.declared.fails.CheckFail.TheVariants as fails
use Rattle.history_check.specs.Driving.{DrivesInput, FitsPlan, GoesOn, HasDriven, HasGoneOn, HasRead, IsAgain, IsDrivenAgain}
use Rattle.history_check.specs.declared.again.Again.{Again}
use Rattle.history_check.specs.declared.again.Again.TheVariants as again

-- ---- a whole history

pub fits_plan : (p : PlanView) (h : HistoryView) (a : Admitted) → IsAdmissionOf p h a → FitsPlan p a
fits_plan p h (admitted.Lawful b) is = (ap (λ (g : GraphView). g.units) is.1.graph, is.1.whole)
fits_plan p h (admitted.NotLawful n) is = tt

module _ (p : PlanView) (known : Option Folder) (Read : List Closed → Type 0) where
  -- where no other number of locks is named, it is as where none is
  no_other : (g : GraphView) (locks : Option ℕ) (es : List Entry) (found : Again) → names_other_locks locks g ≡ false → IsAgain p g None es known Read found → IsAgain p g locks es known Read found
  no_other g locks es (again.Same b) same h = (same, h.1, h.2, h.3, h.4)
  no_other g locks es (again.NotLawful n) same (inl h, read) = absurd (true≢false (sym h.0))
  no_other g locks es (again.NotLawful n) same (inr h, read) = (inr (same, h.1), read)
  no_other g locks es (again.Differs n o) same h = (same, h.1, h.2)
  no_other g locks es (again.ReadFault u) same h = (same, h.1, h.2)

  by_entries : (g : GraphView) (locks : Option ℕ) (es : List Entry) (a : Admitted) (found : Again) → IsAdmission g locks es a → GoesOn p known Read a found → IsAgain p g locks es known Read found
  by_entries g locks es (admitted.Lawful b) found is goes =
      no_other g locks es found is.0
      (subst (λ (x : GraphView). IsAgain p x None es known Read found) is.1.graph (subst (λ (xs : List Entry). IsAgain p b.graph None xs known Read found) is.1.entries goes))
  by_entries g locks es (admitted.NotLawful n) found is goes = subst (IsAgain p g locks es known Read) (sym goes.0) (is, goes.1)

  pub whole : (h : HistoryView) (a : Admitted) (r : Result Again AllocError) → IsAdmissionOf p h a → HasGoneOn p known Read a r → IsDrivenAgain p h known Read r
  whole h a (Ok found) is goes = by_entries (graph_of p h.workers h.max h.parallel) h.locks h.entries a found is goes
  whole h a (Err e) is goes = goes

  -- ---- an input

  none_there : (a : Admitted) (n : ℕ) (found : Again) → checked_of a ≡ checked.NotLawful n → GoesOn p known Read a found → (found ≡ again.NotLawful n) × Read []
  none_there (admitted.Lawful b) n found is goes = absurd (cc is)
  none_there (admitted.NotLawful m) n found is goes = let same : m ≡ n = cc is in (goes.0 ∙ ap again.NotLawful same, goes.1)

  pub of_input : (old new : SourceView) (a : Admitted) (found : Again) → AdmitsInput p old new a → GoesOn p known Read a found → DrivesInput p old new known Read found
  of_input old new a found (came, takes, inl admits, just) goes = (
    came,
    takes,
    inl (record {
      history = admits.history;
      names = admits.names;
      again = by_entries (graph_of p admits.history.workers admits.history.max admits.history.parallel) admits.history.locks admits.history.entries a found admits.admission goes;
    }),
    just,
  )
  of_input old new a found (came, takes, inr broken, just) goes =
      let none = none_there a broken.number found broken.answer goes in
      (came, takes, inr (record { number = broken.number; breaks = broken.breaks; answer = none.0; read = none.1 }), just)

  pub no_memory_there : (old new : SourceView) (a : Admitted) → AdmitsInput p old new a → HasRead Read → HasDriven p old new known Read (Err fails.NoMemory)
  no_memory_there old new a admits read = ((admits.0, admits.1), read)

  pub failed_there : (old new : SourceView) (r : Result Again CheckFail) (fail : CheckFail) → IsErrAnd r (λ f. f ≡ fail) → Fails old new fail → Read [] → HasDriven p old new known Read r
  failed_there old new (Ok a) fail never h read = absurd never
  failed_there old new (Err f) fail same h read = (subst (Fails old new) (sym same) h, ([], read))

pub fits_input : (p : PlanView) (old new : SourceView) (a : Admitted) → AdmitsInput p old new a → FitsPlan p a
fits_input p old new a (came, takes, inl admits, just) = fits_plan p admits.history a admits.admission
fits_input p old new (admitted.Lawful b) (came, takes, inr broken, just) = absurd (let e = broken.answer in cc e)
fits_input p old new (admitted.NotLawful n) (came, takes, inr broken, just) = tt
