-- What the entries of a history come to by its check.
use Rattle.std.proofs.Common.{◌≡◌, ℕ, List, [], ◌∷◌, ◌++◌, refl, sym, ap, subst, ◌∙◌, append-nil, inl, inr, ◌⊎◌, Option, Result, Ok, Err}
use Rattle.std.specs.Prelude.{IfSome}
use Rattle.lock_journal.specs.Names.{GraphView, StateView, opening_of, BookView, Entry, effect, replay_from, Allowed, Lawful, lawful_from}
use Rattle.file_access.specs.SourceView.{SourceView}
use Rattle.plan_reader.specs.PlanView.{PlanView}
use Rattle.history_text.specs.HistoryView.{HistoryView}
use Rattle.history_check.specs.CheckView.{CheckView, BeginsUnlawful, IsCheckOf}
use Rattle.history_check.specs.Verdict.{IsFirstUnlawful, IsVerdict}
use Rattle.history_check.specs.Checking.{AnswersBy, HasEnded, HasChecked}
use Rattle.history_check.specs.Admitting.{AdmitsInput, IsAdmission, IsAdmissionOf, IsFinish, checked_of}
use Rattle.history_check.specs.declared.admitted.Admitted.{Admitted}
use Rattle.history_check.specs.declared.admitted.Admitted.TheVariants as admitted
use Rattle.history_check.specs.declared.checks.Checked.{Checked}
use Rattle.history_check.specs.declared.checks.Checked.TheVariants as checked
use Rattle.history_check.specs.declared.fails.CheckFail.{CheckFail}

-- an entry behind lawful ones is allowed after them
allowed_behind : (g : GraphView) (s : StateView) (front : List Entry) (e : Entry) (behind : List Entry) → lawful_from g s (front ++ e ∷ behind) → Allowed g (replay_from s front) e
allowed_behind g s [] e behind lawful = lawful.0
allowed_behind g s (x ∷ front) e behind lawful = allowed_behind g (effect s x) front e behind lawful.1

-- where all entries are lawful, those that were admitted are all
all_admitted : (g : GraphView) (all front behind : List Entry) → all ≡ front ++ behind → BeginsUnlawful g front behind → Lawful g all → front ≡ all
all_admitted g all front [] is refused lawful = sym (is ∙ append-nil front)
all_admitted g all front (e ∷ behind) is refused lawful = absurd (refused (allowed_behind g (opening_of g) front e behind (subst (Lawful g) is lawful)))

module _ (p : PlanView) (h : HistoryView) (c : CheckView) (check : IsCheckOf p h c) where
  finished : (answer : Checked) (a : Admitted) → IsVerdict c.graph h.locks h.entries answer → IsFinish c answer a → IsAdmission c.graph h.locks h.entries a
  finished (checked.Lawful n) a verdict finish =
      subst (IsAdmission c.graph h.locks h.entries) (sym finish.1) (
        verdict.0,
        record {
          graph = finish.2;
          entries = subst (λ (k : Option (List Entry)). IfSome k (λ es. es ≡ check.front)) finish.4 check.kept
              ∙ all_admitted c.graph h.entries check.front check.behind check.entries check.refused verdict.1;
          whole = finish.3;
          lawful = verdict.1;
        },
      )
  finished (checked.NotLawful n) a verdict finish = subst (IsAdmission c.graph h.locks h.entries) (sym finish) verdict

  pub finished_whole : (answer : Checked) (a : Admitted) → IsVerdict c.graph h.locks h.entries answer → IsFinish c answer a → IsAdmissionOf p h a
  finished_whole answer a verdict finish = subst (λ (g : GraphView). IsAdmission g h.locks h.entries a) check.graph (finished answer a verdict finish)

-- the answer without the book
told : (c : CheckView) (answer : Checked) (a : Admitted) → IsFinish c answer a → (n : ℕ) → answer ≡ checked.NotLawful n → checked_of a ≡ checked.NotLawful n
told c (checked.Lawful m) a finish n is = absurd (cc is)
told c (checked.NotLawful m) a finish n is = ap checked_of finish ∙ is

pub finished_input : (p : PlanView) (start now : SourceView) (c : CheckView) (answer : Checked) (a : Admitted) → AnswersBy p start now c answer → IsFinish c answer a → AdmitsInput p start now a
finished_input p start now c answer a (came, takes, inl ended, just) finish =
    (came, takes, inl (record { history = ended.history; names = ended.names; admission = finished_whole p ended.history c ended.check answer a ended.verdict finish }), just)
finished_input p start now c answer a (came, takes, inr broken, just) finish =
    (came, takes, inr (record { number = broken.number; breaks = broken.breaks; answer = told c answer a finish broken.number broken.answer }), just)

-- the answer of a check that keeps no book
pub checked_input : (p : PlanView) (start now : SourceView) (c : CheckView) (r : Result Checked CheckFail) → HasEnded p start now c r → HasChecked p start now r
checked_input p start now c (Ok a) (came, takes, inl ended, just) = (
  came,
  takes,
  inl (record { history = ended.history; names = ended.names; verdict = subst (λ (g : GraphView). IsVerdict g ended.history.locks ended.history.entries a) ended.check.graph ended.verdict }),
  just,
)
checked_input p start now c (Ok a) (came, takes, inr broken, just) = (came, takes, inr broken, just)
checked_input p start now c (Err fail) failed = failed
