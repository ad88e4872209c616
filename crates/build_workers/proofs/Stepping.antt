-- What a part of a worker's run does goes on over the next part.
use Rattle.std.proofs.Common.{◌≡◌, ℕ, Bool, true, false, List, [], ◌∷◌, Option, Some, Result, Ok, Err, refl, sym, ap, ◌∙◌, arith, subst}
use Rattle.std.specs.Prelude.{IfSome, OnErr, OnOk, is_err, is_ok, slice_get}
use Rattle.std.proofs.lemmas.Bool.{false≢true}
use Rattle.std.proofs.lemmas.List.{append-nil}
use Rattle.logbook.specs.Pages.{Book as Ledger}
use Rattle.item_actions.specs.Files.{Folder}
use Rattle.item_actions.specs.Value.{IsHonest}
use Rattle.item_actions.specs.declared.outcomes.Outcome.{Outcome}
use Rattle.file_access.proofs.lemmas.Counting.{fault_rises, outcome_kept}
use Rattle.lock_journal.specs.Names.{closed_by, Closed}
use Rattle.daemon_manager.specs.Counts.{TallyView}
use Rattle.plan_reader.specs.Units.{PlannedUnit, value_in}
use Rattle.coordination.specs.Passes.{PassView}
use Rattle.coordination.specs.declared.rule.Sight.{Sight}
use Rattle.build_workers.specs.Desks.{DeskView}
use Rattle.build_workers.specs.Failing.{FailsForEach}
use Rattle.build_workers.specs.Helping.{at_sight}
use Rattle.build_workers.specs.Kept.{HasClosed, Keeps}
use Rattle.build_workers.specs.Looking.{LooksAt}
use Rattle.build_workers.specs.Site.{IsAt, SiteView}
use Rattle.build_workers.specs.Steps.{HasRun, HasRunItem, MovesPass, Proceeds, Steps}
use Rattle.build_workers.specs.Units.{given}
use Rattle.build_workers.specs.WorkerView.{IsOf, WorkerView}
use Rattle.build_workers.proofs.Failing.{fails_closed, fails_not, fails_then}
use Rattle.build_workers.proofs.Keeping.{keeps_closed, keeps_risen, keeps_still, keeps_then}
use Rattle.build_workers.proofs.Sending.{sent_more, sent_nothing, sent_one, sent_still, sent_then}
use Rattle.build_workers.proofs.lemmas.Weaker.{proceeds_weaker}

-- the pass is still of the site
pub at_next : {ds : List Closed} {s : SiteView} {old new : PassView} → IsAt s old → new.service ≡ old.service → HasClosed ds old.sight new.sight → IsAt s new
at_next at service closed = record { service = service ∙ at.service; graph = closed.graph ∙ at.graph }

pub closes_nothing : (s : Sight) → HasClosed [] s s
closes_nothing s = record { worker = refl; graph = refl; closed = sym (append-nil (closed_by s.worker s.seen.history)) }

-- ---- of a desk and a pass

-- no unit was closed, and the desk did nothing
proceeds_still : (units : List PlannedUnit) (desk : DeskView) {old new : Sight} (done : Bool) → HasClosed [] old new → Proceeds units desk desk old new done
proceeds_still units desk done closed = record {
  files = refl;
  keeps = keeps_still desk.files units desk.faults closed;
  sent = sent_nothing done units closed refl;
}

-- one part after the other
proceeds_then : {units : List PlannedUnit} {a b c : DeskView} {old mid new : Sight} {last : Bool} → Proceeds units a b old mid true → Proceeds units b c mid new last → Proceeds units a c old new last
proceeds_then {units} {a} {b} {c} {old} {mid} {new} {last} k l = record {
  files = l.files ∙ k.files;
  keeps = keeps_then _ _ _ _ _ k.keeps (subst (λ (known : Option Folder). Keeps known units b.faults c.faults mid new) k.files l.keeps);
  sent = sent_then last units k.sent l.sent;
}

-- a part that failed, behind which no unit was closed
proceeds_stopped : {units : List PlannedUnit} {a b : DeskView} {old mid new : Sight} → Proceeds units a b old mid false → HasClosed [] mid new → Proceeds units a b old new false
proceeds_stopped {units} {a} {b} {old} {mid} {new} k closed = record {
  files = k.files;
  keeps = keeps_then _ _ _ _ _ k.keeps (keeps_still a.files units b.faults closed);
  sent = sent_still k.sent closed;
}

-- a unit was run, and closed with what it gave
proceeds_closed : {units : List PlannedUnit} {a b : DeskView} {old new : Sight} (d : Closed) → HasRun units a b d → HasClosed (d ∷ []) old new → Proceeds units a b old new true
proceeds_closed {units} {a} {b} d run closes = record {
  files = run.files;
  keeps = keeps_closed a.files units a.faults b.faults d closes (outcome_kept d.outcome a.faults b.faults run.counted) (fault_rises d.outcome a.faults b.faults run.counted) run.honest;
  sent = sent_one units d closes run.sent;
}

-- a unit was run, and not closed
proceeds_unclosed : {units : List PlannedUnit} {a b : DeskView} {old new : Sight} (d : Closed) → HasRun units a b d → HasClosed [] old new → Proceeds units a b old new false
proceeds_unclosed {units} {a} {b} d run closes = record {
  files = run.files;
  keeps = keeps_risen a.files units a.faults b.faults closes (outcome_kept d.outcome a.faults b.faults run.counted);
  sent = sent_more units d closes run.sent;
}

-- ---- of a worker

-- what it looks with is of the service still
looks_on : {s : SiteView} {old : WorkerView} {watcher : Option Ledger} → watcher ≡ old.watcher → IsOf s old → LooksAt s.service.service watcher
looks_on {s} same of = subst (LooksAt s.service.service) (sym same) of.looks

-- its pass alone went on, and no unit was closed
pub step_moved : {s : SiteView} {old new : WorkerView} (done : Bool) → IsOf s old → MovesPass old new → HasClosed [] old.pass.sight new.pass.sight → Steps s old new done
step_moved {s} {old} {new} done of moves closed = record {
  of = record { at = at_next of.at moves.service closed; looks = looks_on moves.watcher of };
  proceeds = subst (λ (d : DeskView). Proceeds s.units old.desk d old.pass.sight new.pass.sight done) (sym moves.desk) (proceeds_still s.units old.desk done closed);
  reserved = let same = ap (λ (d : DeskView). d.sent.count) moves.desk in let mine = ap (λ (t : TallyView). t.reserved) moves.tally in omega (arith, same, mine);
  failed = λ _. subst (λ (t : TallyView). FailsForEach old.pass.sight new.pass.sight old.tally t) (sym moves.tally) (fails_not old.tally closed);
}

-- nothing was done
pub step_same : {s : SiteView} {w : WorkerView} → IsOf s w → Steps s w w true
step_same {w = w} of = step_moved true of (record { service = refl; desk = refl; tally = refl; watcher = refl }) (closes_nothing w.pass.sight)

-- one part after the other, where the first was done
pub step_then : {s : SiteView} {a b c : WorkerView} {last : Bool} → Steps s a b true → Steps s b c last → Steps s a c last
step_then {s} {a} {b} {c} k l = record {
  of = l.of;
  proceeds = proceeds_then k.proceeds l.proceeds;
  reserved = let first = k.reserved in let second = l.reserved in omega (arith, first, second);
  failed = λ is. fails_then a.pass.sight b.pass.sight c.pass.sight a.tally b.tally c.tally k.proceeds.keeps.worker (k.failed refl) (l.failed is);
}

-- less is said of a part that says less
pub step_weaker : {s : SiteView} {a b : WorkerView} {more less : Bool} → (less ≡ true → more ≡ true) → Steps s a b more → Steps s a b less
step_weaker weaker k = record { of = k.of; proceeds = proceeds_weaker weaker k.proceeds; reserved = k.reserved; failed = λ is. k.failed (weaker is) }

pub step_failed : {s : SiteView} {a b : WorkerView} {done : Bool} → Steps s a b done → Steps s a b false
step_failed k = step_weaker (λ is. absurd (false≢true is)) k

-- a part that was done, and one that failed
pub step_ok : {T E : Type 0} {s : SiteView} {a b : WorkerView} (r : Result T E) (x : T) → r ≡ Ok x → Steps s a b (is_ok r) → Steps s a b true
step_ok {s = s} {a} {b} r x is k = subst (λ (o : Result _ _). Steps s a b (is_ok o)) is k

pub step_err : {T E : Type 0} {s : SiteView} {a b : WorkerView} {done : Bool} (r : Result T E) → is_err r ≡ true → Steps s a b done → Steps s a b (is_ok r)
step_err (Ok x) is k = absurd (cc)
step_err (Err e) is k = step_failed k

pub step_any : {T E : Type 0} {s : SiteView} {a b : WorkerView} (r : Result T E) → Steps s a b true → Steps s a b (is_ok r)
step_any (Ok x) k = k
step_any (Err e) k = step_failed k

-- a unit was run and closed with what it gave, and then its pass alone went on
pub step_closed : {s : SiteView} {old mid new : WorkerView} (d : Closed) → IsOf s old → HasRunItem s.units old mid d → MovesPass mid new → HasClosed (d ∷ []) old.pass.sight new.pass.sight → Steps s old new true
step_closed {s} {old} {mid} {new} d of ran moves closed = record {
  of = record { at = at_next of.at (moves.service ∙ ap (λ (p : PassView). p.service) ran.pass) closed; looks = looks_on (moves.watcher ∙ ran.watcher) of };
  proceeds = subst (λ (b : DeskView). Proceeds s.units old.desk b old.pass.sight new.pass.sight true) (sym moves.desk) (proceeds_closed d ran.ran closed);
  reserved = let same = ap (λ (b : DeskView). b.sent.count) moves.desk in let mine = ap (λ (t : TallyView). t.reserved) moves.tally in let first = ran.reserved in omega (arith, same, mine, first);
  failed = λ _. subst (λ (t : TallyView). FailsForEach old.pass.sight new.pass.sight old.tally t) (sym moves.tally) (fails_closed old.pass.sight new.pass.sight old.tally mid.tally d closed ran.failed);
}

-- a unit was run, and not closed
pub step_unclosed : {s : SiteView} {old mid new : WorkerView} (d : Closed) → IsOf s old → HasRunItem s.units old mid d → MovesPass mid new → HasClosed [] old.pass.sight new.pass.sight → Steps s old new false
step_unclosed {s} {old} {mid} {new} d of ran moves closed = record {
  of = record { at = at_next of.at (moves.service ∙ ap (λ (p : PassView). p.service) ran.pass) closed; looks = looks_on (moves.watcher ∙ ran.watcher) of };
  proceeds = subst (λ (b : DeskView). Proceeds s.units old.desk b old.pass.sight new.pass.sight false) (sym moves.desk) (proceeds_unclosed d ran.ran closed);
  reserved = let same = ap (λ (b : DeskView). b.sent.count) moves.desk in let mine = ap (λ (t : TallyView). t.reserved) moves.tally in let first = ran.reserved in omega (arith, same, mine, first);
  failed = λ is. absurd (false≢true is);
}

-- a unit was run, and closed with what it gave, or the closing failed
pub step_ran : {T E : Type 0} {s : SiteView} {old mid new : WorkerView} (d : Closed) (r : Result T E) → IsOf s old → HasRunItem s.units old mid d → MovesPass mid new → OnOk r (HasClosed (d ∷ []) old.pass.sight new.pass.sight)
    → OnErr r (HasClosed [] old.pass.sight new.pass.sight) → Steps s old new (is_ok r)
step_ran d (Ok x) of ran moves closed still = step_closed d of ran moves closed
step_ran d (Err e) of ran moves closed still = step_unclosed d of ran moves still

-- a desk that ran a unit and sent nothing
pub ran_alone : {units : List PlannedUnit} {w : WorkerView} {desk : DeskView} {d : Closed} → HasRun units w.desk desk d → desk.sent.count ≡ w.desk.sent.count → HasRunItem units w (record w { desk = desk }) d
ran_alone ran same = record { pass = refl; watcher = refl; ran = ran; reserved = omega (arith, same); failed = omega arith }

-- a part that failed, behind which its pass alone went on
pub step_stopped : {s : SiteView} {a b c : WorkerView} → Steps s a b false → MovesPass b c → HasClosed [] b.pass.sight c.pass.sight → Steps s a c false
step_stopped {s} {a} {b} {c} k moves closed =
    let last = step_moved false k.of moves closed in record {
      of = last.of;
      proceeds = subst (λ (d : DeskView). Proceeds s.units a.desk d a.pass.sight c.pass.sight false) (sym moves.desk) (proceeds_stopped k.proceeds closed);
      reserved = let first = k.reserved in let second = last.reserved in omega (arith, first, second);
      failed = λ is. absurd (false≢true is);
    }

-- its pass alone went on, and went on again
pub moves_then : {a b c : WorkerView} → MovesPass a b → MovesPass b c → MovesPass a c
moves_then k l = record { service = l.service ∙ k.service; desk = l.desk ∙ k.desk; tally = l.tally ∙ k.tally; watcher = l.watcher ∙ k.watcher }

-- its pass went on, as far as it had seen then
pub moved_at : {old new : WorkerView} (between : Sight) → MovesPass old new → MovesPass old (at_sight new between)
moved_at between moves = record { service = moves.service; desk = moves.desk; tally = moves.tally; watcher = moves.watcher }

-- from when it had seen so much, its pass alone went on
pub moved_on : (new : WorkerView) (between : Sight) → MovesPass (at_sight new between) new
moved_on new between = record { service = refl; desk = refl; tally = refl; watcher = refl }

-- ---- of a worker that is told by its fields

pub is_of : {s : SiteView} {inside old : WorkerView} → inside ≡ old → IsOf s old → IsOf s inside
is_of {s} is of = subst (IsOf s) (sym is) of

pub to_fields : {inside old : WorkerView} (P : Sight → Type 0) → inside ≡ old → P old.pass.sight → P inside.pass.sight
to_fields P is p = subst (λ (w : WorkerView). P w.pass.sight) (sym is) p

pub of_fields : {inside old : WorkerView} (P : Sight → Type 0) → inside ≡ old → P inside.pass.sight → P old.pass.sight
of_fields P is p = subst (λ (w : WorkerView). P w.pass.sight) is p

pub moves_from : {inside old new : WorkerView} → inside ≡ old → MovesPass inside new → MovesPass old new
moves_from {new = new} is moves = subst (λ (w : WorkerView). MovesPass w new) is moves

pub ran_from : {inside old new : WorkerView} {units : List PlannedUnit} {d : Closed} → inside ≡ old → HasRunItem units inside new d → HasRunItem units old new d
ran_from {new = new} {units} {d} is ran = subst (λ (w : WorkerView). HasRunItem units w new d) is ran

pub step_from : {s : SiteView} {inside old new : WorkerView} {done : Bool} → inside ≡ old → Steps s inside new done → Steps s old new done
step_from {s} {new = new} {done} is step = subst (λ (w : WorkerView). Steps s w new done) is step

-- its pass went on, and the rest of it stayed
pub with_pass : {w : WorkerView} {p : PassView} → p.service ≡ w.pass.service → MovesPass w (record w { pass = p })
with_pass same = record { service = same; desk = refl; tally = refl; watcher = refl }

-- an outcome that is honest of a unit is so of its number
pub honest_at : (units : List PlannedUnit) (planned : PlannedUnit) (outcome : Outcome) (known : Option Folder) (u : ℕ) → slice_get units u ≡ Some planned
    → IfSome known (λ files. IsHonest outcome (value_in files (Some planned))) → IfSome known (λ files. IsHonest outcome (given units files u))
honest_at units planned outcome known u is honest = subst (λ (o : Option PlannedUnit). IfSome known (λ files. IsHonest outcome (value_in files o))) (sym is) honest
