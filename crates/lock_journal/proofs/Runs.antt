-- What holds after each lawful history.
use Rattle.std.proofs.Common.{◌≡◌, ℕ, ◌<◌, ◌≤◌, ◌⊎◌, List, [], ◌∷◌, ◌++◌, length, get_or, Option, None, Some, refl, sym, ap, subst, inl, inr, arith, append_assoc, append-nil}
use Rattle.std.specs.Prelude.{replicate, IfSome}
use Rattle.std.proofs.lemmas.Bool.{cases_lt}
use Rattle.std.proofs.lemmas.List.{get_or-replicate, length-replicate, get_or_past}
use Rattle.lock_journal.specs.Names.{Change, WorkerId, Waiting, make_all, opening_of, GraphView, StateView, Kind, IsKindOf, Finishes, Allowed}
use Rattle.lock_journal.specs.Names.{lawful_from, Lawful, Entry, changed, effect, replay_from, replay}
use Rattle.resource_lock.proofs.lemmas.Runs.{belongs_opening, same_shape-make_all}
use Rattle.lock_journal.proofs.Finished.{final_by, has_moved}
use Rattle.lock_journal.proofs.lemmas.Fitting.{RangesApart}
use Rattle.lock_journal.proofs.History.{IsRecorded, ClosedAs, times_begun, times_skipped, recorded_finished, recorded_failed}
use Rattle.lock_journal.proofs.Kept.{TaskFact, ActionFact, UnitFact, IsKept}
use Rattle.lock_journal.proofs.MarkConditions.{mark_condition}
use Rattle.lock_journal.proofs.Marks.{stays_or_moves}
use Rattle.lock_journal.proofs.Moves.{MayMove, list_moves}
use Rattle.lock_journal.proofs.Steps.{IsStep, kept_by_step}

-- what holds after a history
pub record Holds (g : GraphView) (h : List Entry) (s : StateView) : Type 0 where
  pub kept : IsKept g s
  pub recorded : IsRecorded g h s

step_of : (g : GraphView) (s : StateView) (w : WorkerId) (k : Kind) (cs : List Change) → RangesApart g → IsKept g s → IsKindOf g k → Finishes g s w k cs → IsStep g s w k (make_all s w cs)
step_of g s w k cs apart kept i f = record {
  apart = apart;
  before = kept;
  condition = mark_condition g s w k apart f.condition;
  final = final_by g s w k cs f.list f.possible;
  moves_to = has_moved g s w k cs kept.belongs i f.list f.possible;
  stays_or_moves = stays_or_moves (MayMove g s w k) cs s w (list_moves g s w k cs f.list) f.possible;
}

one_entry : (g : GraphView) (s : StateView) (w : WorkerId) (k : Kind) (o : Option (List Change)) (h : List Entry) → RangesApart g → Holds g h s → IsKindOf g k → IfSome o (Finishes g s w k) → Holds g (h ++ record { worker = w; kind = k; changes = o } ∷ []) (changed s w o)
one_entry g s w k None h apart holds i f = record { kept = holds.kept; recorded = recorded_failed g s w k h holds.recorded }
one_entry g s w k (Some cs) h apart holds i f =
    let step = step_of g s w k cs apart holds.kept i f in
    record { kept = kept_by_step g s w k (make_all s w cs) (same_shape-make_all s w cs) step; recorded = recorded_finished g s w k cs (make_all s w cs) h step holds.recorded }

pub one_more : (g : GraphView) (s : StateView) (e : Entry) (h : List Entry) → RangesApart g → Holds g h s → Allowed g s e → Holds g (h ++ e ∷ []) (effect s e)
one_more g s e h apart holds a = one_entry g s e.worker e.kind e.changes h apart holds a.kind a.finished

goes_on : (g : GraphView) (h past : List Entry) (s : StateView) → RangesApart g → Holds g past s → lawful_from g s h → Holds g (past ++ h) (replay_from s h)
goes_on g [] past s apart holds a = subst (λ z. Holds g z s) (sym (append-nil past)) holds
goes_on g (e ∷ h) past s apart holds a =
    subst (λ z. Holds g z (replay_from (effect s e) h)) (append_assoc past (e ∷ []) h)
    (goes_on g h (past ++ e ∷ []) (effect s e) apart (one_more g s e past apart holds a.0) a.1)

pub all_wait : (n i : ℕ) → get_or (replicate n Waiting) i Waiting ≡ Waiting
all_wait n i = at (cases_lt i n)
  where
    at : (i < n) ⊎ (n ≤ i) → get_or (replicate n Waiting) i Waiting ≡ Waiting
    at (inl within) = get_or-replicate n i Waiting Waiting within
    at (inr past) = let e = length-replicate n Waiting in get_or_past (replicate n Waiting) i Waiting (omega arith)

holds_at_first : (g : GraphView) → Holds g [] (opening_of g)
holds_at_first g = record {
  kept = record {
    belongs = belongs_opening g;
    tasks = λ t. subst (TaskFact g (opening_of g) t) (sym (all_wait (length g.tasks) t)) tt;
    actions = λ a. subst (ActionFact g (opening_of g) a) (sym (all_wait (length g.actions) a)) tt;
    units = λ t a u ia iu. subst (UnitFact g (opening_of g) t a) (sym (all_wait g.units u)) tt;
  };
  recorded = record {
    started = λ t. sym (ap times_begun (all_wait (length g.tasks) t));
    skipped = λ t. sym (ap times_skipped (all_wait (length g.tasks) t));
    claimed = λ u i. sym (ap times_begun (all_wait g.units u));
    closed = λ u. subst (ClosedAs []) (sym (all_wait g.units u)) refl;
  };
}

pub holds_after : (g : GraphView) (h : List Entry) → RangesApart g → Lawful g h → Holds g h (replay g h)
holds_after g h apart a = goes_on g h [] (opening_of g) apart (holds_at_first g) a
