-- A history that has more entries behind it.
use Rattle.std.proofs.Common.{◌≡◌, ℕ, ◌+◌, cond, List, [], ◌∷◌, ◌++◌, Option, None, Some, refl, sym, ap, ◌∙◌, subst, arith, append_assoc, append-nil}
use Rattle.std.specs.Prelude.{IfSome}
use Rattle.std.specs.List.{All}
use Rattle.std.proofs.lemmas.Bool.{ne_eqb}
use Rattle.std.proofs.lemmas.List.Elements.{All-from_get_or}
use Rattle.std.proofs.lemmas.List.Sums.{sum_by-append}
use Rattle.lock_journal.specs.Names.{Change, WorkerId, Waiting, MarkId, TaskOf, opening_of, GraphView, SameShape, StateView, mark_of, Closed, Kind}
use Rattle.lock_journal.specs.Names.{Allowed, Finishes, lawful_from, Lawful, closing_of, where_finished, closings, last_or, outcome_in, Entry}
use Rattle.lock_journal.specs.Names.{changed, effect, replay_from, replay, closed_at, closed_by, faults_by, faults_in, IsEnded, NoneOf, SameFor}
use Rattle.resource_lock.proofs.lemmas.Runs.{same_shape-make_all, same_shape-trans}
use Rattle.item_actions.specs.declared.outcomes.Outcome.{Outcome}
use Rattle.item_actions.specs.Value.{is_fault}
use Rattle.lock_journal.proofs.lemmas.Replays.{lawful_from-append, lawful_from-push, replay_from-append, replay_from-push}
use Rattle.lock_journal.proofs.Finished.{IsFinal, final_by}
use Rattle.lock_journal.proofs.lemmas.Others.{others_after}

pub lawful-front : (g : GraphView) (h later : List Entry) → Lawful g (h ++ later) → Lawful g h
lawful-front g h later lawful = (lawful_from-append g (opening_of g) h later lawful).0

-- the state of the whole history is, for a worker without entries in the later part, that of the first part
pub same_by_own : (g : GraphView) (own later : List Entry) (w : WorkerId) → Lawful g (own ++ later) → NoneOf w later → SameFor w (replay g own) (replay g (own ++ later))
same_by_own g own later w lawful none =
    subst (SameFor w (replay g own)) (sym (replay_from-append (opening_of g) own later))
    (others_after g later (replay g own) w (lawful_from-append g (opening_of g) own later lawful).1 none)

-- marks that have ended stay
final_entry : (g : GraphView) (s : StateView) (w : WorkerId) (k : Kind) (o : Option (List Change)) → IfSome o (Finishes g s w k) → IsFinal s (changed s w o)
final_entry g s w k None f = record { kept = λ m ended. refl }
final_entry g s w k (Some cs) f = final_by g s w k cs f.list f.possible

final_from : (g : GraphView) (s : StateView) (h : List Entry) → lawful_from g s h → IsFinal s (replay_from s h)
final_from g s [] lawful = record { kept = λ m ended. refl }
final_from g s (e ∷ h) lawful = record { kept = λ m ended. at m ended (final_entry g s e.worker e.kind e.changes lawful.0.finished) (final_from g (effect s e) h lawful.1) }
  where
    at : (m : MarkId) → IsEnded (mark_of s m) → IsFinal s (effect s e) → IsFinal (effect s e) (replay_from (effect s e) h) → mark_of (replay_from (effect s e) h) m ≡ mark_of s m
    at m ended first rest = let same = first.kept m ended in rest.kept m (subst IsEnded (sym same) ended) ∙ same

pub marks_stay : (g : GraphView) (h later : List Entry) (m : MarkId) → Lawful g (h ++ later) → IsEnded (mark_of (replay g h) m) → mark_of (replay g (h ++ later)) m ≡ mark_of (replay g h) m
marks_stay g h later m lawful ended =
    ap (λ s. mark_of s m) (replay_from-append (opening_of g) h later)
    ∙ (final_from g (replay g h) later (lawful_from-append g (opening_of g) h later lawful).1).kept m ended

same_shape-changed : (s : StateView) (w : WorkerId) (o : Option (List Change)) → SameShape s (changed s w o)
same_shape-changed s w None = same_shape-make_all s w []
same_shape-changed s w (Some cs) = same_shape-make_all s w cs

same_shape-replay_from : (s : StateView) (h : List Entry) → SameShape s (replay_from s h)
same_shape-replay_from s [] = same_shape-make_all s record { 0 = 0 } []
same_shape-replay_from s (e ∷ h) = same_shape-trans s (effect s e) (replay_from (effect s e) h) (same_shape-changed s e.worker e.changes) (same_shape-replay_from (effect s e) h)

pub tasks_stay : (g : GraphView) (h later : List Entry) → Lawful g (h ++ later) → All IsEnded (replay g h).tasks → All IsEnded (replay g (h ++ later)).tasks
tasks_stay g h later lawful ended =
    let first = (same_shape-replay_from (opening_of g) h).tasks in
    let whole = (same_shape-replay_from (opening_of g) (h ++ later)).tasks in
    All-from_get_or IsEnded (replay g (h ++ later)).tasks Waiting
    (λ t within. let there : IsEnded (mark_of (replay g h) (TaskOf t)) = ended t Waiting (omega arith) in
    subst IsEnded (sym (marks_stay g h later (TaskOf t) lawful there)) there)

-- one entry more
pub lawful-push : (g : GraphView) (h : List Entry) (e : Entry) → Lawful g h → Allowed g (replay g h) e → Lawful g (h ++ e ∷ [])
lawful-push g h e lawful allowed = lawful_from-push g (opening_of g) h e lawful allowed

pub replay-push : (g : GraphView) (h : List Entry) (e : Entry) → replay g (h ++ e ∷ []) ≡ effect (replay g h) e
replay-push g h e = replay_from-push (opening_of g) h e

pub closings-push : (h : List Entry) (e : Entry) (u : ℕ) → closings (h ++ e ∷ []) u ≡ closings h u ++ where_finished e.changes (closing_of u e.kind)
closings-push [] e u = append-nil (where_finished e.changes (closing_of u e.kind))
closings-push (x ∷ h) e u =
    ap (λ z. where_finished x.changes (closing_of u x.kind) ++ z) (closings-push h e u)
    ∙ sym (append_assoc (where_finished x.changes (closing_of u x.kind)) (closings h u) (where_finished e.changes (closing_of u e.kind)))

last_or-append : (o : Outcome) (xs ys : List Outcome) → last_or o (xs ++ ys) ≡ last_or (last_or o xs) ys
last_or-append o [] ys = refl
last_or-append o (x ∷ xs) ys = last_or-append x xs ys

pub outcome_in-push : (h : List Entry) (e : Entry) (u : ℕ) → outcome_in (h ++ e ∷ []) u ≡ last_or (outcome_in h u) (where_finished e.changes (closing_of u e.kind))
outcome_in-push h e u = ap (last_or _) (closings-push h e u) ∙ last_or-append _ (closings h u) (where_finished e.changes (closing_of u e.kind))

-- what a worker closed
closed_by-none : (w : WorkerId) (h : List Entry) → NoneOf w h → closed_by w h ≡ []
closed_by-none w [] none = refl
closed_by-none w (e ∷ h) none = rw (ne_eqb e.worker.0 w.0 none.0) (closed_by-none w h none.1)

closed_by-append : (w : WorkerId) (h later : List Entry) → closed_by w (h ++ later) ≡ closed_by w h ++ closed_by w later
closed_by-append w [] later = refl
closed_by-append w (e ∷ h) later = ap (λ ds. closed_at w e ++ ds) (closed_by-append w h later) ∙ sym (append_assoc (closed_at w e) (closed_by w h) (closed_by w later))

pub closed_by-own : (own later : List Entry) (w : WorkerId) → NoneOf w later → closed_by w (own ++ later) ≡ closed_by w own
closed_by-own own later w none = closed_by-append w own later ∙ (ap (λ ds. closed_by w own ++ ds) (closed_by-none w later none) ∙ append-nil (closed_by w own))

pub closed_by-push : (h : List Entry) (e : Entry) (w : WorkerId) → closed_by w (h ++ e ∷ []) ≡ closed_by w h ++ closed_at w e
closed_by-push h e w = closed_by-append w h (e ∷ []) ∙ ap (λ ds. closed_by w h ++ ds) (append-nil (closed_at w e))

pub faults_by-push : (h : List Entry) (e : Entry) (w : WorkerId) → faults_by w (h ++ e ∷ []) ≡ faults_by w h + faults_in (closed_at w e)
faults_by-push h e w = ap faults_in (closed_by-push h e w) ∙ sum_by-append (λ (d : Closed). cond (is_fault d.outcome) 1 0) (closed_by w h) (closed_at w e)
