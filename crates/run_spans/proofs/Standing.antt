-- What the steps of a lawful history say is so in its state.
use Rattle.std.proofs.Common.{◌≡◌, ℕ, ◌+◌, ◌<◌, ◌≤◌, ◌^◌, zero, suc, get_or, replicate, Bool, true, false, cond, List, [], ◌∷◌, ◌++◌, length, take, Option, Some, None, refl, sym, ap, ◌∙◌, arith}
use Rattle.std.specs.Prelude.{nat_eq, IfSome}
use Rattle.std.specs.List.{AllByRecursion}
use Rattle.std.proofs.lemmas.Bool.{and_parts, eq-eqb, eqb-true}
use Rattle.lock_journal.specs.Names.{can, can_all, make, make_all, NamesOnly, Good, GraphView, opening_of, BelongsTo, StateView, Holding}
use Rattle.lock_journal.specs.Names.{empty_holding, stands_in, IsWorkerOf, Change, Lock, Unlock, Take, Give, Move, Unpark, Enter, Leave, WorkerId}
use Rattle.lock_journal.specs.Names.{Waiting, TaskOf, ActionOf, UnitOf, Allowed, Finishes, lawful_from, Lawful, Entry, entry, effect, replay_from}
use Rattle.lock_journal.specs.Names.{prefix_state}
use Rattle.resource_lock.specs.declared.changes.Change.TheVariants.{Park}
use Rattle.resource_lock.proofs.lemmas.Begins.{good_opening}
use Rattle.resource_lock.proofs.lemmas.Kept.{kept}
use Rattle.resource_lock.proofs.lemmas.Runs.{all_named_along, belongs_along, belongs_opening, kept_all, same_shape-make, same_shape-make_all, worker_along, worker_from}
use Rattle.history_text.specs.Fitting.{ChangeFits, ChangesFit, EffectFits, EntryFits, EntriesFit}
use Rattle.run_spans.specs.Covering.{holder, held_by, holder_after, Covered}
use Rattle.run_spans.specs.Spans.{step_key, spans_of}
use Rattle.run_spans.specs.Standing.{holder_in, if_so, runner, IsShort}
use Rattle.run_spans.specs.Steps.{Step, changes_in, steps_of, steps_from}
use Rattle.run_spans.specs.Subjects.{subject_of, begins, key_of}
use Rattle.run_spans.specs.declared.subjects.Subject.{Subject}
use Rattle.run_spans.specs.declared.subjects.Subject.TheVariants.{Lease, Blocked, Owned, Parked, Running}
use Rattle.run_spans.proofs.Changes.{says, leaves}
use Rattle.run_spans.proofs.Covering.{covered_holds, holds_covered}
use Rattle.run_spans.proofs.Keys.{one_key}

-- the subject of a change of a text has short numbers
pub short_of : (w : WorkerId) (c : Change) → w.0 < 2 ^ 32 → ChangeFits w c → IsShort (subject_of w c)
short_of w (Lock l) small fits = (omega arith, fits)
short_of w (Unlock l) small fits = (omega arith, fits)
short_of w Take small fits = (omega arith, small)
short_of w Give small fits = (omega arith, small)
short_of w (Park l) small fits = (small, fits)
short_of w (Unpark l) small fits = (small, fits)
short_of w Enter small fits = (omega arith, small)
short_of w Leave small fits = (omega arith, small)
short_of w (Move (TaskOf n) from to) small fits = (omega arith, fits.0)
short_of w (Move (ActionOf n) from to) small fits = (omega arith, fits.0)
short_of w (Move (UnitOf n) from to) small fits = (omega arith, fits.0)

by_key : (s : StateView) (w : WorkerId) (c : Change) (t : Subject) (e : Bool) → nat_eq (key_of t) (key_of (subject_of w c)) ≡ e
    → IsWorkerOf s w → NamesOnly s c → Good s → can s w c ≡ true → IsShort t → IsShort (subject_of w c)
    → cond e (cond (begins c) (Some w) None) (holder_in s t) ≡ holder_in (make s w c) t
by_key s w c t true is within named good h a b =
    let same : t ≡ subject_of w c = one_key t (subject_of w c) a b (eqb-true (key_of t) (key_of (subject_of w c)) is) in
    sym (ap (holder_in (make s w c)) same ∙ says s w c within named good h)
by_key s w c t false is within named good h a b =
    sym (leaves s w c t h (λ same. let yes : nat_eq (key_of t) (key_of (subject_of w c)) ≡ true = eq-eqb (key_of t) (key_of (subject_of w c)) (ap key_of same) in absurd (cc)))

changes_held : (cs : List Change) (s : StateView) (n : ℕ) (w : WorkerId) (t : Subject) → IsWorkerOf s w → Good s → AllByRecursion (NamesOnly s) cs → can_all s w cs ≡ true
    → w.0 < 2 ^ 32 → ChangesFit w cs → IsShort t → holder (steps_of n w cs) (key_of t) (holder_in s t) ≡ holder_in (make_all s w cs) t
changes_held [] s n w t within good named h small fits a = refl
changes_held (c ∷ cs) s n w t within good named h small fits a =
    let parts = and_parts (can s w c) (can_all (make s w c) w cs) h in
    ap (holder (steps_of n w cs) (key_of t)) (by_key s w c t (nat_eq (key_of t) (key_of (subject_of w c))) refl within named.0 good parts.0 a (short_of w c small fits.0))
    ∙ changes_held cs (make s w c) n w t (worker_along s (make s w c) w (same_shape-make s w c) within) (kept s w c within named.0 good parts.0)
    (all_named_along s (make s w c) cs (same_shape-make s w c) named.1) parts.1 small fits.1 a

holder-append : (xs ys : List Step) (q : ℕ) (was : Option WorkerId) → holder (xs ++ ys) q was ≡ holder ys q (holder xs q was)
holder-append [] ys q was = refl
holder-append (x ∷ xs) ys q was = holder-append xs ys q (cond (nat_eq q (step_key x)) (held_by x) was)

-- one entry
record After (g : GraphView) (s : StateView) (n : ℕ) (e : Entry) (t : Subject) : Type 0 where
  held : holder (steps_of n e.worker (changes_in e.changes)) (key_of t) (holder_in s t) ≡ holder_in (effect s e) t
  good : Good (effect s e)
  belongs : BelongsTo g (effect s e)

entry_held : (g : GraphView) (s : StateView) (n : ℕ) (e : Entry) (t : Subject) → BelongsTo g s → Good s → EntryFits e → Allowed g s e → IsShort t → After g s n e t
entry_held g s n e t belongs good fits allowed a = by e.changes allowed.finished fits.effect
  where
    by : (changes : Option (List Change)) → IfSome changes (Finishes g s e.worker e.kind) → EffectFits e.worker changes → After g s n (entry e.worker e.kind changes) t
    by None finished fit = record { held = refl; good = good; belongs = belongs }
    by (Some cs) finished fit =
        let within : IsWorkerOf s e.worker = worker_from g s e.worker belongs allowed.worker in
        record {
          held = changes_held cs s n e.worker t within good finished.named finished.possible fits.worker fit a;
          good = kept_all s e.worker cs within finished.named good finished.possible;
          belongs = belongs_along g s (make_all s e.worker cs) (same_shape-make_all s e.worker cs) belongs;
        }

pub entries_held : (g : GraphView) (es : List Entry) (s : StateView) (n : ℕ) (t : Subject) → BelongsTo g s → Good s → EntriesFit es → lawful_from g s es → IsShort t
    → holder (steps_from n es) (key_of t) (holder_in s t) ≡ holder_in (replay_from s es) t
entries_held g [] s n t belongs good fits lawful a = refl
entries_held g (e ∷ es) s n t belongs good fits lawful a =
    let one = entry_held g s n e t belongs good fits.0 lawful.0 a in
    holder-append (steps_of n e.worker (changes_in e.changes)) (steps_from (n + 1) es) (key_of t) (holder_in s t)
    ∙ (ap (holder (steps_from (n + 1) es) (key_of t)) one.held
    ∙ entries_held g es (effect s e) (n + 1) t one.belongs one.good fits.1 lawful.1 a)

all_same : {X : Type 0} (x : X) (n i : ℕ) → get_or (replicate n x) i x ≡ x
all_same x zero zero = refl
all_same x zero (suc i) = refl
all_same x (suc n) zero = refl
all_same x (suc n) (suc i) = all_same x n i

-- nothing holds at the begin
nothing_yet : (g : GraphView) (t : Subject) → holder_in (opening_of g) t ≡ None
nothing_yet g (Lease w) = ap (λ (x : Holding). if_so x.lease w) (all_same empty_holding g.workers w.0)
nothing_yet g (Blocked w) = ap (λ (x : Holding). if_so x.blocked w) (all_same empty_holding g.workers w.0)
nothing_yet g (Owned l) = all_same None g.locks l.0
nothing_yet g (Parked w l) = ap (λ (x : Holding). if_so (stands_in l x.parked) w) (all_same empty_holding g.workers w.0)
nothing_yet g (Running (TaskOf n)) = ap runner (all_same Waiting (length g.tasks) n)
nothing_yet g (Running (ActionOf n)) = ap runner (all_same Waiting (length g.actions) n)
nothing_yet g (Running (UnitOf n)) = ap runner (all_same Waiting g.units n)

front_fits : (k : ℕ) (es : List Entry) → EntriesFit es → EntriesFit (take k es)
front_fits zero es fits = tt
front_fits (suc k) [] fits = tt
front_fits (suc k) (e ∷ es) fits = (fits.0, front_fits k es fits.1)

front_lawful : (g : GraphView) (k : ℕ) (s : StateView) (es : List Entry) → lawful_from g s es → lawful_from g s (take k es)
front_lawful g zero s es lawful = tt
front_lawful g (suc k) s [] lawful = tt
front_lawful g (suc k) s (e ∷ es) lawful = (lawful.0, front_lawful g k (effect s e) es lawful.1)

pub held_in_state : (g : GraphView) (h : List Entry) (k : ℕ) (t : Subject) → EntriesFit h → Lawful g h → IsShort t → holder_after h k (key_of t) ≡ holder_in (prefix_state g h k) t
held_in_state g h k t fits lawful a =
    ap (holder (steps_from 1 (take k h)) (key_of t)) (sym (nothing_yet g t))
    ∙ entries_held g (take k h) (opening_of g) 1 t (belongs_opening g) (good_opening g) (front_fits k h fits) (front_lawful g k (opening_of g) h lawful) a

pub covered_in_state : (g : GraphView) (h : List Entry) (k : ℕ) (t : Subject) (w : WorkerId) → EntriesFit h → Lawful g h → IsShort t → k ≤ length h
    → Covered (key_of t) w k (spans_of h) → holder_in (prefix_state g h k) t ≡ Some w
covered_in_state g h k t w fits lawful a within c = sym (held_in_state g h k t fits lawful a) ∙ covered_holds h k (key_of t) w within c

pub state_is_covered : (g : GraphView) (h : List Entry) (k : ℕ) (t : Subject) (w : WorkerId) → EntriesFit h → Lawful g h → IsShort t → k ≤ length h
    → holder_in (prefix_state g h k) t ≡ Some w → Covered (key_of t) w k (spans_of h)
state_is_covered g h k t w fits lawful a within is = holds_covered h k (key_of t) w within (held_in_state g h k t fits lawful a ∙ is)
