-- A state that lets a worker do no more than another state.
use Rattle.std.proofs.Common.{◌≡◌, ◌≢◌, ◌≤◌, ◌<◌, ℕ, List, [], ◌∷◌, length, Bool, true, false, not, ◌&&◌, ◌||◌, eqb, inl, inr, get_or, set, None, Some, Option, refl, sym, ◌∙◌, ap, subst, arith}
use Rattle.std.specs.Option.{is_none}
use Rattle.std.proofs.lemmas.Bool.{and_parts, and_from, both_ways, cases_eq, cases_lt, eqb-true, false_from_ne_true, ltb-true, lt-ltb, false≢true, not-true, not_from_false}
use Rattle.std.proofs.lemmas.List.{get_or-set_same, get_or-set_other, length-set, set_past}
use Rattle.resource_lock.proofs.lemmas.Lists.{get_or-set_cases, one_if}
use Rattle.resource_lock.proofs.lemmas.Conflicts.{kept_exactly}
use Rattle.resource_lock.proofs.lemmas.Kept.{leases-with_holding}
use Rattle.resource_lock.proofs.lemmas.Others.{others_keep}
use Rattle.resource_lock.proofs.lemmas.Runs.{same_shape-make, same_shape-sym, same_shape-trans, worker_along}
use Rattle.resource_lock.proofs.lemmas.Undo.{holding_now}
use Rattle.resource_lock.specs.StateView.{StateView, Holding, holding_of, is_other, is_owner, kept_from, names_lock, owner_of, owns, leases_out, mark_of, has_parked, stands_in, runs_by, IsWorkerOf}
use Rattle.resource_lock.specs.Change.{same_mark, names_only, stands_last, can, make, can_all, holding_after, with_holding}
use Rattle.resource_lock.specs.Shape.{SameShape}
use Rattle.resource_lock.specs.declared.ids.LockId.{LockId}
use Rattle.resource_lock.specs.declared.ids.WorkerId.{WorkerId}
use Rattle.resource_lock.specs.declared.marks.Mark.{Mark}
use Rattle.resource_lock.specs.declared.marks.Mark.TheVariants.{Waiting, Queued, Running, Passed, Failed, Skipped}
use Rattle.resource_lock.specs.declared.marks.MarkId.{MarkId}
use Rattle.resource_lock.specs.declared.marks.MarkId.TheVariants.{Task as TaskOf, Action as ActionOf, Unit as UnitOf}
use Rattle.resource_lock.specs.declared.changes.Change.{Change}
use Rattle.resource_lock.specs.declared.changes.Change.TheVariants.{Lock, Unlock, Take, Give, Move, Park, Unpark, Enter, Leave}
use Rattle.lock_transforms.specs.GoingOn.{lets_go_on}

-- what is true of the second is true of the first
abbrev pub Still : Bool → Bool → Type 0
Still a b = b ≡ true → a ≡ true

-- In t the worker has, owns and runs the same as in s, no lock and no lease is free that isn't free in s, and no mark is one that it isn't in s, but that another worker runs it.
pub record NoMore (w : WorkerId) (s t : StateView) : Type 0 where
  pub shape : SameShape s t
  pub holding : holding_of t w ≡ holding_of s w
  pub owns : (l : LockId) → owns t w l ≡ owns s w l
  pub runs : (m : MarkId) → runs_by w (mark_of t m) ≡ runs_by w (mark_of s m)
  pub free : (l : LockId) → Still (is_none (owner_of s l)) (is_none (owner_of t l))
  pub leases : leases_out s ≤ leases_out t
  pub marks : (m : MarkId) (k : Mark) → names_only k w ≡ true → Still (same_mark (mark_of s m) k) (same_mark (mark_of t m) k)

-- a change of another worker that lets nobody go on

free_after : (s : StateView) (v : WorkerId) (c : Change) → lets_go_on c ≡ false → (l : LockId) → Still (is_none (owner_of s l)) (is_none (owner_of (make s v c) l))
free_after s v (Lock k) quiet l none = elim (get_or-set_cases s.owners k.0 l.0 (Some v) None) [
  | inl at ↦ absurd (false≢true (sym (ap is_none at.1) ∙ none))
  | inr off ↦ sym (ap is_none off) ∙ none
]
free_after s v (Unlock k) quiet l none = absurd (false≢true (sym quiet))
free_after s v Give quiet l none = absurd (false≢true (sym quiet))
free_after s v (Move (TaskOf t) from to) quiet l none = none
free_after s v (Move (ActionOf a) from to) quiet l none = none
free_after s v (Move (UnitOf u) from to) quiet l none = none
free_after s v Take quiet l none = none
free_after s v (Park k) quiet l none = none
free_after s v (Unpark k) quiet l none = none
free_after s v Enter quiet l none = none
free_after s v Leave quiet l none = none

one_at_most : (b : Bool) → one_if b ≤ 1
one_at_most true = omega arith
one_at_most false = omega arith

leases_after : (s : StateView) (v : WorkerId) (c : Change) → IsWorkerOf s v → lets_go_on c ≡ false → leases_out s ≤ leases_out (make s v c)
leases_after s v (Lock k) within quiet = omega arith
leases_after s v (Unlock k) within quiet = omega arith
leases_after s v Give within quiet = absurd (false≢true (sym quiet))
leases_after s v (Move (TaskOf t) from to) within quiet = omega arith
leases_after s v (Move (ActionOf a) from to) within quiet = omega arith
leases_after s v (Move (UnitOf u) from to) within quiet = omega arith
leases_after s v Take within quiet = omega (arith, leases-with_holding s v (holding_after (holding_of s v) Take) within, one_at_most (holding_of s v).lease)
leases_after s v (Park k) within quiet = omega (arith, leases-with_holding s v (holding_after (holding_of s v) (Park k)) within)
leases_after s v (Unpark k) within quiet = omega (arith, leases-with_holding s v (holding_after (holding_of s v) (Unpark k)) within)
leases_after s v Enter within quiet = omega (arith, leases-with_holding s v (holding_after (holding_of s v) Enter) within)
leases_after s v Leave within quiet = omega (arith, leases-with_holding s v (holding_after (holding_of s v) Leave) within)

-- what another worker runs is no mark of this one's
not_by_another : (v w : WorkerId) (k to : Mark) → v.0 ≢ w.0 → names_only to v ≡ true → lets_go_on (Move (TaskOf 0) Waiting to) ≡ false → names_only k w ≡ true → same_mark to k ≡ true → ⊥
not_by_another v w (Running y) (Running x) other own quiet named same = other (sym (eqb-true x.0 v.0 own) ∙ (eqb-true x.0 y.0 same ∙ eqb-true y.0 w.0 named))
not_by_another v w Waiting (Running x) other own quiet named same = false≢true same
not_by_another v w Queued (Running x) other own quiet named same = false≢true same
not_by_another v w Passed (Running x) other own quiet named same = false≢true same
not_by_another v w Failed (Running x) other own quiet named same = false≢true same
not_by_another v w Skipped (Running x) other own quiet named same = false≢true same
not_by_another v w k Waiting other own quiet named same = false≢true (sym quiet)
not_by_another v w k Queued other own quiet named same = false≢true (sym quiet)
not_by_another v w k Passed other own quiet named same = false≢true (sym quiet)
not_by_another v w k Failed other own quiet named same = false≢true (sym quiet)
not_by_another v w k Skipped other own quiet named same = false≢true (sym quiet)

place_after : (ms : List Mark) (i j : ℕ) (v w : WorkerId) (k to : Mark) → v.0 ≢ w.0 → names_only to v ≡ true → lets_go_on (Move (TaskOf 0) Waiting to) ≡ false → names_only k w ≡ true
    → Still (same_mark (get_or ms j Waiting) k) (same_mark (get_or (set ms i to) j Waiting) k)
place_after ms i j v w k to other own quiet named same = elim (get_or-set_cases ms i j to Waiting) [
  | inl at ↦ absurd (not_by_another v w k to other own quiet named (sym (ap (λ m. same_mark m k) at.1) ∙ same))
  | inr off ↦ sym (ap (λ m. same_mark m k) off) ∙ same
]

marks_after : (s : StateView) (v w : WorkerId) (c : Change) → v.0 ≢ w.0 → can s v c ≡ true → lets_go_on c ≡ false → (m : MarkId) (k : Mark) → names_only k w ≡ true → Still (same_mark (mark_of s m) k) (same_mark (mark_of (make s v c) m) k)
marks_after s v w (Move (TaskOf t) from to) other h quiet (TaskOf u) k named = place_after s.tasks t u v w k to other (and_parts _ (names_only to v) h).1 quiet named
marks_after s v w (Move (TaskOf t) from to) other h quiet (ActionOf u) k named = λ same. same
marks_after s v w (Move (TaskOf t) from to) other h quiet (UnitOf u) k named = λ same. same
marks_after s v w (Move (ActionOf a) from to) other h quiet (TaskOf u) k named = λ same. same
marks_after s v w (Move (ActionOf a) from to) other h quiet (ActionOf u) k named = place_after s.actions a u v w k to other (and_parts _ (names_only to v) h).1 quiet named
marks_after s v w (Move (ActionOf a) from to) other h quiet (UnitOf u) k named = λ same. same
marks_after s v w (Move (UnitOf a) from to) other h quiet (TaskOf u) k named = λ same. same
marks_after s v w (Move (UnitOf a) from to) other h quiet (ActionOf u) k named = λ same. same
marks_after s v w (Move (UnitOf a) from to) other h quiet (UnitOf u) k named = place_after s.units a u v w k to other (and_parts _ (names_only to v) h).1 quiet named
marks_after s v w (Lock l) other h quiet m k named = λ same. same
marks_after s v w (Unlock l) other h quiet m k named = λ same. same
marks_after s v w Take other h quiet m k named = λ same. same
marks_after s v w Give other h quiet m k named = λ same. same
marks_after s v w (Park l) other h quiet m k named = λ same. same
marks_after s v w (Unpark l) other h quiet m k named = λ same. same
marks_after s v w Enter other h quiet m k named = λ same. same
marks_after s v w Leave other h quiet m k named = λ same. same

pub no_more_after : (s : StateView) (v w : WorkerId) (c : Change) → IsWorkerOf s v → v.0 ≢ w.0 → can s v c ≡ true → lets_go_on c ≡ false → NoMore w s (make s v c)
no_more_after s v w c within other h quiet =
    let keeps = others_keep s v w c (λ e. other (sym e)) h in
    record {
      shape = same_shape-make s v c;
      holding = keeps.holding;
      owns = keeps.owns;
      runs = keeps.runs;
      free = free_after s v c quiet;
      leases = leases_after s v c within quiet;
      marks = marks_after s v w c other h quiet;
    }

-- who is kept from a lock stays so

owned_by_other : (o p : Option WorkerId) (w : WorkerId) → Still (is_none o) (is_none p) → is_owner p w ≡ is_owner o w → is_other o w ≡ true → is_other p w ≡ true
owned_by_other None p w free own other = absurd (false≢true other)
owned_by_other (Some u) None w free own other = absurd (false≢true (free refl))
owned_by_other (Some u) (Some v) w free own other = ap not own ∙ other

pub kept_still : {w : WorkerId} {s t : StateView} → NoMore w s t → (l : LockId) → Still (not (kept_from s w l)) (not (kept_from t w l))
kept_still {w} {s} {t} n l open' = not_from_false (kept_from s w l) (false_from_ne_true (kept_from s w l) (λ kept.
    let at = (kept_exactly s w l).0 kept in
    both_ways (kept_from t w l) (not-true (kept_from t w l) open') ((kept_exactly t w l).1 (record {
      lock = at.lock;
      conflicts = ap (λ all. eqb at.lock.0 l.0 || names_lock all at.lock || names_lock all l) (sym n.shape.all) ∙ at.conflicts;
      owner = owned_by_other (owner_of s at.lock) (owner_of t at.lock) w (n.free at.lock) (n.owns at.lock) at.owner;
    }))))

-- a change of the worker's own: where it can be made, and what it leaves

pub can_still : {w : WorkerId} {s t : StateView} → NoMore w s t → (c : Change) → Still (can s w c) (can t w c)
can_still {w} {s} {t} n (Lock l) h =
    let p = and_parts (is_none (owner_of t l) && not (kept_from t w l)) (not (has_parked t w l)) h in
    let q = and_parts (is_none (owner_of t l)) (not (kept_from t w l)) p.0 in
    and_from (is_none (owner_of s l) && not (kept_from s w l)) (not (has_parked s w l))
    (and_from (is_none (owner_of s l)) (not (kept_from s w l)) (n.free l q.0) (kept_still n l q.1))
    (sym (ap (λ (x : Holding). not (stands_in l x.parked)) n.holding) ∙ p.1)
can_still {w} {s} {t} n (Unlock l) h = sym (n.owns l) ∙ h
can_still {w} {s} {t} n Take h =
    let p = and_parts (not (holding_of t w).lease && not (holding_of t w).blocked) _ h in
    let less : leases_out t < t.max_leases = ltb-true (leases_out t) t.max_leases p.1 in
    and_from (not (holding_of s w).lease && not (holding_of s w).blocked) _ (sym (ap (λ (x : Holding). not x.lease && not x.blocked) n.holding) ∙ p.0) (lt-ltb (leases_out s) s.max_leases (omega (arith, n.leases, n.shape.max_leases)))
can_still {w} {s} {t} n Give h = sym (ap (λ (x : Holding). x.lease) n.holding) ∙ h
can_still {w} {s} {t} n (Move m from to) h =
    let p = and_parts _ (names_only to w) h in
    let q = and_parts _ (names_only from w) p.0 in
    let r = and_parts (same_mark (mark_of t m) from) _ q.0 in
    and_from _ (names_only to w) (and_from _ (names_only from w) (and_from (same_mark (mark_of s m) from) _ (n.marks m from q.1 r.0) r.1) q.1) p.1
can_still {w} {s} {t} n (Park l) h =
    let p = and_parts (not (owns t w l)) (not (has_parked t w l)) h in
    and_from (not (owns s w l)) (not (has_parked s w l)) (sym (ap not (n.owns l)) ∙ p.0) (sym (ap (λ (x : Holding). not (stands_in l x.parked)) n.holding) ∙ p.1)
can_still {w} {s} {t} n (Unpark l) h = sym (ap (λ (x : Holding). stands_last l x.parked) n.holding) ∙ h
can_still {w} {s} {t} n Enter h = sym (ap (λ (x : Holding). not x.blocked && not x.lease) n.holding) ∙ h
can_still {w} {s} {t} n Leave h = sym (ap (λ (x : Holding). x.blocked) n.holding) ∙ h

-- the same write to two lists keeps what holds between their members
both_set : {X : Type 0} (P : X → X → Type 0) (xs ys : List X) (i j : ℕ) (a d : X) → length xs ≡ length ys → P a a → P (get_or xs j d) (get_or ys j d) → P (get_or (set xs i a) j d) (get_or (set ys i a) j d)
both_set P xs ys i j a d long new old = elim (cases_eq j i) [
  | inl same ↦ elim (cases_lt i (length xs)) [
    | inl within ↦ subst (λ x. P x (get_or (set ys i a) j d)) (sym (ap (λ k. get_or (set xs i a) k d) same ∙ get_or-set_same xs i a d within))
        (subst (P a) (sym (ap (λ k. get_or (set ys i a) k d) same ∙ get_or-set_same ys i a d (omega (arith, within, long)))) new)
    | inr past ↦ subst (λ x. P x (get_or (set ys i a) j d)) (sym (ap (λ l. get_or l j d) (set_past xs i a past)))
        (subst (P (get_or xs j d)) (sym (ap (λ l. get_or l j d) (set_past ys i a (omega (arith, past, long))))) old)
  ]
  | inr other ↦ subst (λ x. P x (get_or (set ys i a) j d)) (sym (get_or-set_other xs i j a d other)) (subst (P (get_or xs j d)) (sym (get_or-set_other ys i j a d other)) old)
]

shape_after : {w : WorkerId} {s t : StateView} → NoMore w s t → (c : Change) → SameShape (make s w c) (make t w c)
shape_after {w} {s} {t} n c = same_shape-trans (make s w c) s (make t w c) (same_shape-sym s (make s w c) (same_shape-make s w c)) (same_shape-trans s t (make t w c) n.shape (same_shape-make t w c))

with_owner_still : {w : WorkerId} {s t : StateView} → NoMore w s t → (c : Change) (l : LockId) (o : Option WorkerId) → ((r : StateView) → make r w c ≡ record r { owners = set r.owners l.0 o }) → NoMore w (record s { owners = set s.owners l.0 o }) (record t { owners = set t.owners l.0 o })
with_owner_still {w} {s} {t} n c l o is = record {
  shape = subst (λ (p : StateView × StateView). SameShape p.0 p.1) (λ i. (is s i, is t i)) (shape_after n c);
  holding = n.holding;
  owns = λ k. both_set (λ a b. is_owner b w ≡ is_owner a w) s.owners t.owners l.0 k.0 o None n.shape.locks refl (n.owns k);
  runs = elim [ TaskOf i ↦ n.runs (TaskOf i) | ActionOf i ↦ n.runs (ActionOf i) | UnitOf i ↦ n.runs (UnitOf i) ];
  free = λ k. both_set (λ a b. Still (is_none a) (is_none b)) s.owners t.owners l.0 k.0 o None n.shape.locks (λ e. e) (n.free k);
  leases = n.leases;
  marks = elim [ TaskOf i ↦ n.marks (TaskOf i) | ActionOf i ↦ n.marks (ActionOf i) | UnitOf i ↦ n.marks (UnitOf i) ];
}

with_holding_still : {w : WorkerId} {s t : StateView} → NoMore w s t → IsWorkerOf s w → (f : Holding → Holding) → NoMore w (with_holding s w (f (holding_of s w))) (with_holding t w (f (holding_of t w)))
with_holding_still {w} {s} {t} n within f =
    let within_t : IsWorkerOf t w = worker_along s t w n.shape within in
    let now : holding_of (with_holding s w (f (holding_of s w))) w ≡ f (holding_of s w) = holding_now s w (f (holding_of s w)) within in
    let then : holding_of (with_holding t w (f (holding_of t w))) w ≡ f (holding_of t w) = holding_now t w (f (holding_of t w)) within_t in
    record {
      shape = record { max_leases = n.shape.max_leases; all = n.shape.all; locks = n.shape.locks; workers = length-set s.holdings w.0 (f (holding_of s w)) ∙ (n.shape.workers ∙ sym (length-set t.holdings w.0 (f (holding_of t w)))); tasks = n.shape.tasks; actions = n.shape.actions; units = n.shape.units };
      holding = then ∙ (ap f n.holding ∙ sym now);
      owns = n.owns;
      runs = elim [ TaskOf i ↦ n.runs (TaskOf i) | ActionOf i ↦ n.runs (ActionOf i) | UnitOf i ↦ n.runs (UnitOf i) ];
      free = n.free;
      leases = omega (arith, n.leases, leases-with_holding s w (f (holding_of s w)) within, leases-with_holding t w (f (holding_of t w)) within_t, ap (λ (x : Holding). one_if x.lease) n.holding, ap (λ (x : Holding). one_if (f x).lease) n.holding);
      marks = elim [ TaskOf i ↦ n.marks (TaskOf i) | ActionOf i ↦ n.marks (ActionOf i) | UnitOf i ↦ n.marks (UnitOf i) ];
    }

mark_still : {w : WorkerId} {s t : StateView} → NoMore w s t → (xs ys : List Mark) (i j : ℕ) (to : Mark) → length xs ≡ length ys
    → ((k : Mark) → names_only k w ≡ true → Still (same_mark (get_or xs j Waiting) k) (same_mark (get_or ys j Waiting) k))
    → (k : Mark) → names_only k w ≡ true → Still (same_mark (get_or (set xs i to) j Waiting) k) (same_mark (get_or (set ys i to) j Waiting) k)
mark_still n xs ys i j to long old k named = both_set (λ a b. Still (same_mark a k) (same_mark b k)) xs ys i j to Waiting long (λ e. e) (old k named)

runs_still : (w : WorkerId) (xs ys : List Mark) (i j : ℕ) (to : Mark) → length xs ≡ length ys → runs_by w (get_or ys j Waiting) ≡ runs_by w (get_or xs j Waiting) → runs_by w (get_or (set ys i to) j Waiting) ≡ runs_by w (get_or (set xs i to) j Waiting)
runs_still w xs ys i j to long old = both_set (λ a b. runs_by w b ≡ runs_by w a) xs ys i j to Waiting long refl old

with_mark_still : {w : WorkerId} {s t : StateView} → NoMore w s t → (m : MarkId) (from to : Mark) → NoMore w (make s w (Move m from to)) (make t w (Move m from to))
with_mark_still {w} {s} {t} n (TaskOf x) from to = record {
  shape = shape_after n (Move (TaskOf x) from to);
  holding = n.holding;
  owns = n.owns;
  runs = elim [ TaskOf i ↦ runs_still w s.tasks t.tasks x i to n.shape.tasks (n.runs (TaskOf i)) | ActionOf i ↦ n.runs (ActionOf i) | UnitOf i ↦ n.runs (UnitOf i) ];
  free = n.free;
  leases = n.leases;
  marks = elim [ TaskOf i ↦ mark_still n s.tasks t.tasks x i to n.shape.tasks (n.marks (TaskOf i)) | ActionOf i ↦ n.marks (ActionOf i) | UnitOf i ↦ n.marks (UnitOf i) ];
}
with_mark_still {w} {s} {t} n (ActionOf x) from to = record {
  shape = shape_after n (Move (ActionOf x) from to);
  holding = n.holding;
  owns = n.owns;
  runs = elim [ TaskOf i ↦ n.runs (TaskOf i) | ActionOf i ↦ runs_still w s.actions t.actions x i to n.shape.actions (n.runs (ActionOf i)) | UnitOf i ↦ n.runs (UnitOf i) ];
  free = n.free;
  leases = n.leases;
  marks = elim [ TaskOf i ↦ n.marks (TaskOf i) | ActionOf i ↦ mark_still n s.actions t.actions x i to n.shape.actions (n.marks (ActionOf i)) | UnitOf i ↦ n.marks (UnitOf i) ];
}
with_mark_still {w} {s} {t} n (UnitOf x) from to = record {
  shape = shape_after n (Move (UnitOf x) from to);
  holding = n.holding;
  owns = n.owns;
  runs = elim [ TaskOf i ↦ n.runs (TaskOf i) | ActionOf i ↦ n.runs (ActionOf i) | UnitOf i ↦ runs_still w s.units t.units x i to n.shape.units (n.runs (UnitOf i)) ];
  free = n.free;
  leases = n.leases;
  marks = elim [ TaskOf i ↦ n.marks (TaskOf i) | ActionOf i ↦ n.marks (ActionOf i) | UnitOf i ↦ mark_still n s.units t.units x i to n.shape.units (n.marks (UnitOf i)) ];
}

pub made_still : {w : WorkerId} {s t : StateView} → NoMore w s t → IsWorkerOf s w → (c : Change) → NoMore w (make s w c) (make t w c)
made_still {w} n within (Lock l) = with_owner_still n (Lock l) l (Some w) (λ r. refl)
made_still n within (Unlock l) = with_owner_still n (Unlock l) l None (λ r. refl)
made_still n within (Move m from to) = with_mark_still n m from to
made_still n within Take = with_holding_still n within (λ h. holding_after h Take)
made_still n within Give = with_holding_still n within (λ h. holding_after h Give)
made_still n within (Park l) = with_holding_still n within (λ h. holding_after h (Park l))
made_still n within (Unpark l) = with_holding_still n within (λ h. holding_after h (Unpark l))
made_still n within Enter = with_holding_still n within (λ h. holding_after h Enter)
made_still n within Leave = with_holding_still n within (λ h. holding_after h Leave)

-- changes of its own that can be made in turn
pub all_still : {w : WorkerId} {s t : StateView} → NoMore w s t → IsWorkerOf s w → (cs : List Change) → Still (can_all s w cs) (can_all t w cs)
all_still n within [] h = refl
all_still {w} {s} {t} n within (c ∷ cs) h =
    let p = and_parts (can t w c) (can_all (make t w c) w cs) h in
    and_from (can s w c) (can_all (make s w c) w cs) (can_still n c p.0)
    (all_still {s = make s w c} {t = make t w c} (made_still n within c) (worker_along s (make s w c) w (same_shape-make s w c) within) cs p.1)
