-- What a worker has, owns and runs is changed by its own entries alone.
use Rattle.std.proofs.Common.{◌≡◌, ◌≢◌, ℕ, ◌+◌, suc, length, true, Bool, cond, List, [], ◌∷◌, get_or, Option, Some, None, refl, sym, ap, ap₂, ◌∙◌, arith}
use Rattle.std.specs.Prelude.{IfSome}
use Rattle.std.proofs.lemmas.Bool.{and_parts, eqb-true, eq-eqb}
use Rattle.lock_journal.specs.Names.{Change, LockId, WorkerId, Mark, Waiting, Running, MarkId, TaskOf, ActionOf, UnitOf, can, make, make_all, can_all}
use Rattle.lock_journal.specs.Names.{GraphView, SameShape, StateView, holding_of, is_owner, owns, mark_of, runs_by, runs_task, is_parked, runs_unit}
use Rattle.lock_journal.specs.Names.{owns_any, Kind, Finishes, lawful_from, Entry, changed, effect, replay_from, SameFor, NoneOf, marks_in}
use Rattle.lock_journal.specs.Names.{places_from}
use Rattle.resource_lock.proofs.lemmas.Others.{others_keep}
use Rattle.resource_lock.proofs.lemmas.Runs.{same_shape-make, same_shape-make_all, same_shape-trans}
use Rattle.resource_lock.proofs.lemmas.Undo.{same_worker}
use Rattle.lock_transforms.proofs.lemmas.Disabled.{any_same, owned_same}

-- place by place, what is the worker's is the same
record SamePlaces (w : WorkerId) (s s' : StateView) : Type 0 where
  shape : SameShape s s'
  holding : holding_of s' w ≡ holding_of s w
  owns : (l : LockId) → owns s' w l ≡ owns s w l
  runs : (m : MarkId) → runs_by w (mark_of s' m) ≡ runs_by w (mark_of s m)

same_self : (w : WorkerId) (s : StateView) → SamePlaces w s s
same_self w s = record { shape = same_shape-make_all s w []; holding = refl; owns = λ l. refl; runs = λ m. refl }

same_then : (w : WorkerId) (a b c : StateView) → SamePlaces w a b → SamePlaces w b c → SamePlaces w a c
same_then w a b c p q = record {
  shape = same_shape-trans a b c p.shape q.shape;
  holding = q.holding ∙ p.holding;
  owns = λ l. q.owns l ∙ p.owns l;
  runs = λ m. q.runs m ∙ p.runs m;
}

-- a change, the changes and the entry of another worker
change_stays : (s : StateView) (v w : WorkerId) (c : Change) → v.0 ≢ w.0 → can s v c ≡ true → SamePlaces w s (make s v c)
change_stays s v w c other h =
    let keeps = others_keep s v w c (λ e. other (sym e)) h in
    record { shape = same_shape-make s v c; holding = keeps.holding; owns = keeps.owns; runs = keeps.runs }

changes_stay : (cs : List Change) (s : StateView) (v w : WorkerId) → v.0 ≢ w.0 → can_all s v cs ≡ true → SamePlaces w s (make_all s v cs)
changes_stay [] s v w other h = same_self w s
changes_stay (c ∷ cs) s v w other h =
    let p = and_parts (can s v c) (can_all (make s v c) v cs) h in
    same_then w s (make s v c) (make_all (make s v c) v cs) (change_stays s v w c other p.0) (changes_stay cs (make s v c) v w other p.1)

entry_stays : (g : GraphView) (s : StateView) (v w : WorkerId) (k : Kind) (o : Option (List Change)) → v.0 ≢ w.0 → IfSome o (Finishes g s v k) → SamePlaces w s (changed s v o)
entry_stays g s v w k None other f = same_self w s
entry_stays g s v w k (Some cs) other f = changes_stay cs s v w other f.possible

entries_stay : (g : GraphView) (h : List Entry) (s : StateView) (w : WorkerId) → lawful_from g s h → NoneOf w h → SamePlaces w s (replay_from s h)
entries_stay g [] s w lawful none = same_self w s
entries_stay g (e ∷ h) s w lawful none =
    same_then w s (effect s e) (replay_from (effect s e) h)
    (entry_stays g s e.worker w e.kind e.changes none.0 lawful.0.finished)
    (entries_stay g h (effect s e) w lawful.1 none.1)

-- so are the lists
places_same : {X : Type 0} (test : X → Bool) (n : ℕ) (d : X) (xs ys : List X) → length xs ≡ length ys → ((i : ℕ) → test (get_or ys i d) ≡ test (get_or xs i d)) → places_from test n ys ≡ places_from test n xs
places_same test n d [] [] long same = refl
places_same test n d [] (y ∷ ys) long same = absurd (omega arith)
places_same test n d (x ∷ xs) [] long same = absurd (omega arith)
places_same test n d (x ∷ xs) (y ∷ ys) long same =
    ap₂ (λ b (places : List ℕ). cond b (n ∷ places) places) (same 0) (places_same test (n + 1) d xs ys (omega arith) (λ i. same (suc i)))

pub running_of : (w : WorkerId) (m : Mark) → runs_by w m ≡ true → m ≡ Running w
running_of w (Running v) h = ap Running (same_worker v w (eqb-true v.0 w.0 h))
running_of w Waiting h = absurd (cc)
running_of w _ h = absurd (cc)

still_running : (w : WorkerId) (m m' : Mark) → runs_by w m' ≡ runs_by w m → m ≡ Running w → m' ≡ Running w
still_running w m m' same is = running_of w m' (same ∙ (ap (runs_by w) is ∙ eq-eqb w.0 w.0 refl))

same_for : (w : WorkerId) (s s' : StateView) → SamePlaces w s s' → SameFor w s s'
same_for w s s' p =
    let any : owns_any s' w ≡ owns_any s w = any_same (λ o. is_owner o w) None s.owners s'.owners p.shape.locks (λ i. p.owns (record { 0 = i })) in
    let task : runs_task s' w ≡ runs_task s w = any_same (runs_by w) Waiting s.tasks s'.tasks p.shape.tasks (λ i. p.runs (TaskOf i)) in
    let parked : is_parked s' w ≡ is_parked s w = any_same (runs_by w) Waiting s.actions s'.actions p.shape.actions (λ i. p.runs (ActionOf i)) in
    let unit : runs_unit s' w ≡ runs_unit s w = any_same (runs_by w) Waiting s.units s'.units p.shape.units (λ i. p.runs (UnitOf i)) in
    let tasks = places_same (runs_by w) 0 Waiting s.tasks s'.tasks p.shape.tasks (λ i. p.runs (TaskOf i)) in
    let actions = places_same (runs_by w) 0 Waiting s.actions s'.actions p.shape.actions (λ i. p.runs (ActionOf i)) in
    let units = places_same (runs_by w) 0 Waiting s.units s'.units p.shape.units (λ i. p.runs (UnitOf i)) in
    record {
      holding = p.holding;
      owns = p.owns;
      owned = owned_same 0 w s.owners s'.owners p.shape.locks (λ i. p.owns (record { 0 = i }));
      running = λ m. (still_running w (mark_of s m) (mark_of s' m) (p.runs m), still_running w (mark_of s' m) (mark_of s m) (sym (p.runs m)));
      claimed = λ i. marks_in (tasks i) (actions i) (units i);
      runs_task = task;
      is_parked = parked;
      runs_unit = unit;
      is_idle = rw (p.holding, any, task, parked, unit) refl;
    }

-- What a worker has, owns and runs is what its last entry left.
pub others_after : (g : GraphView) (h : List Entry) (s : StateView) (w : WorkerId) → lawful_from g s h → NoneOf w h → SameFor w s (replay_from s h)
others_after g h s w lawful none = same_for w s (replay_from s h) (entries_stay g h s w lawful none)
