-- An entry that can't finish stays so, while other workers let nobody go on.
use Rattle.std.proofs.Common.{◌≡◌, ◌≢◌, ◌+◌, ℕ, suc, List, [], ◌∷◌, ◌++◌, length, Bool, true, false, not, cond, ◌&&◌, ◌||◌, ◌⊎◌, inl, inr, get_or, None, Some, Option, map, reverse, refl, sym, ◌∙◌, ap, ap₂, subst, arith}
use Rattle.std.specs.List.{list_any, list_all, range_with_len}
use Rattle.std.proofs.lemmas.Bool.{and_parts, and_from, false_from_ne_true, false≢true, eq-eqb}
use Rattle.resource_lock.proofs.lemmas.Runs.{can_all-append}
use Rattle.resource_lock.proofs.lemmas.Undo.{same_mark_is}
use Rattle.resource_lock.specs.GraphView.{GraphView, action_of, task_of}
use Rattle.resource_lock.specs.Ranges.{actions_of, earlier_actions, items_of, task_with, units_of}
use Rattle.resource_lock.specs.StateView.{StateView, Holding, holding_of, is_owner, mark_of, runs_by, runs_task, runs_unit, is_parked, runs_any, owns_any, is_idle, IsWorkerOf}
use Rattle.resource_lock.specs.Change.{same_mark, names_only, can, can_all, make, make_all}
use Rattle.resource_lock.specs.declared.ids.LockId.{LockId}
use Rattle.resource_lock.specs.declared.ids.WorkerId.{WorkerId}
use Rattle.resource_lock.specs.declared.marks.Mark.{Mark}
use Rattle.resource_lock.specs.declared.marks.Mark.TheVariants.{Waiting, Queued, Running, Passed, Failed, Skipped}
use Rattle.resource_lock.specs.declared.marks.MarkId.{MarkId}
use Rattle.resource_lock.specs.declared.marks.MarkId.TheVariants.{Task as TaskOf, Action as ActionOf, Unit as UnitOf}
use Rattle.resource_lock.specs.declared.changes.Change.{Change}
use Rattle.resource_lock.specs.declared.changes.Change.TheVariants.{Unlock, Take, Give, Move, Enter, Leave}
use Rattle.lock_transforms.specs.declared.entries.Kind.{Kind}
use Rattle.lock_transforms.specs.declared.entries.Kind.TheVariants.{Start, Skip, Submit, Park, Resume, Claim, Close, Block, Unblock, End, Acquire, HandBack}
use Rattle.lock_transforms.specs.Table.{condition, list_of, is_enabled, has_passed, has_ended, has_fallen, works_on, owned, owned_from, units_passed, earlier_passed, fetch_closed, never_ran, skipped_waiting, skipped_action, mark_from, parked_locks, set_down, taken_again, taken_up}
use Rattle.lock_transforms.specs.GoingOn.{lets_go_on}
use Rattle.lock_transforms.proofs.NoMore.{NoMore, Still, all_still, no_more_after}

-- what is made of tests that are still true is still true

pub and_still : (a b a' b' : Bool) → Still a a' → Still b b' → Still (a && b) (a' && b')
and_still a b a' b' f g h = let p = and_parts a' b' h in and_from a b (f p.0) (g p.1)

pub or_still : (a b a' b' : Bool) → Still a a' → Still b b' → Still (a || b) (a' || b')
or_still true b a' b' f g h = refl
or_still false b true b' f g h = absurd (false≢true (f refl))
or_still false b false b' f g h = g h

pub all_of_still : {X : Type 0} (p q : X → Bool) → ((x : X) → Still (p x) (q x)) → (xs : List X) → Still (list_all p xs) (list_all q xs)
all_of_still p q f [] h = refl
all_of_still p q f (x ∷ xs) h = and_still (p x) (list_all p xs) (q x) (list_all q xs) (f x) (all_of_still p q f xs) h

any_of_still : {X : Type 0} (p q : X → Bool) → ((x : X) → Still (p x) (q x)) → (xs : List X) → Still (list_any p xs) (list_any q xs)
any_of_still p q f [] h = h
any_of_still p q f (x ∷ xs) h = or_still (p x) (list_any p xs) (q x) (list_any q xs) (f x) (any_of_still p q f xs) h

pub same_still : {a b : Bool} → b ≡ a → Still a b
same_still e h = sym e ∙ h

-- lists that a worker's own places are read from

pub any_same : {X : Type 0} (test : X → Bool) (d : X) (xs ys : List X) → length xs ≡ length ys → ((i : ℕ) → test (get_or ys i d) ≡ test (get_or xs i d)) → list_any test ys ≡ list_any test xs
any_same test d [] [] long same = refl
any_same test d [] (y ∷ ys) long same = absurd (omega arith)
any_same test d (x ∷ xs) [] long same = absurd (omega arith)
any_same test d (x ∷ xs) (y ∷ ys) long same = ap₂ ◌||◌ (same 0) (any_same test d xs ys (omega arith) (λ i. same (suc i)))

pub owned_same : (n : ℕ) (w : WorkerId) (os ps : List (Option WorkerId)) → length os ≡ length ps → ((i : ℕ) → is_owner (get_or ps i None) w ≡ is_owner (get_or os i None) w) → owned_from n ps w ≡ owned_from n os w
owned_same n w [] [] long same = refl
owned_same n w [] (p ∷ ps) long same = absurd (omega arith)
owned_same n w (o ∷ os) [] long same = absurd (omega arith)
owned_same n w (o ∷ os) (p ∷ ps) long same =
    ap₂ (λ b (locks : List LockId). cond b (record { 0 = n } ∷ locks) locks) (same 0) (owned_same (n + 1) w os ps (omega arith) (λ i. same (suc i)))

either_true : (a b : Bool) → (a || b) ≡ true → (a ≡ true) ⊎ (b ≡ true)
either_true true b h = inl refl
either_true false b h = inr h

-- the end of a task, by the mark that it gets

abbrev gives_back : GraphView → ℕ → Bool → List Change
gives_back g x lease = cond lease (Unlock (task_of g x).lock ∷ Give ∷ []) []

abbrev ends_with : GraphView → WorkerId → ℕ → Bool → Bool → List Change
ends_with g w x passed lease = Move (TaskOf x) (Running w) (cond passed Passed Failed) ∷ gives_back g x lease

any_end : (g : GraphView) (s : StateView) (w : WorkerId) (x : ℕ) (p q lease : Bool) → can_all s w (ends_with g w x p lease) ≡ can_all s w (ends_with g w x q lease)
any_end g s w x true true lease = refl
any_end g s w x false false lease = refl
any_end g s w x true false true = refl
any_end g s w x true false false = refl
any_end g s w x false true true = refl
any_end g s w x false true false = refl

any_end_behind : (g : GraphView) (s : StateView) (w : WorkerId) (x : ℕ) (p q lease : Bool) (cs : List Change) → can_all s w (cs ++ ends_with g w x p lease) ≡ can_all s w (cs ++ ends_with g w x q lease)
any_end_behind g s w x p q lease cs =
    can_all-append s w cs (ends_with g w x p lease) ∙ (ap (λ b. can_all s w cs && b) (any_end g (make_all s w cs) w x p q lease) ∙ sym (can_all-append s w cs (ends_with g w x q lease)))

module _ {w : WorkerId} {s t : StateView} (n : NoMore w s t) (g : GraphView) where
  -- what is the worker's own is the same
  lease_is : (holding_of t w).lease ≡ (holding_of s w).lease
  lease_is = ap (λ (h : Holding). h.lease) n.holding

  blocked_is : (holding_of t w).blocked ≡ (holding_of s w).blocked
  blocked_is = ap (λ (h : Holding). h.blocked) n.holding

  owns_any_is : owns_any t w ≡ owns_any s w
  owns_any_is = any_same (λ o. is_owner o w) None s.owners t.owners n.shape.locks (λ i. n.owns (record { 0 = i }))

  owned_is : owned t w ≡ owned s w
  owned_is = owned_same 0 w s.owners t.owners n.shape.locks (λ i. n.owns (record { 0 = i }))

  runs_task_is : runs_task t w ≡ runs_task s w
  runs_task_is = any_same (runs_by w) Waiting s.tasks t.tasks n.shape.tasks (λ i. n.runs (TaskOf i))

  parked_is : is_parked t w ≡ is_parked s w
  parked_is = any_same (runs_by w) Waiting s.actions t.actions n.shape.actions (λ i. n.runs (ActionOf i))

  runs_unit_is : runs_unit t w ≡ runs_unit s w
  runs_unit_is = any_same (runs_by w) Waiting s.units t.units n.shape.units (λ i. n.runs (UnitOf i))

  runs_any_is : runs_any t w ≡ runs_any s w
  runs_any_is = rw (runs_task_is, parked_is, runs_unit_is) refl

  idle_is : is_idle t w ≡ is_idle s w
  idle_is = rw (n.holding, owns_any_is, runs_task_is, parked_is, runs_unit_is) refl

  -- marks
  mark_still : (m : MarkId) (k : Mark) → names_only k w ≡ true → Still (same_mark (mark_of s m) k) (same_mark (mark_of t m) k)
  mark_still = n.marks

  running_still : (m : MarkId) → Still (same_mark (mark_of s m) (Running w)) (same_mark (mark_of t m) (Running w))
  running_still m = n.marks m (Running w) (eq-eqb w.0 w.0 refl)

  passed_still : (m : MarkId) → Still (has_passed (mark_of s m)) (has_passed (mark_of t m))
  passed_still m = n.marks m Passed refl

  fallen_still : (m : MarkId) → Still (has_fallen (mark_of s m)) (has_fallen (mark_of t m))
  fallen_still m = or_still _ _ _ _ (n.marks m Failed refl) (n.marks m Skipped refl)

  ended_still : (m : MarkId) → Still (has_ended (mark_of s m)) (has_ended (mark_of t m))
  ended_still m = or_still _ _ _ _ (or_still _ _ _ _ (n.marks m Passed refl) (n.marks m Failed refl)) (n.marks m Skipped refl)

  works_still : (x : ℕ) → Still (works_on s w x) (works_on t w x)
  works_still x = and_still _ _ _ _ (and_still _ _ _ _ (running_still (TaskOf x)) (same_still lease_is)) (same_still (ap not parked_is))

  units_still : (a : ℕ) → Still (units_passed g s a) (units_passed g t a)
  units_still a = all_of_still _ _ (λ u. passed_still (UnitOf u)) (units_of g a)

  earlier_still : (a : ℕ) → Still (earlier_passed g s a) (earlier_passed g t a)
  earlier_still a = all_of_still _ _ (λ b. and_still _ _ _ _ (passed_still (ActionOf b)) (units_still b)) (earlier_actions g a)

  fetch_still : (a : ℕ) → Still (fetch_closed g s a) (fetch_closed g t a)
  fetch_still a = or_still _ _ _ _ (or_still _ _ _ _ (λ h. h) (passed_still (UnitOf (action_of g a).first_unit))) (n.marks (UnitOf (action_of g a).first_unit) Failed refl)

  waiting_still : (m : MarkId) → Still (same_mark (mark_of s m) Waiting) (same_mark (mark_of t m) Waiting)
  waiting_still m = n.marks m Waiting refl

  never_still : (a : ℕ) → Still (never_ran g s a) (never_ran g t a)
  never_still a = and_still _ _ _ _ (and_still _ _ _ _ (waiting_still (ActionOf a)) (all_of_still _ _ (λ u. waiting_still (UnitOf u)) (units_of g a)))
      (any_of_still _ _ (λ b. any_of_still _ _ (λ u. n.marks (UnitOf u) Failed refl) (units_of g b)) (earlier_actions g a))

  through_still : (a : ℕ) → Still (has_passed (mark_of s (ActionOf a)) || never_ran g s a) (has_passed (mark_of t (ActionOf a)) || never_ran g t a)
  through_still a = or_still _ _ _ _ (passed_still (ActionOf a)) (never_still a)

  -- the conditions
  pub condition_still : (k : Kind) → Still (condition g s w k) (condition g t w k)
  condition_still (Start x) = and_still _ _ _ _ (and_still _ _ _ _ (waiting_still (TaskOf x)) (all_of_still _ _ (λ y. passed_still (TaskOf y)) (task_of g x).after)) (same_still idle_is)
  condition_still (Skip x) = and_still _ _ _ _ (and_still _ _ _ _ (waiting_still (TaskOf x)) (any_of_still _ _ (λ y. fallen_still (TaskOf y)) (task_of g x).after)) (same_still idle_is)
  condition_still (Submit a) = and_still _ _ _ _ (and_still _ _ _ _ (and_still _ _ _ _ (works_still (task_with g a)) (waiting_still (ActionOf a))) (earlier_still a)) (fetch_still a)
  condition_still (Park a) = and_still _ _ _ _ (works_still (task_with g a)) (n.marks (ActionOf a) Queued refl)
  condition_still (Resume a) = and_still _ _ _ _ (and_still _ _ _ _ (and_still _ _ _ _ (running_still (ActionOf a)) (same_still (ap not lease_is))) (same_still (ap not runs_unit_is))) (all_of_still _ _ (λ u. ended_still (UnitOf u)) (items_of g a))
  condition_still (Claim u) =
      and_still _ _ _ _ (and_still _ _ _ _ (and_still _ _ _ _ (and_still _ _ _ _ (and_still _ _ _ _ (λ h. h) (n.marks (UnitOf u) Queued refl)) (same_still (ap not runs_unit_is))) (same_still (ap not blocked_is))) (same_still (ap not lease_is)))
      (same_still (ap₂ ◌||◌ parked_is idle_is))
  condition_still (Close c) = and_still _ _ _ _ (λ h. h) (running_still (UnitOf c.unit))
  condition_still (Block (Some u)) = any_of_still _ _ (λ a. and_still _ _ _ _ (and_still _ _ _ _ (and_still _ _ _ _ (and_still _ _ _ _ (λ h. h) (works_still (task_with g a))) (waiting_still (ActionOf a))) (waiting_still (UnitOf u))) (earlier_still a)) (range_with_len 0 (length g.actions))
  condition_still (Block None) = and_still _ _ _ _ (same_still lease_is) (same_still (ap not runs_unit_is))
  condition_still (Unblock (Some c)) = and_still _ _ _ _ (same_still blocked_is) (running_still (UnitOf c.unit))
  condition_still (Unblock None) = and_still _ _ _ _ (same_still blocked_is) (same_still (ap not runs_unit_is))
  condition_still (End x) =
      and_still _ _ _ _ (and_still _ _ _ _ (and_still _ _ _ _ (and_still _ _ _ _ (running_still (TaskOf x)) (same_still (ap not parked_is))) (same_still (ap not blocked_is))) (same_still (ap not runs_unit_is)))
      (all_of_still _ _ through_still (actions_of g x))
  condition_still Acquire = and_still _ _ _ _ (same_still (ap not blocked_is)) (same_still (ap not runs_any_is))
  condition_still HandBack = and_still _ _ _ _ (and_still _ _ _ _ (same_still (ap not blocked_is)) (same_still (ap not runs_any_is))) (same_still (ap₂ ◌||◌ owns_any_is lease_is))

  -- an action that is through in t waits in both states, or in neither
  waits_is : (a : ℕ) → (has_passed (mark_of t (ActionOf a)) || never_ran g t a) ≡ true → same_mark (mark_of t (ActionOf a)) Waiting ≡ same_mark (mark_of s (ActionOf a)) Waiting
  waits_is a h = elim (either_true (has_passed (mark_of t (ActionOf a))) (never_ran g t a) h) [
    | inl passed ↦ ap (λ m. same_mark m Waiting) (same_mark_is (mark_of t (ActionOf a)) Passed passed) ∙ sym (ap (λ m. same_mark m Waiting) (same_mark_is (mark_of s (ActionOf a)) Passed (passed_still (ActionOf a) passed)))
    | inr never ↦
        let first = and_parts (same_mark (mark_of t (ActionOf a)) Waiting && list_all (λ u. same_mark (mark_of t (UnitOf u)) Waiting) (units_of g a)) _ never in
        let waits = and_parts (same_mark (mark_of t (ActionOf a)) Waiting) _ first.0 in
        waits.0 ∙ sym (waiting_still (ActionOf a) waits.0)
  ]

  skipped_is : (xs : List ℕ) → list_all (λ a. has_passed (mark_of t (ActionOf a)) || never_ran g t a) xs ≡ true → skipped_waiting g t xs ≡ skipped_waiting g s xs
  skipped_is [] h = refl
  skipped_is (a ∷ rest) h =
      let p = and_parts (has_passed (mark_of t (ActionOf a)) || never_ran g t a) (list_all (λ b. has_passed (mark_of t (ActionOf b)) || never_ran g t b) rest) h in
      ap₂ (λ b (cs : List Change). cond b (skipped_action g a) [] ++ cs) (waits_is a p.0) (skipped_is rest p.1)

  -- the changes, where the condition holds
  pub list_still : IsWorkerOf s w → (k : Kind) → condition g t w k ≡ true → Still (can_all s w (list_of g s w k)) (can_all t w (list_of g t w k))
  list_still within (Start x) c h = all_still n within (list_of g t w (Start x)) h
  list_still within (Skip x) c h = all_still n within (list_of g t w (Skip x)) h
  list_still within (Submit a) c h = all_still n within (list_of g t w (Submit a)) h
  list_still within (Park a) c h = all_still n within (list_of g t w (Park a)) h
  list_still within (Resume a) c h = all_still n within (list_of g t w (Resume a)) h
  list_still within (Claim u) c h = all_still n within (list_of g t w (Claim u)) h
  list_still within (Close d) c h = all_still n within (list_of g t w (Close d)) h
  list_still within (Block (Some u)) c h = subst (λ (ls : List LockId). can_all s w (Move (UnitOf u) Waiting (Running w) ∷ Give ∷ parked_locks ls ++ Enter ∷ []) ≡ true) owned_is (all_still n within (list_of g t w (Block (Some u))) h)
  list_still within (Block None) c h = subst (λ (ls : List LockId). can_all s w (Give ∷ parked_locks ls ++ Enter ∷ []) ≡ true) owned_is (all_still n within (set_down t w) h)
  list_still within (Unblock (Some d)) c h = subst (λ (x : Holding). can_all s w ((Leave ∷ taken_again (reverse x.parked) ++ Take ∷ []) ++ Move (UnitOf d.unit) (Running w) (mark_from d.outcome) ∷ []) ≡ true) n.holding (all_still n within (list_of g t w (Unblock (Some d))) h)
  list_still within (Unblock None) c h = subst (λ (x : Holding). can_all s w (Leave ∷ taken_again (reverse x.parked) ++ Take ∷ []) ≡ true) n.holding (all_still n within (taken_up t w) h)
  list_still within (End x) c h =
      let through = (and_parts _ (list_all (λ a. has_passed (mark_of t (ActionOf a)) || never_ran g t a) (actions_of g x)) c).1 in
      sym (any_end_behind g s w x (list_all (units_passed g t) (actions_of g x)) (list_all (units_passed g s) (actions_of g x)) (holding_of s w).lease (skipped_waiting g s (actions_of g x)))
      ∙ subst (λ (p : List Change × Bool). can_all s w (p.0 ++ ends_with g w x (list_all (units_passed g t) (actions_of g x)) p.1) ≡ true) (λ i. (skipped_is (actions_of g x) through i, lease_is i)) (all_still n within (list_of g t w (End x)) h)
  list_still within Acquire c h = refl
  list_still within HandBack c h = subst (λ (p : List LockId × Bool). can_all s w (map Unlock p.0 ++ cond p.1 (Give ∷ []) []) ≡ true) (λ i. (owned_is i, lease_is i)) (all_still n within (list_of g t w HandBack) h)

  pub enabled_still : IsWorkerOf s w → (k : Kind) → Still (is_enabled g s w k) (is_enabled g t w k)
  enabled_still within k h =
      let p = and_parts (condition g t w k) (can_all t w (list_of g t w k)) h in
      and_from (condition g s w k) (can_all s w (list_of g s w k)) (condition_still k p.0) (list_still within k p.0 p.1)

-- what was false stays so
pub disabled_still : (g : GraphView) (s : StateView) (v w : WorkerId) (c : Change) → IsWorkerOf s v → IsWorkerOf s w → v.0 ≢ w.0 → can s v c ≡ true → lets_go_on c ≡ false
    → (k : Kind) → is_enabled g s w k ≡ false → is_enabled g (make s v c) w k ≡ false
disabled_still g s v w c from own other possible quiet k disabled = false_from_ne_true (is_enabled g (make s v c) w k) (λ h. false≢true (sym disabled ∙ enabled_still (no_more_after s v w c from other possible quiet) g own k h))
