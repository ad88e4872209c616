-- A worker with a lease can give it back, and park all that it owns.
use Rattle.std.proofs.Common.{◌≡◌, ℕ, ◌<◌, ◌+◌, length, drop, get_or, List, [], ◌∷◌, ◌++◌, Bool, true, false, not, ◌&&◌, cond, eqb, refl, sym, ◌∙◌, ap, subst, arith, Option, None, Some, inl, inr}
use Rattle.std.specs.List.{range_with_len}
use Rattle.std.proofs.lemmas.Bool.{and_parts, and_from, both_ways, cases_Bool, eq-eqb, false_from_ne_true, not_from_false}
use Rattle.std.proofs.lemmas.List.{drop-set-lt, get_or-set_same, length-drop}
use Rattle.std.proofs.lemmas.List.Elements.{All-from_get_or}
use Rattle.std.proofs.lemmas.List.Folds.{list_any_none}
use Rattle.resource_lock.proofs.lemmas.Kept.{kept}
use Rattle.resource_lock.proofs.lemmas.Runs.{can_all-append, named_along, same_shape-make, worker_along}
use Rattle.resource_lock.proofs.lemmas.Undo.{holding_now}
use Rattle.resource_lock.specs.Change.{same_mark, can, can_all, make, make_all, holding_after}
use Rattle.resource_lock.specs.Good.{Good}
use Rattle.resource_lock.specs.GraphView.{GraphView, action_of}
use Rattle.resource_lock.specs.Ranges.{task_with}
use Rattle.resource_lock.specs.StateView.{StateView, Holding, holding_of, is_owner, is_parked, mark_of, owns, has_parked, IsLockOf, IsWorkerOf}
use Rattle.resource_lock.specs.declared.ids.LockId.{LockId}
use Rattle.resource_lock.specs.declared.ids.WorkerId.{WorkerId}
use Rattle.resource_lock.specs.declared.marks.Mark.TheVariants.{Waiting, Running}
use Rattle.resource_lock.specs.declared.marks.MarkId.TheVariants.{Task as TaskOf, Action as ActionOf, Unit as UnitOf}
use Rattle.resource_lock.specs.declared.changes.Change.TheVariants.{Unlock, Give, Enter, Move, Park as ParkLock}
use Rattle.lock_transforms.specs.Allowed.{IsKindOf}
use Rattle.lock_transforms.specs.Table.{condition, is_enabled, earlier_passed, owned_from, owned, parked_locks, set_down, works_on}
use Rattle.lock_transforms.specs.TentativeView.{TentativeView, IsSoundTentative}
use Rattle.lock_transforms.specs.declared.entries.Kind.TheVariants.{Block}
use Rattle.lock_transforms.proofs.Freed.{lock_at, rest_of}

can_park : (k : ℕ) (os : List (Option WorkerId)) (s : StateView) (w : WorkerId) → IsWorkerOf s w → Good s → drop k s.owners ≡ os → can_all s w (parked_locks (owned_from k os w)) ≡ true
can_park k [] s w worker good is = refl
can_park k (o ∷ os) s w worker good is =
    let rest : (drop (k + 1) s.owners ≡ os) × (get_or s.owners k None ≡ o) = rest_of s.owners os o k is in
    let within : k < length s.owners = omega (arith, ap length is, length-drop k s.owners) in
    elim (cases_Bool (is_owner o w)) [
      | inl own ↦ subst (λ b. can_all s w (parked_locks (cond b (lock_at k ∷ owned_from (k + 1) os w) (owned_from (k + 1) os w))) ≡ true) (sym own)
          (let owned_now : owns s w (lock_at k) ≡ true = ap (λ p. is_owner p w) rest.1 ∙ own in
          let free : StateView = make s w (Unlock (lock_at k)) in
          let left : owns (make s w (Unlock (lock_at k))) w (lock_at k) ≡ false = ap (λ p. is_owner p w) (get_or-set_same s.owners k None None within) in
          let can_now : can (make s w (Unlock (lock_at k))) w (ParkLock (lock_at k)) ≡ true = and_from (not (owns (make s w (Unlock (lock_at k))) w (lock_at k))) (not (has_parked s w (lock_at k))) (not_from_false _ left) (not_from_false _ (good.parked_not_owned w (lock_at k) owned_now)) in
          let first : Good (make s w (Unlock (lock_at k))) = kept s w (Unlock (lock_at k)) worker within good owned_now in
          let named : IsLockOf (make s w (Unlock (lock_at k))) (lock_at k) = named_along s (make s w (Unlock (lock_at k))) (Unlock (lock_at k)) (same_shape-make s w (Unlock (lock_at k))) within in
          let second : Good (make (make s w (Unlock (lock_at k))) w (ParkLock (lock_at k))) = kept (make s w (Unlock (lock_at k))) w (ParkLock (lock_at k)) worker named first can_now in
          let there : IsWorkerOf (make (make s w (Unlock (lock_at k))) w (ParkLock (lock_at k))) w = worker_along (make s w (Unlock (lock_at k))) (make (make s w (Unlock (lock_at k))) w (ParkLock (lock_at k))) w (same_shape-make (make s w (Unlock (lock_at k))) w (ParkLock (lock_at k))) worker in
          and_from (owns s w (lock_at k)) _ owned_now (and_from (can (make s w (Unlock (lock_at k))) w (ParkLock (lock_at k))) _ can_now
          (can_park (k + 1) os (make (make s w (Unlock (lock_at k))) w (ParkLock (lock_at k))) w there second (drop-set-lt (k + 1) s.owners k None (omega arith) ∙ rest.0))))
      | inr other ↦ subst (λ b. can_all s w (parked_locks (cond b (lock_at k ∷ owned_from (k + 1) os w) (owned_from (k + 1) os w))) ≡ true) (sym other) (can_park (k + 1) os s w worker good rest.0)
    ]

-- what isn't the list of parked locks stays
parks_keep : (f : Holding → Bool) → ((h : Holding) (ps : List LockId) → f (record h { parked = ps }) ≡ f h) → (s : StateView) (w : WorkerId) (ls : List LockId) → IsWorkerOf s w → f (holding_of (make_all s w (parked_locks ls)) w) ≡ f (holding_of s w)
parks_keep f same s w [] worker = refl
parks_keep f same s w (l ∷ ls) worker =
    let there : IsWorkerOf (make (make s w (Unlock l)) w (ParkLock l)) w = worker_along (make s w (Unlock l)) (make (make s w (Unlock l)) w (ParkLock l)) w (same_shape-make (make s w (Unlock l)) w (ParkLock l)) worker in
    parks_keep f same (make (make s w (Unlock l)) w (ParkLock l)) w ls there
    ∙ ap f (holding_now (make s w (Unlock l)) w (holding_after (holding_of s w) (ParkLock l)) worker)
    ∙ same (holding_of s w) _

pub can_set_down : (s : StateView) (w : WorkerId) → IsWorkerOf s w → Good s → (holding_of s w).lease ≡ true → can_all s w (set_down s w) ≡ true
can_set_down s w worker good lease =
    let free : (holding_of s w).blocked ≡ false = false_from_ne_true (holding_of s w).blocked (λ h. both_ways (holding_of s w).lease (good.blocked_no_lease w h) lease) in
    let next : StateView = make s w Give in
    let there : IsWorkerOf (make s w Give) w = worker_along s (make s w Give) w (same_shape-make s w Give) worker in
    let good_then : Good (make s w Give) = kept s w Give worker tt good lease in
    let now : holding_of (make s w Give) w ≡ holding_after (holding_of s w) Give = holding_now s w (holding_after (holding_of s w) Give) worker in
    let last : StateView = make_all (make s w Give) w (parked_locks (owned s w)) in
    let not_blocked : (holding_of (make_all (make s w Give) w (parked_locks (owned s w))) w).blocked ≡ false = parks_keep (λ h. h.blocked) (λ h ps. refl) (make s w Give) w (owned s w) there ∙ ap (λ (h : Holding). h.blocked) now ∙ free in
    let no_lease : (holding_of (make_all (make s w Give) w (parked_locks (owned s w))) w).lease ≡ false = parks_keep (λ h. h.lease) (λ h ps. refl) (make s w Give) w (owned s w) there ∙ ap (λ (h : Holding). h.lease) now in
    and_from (holding_of s w).lease (can_all (make s w Give) w (parked_locks (owned s w) ++ Enter ∷ [])) lease
    (can_all-append (make s w Give) w (parked_locks (owned s w)) (Enter ∷ [])
    ∙ and_from (can_all (make s w Give) w (parked_locks (owned s w))) (can_all (make_all (make s w Give) w (parked_locks (owned s w))) w (Enter ∷ [])) (can_park 0 s.owners (make s w Give) w there good_then refl)
    (and_from (can (make_all (make s w Give) w (parked_locks (owned s w))) w Enter) true (and_from (not (holding_of (make_all (make s w Give) w (parked_locks (owned s w))) w).blocked) (not (holding_of (make_all (make s w Give) w (parked_locks (owned s w))) w).lease) (not_from_false _ not_blocked) (not_from_false _ no_lease)) refl))

-- a worker that can run a fetch has a lease, and the fetch is Waiting
fetches : GraphView → StateView → WorkerId → ℕ → ℕ → Bool
fetches g s w u a = (action_of g a).fetch && eqb (action_of g a).first_unit u && works_on s w (task_with g a) && same_mark (mark_of s (ActionOf a)) Waiting && same_mark (mark_of s (UnitOf u)) Waiting && earlier_passed g s a

fetch_parts : (g : GraphView) (s : StateView) (w : WorkerId) (u a : ℕ) → fetches g s w u a ≡ true → ((holding_of s w).lease ≡ true) × (same_mark (mark_of s (UnitOf u)) Waiting ≡ true)
unfolding fetches
fetch_parts g s w u a is =
    let unit : ((action_of g a).fetch && eqb (action_of g a).first_unit u && works_on s w (task_with g a) && same_mark (mark_of s (ActionOf a)) Waiting && same_mark (mark_of s (UnitOf u)) Waiting) ≡ true = (and_parts _ (earlier_passed g s a) is).0 in
    let action : ((action_of g a).fetch && eqb (action_of g a).first_unit u && works_on s w (task_with g a) && same_mark (mark_of s (ActionOf a)) Waiting) ≡ true = (and_parts _ (same_mark (mark_of s (UnitOf u)) Waiting) unit).0 in
    let works : ((action_of g a).fetch && eqb (action_of g a).first_unit u && works_on s w (task_with g a)) ≡ true = (and_parts _ (same_mark (mark_of s (ActionOf a)) Waiting) action).0 in
    let on : works_on s w (task_with g a) ≡ true = (and_parts ((action_of g a).fetch && eqb (action_of g a).first_unit u) (works_on s w (task_with g a)) works).1 in
    let leased : (same_mark (mark_of s (TaskOf (task_with g a))) (Running w) && (holding_of s w).lease) ≡ true = (and_parts _ (not (is_parked s w)) on).0 in
    ((and_parts (same_mark (mark_of s (TaskOf (task_with g a))) (Running w)) (holding_of s w).lease leased).1, (and_parts _ (same_mark (mark_of s (UnitOf u)) Waiting) unit).1)

fetch_needs : (g : GraphView) (s : StateView) (w : WorkerId) (u : ℕ) (b : Bool) → ((a : ℕ) → fetches g s w u a ≡ true → b ≡ true) → condition g s w (Block (Some u)) ≡ true → b ≡ true
unfolding fetches
fetch_needs g s w u true needs can = refl
fetch_needs g s w u false needs can = sym (list_any_none (fetches g s w u) (range_with_len 0 (length g.actions)) (All-from_get_or (λ a. fetches g s w u a ≡ false) (range_with_len 0 (length g.actions)) 0 (λ k _.
    false_from_ne_true (fetches g s w u (get_or (range_with_len 0 (length g.actions)) k 0)) (λ h. both_ways false refl (needs (get_or (range_with_len 0 (length g.actions)) k 0) h))))) ∙ can

can_block : (t : TentativeView) (unit : Option ℕ) → IsSoundTentative t → IsKindOf t.graph (Block unit) → condition t.graph t.state t.worker (Block unit) ≡ true → is_enabled t.graph t.state t.worker (Block unit) ≡ true
can_block t None sound named can_now =
    let worker : IsWorkerOf t.state t.worker = omega (arith, sound.worker, sound.belongs.workers) in
    and_from (condition t.graph t.state t.worker (Block None)) (can_all t.state t.worker (set_down t.state t.worker)) can_now (can_set_down t.state t.worker worker sound.good (and_parts (holding_of t.state t.worker).lease _ can_now).0)
can_block t (Some u) sound named can_now =
    let worker : IsWorkerOf t.state t.worker = omega (arith, sound.worker, sound.belongs.workers) in
    let lease : (holding_of t.state t.worker).lease ≡ true = fetch_needs t.graph t.state t.worker u (holding_of t.state t.worker).lease (λ a h. (fetch_parts t.graph t.state t.worker u a h).0) can_now in
    let waiting : same_mark (mark_of t.state (UnitOf u)) Waiting ≡ true = fetch_needs t.graph t.state t.worker u (same_mark (mark_of t.state (UnitOf u)) Waiting) (λ a h. (fetch_parts t.graph t.state t.worker u a h).1) can_now in
    let move : can t.state t.worker (Move (UnitOf u) Waiting (Running t.worker)) ≡ true = and_from (same_mark (mark_of t.state (UnitOf u)) Waiting && true && true) (eqb t.worker.0 t.worker.0)
    (and_from (same_mark (mark_of t.state (UnitOf u)) Waiting && true) true (and_from (same_mark (mark_of t.state (UnitOf u)) Waiting) true waiting refl) refl) (eq-eqb t.worker.0 t.worker.0 refl) in
    let within : u < length t.state.units = omega (arith, named, sound.belongs.units) in
    let good : Good (make t.state t.worker (Move (UnitOf u) Waiting (Running t.worker))) = kept t.state t.worker (Move (UnitOf u) Waiting (Running t.worker)) worker within sound.good move in
    and_from (condition t.graph t.state t.worker (Block (Some u))) _ can_now
    (and_from (can t.state t.worker (Move (UnitOf u) Waiting (Running t.worker))) (can_all (make t.state t.worker (Move (UnitOf u) Waiting (Running t.worker))) t.worker (set_down t.state t.worker)) move
    (can_set_down (make t.state t.worker (Move (UnitOf u) Waiting (Running t.worker))) t.worker worker good lease))

-- so only the condition can keep it from that
pub not_to_block : (t : TentativeView) (unit : Option ℕ) → IsSoundTentative t → IsKindOf t.graph (Block unit) → is_enabled t.graph t.state t.worker (Block unit) ≡ false → condition t.graph t.state t.worker (Block unit) ≡ false
not_to_block t unit sound named kept_from = false_from_ne_true (condition t.graph t.state t.worker (Block unit)) (λ h. both_ways (is_enabled t.graph t.state t.worker (Block unit)) kept_from (can_block t unit sound named h))
