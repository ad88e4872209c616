-- What a change of one worker leaves of a `State`, once it is noted in the worker's entry.
use Rattle.std.proofs.Common.{◌≡◌, ℕ, ◌<◌, ◌≤◌, ◌+◌, ◌^◌, length, List, map, true, false, not, ◌&&◌, ltb, None, Some, ◌⊎◌, inl, inr, refl, sym, ◌∙◌, ap, subst, arith, get_or, set}
use Rattle.std.specs.Vec.{vec_capacity}
use Rattle.std.specs.List.{All}
use Rattle.std.proofs.lemmas.List.{map-set, get_or-map, length-map, length-set, length_push, set-get_or, get_or-set_same, get_or-set_other, get_or_past}
use Rattle.std.proofs.lemmas.List.Sums.{count_by-le-length, get_or-le-sum_by}
use Rattle.std.proofs.lemmas.List.Elements.{All-set}
use Rattle.std.proofs.lemmas.Bool.{and_parts, not-true, cases_eq}
use Rattle.resource_lock.proofs.lemmas.Undo.{same_worker, holding_now, owner_from}
use Rattle.resource_lock.proofs.lemmas.Lists.{one_if, count_by-set, length-le_from_once}
use Rattle.resource_lock.proofs.lemmas.Kept.{kept, leases-with_holding}
use Rattle.resource_lock.proofs.lemmas.Counted.{own_counts, other_counts, moves, can_recount, none_owns}
use Rattle.resource_lock.specs.StateView.{StateView, Holding, empty_holding, holding_of, is_owned, is_owner, leases_out, owner_of, IsWorkerOf}
use Rattle.resource_lock.specs.Change.{can, make, holding_after, with_owner, with_mark, NamesOnly}
use Rattle.resource_lock.specs.Good.{Good}
use Rattle.resource_lock.specs.Counting.{counts_of, counts_in, locks_owned, no_counts}
use Rattle.resource_lock.specs.State.{state_view, IsSound}
use Rattle.resource_lock.specs.Holdings.{holding_from, counts_after, CanCount, IsAfter}
use Rattle.resource_lock.specs.declared.ids.LockId.{LockId}
use Rattle.resource_lock.specs.declared.ids.WorkerId.{WorkerId}
use Rattle.resource_lock.specs.declared.marks.MarkId.TheVariants.{Task as TaskOf, Action as ActionOf, Unit as UnitOf}
use Rattle.resource_lock.specs.declared.changes.Change.{Change}
use Rattle.resource_lock.specs.declared.changes.Change.TheVariants.{Lock, Unlock, Take, Give, Move, Park, Unpark, Enter, Leave}
use Rattle.resource_lock.specs.declared.states.held.Held.{Held}
use Rattle.resource_lock.specs.declared.states.State.TheInside.{Inside}

-- what stands in a worker's entry is what it has, and nothing where there is no entry
pub counts_found : (a : Inside) (w : WorkerId) (v : Held) → IsSound a → w.0 < length a.held.items → v ≡ get_or a.held.items w.0 v → v.counts ≡ counts_of (state_view a) w
counts_found a w v sound there read = ap (λ x. x.counts) read ∙ sym (get_or-map (λ x. x.counts) a.held.items w.0 v no_counts there) ∙ sound.counts w

pub no_counts_found : (a : Inside) (w : WorkerId) → IsSound a → length a.held.items ≤ w.0 → no_counts ≡ counts_of (state_view a) w
no_counts_found a w sound past = sym (get_or_past (map (λ x. x.counts) a.held.items) w.0 no_counts (omega (arith, past, length-map a.held.items (λ (x : Held). x.counts)))) ∙ sound.counts w

-- The change can be made by worker w, and v is what was read as its entry.
pub record Reads (a : Inside) (s : StateView) (w : WorkerId) (c : Change) (v : Held) : Type 0 where
  pub view_is : state_view a ≡ s
  pub worker : IsWorkerOf s w
  pub named : NamesOnly s c
  pub possible : can s w c ≡ true
  pub read : v ≡ get_or a.held.items w.0 v

within : {a : Inside} {s : StateView} {w : WorkerId} {c : Change} {v : Held} → Reads a s w c v → w.0 < length a.held.items
within {a} r = omega (arith, r.worker, ap (λ x. length x.holdings) r.view_is, length-map a.held.items holding_from)

holding_read : {a : Inside} {s : StateView} {w : WorkerId} {c : Change} {v : Held} → Reads a s w c v → holding_of s w ≡ holding_from v
holding_read {a} {s} {w} {c} {v} r = sym (ap (λ x. holding_of x w) r.view_is) ∙ get_or-map holding_from a.held.items w.0 v empty_holding (within r) ∙ ap holding_from (sym r.read)

counts_read : {a : Inside} {s : StateView} {w : WorkerId} {c : Change} {v : Held} → Reads a s w c v → IsSound a → v.counts ≡ counts_of s w
counts_read {a} {s} {w} {c} {v} r sound = counts_found a w v sound (within r) r.read ∙ ap (λ x. counts_of x w) r.view_is

good_read : {a : Inside} {s : StateView} {w : WorkerId} {c : Change} {v : Held} → Reads a s w c v → IsSound a → Good s
good_read r sound = subst Good r.view_is sound.good

-- an entry of a worker has room for a change that can be made
owners_fit : {a : Inside} {s : StateView} {w : WorkerId} {c : Change} {v : Held} → Reads a s w c v → length s.owners < 2 ^ 64
owners_fit {a} r = omega (arith, ap (λ x. length x.owners) r.view_is, a.owners.ok.0, a.owners.ok.1, a.owners.small)

locks_fit : {a : Inside} {s : StateView} {w : WorkerId} {v : Held} (l : LockId) → Reads a s w (Lock l) v → IsSound a → v.counts.locks + 1 < 2 ^ 64
locks_fit {a} {s} {w} {v} l r sound = omega (arith, ap (λ x. x.locks) (counts_read r sound), ap (λ x. x.locks) (own_counts s w (Lock l) r.named r.possible), count_by-le-length (λ o. is_owner o w) (make s w (Lock l)).owners, length-set s.owners l.0 (Some w), owners_fit r)

some_lock : {a : Inside} {s : StateView} {w : WorkerId} {v : Held} (l : LockId) → Reads a s w (Unlock l) v → IsSound a → 1 ≤ v.counts.locks
some_lock {a} {s} {w} {v} l r sound = omega (arith, ap (λ x. x.locks) (counts_read r sound), ap one_if r.possible, get_or-le-sum_by (λ o. one_if (is_owner o w)) s.owners l.0 None r.named)

room_to_park : {a : Inside} {s : StateView} {w : WorkerId} {v : Held} (l : LockId) → Reads a s w (Park l) v → IsSound a → length v.parked.items < vec_capacity v.parked
room_to_park {a} {s} {w} {v} l r sound =
    let room : length a.owners.items ≤ vec_capacity v.parked = subst (λ (x : Held). length a.owners.items ≤ vec_capacity x.parked) (sym r.read) (sound.room w.0 v (within r)) in
    let after : Good (make s w (Park l)) = kept s w (Park l) r.worker r.named (good_read r sound) r.possible in
    let now : holding_of (make s w (Park l)) w ≡ holding_after (holding_of s w) (Park l) = holding_now s w (holding_after (holding_of s w) (Park l)) r.worker in
    let few : length (holding_of (make s w (Park l)) w).parked ≤ length s.owners = length-le_from_once (length s.owners) (holding_of (make s w (Park l)) w).parked (after.parked_once w) (after.parked_locks w) in
    omega (arith, room, few, ap (λ x. length x.parked) now, length_push (holding_of s w).parked l, ap (λ x. length x.parked) (holding_read r), ap (λ x. length x.owners) r.view_is)

marks_fit : {a : Inside} {s : StateView} {w : WorkerId} {c : Change} {v : Held} → Reads a s w c v → (length s.tasks < 2 ^ 64) × (length s.actions < 2 ^ 64) × (length s.units < 2 ^ 64)
marks_fit {a} r = (
  omega (arith, ap (λ x. length x.tasks) r.view_is, a.marks.tasks.ok.0, a.marks.tasks.ok.1, a.marks.tasks.small),
  omega (arith, ap (λ x. length x.actions) r.view_is, a.marks.actions.ok.0, a.marks.actions.ok.1, a.marks.actions.small),
  omega (arith, ap (λ x. length x.units) r.view_is, a.marks.units.ok.0, a.marks.units.ok.1, a.marks.units.small),
)

pub has_room : {a : Inside} {s : StateView} {w : WorkerId} {v : Held} (c : Change) → Reads a s w c v → IsSound a → CanCount w v c
has_room (Lock l) r sound = locks_fit l r sound
has_room (Unlock l) r sound = some_lock l r sound
has_room {v = v} (Park l) r sound = omega (arith, room_to_park l r sound, v.parked.ok.0)
has_room {s = s} {w = w} {v = v} (Move (TaskOf t) from to) r sound = can_recount s.tasks t w from to v.counts.tasks r.named (moves s w (TaskOf t) from to r.possible).at (ap (λ x. x.tasks) (counts_read r sound)) (marks_fit r).0
has_room {s = s} {w = w} {v = v} (Move (ActionOf t) from to) r sound = can_recount s.actions t w from to v.counts.actions r.named (moves s w (ActionOf t) from to r.possible).at (ap (λ x. x.actions) (counts_read r sound)) (marks_fit r).1
has_room {s = s} {w = w} {v = v} (Move (UnitOf t) from to) r sound = can_recount s.units t w from to v.counts.units r.named (moves s w (UnitOf t) from to r.possible).at (ap (λ x. x.units) (counts_read r sound)) (marks_fit r).2
has_room Take r sound = tt
has_room Give r sound = tt
has_room (Unpark l) r sound = tt
has_room Enter r sound = tt
has_room Leave r sound = tt

-- what a change leaves but for the worker's holding
abbrev pub rest_after : StateView → WorkerId → Change → StateView
rest_after s w (Lock l) = with_owner s l (Some w)
rest_after s w (Unlock l) = with_owner s l None
rest_after s w (Move m from to) = with_mark s m to
rest_after s w _ = s

make_is : (s : StateView) (w : WorkerId) (c : Change) → make s w c ≡ record (rest_after s w c) { holdings = set s.holdings w.0 (holding_after (holding_of s w) c) }
make_is s w (Lock l) = ap (λ holdings. record (with_owner s l (Some w)) { holdings = holdings }) (sym (set-get_or s.holdings w.0 empty_holding))
make_is s w (Unlock l) = ap (λ holdings. record (with_owner s l None) { holdings = holdings }) (sym (set-get_or s.holdings w.0 empty_holding))
make_is s w (Move (TaskOf t) from to) = ap (λ holdings. record (with_mark s (TaskOf t) to) { holdings = holdings }) (sym (set-get_or s.holdings w.0 empty_holding))
make_is s w (Move (ActionOf a) from to) = ap (λ holdings. record (with_mark s (ActionOf a) to) { holdings = holdings }) (sym (set-get_or s.holdings w.0 empty_holding))
make_is s w (Move (UnitOf u) from to) = ap (λ holdings. record (with_mark s (UnitOf u) to) { holdings = holdings }) (sym (set-get_or s.holdings w.0 empty_holding))
make_is s w Take = refl
make_is s w Give = refl
make_is s w (Park l) = refl
make_is s w (Unpark l) = refl
make_is s w Enter = refl
make_is s w Leave = refl

-- The change is noted in the entry that was read, which is h now.
pub record Noted (a : Inside) (s : StateView) (w : WorkerId) (c : Change) (v h : Held) : Type 0 where
  pub reads : Reads a s w c v
  pub after : IsAfter w c v h
  pub sound : IsSound a

-- the view, where the entry is written and the rest is as the change leaves it
abbrev pub view_after : Inside → WorkerId → Held → Change → StateView
view_after a w h c = record (rest_after (state_view a) w c) { holdings = map holding_from (set a.held.items w.0 h) }

-- it is the state that the change leaves, k being the change as the code found it
pub view_made : {a : Inside} {s : StateView} {w : WorkerId} {c : Change} {v h : Held} (k : Change) → Noted a s w c v h → c ≡ k → view_after a w h k ≡ make s w c
view_made {a} {s} {w} {c} {v} {h} k noted is =
    let found : holding_of (state_view a) w ≡ holding_from v = ap (λ x. holding_of x w) noted.reads.view_is ∙ holding_read noted.reads in
    ap (view_after a w h) (sym is)
    ∙ ap (λ holdings. record (rest_after (state_view a) w c) { holdings = holdings })
    (map-set holding_from a.held.items w.0 h ∙ ap (set (map holding_from a.held.items) w.0) (noted.after.holding ∙ ap (λ x. holding_after x c) (sym found)))
    ∙ ap (λ t. record (rest_after t w c) { holdings = set t.holdings w.0 (holding_after (holding_of t w) c) }) noted.reads.view_is
    ∙ sym (make_is s w c)

-- the leases that are out after a change
leases_made : (s : StateView) (w : WorkerId) (c : Change) → IsWorkerOf s w → leases_out (make s w c) + one_if (holding_of s w).lease ≡ leases_out s + one_if (holding_after (holding_of s w) c).lease
leases_made s w c worker = omega (arith, ap leases_out (make_is s w c), leases-with_holding s w (holding_after (holding_of s w) c) worker)

-- how many locks more, and how many fewer, have an owner after a change
abbrev pub locked_by : Change → ℕ
locked_by (Lock l) = 1
locked_by _ = 0

abbrev pub unlocked_by : Change → ℕ
unlocked_by (Unlock l) = 1
unlocked_by _ = 0

-- the owned locks after a change
owned_made : (s : StateView) (w : WorkerId) (c : Change) → NamesOnly s c → can s w c ≡ true → locks_owned (make s w c) + unlocked_by c ≡ locks_owned s + locked_by c
owned_made s w (Lock l) named h = omega (arith, count_by-set is_owned s.owners l.0 (Some w) None named, ap (λ o. one_if (is_owned o)) (none_owns s w l h))
owned_made s w (Unlock l) named h = omega (arith, count_by-set is_owned s.owners l.0 None None named, ap (λ o. one_if (is_owned o)) (owner_from (owner_of s l) w h))
owned_made s w (Move (TaskOf t) from to) named h = refl
owned_made s w (Move (ActionOf a) from to) named h = refl
owned_made s w (Move (UnitOf u) from to) named h = refl
owned_made s w Take named h = refl
owned_made s w Give named h = refl
owned_made s w (Park l) named h = refl
owned_made s w (Unpark l) named h = refl
owned_made s w Enter named h = refl
owned_made s w Leave named h = refl

-- there is room to count one more, and one that is given back is counted
pub one_more_owned : {a : Inside} {s : StateView} {w : WorkerId} {v : Held} (l : LockId) → Reads a s w (Lock l) v → IsSound a → a.owned + 1 < 2 ^ 64
one_more_owned {a} {s} {w} {v} l r sound = omega (arith, sound.owned, ap locks_owned r.view_is, owned_made s w (Lock l) r.named r.possible, count_by-le-length is_owned (make s w (Lock l)).owners, length-set s.owners l.0 (Some w), owners_fit r)

pub some_owned : {a : Inside} {s : StateView} {w : WorkerId} {v : Held} (l : LockId) → Reads a s w (Unlock l) v → IsSound a → 1 ≤ a.owned
some_owned {a} {s} {w} {v} l r sound = omega (arith, sound.owned, ap locks_owned r.view_is, owned_made s w (Unlock l) r.named r.possible)

-- The state that is left, with its leases and owned locks counted.
pub record Leaves (a b : Inside) (s : StateView) (w : WorkerId) (c k : Change) (h : Held) : Type 0 where
  pub is : c ≡ k
  pub held : b.held.items ≡ set a.held.items w.0 h
  pub owners : length b.owners.items ≡ length a.owners.items
  pub view : state_view b ≡ view_after a w h k
  pub owned : b.owned + unlocked_by k ≡ a.owned + locked_by k
  pub out : b.out + one_if (holding_of s w).lease ≡ a.out + one_if (holding_after (holding_of s w) k).lease

counts_left : {a : Inside} (b : Inside) {s : StateView} {w : WorkerId} {c : Change} {v h : Held} → Noted a s w c v h → b.held.items ≡ set a.held.items w.0 h → state_view b ≡ make s w c → (u : WorkerId) → counts_in b.held.items u ≡ counts_of (state_view b) u
counts_left {a} b {s} {w} {c} {v} {h} noted held view u =
    ap (λ x. counts_in x u) held
    ∙ ap (λ x. get_or x u.0 no_counts) (map-set (λ (x : Held). x.counts) a.held.items w.0 h)
    ∙ elim (cases_eq u.0 w.0) [
      | inl same ↦ ap (λ n. get_or (set (map (λ (x : Held). x.counts) a.held.items) w.0 h.counts) n no_counts) same
          ∙ get_or-set_same (map (λ (x : Held). x.counts) a.held.items) w.0 h.counts no_counts (omega (arith, within noted.reads, length-map a.held.items (λ (x : Held). x.counts)))
          ∙ noted.after.counts
          ∙ ap (λ n. counts_after w n c) (counts_read noted.reads noted.sound)
          ∙ sym (own_counts s w c noted.reads.named noted.reads.possible)
          ∙ ap (counts_of (make s w c)) (sym (same_worker u w same))
      | inr other ↦ get_or-set_other (map (λ (x : Held). x.counts) a.held.items) w.0 u.0 h.counts no_counts other
          ∙ noted.sound.counts u
          ∙ ap (λ t. counts_of t u) noted.reads.view_is
          ∙ sym (other_counts s w u c other noted.reads.named noted.reads.possible)
    ]
    ∙ ap (λ t. counts_of t u) (sym view)

pub sound_left : {a b : Inside} {s : StateView} {w : WorkerId} {c k : Change} {v h : Held} → Noted a s w c v h → Leaves a b s w c k h → IsSound b
sound_left {a} {b} {s} {w} {c} {k} {v} {h} noted left =
    let room : length a.owners.items ≤ vec_capacity v.parked = subst (λ (x : Held). length a.owners.items ≤ vec_capacity x.parked) (sym noted.reads.read) (noted.sound.room w.0 v (within noted.reads)) in
    let view : state_view b ≡ make s w c = left.view ∙ view_made k noted left.is in
    record {
      good = subst Good (sym view) (kept s w c noted.reads.worker noted.reads.named (good_read noted.reads noted.sound) noted.reads.possible);
      leases = omega (arith, left.out, ap (λ x. one_if (holding_after (holding_of s w) x).lease) left.is, noted.sound.leases, ap leases_out noted.reads.view_is, leases_made s w c noted.reads.worker, ap leases_out view);
      owned = omega (arith, left.owned, ap unlocked_by left.is, ap locked_by left.is, noted.sound.owned, ap locks_owned noted.reads.view_is, owned_made s w c noted.reads.named noted.reads.possible, ap locks_owned view);
      counts = counts_left b noted left.held view;
      room = subst (λ (x : List Held). All (λ h. length b.owners.items ≤ vec_capacity h.parked) x) (sym left.held)
          (subst (λ n. All (λ (h : Held). n ≤ vec_capacity h.parked) (set a.held.items w.0 h)) (sym left.owners)
          (All-set (λ (x : Held). length a.owners.items ≤ vec_capacity x.parked) a.held.items w.0 h (omega (arith, room, noted.after.capacity)) noted.sound.room));
    }

-- a lease that can be taken isn't there yet, and one that can be given back is, and is counted
pub lease_free : (s : StateView) (w : WorkerId) → can s w Take ≡ true → (holding_of s w).lease ≡ false
lease_free s w h = not-true (holding_of s w).lease (and_parts (not (holding_of s w).lease) (not (holding_of s w).blocked) (and_parts (not (holding_of s w).lease && not (holding_of s w).blocked) (ltb (leases_out s) s.max_leases) h).0).0

pub some_out : (s : StateView) (w : WorkerId) → IsWorkerOf s w → can s w Give ≡ true → 1 ≤ leases_out s
some_out s w worker h = omega (arith, leases_made s w Give worker, ap one_if h)

-- A change of the worker's own that touches no lease and no owner.
pub record IsQuiet (c : Change) : Type 0 where
  pub rest : (s : StateView) (w : WorkerId) → s ≡ rest_after s w c
  pub lease : (h : Holding) → h.lease ≡ (holding_after h c).lease
  pub owned : unlocked_by c ≡ locked_by c

pub quiet : (c : Change) → ((l : LockId) × (c ≡ Park l)) ⊎ (((l : LockId) × (c ≡ Unpark l)) ⊎ ((c ≡ Enter) ⊎ (c ≡ Leave))) → IsQuiet c
quiet c (inl park) = subst IsQuiet (sym park.1) (record { rest = λ s w. refl; lease = λ h. refl; owned = refl })
quiet c (inr (inl unpark)) = subst IsQuiet (sym unpark.1) (record { rest = λ s w. refl; lease = λ h. refl; owned = refl })
quiet c (inr (inr (inl enter))) = subst IsQuiet (sym enter) (record { rest = λ s w. refl; lease = λ h. refl; owned = refl })
quiet c (inr (inr (inr leave))) = subst IsQuiet (sym leave) (record { rest = λ s w. refl; lease = λ h. refl; owned = refl })
