-- What a worker's own change leaves of its locks and its marks.
use Rattle.std.proofs.Common.{◌≡◌, ℕ, zero, suc, ◌+◌, ◌<◌, length, Bool, true, false, not, cond, ltb, lt-ltb, List, [], ◌∷◌, ◌++◌, map, get_or, set, Option, None, Some, refl, sym, ap, ◌∙◌, arith, append-nil}
use Rattle.std.proofs.lemmas.Bool.{and_parts, eq-eqb, le-ltb}
use Rattle.lock_journal.specs.Names.{can, can_all, make, make_all, holding_after, same_mark, names_only, NamesOnly, Holding, StateView, holding_of}
use Rattle.lock_journal.specs.Names.{is_owner, owner_of, mark_of, runs_by, IsWorkerOf, Change, Lock, Unlock, Take, Give, Move, Unpark, Enter, Leave}
use Rattle.lock_journal.specs.Names.{LockId, WorkerId, Mark, Waiting, MarkId, TaskOf, ActionOf, UnitOf, owned_from, owned, action_at, claimed}
use Rattle.lock_journal.specs.Names.{marks_in, places_from, task_at, unit_at, after_all, claimed_after, locks_after, lock_before, mark_before}
use Rattle.lock_journal.specs.Names.{with_if, with_member, without_if, without_member}
use Rattle.resource_lock.specs.declared.changes.Change.TheVariants.{Park}
use Rattle.std.specs.List.{AllByRecursion}
use Rattle.resource_lock.proofs.lemmas.Counted.{moves, none_owns}
use Rattle.resource_lock.proofs.lemmas.Runs.{all_named_along, same_shape-make, worker_along}
use Rattle.resource_lock.proofs.lemmas.Undo.{holding_now}
use Rattle.lock_journal.proofs.lemmas.Others.{running_of}

not_below : (k n : ℕ) → n < suc k → ltb k n ≡ false
not_below k n h = le-ltb k n (omega arith)

-- a number below all places comes first
ahead : {X : Type 0} (test : X → Bool) (k n : ℕ) (xs : List X) → k < n → with_member ltb k (places_from test n xs) ≡ k ∷ places_from test n xs
ahead test k n [] low = refl
ahead test k n (x ∷ xs) low = at (test x) (ahead test k (n + 1) xs (omega arith))
  where
    at : (b : Bool) → with_member ltb k (places_from test (n + 1) xs) ≡ k ∷ places_from test (n + 1) xs
        → with_member ltb k (cond b (n ∷ places_from test (n + 1) xs) (places_from test (n + 1) xs)) ≡ k ∷ cond b (n ∷ places_from test (n + 1) xs) (places_from test (n + 1) xs)
    at true rest = ap (λ c. cond c (n ∷ with_member ltb k (places_from test (n + 1) xs)) (k ∷ n ∷ places_from test (n + 1) xs)) (not_below n k (omega arith))
    at false rest = rest

-- one more behind the first
behind : (b : Bool) (k n : ℕ) (ps : List ℕ) → n < k → with_member ltb k (cond b (n ∷ ps) ps) ≡ cond b (n ∷ with_member ltb k ps) (with_member ltb k ps)
behind true k n ps low = ap (λ c. cond c (n ∷ with_member ltb k ps) (k ∷ n ∷ ps)) (lt-ltb n k low)
behind false k n ps low = refl

less_behind : (b : Bool) (k n : ℕ) (ps : List ℕ) → n < k → without_member ltb k (cond b (n ∷ ps) ps) ≡ cond b (n ∷ without_member ltb k ps) (without_member ltb k ps)
less_behind true k n ps low = ap (λ c. cond c (n ∷ without_member ltb k ps) (cond (ltb k n) (n ∷ ps) ps)) (lt-ltb n k low)
less_behind false k n ps low = refl

-- the places after one of the list is written
module _ {X : Type 0} (test : X → Bool) (y d : X) where
  kept : (n i : ℕ) (xs : List X) → i < length xs → test (get_or xs i d) ≡ test y → places_from test n (set xs i y) ≡ places_from test n xs
  kept n i [] within same = absurd (omega arith)
  kept n zero (x ∷ xs) within same = ap (λ b. cond b (n ∷ places_from test (n + 1) xs) (places_from test (n + 1) xs)) (sym same)
  kept n (suc i) (x ∷ xs) within same = ap (λ (ps : List ℕ). cond (test x) (n ∷ ps) ps) (kept (n + 1) i xs (omega arith) same)

  come : (n i : ℕ) (xs : List X) → i < length xs → test (get_or xs i d) ≡ false → test y ≡ true → places_from test n (set xs i y) ≡ with_member ltb (n + i) (places_from test n xs)
  come n i [] within was is = absurd (omega arith)
  come n zero (x ∷ xs) within was is =
      let ps : List ℕ = places_from test (n + 1) xs in
      let here : n + 0 ≡ n = omega arith in
      ap (λ b. cond b (n ∷ ps) ps) is
      ∙ (sym (ahead test n (n + 1) xs (omega arith))
      ∙ sym (ap (λ b. with_member ltb (n + 0) (cond b (n ∷ ps) ps)) was ∙ ap (λ k. with_member ltb k ps) here))
  come n (suc i) (x ∷ xs) within was is =
      let ps : List ℕ = places_from test (n + 1) xs in
      let far : n + 1 + i ≡ n + suc i = omega arith in
      ap (λ (qs : List ℕ). cond (test x) (n ∷ qs) qs) (come (n + 1) i xs (omega arith) was is ∙ ap (λ k. with_member ltb k ps) far) ∙ sym (behind (test x) (n + suc i) n ps (omega arith))

  gone : (n i : ℕ) (xs : List X) → i < length xs → test (get_or xs i d) ≡ true → test y ≡ false → places_from test n (set xs i y) ≡ without_member ltb (n + i) (places_from test n xs)
  gone n i [] within was is = absurd (omega arith)
  gone n zero (x ∷ xs) within was is =
      let ps : List ℕ = places_from test (n + 1) xs in
      let first : ltb n (n + 0) ≡ false = not_below n (n + 0) (omega arith) in
      let second : ltb (n + 0) n ≡ false = not_below (n + 0) n (omega arith) in
      ap (λ b. cond b (n ∷ ps) ps) is
      ∙ sym (ap (λ b. without_member ltb (n + 0) (cond b (n ∷ ps) ps)) was
      ∙ (λ j. cond (first j) (n ∷ without_member ltb (n + 0) ps) (cond (second j) (n ∷ ps) ps)))
  gone n (suc i) (x ∷ xs) within was is =
      let ps : List ℕ = places_from test (n + 1) xs in
      let far : n + 1 + i ≡ n + suc i = omega arith in
      ap (λ (qs : List ℕ). cond (test x) (n ∷ qs) qs) (gone (n + 1) i xs (omega arith) was is ∙ ap (λ k. without_member ltb k ps) far) ∙ sym (less_behind (test x) (n + suc i) n ps (omega arith))

  -- the same from 0 on
  come_first : (i : ℕ) (xs : List X) → i < length xs → test (get_or xs i d) ≡ false → test y ≡ true → places_from test 0 (set xs i y) ≡ with_member ltb i (places_from test 0 xs)
  come_first i xs within was is = let same : 0 + i ≡ i = omega arith in come 0 i xs within was is ∙ ap (λ k. with_member ltb k (places_from test 0 xs)) same

  gone_first : (i : ℕ) (xs : List X) → i < length xs → test (get_or xs i d) ≡ true → test y ≡ false → places_from test 0 (set xs i y) ≡ without_member ltb i (places_from test 0 xs)
  gone_first i xs within was is = let same : 0 + i ≡ i = omega arith in gone 0 i xs within was is ∙ ap (λ k. without_member ltb k (places_from test 0 xs)) same

  -- whichever it was and is, but not both
  written : (b c : Bool) (i : ℕ) (xs : List X) → i < length xs → test (get_or xs i d) ≡ b → test y ≡ c → (b ≡ true → c ≡ true → ⊥) → places_from test 0 (set xs i y) ≡ with_if ltb c i (without_if ltb b i (places_from test 0 xs))
  written true true i xs within was is apart = absurd (apart refl refl)
  written true false i xs within was is apart = gone_first i xs within was is
  written false true i xs within was is apart = come_first i xs within was is
  written false false i xs within was is apart = kept 0 i xs within (was ∙ sym is)

-- numbered things stand in the order of their numbers, with others before and behind
module _ {X : Type 0} (before : X → X → Bool) (f : ℕ → X) (k : ℕ) where
  more_in : (ps : List ℕ) (zs : List X) → ((j : ℕ) → before (f j) (f k) ≡ ltb j k) → with_member before (f k) zs ≡ f k ∷ zs → with_member before (f k) (map f ps ++ zs) ≡ map f (with_member ltb k ps) ++ zs
  more_in [] zs same first = first
  more_in (p ∷ ps) zs same first = (λ i. cond (same p i) (f p ∷ more_in ps zs same first i) (f k ∷ f p ∷ map f ps ++ zs)) ∙ at (ltb p k)
    where
      at : (b : Bool) → cond b (f p ∷ map f (with_member ltb k ps) ++ zs) (f k ∷ f p ∷ map f ps ++ zs) ≡ map f (cond b (p ∷ with_member ltb k ps) (k ∷ p ∷ ps)) ++ zs
      at true = refl
      at false = refl

  less_in : (ps : List ℕ) (zs : List X) → ((j : ℕ) → before (f k) (f j) ≡ ltb k j) → ((j : ℕ) → before (f j) (f k) ≡ ltb j k) → without_member before (f k) zs ≡ zs
      → without_member before (f k) (map f ps ++ zs) ≡ map f (without_member ltb k ps) ++ zs
  less_in [] zs same back first = first
  less_in (p ∷ ps) zs same back first =
      (λ i. cond (back p i) (f p ∷ less_in ps zs same back first i) (cond (same p i) (f p ∷ map f ps ++ zs) (map f ps ++ zs))) ∙ at (ltb p k) (ltb k p)
    where
      at : (b c : Bool) → cond b (f p ∷ map f (without_member ltb k ps) ++ zs) (cond c (f p ∷ map f ps ++ zs) (map f ps ++ zs)) ≡ map f (cond b (p ∷ without_member ltb k ps) (cond c (p ∷ ps) ps)) ++ zs
      at true c = refl
      at false true = refl
      at false false = refl

  -- nothing behind
  more_last : (ps : List ℕ) → ((j : ℕ) → before (f j) (f k) ≡ ltb j k) → with_member before (f k) (map f ps) ≡ map f (with_member ltb k ps)
  more_last ps same = ap (λ (l : List X). with_member before (f k) l) (sym (append-nil (map f ps))) ∙ (more_in ps [] same refl ∙ append-nil (map f (with_member ltb k ps)))

  less_last : (ps : List ℕ) → ((j : ℕ) → before (f k) (f j) ≡ ltb k j) → ((j : ℕ) → before (f j) (f k) ≡ ltb j k) → without_member before (f k) (map f ps) ≡ map f (without_member ltb k ps)
  less_last ps same back = ap (λ (l : List X). without_member before (f k) l) (sym (append-nil (map f ps))) ∙ (less_in ps [] same back refl ∙ append-nil (map f (without_member ltb k ps)))

-- others that all come before
more_behind : {X : Type 0} (before : X → X → Bool) (x : X) (f : ℕ → X) (ps : List ℕ) (zs : List X) → ((j : ℕ) → before (f j) x ≡ true) → with_member before x (map f ps ++ zs) ≡ map f ps ++ with_member before x zs
more_behind before x f [] zs always = refl
more_behind before x f (p ∷ ps) zs always = λ i. cond (always p i) (f p ∷ more_behind before x f ps zs always i) (x ∷ f p ∷ map f ps ++ zs)

less_after : {X : Type 0} (before : X → X → Bool) (x : X) (f : ℕ → X) (ps : List ℕ) (zs : List X) → ((j : ℕ) → before (f j) x ≡ true) → without_member before x (map f ps ++ zs) ≡ map f ps ++ without_member before x zs
less_after before x f [] zs always = refl
less_after before x f (p ∷ ps) zs always = λ i. cond (always p i) (f p ∷ less_after before x f ps zs always i) (cond (before x (f p)) (f p ∷ map f ps ++ zs) (map f ps ++ zs))

-- what stands behind the tasks, and behind the actions
more_task : (t : ℕ) (qs us : List ℕ) → with_member mark_before (TaskOf t) (map action_at qs ++ map unit_at us) ≡ TaskOf t ∷ map action_at qs ++ map unit_at us
more_task t [] [] = refl
more_task t [] (u ∷ us) = refl
more_task t (a ∷ qs) us = refl

less_task : (t : ℕ) (qs us : List ℕ) → without_member mark_before (TaskOf t) (map action_at qs ++ map unit_at us) ≡ map action_at qs ++ map unit_at us
less_task t [] [] = refl
less_task t [] (u ∷ us) = refl
less_task t (a ∷ qs) us = refl

more_action : (a : ℕ) (us : List ℕ) → with_member mark_before (ActionOf a) (map unit_at us) ≡ ActionOf a ∷ map unit_at us
more_action a [] = refl
more_action a (u ∷ us) = refl

less_action : (a : ℕ) (us : List ℕ) → without_member mark_before (ActionOf a) (map unit_at us) ≡ map unit_at us
less_action a [] = refl
less_action a (u ∷ us) = refl

-- one more and one less of each kind
task_more : (b : Bool) (t : ℕ) (ts qs us : List ℕ) → marks_in (with_if ltb b t ts) qs us ≡ with_if mark_before b (TaskOf t) (marks_in ts qs us)
task_more false t ts qs us = refl
task_more true t ts qs us = sym (more_in mark_before task_at t ts (map action_at qs ++ map unit_at us) (λ j. refl) (more_task t qs us))

task_less : (b : Bool) (t : ℕ) (ts qs us : List ℕ) → marks_in (without_if ltb b t ts) qs us ≡ without_if mark_before b (TaskOf t) (marks_in ts qs us)
task_less false t ts qs us = refl
task_less true t ts qs us = sym (less_in mark_before task_at t ts (map action_at qs ++ map unit_at us) (λ j. refl) (λ j. refl) (less_task t qs us))

action_more : (b : Bool) (a : ℕ) (ts qs us : List ℕ) → marks_in ts (with_if ltb b a qs) us ≡ with_if mark_before b (ActionOf a) (marks_in ts qs us)
action_more false a ts qs us = refl
action_more true a ts qs us =
    sym (more_behind mark_before (ActionOf a) task_at ts (map action_at qs ++ map unit_at us) (λ j. refl)
    ∙ ap (λ l. map task_at ts ++ l) (more_in mark_before action_at a qs (map unit_at us) (λ j. refl) (more_action a us)))

action_less : (b : Bool) (a : ℕ) (ts qs us : List ℕ) → marks_in ts (without_if ltb b a qs) us ≡ without_if mark_before b (ActionOf a) (marks_in ts qs us)
action_less false a ts qs us = refl
action_less true a ts qs us =
    sym (less_after mark_before (ActionOf a) task_at ts (map action_at qs ++ map unit_at us) (λ j. refl)
    ∙ ap (λ l. map task_at ts ++ l) (less_in mark_before action_at a qs (map unit_at us) (λ j. refl) (λ j. refl) (less_action a us)))

unit_more : (b : Bool) (u : ℕ) (ts qs us : List ℕ) → marks_in ts qs (with_if ltb b u us) ≡ with_if mark_before b (UnitOf u) (marks_in ts qs us)
unit_more false u ts qs us = refl
unit_more true u ts qs us =
    sym (more_behind mark_before (UnitOf u) task_at ts (map action_at qs ++ map unit_at us) (λ j. refl)
    ∙ ap (λ l. map task_at ts ++ l)
    (more_behind mark_before (UnitOf u) action_at qs (map unit_at us) (λ j. refl) ∙ ap (λ l. map action_at qs ++ l) (more_last mark_before unit_at u us (λ j. refl))))

unit_less : (b : Bool) (u : ℕ) (ts qs us : List ℕ) → marks_in ts qs (without_if ltb b u us) ≡ without_if mark_before b (UnitOf u) (marks_in ts qs us)
unit_less false u ts qs us = refl
unit_less true u ts qs us =
    sym (less_after mark_before (UnitOf u) task_at ts (map action_at qs ++ map unit_at us) (λ j. refl)
    ∙ ap (λ l. map task_at ts ++ l)
    (less_after mark_before (UnitOf u) action_at qs (map unit_at us) (λ j. refl) ∙ ap (λ l. map action_at qs ++ l) (less_last mark_before unit_at u us (λ j. refl) (λ j. refl))))

-- a mark doesn't go from Running by the worker to the same
not_both : (s : StateView) (w : WorkerId) (m : MarkId) (from to : Mark) → can s w (Move m from to) ≡ true → runs_by w from ≡ true → runs_by w to ≡ true → ⊥
not_both s w m from to h was is =
    let first = and_parts _ (names_only to w) h in
    let second = and_parts _ (names_only from w) first.0 in
    let differ : not (same_mark from to) ≡ true = (and_parts (same_mark (mark_of s m) from) (not (same_mark from to)) second.0).1 in
    let same : same_mark from to ≡ true = (λ i. same_mark (running_of w from was i) (running_of w to is i)) ∙ eq-eqb w.0 w.0 refl in
    absurd (cc)

pub own_claimed : (s : StateView) (w : WorkerId) (c : Change) → NamesOnly s c → can s w c ≡ true → claimed (make s w c) w ≡ claimed_after w (claimed s w) c
own_claimed s w (Move (TaskOf t) from to) named h =
    let ts = places_from (runs_by w) 0 s.tasks in
    let qs = places_from (runs_by w) 0 s.actions in
    let us = places_from (runs_by w) 0 s.units in
    let at = (moves s w (TaskOf t) from to h).at in
    ap (λ (l : List ℕ). marks_in l qs us) (written (runs_by w) to Waiting (runs_by w from) (runs_by w to) t s.tasks named (ap (runs_by w) at) refl (not_both s w (TaskOf t) from to h))
    ∙ (task_more (runs_by w to) t (without_if ltb (runs_by w from) t ts) qs us ∙ ap (λ l. with_if mark_before (runs_by w to) (TaskOf t) l) (task_less (runs_by w from) t ts qs us))
own_claimed s w (Move (ActionOf a) from to) named h =
    let ts = places_from (runs_by w) 0 s.tasks in
    let qs = places_from (runs_by w) 0 s.actions in
    let us = places_from (runs_by w) 0 s.units in
    let at = (moves s w (ActionOf a) from to h).at in
    ap (λ (l : List ℕ). marks_in ts l us) (written (runs_by w) to Waiting (runs_by w from) (runs_by w to) a s.actions named (ap (runs_by w) at) refl (not_both s w (ActionOf a) from to h))
    ∙ (action_more (runs_by w to) a ts (without_if ltb (runs_by w from) a qs) us ∙ ap (λ l. with_if mark_before (runs_by w to) (ActionOf a) l) (action_less (runs_by w from) a ts qs us))
own_claimed s w (Move (UnitOf u) from to) named h =
    let ts = places_from (runs_by w) 0 s.tasks in
    let qs = places_from (runs_by w) 0 s.actions in
    let us = places_from (runs_by w) 0 s.units in
    let at = (moves s w (UnitOf u) from to h).at in
    ap (λ (l : List ℕ). marks_in ts qs l) (written (runs_by w) to Waiting (runs_by w from) (runs_by w to) u s.units named (ap (runs_by w) at) refl (not_both s w (UnitOf u) from to h))
    ∙ (unit_more (runs_by w to) u ts qs (without_if ltb (runs_by w from) u us) ∙ ap (λ l. with_if mark_before (runs_by w to) (UnitOf u) l) (unit_less (runs_by w from) u ts qs us))
own_claimed s w (Lock l) named h = refl
own_claimed s w (Unlock l) named h = refl
own_claimed s w Take named h = refl
own_claimed s w Give named h = refl
own_claimed s w (Park l) named h = refl
own_claimed s w (Unpark l) named h = refl
own_claimed s w Enter named h = refl
own_claimed s w Leave named h = refl

-- the locks, by the places where a worker is the owner
abbrev lock_at : ℕ → LockId
lock_at n = record { 0 = n }

owned_places : (n : ℕ) (os : List (Option WorkerId)) (w : WorkerId) → owned_from n os w ≡ map lock_at (places_from (λ o. is_owner o w) n os)
owned_places n [] w = refl
owned_places n (o ∷ os) w =
    let rest = owned_places (n + 1) os w in
    at (is_owner o w) rest
  where
    at : (b : Bool) → owned_from (n + 1) os w ≡ map lock_at (places_from (λ p. is_owner p w) (n + 1) os)
        → cond b (lock_at n ∷ owned_from (n + 1) os w) (owned_from (n + 1) os w) ≡ map lock_at (cond b (n ∷ places_from (λ p. is_owner p w) (n + 1) os) (places_from (λ p. is_owner p w) (n + 1) os))
    at true rest = ap (λ (l : List LockId). lock_at n ∷ l) rest
    at false rest = rest

pub own_locks : (s : StateView) (w : WorkerId) (c : Change) → NamesOnly s c → can s w c ≡ true → owned (make s w c) w ≡ locks_after (owned s w) c
own_locks s w (Lock l) named h =
    let mine : Option WorkerId → Bool = λ o. is_owner o w in
    let ps = places_from mine 0 s.owners in
    let free : is_owner (owner_of s l) w ≡ false = ap mine (none_owns s w l h) in
    owned_places 0 (set s.owners l.0 (Some w)) w
    ∙ (ap (map lock_at) (come_first mine (Some w) None l.0 s.owners named free (eq-eqb w.0 w.0 refl))
    ∙ (sym (more_last lock_before lock_at l.0 ps (λ j. refl)) ∙ ap (λ (ls : List LockId). with_member lock_before l ls) (sym (owned_places 0 s.owners w))))
own_locks s w (Unlock l) named h =
    let mine : Option WorkerId → Bool = λ o. is_owner o w in
    let ps = places_from mine 0 s.owners in
    owned_places 0 (set s.owners l.0 None) w
    ∙ (ap (map lock_at) (gone_first mine None None l.0 s.owners named h refl)
    ∙ (sym (less_last lock_before lock_at l.0 ps (λ j. refl) (λ j. refl)) ∙ ap (λ (ls : List LockId). without_member lock_before l ls) (sym (owned_places 0 s.owners w))))
own_locks s w (Move (TaskOf t) from to) named h = refl
own_locks s w (Move (ActionOf a) from to) named h = refl
own_locks s w (Move (UnitOf u) from to) named h = refl
own_locks s w Take named h = refl
own_locks s w Give named h = refl
own_locks s w (Park l) named h = refl
own_locks s w (Unpark l) named h = refl
own_locks s w Enter named h = refl
own_locks s w Leave named h = refl

pub own_holding : (s : StateView) (w : WorkerId) (c : Change) → IsWorkerOf s w → holding_of (make s w c) w ≡ holding_after (holding_of s w) c
own_holding s w (Lock l) worker = refl
own_holding s w (Unlock l) worker = refl
own_holding s w (Move (TaskOf t) from to) worker = refl
own_holding s w (Move (ActionOf a) from to) worker = refl
own_holding s w (Move (UnitOf u) from to) worker = refl
own_holding s w Take worker = holding_now s w _ worker
own_holding s w Give worker = holding_now s w _ worker
own_holding s w (Park l) worker = holding_now s w _ worker
own_holding s w (Unpark l) worker = holding_now s w _ worker
own_holding s w Enter worker = holding_now s w _ worker
own_holding s w Leave worker = holding_now s w _ worker

-- the same of changes in order, as an entry has them
pub own_claimed_all : (s : StateView) (w : WorkerId) (cs : List Change) → AllByRecursion (NamesOnly s) cs → can_all s w cs ≡ true → claimed (make_all s w cs) w ≡ after_all (claimed_after w) (claimed s w) cs
own_claimed_all s w [] named h = refl
own_claimed_all s w (c ∷ cs) named h =
    let p = and_parts (can s w c) (can_all (make s w c) w cs) h in
    own_claimed_all (make s w c) w cs (all_named_along s (make s w c) cs (same_shape-make s w c) named.1) p.1
    ∙ ap (λ (ms : List MarkId). after_all (claimed_after w) ms cs) (own_claimed s w c named.0 p.0)

pub own_locks_all : (s : StateView) (w : WorkerId) (cs : List Change) → AllByRecursion (NamesOnly s) cs → can_all s w cs ≡ true → owned (make_all s w cs) w ≡ after_all locks_after (owned s w) cs
own_locks_all s w [] named h = refl
own_locks_all s w (c ∷ cs) named h =
    let p = and_parts (can s w c) (can_all (make s w c) w cs) h in
    own_locks_all (make s w c) w cs (all_named_along s (make s w c) cs (same_shape-make s w c) named.1) p.1
    ∙ ap (λ (ls : List LockId). after_all locks_after ls cs) (own_locks s w c named.0 p.0)

pub own_holding_all : (s : StateView) (w : WorkerId) (cs : List Change) → IsWorkerOf s w → holding_of (make_all s w cs) w ≡ after_all holding_after (holding_of s w) cs
own_holding_all s w [] worker = refl
own_holding_all s w (c ∷ cs) worker =
    own_holding_all (make s w c) w cs (worker_along s (make s w c) w (same_shape-make s w c) worker) ∙ ap (λ (x : Holding). after_all holding_after x cs) (own_holding s w c worker)
