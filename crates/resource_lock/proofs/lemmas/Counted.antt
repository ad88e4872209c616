-- How many locks a worker owns, and how many marks run by it, after a change.
use Rattle.std.proofs.Common.{◌≡◌, ℕ, ◌+◌, ◌^◌, ◌<◌, ◌≤◌, List, [], ◌∷◌, length, Bool, true, false, not, ◌&&◌, ◌||◌, ltb, zero, suc, refl, sym, ◌∙◌, ap, arith, get_or, set, replicate, None, Some}
use Rattle.std.specs.List.{list_any, count_by}
use Rattle.std.specs.Option.{is_none}
use Rattle.std.proofs.lemmas.Bool.{and_parts, lt-ltb, eq-eqb, ne_eqb}
use Rattle.std.proofs.lemmas.List.Sums.{sum_by-cons, get_or-le-sum_by, count_by-le-length}
use Rattle.std.proofs.lemmas.List.{length-set}
use Rattle.resource_lock.proofs.lemmas.Lists.{one_if, count_by-set}
use Rattle.resource_lock.proofs.lemmas.Undo.{same_mark_is, none_from, owner_from}
use Rattle.resource_lock.proofs.lemmas.Others.{not_running}
use Rattle.resource_lock.specs.StateView.{StateView, owner_of, kept_from, is_owner, mark_of, has_parked, runs_by}
use Rattle.resource_lock.specs.Change.{same_mark, names_only, can, make, NamesOnly}
use Rattle.resource_lock.specs.Counting.{counts_of}
use Rattle.resource_lock.specs.Holdings.{runs, counts_after, recounted, CanRecount}
use Rattle.resource_lock.specs.declared.ids.LockId.{LockId}
use Rattle.resource_lock.specs.declared.ids.WorkerId.{WorkerId}
use Rattle.resource_lock.specs.declared.marks.Mark.{Mark}
use Rattle.resource_lock.specs.declared.marks.Mark.TheVariants.{Waiting}
use Rattle.resource_lock.specs.declared.marks.MarkId.{MarkId}
use Rattle.resource_lock.specs.declared.marks.MarkId.TheVariants.{Task as TaskOf, Action as ActionOf, Unit as UnitOf}
use Rattle.resource_lock.specs.declared.changes.Change.{Change}
use Rattle.resource_lock.specs.declared.changes.Change.TheVariants.{Lock, Unlock, Take, Give, Move, Park, Unpark, Enter, Leave}
use Rattle.resource_lock.specs.declared.states.held.Counts.{Counts}

any_step : (b c : Bool) (n : ℕ) → c ≡ ltb 0 n → (b || c) ≡ ltb 0 (one_if b + n)
any_step true c n e = sym (lt-ltb 0 (1 + n) (omega arith))
any_step false c n e = e ∙ ap (ltb 0) (omega arith)

-- some member passes where more than none do
pub any_counted : {X : Type 0} (p : X → Bool) (xs : List X) → list_any p xs ≡ ltb 0 (count_by p xs)
any_counted p [] = refl
any_counted p (x ∷ xs) = any_step (p x) (list_any p xs) (count_by p xs) (any_counted p xs) ∙ ap (ltb 0) (sym (sum_by-cons (λ y. one_if (p y)) x xs))

-- of copies of what doesn't pass, none do
pub none_counted : {X : Type 0} (p : X → Bool) (n : ℕ) (x : X) → p x ≡ false → count_by p (replicate n x) ≡ 0
none_counted p zero x e = refl
none_counted p (suc n) x e = omega (arith, sum_by-cons (λ y. one_if (p y)) x (replicate n x), none_counted p n x e, ap one_if e)

pub same_counts : {x y : Counts} → x.locks ≡ y.locks → x.tasks ≡ y.tasks → x.actions ≡ y.actions → x.units ≡ y.units → x ≡ y
same_counts {x} {y} a b c d =
    ap (λ n. record x { locks = n }) a
    ∙ ap (λ n. record x { locks = y.locks; tasks = n }) b
    ∙ ap (λ n. record x { locks = y.locks; tasks = y.tasks; actions = n }) c
    ∙ ap (λ n. record y { units = n }) d

-- one mark of a list is moved, which ran by the worker or not, as it does now or not
moved : (marks : List Mark) (i : ℕ) (w : WorkerId) (from to : Mark) → i < length marks → get_or marks i Waiting ≡ from → (runs w from ≤ count_by (runs_by w) marks) × (count_by (runs_by w) (set marks i to) ≡ recounted (count_by (runs_by w) marks) w from to)
moved marks i w from to within at =
    let some : one_if (runs_by w (get_or marks i Waiting)) ≤ count_by (runs_by w) marks = get_or-le-sum_by (λ m. one_if (runs_by w m)) marks i Waiting within in
    let was : one_if (runs_by w (get_or marks i Waiting)) ≡ runs w from = ap (λ m. one_if (runs_by w m)) at in
    let now : count_by (runs_by w) (set marks i to) + one_if (runs_by w (get_or marks i Waiting)) ≡ count_by (runs_by w) marks + runs w to = count_by-set (runs_by w) marks i to Waiting within in
    (omega arith, omega arith)

-- both counts can be worked out
pub can_recount : (marks : List Mark) (i : ℕ) (w : WorkerId) (from to : Mark) (n : ℕ) → i < length marks → get_or marks i Waiting ≡ from → n ≡ count_by (runs_by w) marks → length marks < 2 ^ 64 → CanRecount n w from to
can_recount marks i w from to n within at is short =
    let both : (runs w from ≤ count_by (runs_by w) marks) × (count_by (runs_by w) (set marks i to) ≡ recounted (count_by (runs_by w) marks) w from to) = moved marks i w from to within at in
    let few : count_by (runs_by w) (set marks i to) ≤ length (set marks i to) = count_by-le-length (runs_by w) (set marks i to) in
    let same : length (set marks i to) ≡ length marks = length-set marks i to in
    (omega (arith, both.0), omega (arith, both.1, ap (λ k. recounted k w from to) is))

-- or by neither
unmoved : (marks : List Mark) (i : ℕ) (w : WorkerId) (from to : Mark) → i < length marks → get_or marks i Waiting ≡ from → runs_by w from ≡ false → runs_by w to ≡ false → count_by (runs_by w) (set marks i to) ≡ count_by (runs_by w) marks
unmoved marks i w from to within at not_from not_to = omega (arith, count_by-set (runs_by w) marks i to Waiting within, ap (λ m. one_if (runs_by w m)) at, ap one_if not_from, ap one_if not_to)

-- a move that can be made
pub record Moves (s : StateView) (w : WorkerId) (m : MarkId) (from to : Mark) : Type 0 where
  pub at : mark_of s m ≡ from
  pub from_own : names_only from w ≡ true
  pub to_own : names_only to w ≡ true

pub moves : (s : StateView) (w : WorkerId) (m : MarkId) (from to : Mark) → can s w (Move m from to) ≡ true → Moves s w m from to
moves s w m from to h =
    let first : ((same_mark (mark_of s m) from && not (same_mark from to) && names_only from w) ≡ true) × (names_only to w ≡ true) = and_parts _ (names_only to w) h in
    let second : ((same_mark (mark_of s m) from && not (same_mark from to)) ≡ true) × (names_only from w ≡ true) = and_parts _ (names_only from w) first.0 in
    record { at = same_mark_is (mark_of s m) from (and_parts (same_mark (mark_of s m) from) (not (same_mark from to)) second.0).0; from_own = second.1; to_own = first.1 }

-- the owner of a lock before it is taken, and before it is given back
pub none_owns : (s : StateView) (w : WorkerId) (l : LockId) → can s w (Lock l) ≡ true → owner_of s l ≡ None
none_owns s w l h = none_from (owner_of s l) (and_parts (is_none (owner_of s l)) (not (kept_from s w l)) (and_parts (is_none (owner_of s l) && not (kept_from s w l)) (not (has_parked s w l)) h).0).0

nobody : (s : StateView) (v w : WorkerId) (l : LockId) → can s w (Lock l) ≡ true → is_owner (owner_of s l) v ≡ false
nobody s v w l h = ap (λ o. is_owner o v) (none_owns s w l h)

-- what the worker's own change leaves of its counts
pub own_counts : (s : StateView) (w : WorkerId) (c : Change) → NamesOnly s c → can s w c ≡ true → counts_of (make s w c) w ≡ counts_after w (counts_of s w) c
own_counts s w (Lock l) named h = same_counts (omega (arith, count_by-set (λ o. is_owner o w) s.owners l.0 (Some w) None named, ap one_if (nobody s w w l h), ap one_if (eq-eqb w.0 w.0 refl))) refl refl refl
own_counts s w (Unlock l) named h = same_counts (omega (arith, count_by-set (λ o. is_owner o w) s.owners l.0 None None named, ap one_if h)) refl refl refl
own_counts s w (Move (TaskOf t) from to) named h = same_counts refl (moved s.tasks t w from to named (moves s w (TaskOf t) from to h).at).1 refl refl
own_counts s w (Move (ActionOf a) from to) named h = same_counts refl refl (moved s.actions a w from to named (moves s w (ActionOf a) from to h).at).1 refl
own_counts s w (Move (UnitOf u) from to) named h = same_counts refl refl refl (moved s.units u w from to named (moves s w (UnitOf u) from to h).at).1
own_counts s w Take named h = refl
own_counts s w Give named h = refl
own_counts s w (Park l) named h = refl
own_counts s w (Unpark l) named h = refl
own_counts s w Enter named h = refl
own_counts s w Leave named h = refl

-- what another's change leaves of them: all
pub other_counts : (s : StateView) (v w : WorkerId) (c : Change) → (w.0 ≡ v.0 → ⊥) → NamesOnly s c → can s v c ≡ true → counts_of (make s v c) w ≡ counts_of s w
other_counts s v w (Lock l) other named h = same_counts (omega (arith, count_by-set (λ o. is_owner o w) s.owners l.0 (Some v) None named, ap one_if (nobody s w v l h), ap one_if (ne_eqb v.0 w.0 (λ e. other (sym e))))) refl refl refl
other_counts s v w (Unlock l) other named h = same_counts (omega (arith, count_by-set (λ o. is_owner o w) s.owners l.0 None None named, ap (λ o. one_if (is_owner o w)) (owner_from (owner_of s l) v h), ap one_if (ne_eqb v.0 w.0 (λ e. other (sym e))))) refl refl refl
other_counts s v w (Move (TaskOf t) from to) other named h = let m : Moves s v (TaskOf t) from to = moves s v (TaskOf t) from to h in same_counts refl (unmoved s.tasks t w from to named m.at (not_running v w from other m.from_own) (not_running v w to other m.to_own)) refl refl
other_counts s v w (Move (ActionOf a) from to) other named h = let m : Moves s v (ActionOf a) from to = moves s v (ActionOf a) from to h in same_counts refl refl (unmoved s.actions a w from to named m.at (not_running v w from other m.from_own) (not_running v w to other m.to_own)) refl
other_counts s v w (Move (UnitOf u) from to) other named h = let m : Moves s v (UnitOf u) from to = moves s v (UnitOf u) from to h in same_counts refl refl refl (unmoved s.units u w from to named m.at (not_running v w from other m.from_own) (not_running v w to other m.to_own))
other_counts s v w Take other named h = refl
other_counts s v w Give other named h = refl
other_counts s v w (Park l) other named h = refl
other_counts s v w (Unpark l) other named h = refl
other_counts s v w Enter other named h = refl
other_counts s v w Leave other named h = refl
