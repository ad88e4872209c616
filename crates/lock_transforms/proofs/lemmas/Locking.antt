-- Where a lock that the worker doesn't own can be taken.
use Rattle.std.proofs.Common.{◌≡◌, true, false, not, ◌&&◌, ◌||◌, eqb, Option, None, Some, refl, ◌∙◌, ap}
use Rattle.std.specs.List.{list_any}
use Rattle.std.specs.Option.{is_none}
use Rattle.std.proofs.lemmas.Bool.{and_from, and_right, both_ways, not-false, not_from_false, or_parts}
use Rattle.resource_lock.specs.Change.{can}
use Rattle.resource_lock.specs.StateView.{StateView, all_owner, has_parked, is_all, is_other, is_owner, kept_from, owner_of, owns}
use Rattle.resource_lock.specs.declared.changes.Change.TheVariants.{Lock}
use Rattle.resource_lock.specs.declared.ids.LockId.{LockId}
use Rattle.resource_lock.specs.declared.ids.WorkerId.{WorkerId}

-- an owner that is neither the worker nor another is none
no_owner : (o : Option WorkerId) (w : WorkerId) → is_owner o w ≡ false → is_other o w ≡ false → is_none o ≡ true
no_owner None w own other = refl
no_owner (Some v) w own other = absurd (both_ways (eqb v.0 w.0) own (not-false (eqb v.0 w.0) other))

-- the first of the locks that can keep the worker from one is that lock
not_others : (s : StateView) (w : WorkerId) (l : LockId) → kept_from s w l ≡ false → is_other (owner_of s l) w ≡ false
not_others s w l kept = (or_parts (is_other (owner_of s l) w) (is_other (all_owner s) w) (or_parts (is_other (owner_of s l) w || is_other (all_owner s) w) (is_all s l && list_any (λ o. is_other o w) s.owners) kept).0).0

pub free_lock : (s : StateView) (w : WorkerId) (l : LockId) → owns s w l ≡ false → kept_from s w l ≡ false → is_none (owner_of s l) ≡ true
free_lock s w l own kept = no_owner (owner_of s l) w own (not_others s w l kept)

pub can_lock : (s : StateView) (w : WorkerId) (l : LockId) → owns s w l ≡ false → kept_from s w l ≡ false → has_parked s w l ≡ false → can s w (Lock l) ≡ true
can_lock s w l own kept absent =
    and_from (is_none (owner_of s l) && not (kept_from s w l)) (not (has_parked s w l))
    (and_from (is_none (owner_of s l)) (not (kept_from s w l)) (free_lock s w l own kept) (not_from_false (kept_from s w l) kept))
    (not_from_false (has_parked s w l) absent)

pub cannot_lock : (s : StateView) (w : WorkerId) (l : LockId) → kept_from s w l ≡ true → can s w (Lock l) ≡ false
cannot_lock s w l kept = ap (λ b. b && not (has_parked s w l)) (ap (λ b. is_none (owner_of s l) && not b) kept ∙ and_right (is_none (owner_of s l)) false refl)
