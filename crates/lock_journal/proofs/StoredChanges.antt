-- A stored change is the change, in an entry of its worker.
use Rattle.std.specs.Prelude.{map}
use Rattle.std.specs.List.{AllByRecursion}
use Rattle.std.proofs.Common.{◌≡◌, true, List, [], ◌∷◌, refl, sym, ap, ap₂}
use Rattle.std.proofs.lemmas.Bool.{and_parts, eqb-true}
use Rattle.lock_journal.specs.Names.{can, can_all, make, names_only, StateView, Change, Lock, Unlock, Take, Give, Move, Unpark, Enter, Leave}
use Rattle.lock_journal.specs.Names.{WorkerId, Mark, Waiting, Queued, Running, Passed, Failed, Skipped, TaskOf, ActionOf, UnitOf, IsOwnChange}
use Rattle.lock_journal.specs.Names.{change_of_worker, stored_change}
use Rattle.resource_lock.specs.declared.changes.Change.TheVariants.{Park}
use Rattle.resource_lock.proofs.lemmas.Counted.{moves}
use Rattle.resource_lock.proofs.lemmas.Undo.{same_worker}
use Rattle.lock_journal.specs.StoredChange.{mark_of_worker, stored_mark}

mark_back : (w : WorkerId) (m : Mark) → names_only m w ≡ true → mark_of_worker w (stored_mark m) ≡ m
mark_back w Waiting own = refl
mark_back w Queued own = refl
mark_back w (Running v) own = ap Running (sym (same_worker v w (eqb-true v.0 w.0 own)))
mark_back w Passed own = refl
mark_back w Failed own = refl
mark_back w Skipped own = refl

-- what is read of what is stored of a change of the worker is the change
pub change_back : (w : WorkerId) (c : Change) → IsOwnChange w c → change_of_worker w (stored_change c) ≡ c
change_back w (Lock l) own = refl
change_back w (Unlock l) own = refl
change_back w Take own = refl
change_back w Give own = refl
change_back w (Move (TaskOf t) from to) own = ap₂ (Move (TaskOf t)) (mark_back w from own.0) (mark_back w to own.1)
change_back w (Move (ActionOf a) from to) own = ap₂ (Move (ActionOf a)) (mark_back w from own.0) (mark_back w to own.1)
change_back w (Move (UnitOf u) from to) own = ap₂ (Move (UnitOf u)) (mark_back w from own.0) (mark_back w to own.1)
change_back w (Park l) own = refl
change_back w (Unpark l) own = refl
change_back w Enter own = refl
change_back w Leave own = refl

pub changes_back : (w : WorkerId) (cs : List Change) → AllByRecursion (IsOwnChange w) cs → map (change_of_worker w) (map stored_change cs) ≡ cs
changes_back w [] own = refl
changes_back w (c ∷ cs) own = ap₂ ◌∷◌ (change_back w c own.0) (changes_back w cs own.1)

-- a change that the worker can make is its own
own_change : (s : StateView) (w : WorkerId) (c : Change) → can s w c ≡ true → IsOwnChange w c
own_change s w (Move m from to) h = let moved = moves s w m from to h in (moved.from_own, moved.to_own)
own_change s w (Lock l) h = tt
own_change s w (Unlock l) h = tt
own_change s w Take h = tt
own_change s w Give h = tt
own_change s w (Park l) h = tt
own_change s w (Unpark l) h = tt
own_change s w Enter h = tt
own_change s w Leave h = tt

pub own_changes : (s : StateView) (w : WorkerId) (cs : List Change) → can_all s w cs ≡ true → AllByRecursion (IsOwnChange w) cs
own_changes s w [] h = tt
own_changes s w (c ∷ cs) h = let both = and_parts (can s w c) (can_all (make s w c) w cs) h in (own_change s w c both.0, own_changes (make s w c) w cs both.1)
