-- What a list of changes does to the marks: each mark stays, or goes where one of the moves leads.
use Rattle.std.proofs.Common.{◌≡◌, ℕ, ◌⊎◌, true, List, [], ◌∷◌, ◌++◌, get_or, set, Option, refl, sym, ap, ◌∙◌, subst, inl, inr, arith}
use Rattle.std.proofs.lemmas.Bool.{and_parts}
use Rattle.std.proofs.lemmas.List.{get_or-set_same}
use Rattle.lock_journal.specs.Names.{Change, Lock, Unlock, Take, Give, Move, ParkLock, Unpark, Enter, Leave, WorkerId, Mark, Waiting, MarkId, TaskOf}
use Rattle.lock_journal.specs.Names.{ActionOf, UnitOf, can, make, make_all, can_all, SameShape, StateView, Holding, mark_of, IsMarkOf}
use Rattle.resource_lock.specs.Change.{with_mark}
use Rattle.resource_lock.proofs.lemmas.Lists.{get_or-set_cases}
use Rattle.resource_lock.proofs.lemmas.Runs.{same_shape-make}
use Rattle.resource_lock.proofs.lemmas.Undo.{same_mark_is}

-- P holds of each move, of its mark's number, where it goes from and where it goes to
abbrev pub MoveIs : (MarkId → Mark → Mark → Type 0) → Change → Type 0
MoveIs P (Move m from to) = P m from to
MoveIs P _ = Unit {0}

abbrev pub AllMoves : (MarkId → Mark → Mark → Type 0) → List Change → Type 0
AllMoves P [] = Unit {0}
AllMoves P (c ∷ cs) = MoveIs P c × AllMoves P cs

pub record Moved (P : MarkId → Mark → Mark → Type 0) (m : MarkId) (old new : Mark) : Type 0 where
  pub first_to : Mark
  pub first : P m old first_to
  pub last_from : Mark
  pub last : P m last_from new

-- the mark stays, or moves
abbrev pub StaysOrMoves : (MarkId → Mark → Mark → Type 0) → MarkId → Mark → Mark → Type 0
StaysOrMoves P m old new = (new ≡ old) ⊎ Moved P m old new

then_stays_or_moves : (P : MarkId → Mark → Mark → Type 0) (m : MarkId) (a b c : Mark) → StaysOrMoves P m a b → StaysOrMoves P m b c → StaysOrMoves P m a c
then_stays_or_moves P m a b c (inl p) (inl q) = inl (q ∙ p)
then_stays_or_moves P m a b c (inl p) (inr q) = inr (subst (λ x. Moved P m x c) p q)
then_stays_or_moves P m a b c (inr p) (inl q) = inr (subst (λ x. Moved P m a x) (sym q) p)
then_stays_or_moves P m a b c (inr p) (inr q) = inr (record { first_to = p.first_to; first = p.first; last_from = q.last_from; last = q.last })

moved_here : (P : MarkId → Mark → Mark → Type 0) (k m : MarkId) (from to old new : Mark) → P k from to → k ≡ m → old ≡ from → new ≡ to → Moved P m old new
moved_here P k m from to old new p e o n =
    let q : P m from to = subst (λ z. P z from to) e p in
    record { first_to = to; first = subst (λ z. P m z to) (sym o) q; last_from = from; last = subst (λ z. P m from z) (sym n) q }

owners_stay : (s : StateView) (os : List (Option WorkerId)) (m : MarkId) → mark_of (record s { owners = os }) m ≡ mark_of s m
owners_stay s os (TaskOf t) = refl
owners_stay s os (ActionOf a) = refl
owners_stay s os (UnitOf u) = refl

holdings_stay : (s : StateView) (hs : List Holding) (m : MarkId) → mark_of (record s { holdings = hs }) m ≡ mark_of s m
holdings_stay s hs (TaskOf t) = refl
holdings_stay s hs (ActionOf a) = refl
holdings_stay s hs (UnitOf u) = refl

-- a move of a mark in one of the three lists
list_stays_or_moves : (P : MarkId → Mark → Mark → Type 0) (name : ℕ → MarkId) (xs : List Mark) (k m : ℕ) (from to : Mark) → P (name k) from to → get_or xs k Waiting ≡ from → StaysOrMoves P (name m) (get_or xs m Waiting) (get_or (set xs k to) m Waiting)
list_stays_or_moves P name xs k m from to p e = elim (get_or-set_cases xs k m to Waiting) [
  | inl here ↦ inr (moved_here P (name k) (name m) from to _ _ p (ap name (sym here.0)) (subst (λ n. get_or xs n Waiting ≡ from) (sym here.0) e) here.1)
  | inr same ↦ inl same
]

move_stays_or_moves : (P : MarkId → Mark → Mark → Type 0) (s : StateView) (k m : MarkId) (from to : Mark) → P k from to → mark_of s k ≡ from → StaysOrMoves P m (mark_of s m) (mark_of (with_mark s k to) m)
move_stays_or_moves P s (TaskOf k) (TaskOf m) from to p e = list_stays_or_moves P TaskOf s.tasks k m from to p e
move_stays_or_moves P s (ActionOf k) (ActionOf m) from to p e = list_stays_or_moves P ActionOf s.actions k m from to p e
move_stays_or_moves P s (UnitOf k) (UnitOf m) from to p e = list_stays_or_moves P UnitOf s.units k m from to p e
move_stays_or_moves P s (TaskOf k) (ActionOf m) from to p e = inl refl
move_stays_or_moves P s (TaskOf k) (UnitOf m) from to p e = inl refl
move_stays_or_moves P s (ActionOf k) (TaskOf m) from to p e = inl refl
move_stays_or_moves P s (ActionOf k) (UnitOf m) from to p e = inl refl
move_stays_or_moves P s (UnitOf k) (TaskOf m) from to p e = inl refl
move_stays_or_moves P s (UnitOf k) (ActionOf m) from to p e = inl refl

-- what a move that can be made goes from
moves_from : (s : StateView) (w : WorkerId) (m : MarkId) (from to : Mark) → can s w (Move m from to) ≡ true → mark_of s m ≡ from
moves_from s w m from to h = same_mark_is (mark_of s m) from (and_parts _ _ (and_parts _ _ (and_parts _ _ h).0).0).0

step_stays_or_moves : (P : MarkId → Mark → Mark → Type 0) (s : StateView) (w : WorkerId) (c : Change) → MoveIs P c → can s w c ≡ true → (m : MarkId) → StaysOrMoves P m (mark_of s m) (mark_of (make s w c) m)
step_stays_or_moves P s w (Lock l) p h m = inl (owners_stay s (make s w (Lock l)).owners m)
step_stays_or_moves P s w (Unlock l) p h m = inl (owners_stay s (make s w (Unlock l)).owners m)
step_stays_or_moves P s w Take p h m = inl (holdings_stay s (make s w Take).holdings m)
step_stays_or_moves P s w Give p h m = inl (holdings_stay s (make s w Give).holdings m)
step_stays_or_moves P s w (Move k from to) p h m = move_stays_or_moves P s k m from to p (moves_from s w k from to h)
step_stays_or_moves P s w (ParkLock l) p h m = inl (holdings_stay s (make s w (ParkLock l)).holdings m)
step_stays_or_moves P s w (Unpark l) p h m = inl (holdings_stay s (make s w (Unpark l)).holdings m)
step_stays_or_moves P s w Enter p h m = inl (holdings_stay s (make s w Enter).holdings m)
step_stays_or_moves P s w Leave p h m = inl (holdings_stay s (make s w Leave).holdings m)

pub stays_or_moves : (P : MarkId → Mark → Mark → Type 0) (cs : List Change) (s : StateView) (w : WorkerId) → AllMoves P cs → can_all s w cs ≡ true → (m : MarkId) → StaysOrMoves P m (mark_of s m) (mark_of (make_all s w cs) m)
stays_or_moves P [] s w p h m = inl refl
stays_or_moves P (c ∷ cs) s w p h m =
    let hs = and_parts (can s w c) (can_all (make s w c) w cs) h in
    then_stays_or_moves P m _ _ _ (step_stays_or_moves P s w c p.0 hs.0 m) (stays_or_moves P cs (make s w c) w p.1 hs.1 m)

-- one of the moves is of this mark
abbrev pub IsMoveOf : MarkId → Change → Type 0
IsMoveOf m (Move k from to) = m ≡ k
IsMoveOf m _ = ⊥

abbrev pub Names : MarkId → List Change → Type 0
Names m [] = ⊥
Names m (c ∷ cs) = IsMoveOf m c ⊎ Names m cs

within_shape : (s s' : StateView) → SameShape s s' → (m : MarkId) → IsMarkOf s m → IsMarkOf s' m
within_shape s s' e (TaskOf t) h = let a = e.tasks in omega arith
within_shape s s' e (ActionOf t) h = let a = e.actions in omega arith
within_shape s s' e (UnitOf t) h = let a = e.units in omega arith

move_moves_to : (s : StateView) (m : MarkId) (to : Mark) → IsMarkOf s m → mark_of (with_mark s m to) m ≡ to
move_moves_to s (TaskOf t) to h = get_or-set_same s.tasks t to Waiting h
move_moves_to s (ActionOf t) to h = get_or-set_same s.actions t to Waiting h
move_moves_to s (UnitOf t) to h = get_or-set_same s.units t to Waiting h

-- a move of this mark goes here
abbrev pub GoesTo : MarkId → Mark → MarkId → Mark → Mark → Type 0
GoesTo m r k from to = k ≡ m → to ≡ r

step_moves_to : (m : MarkId) (r : Mark) (s : StateView) (w : WorkerId) (c : Change) → MoveIs (GoesTo m r) c → IsMarkOf s m → IsMoveOf m c → mark_of (make s w c) m ≡ r
step_moves_to m r s w (Move k from to) p within e = subst (λ z. mark_of (with_mark s z to) m ≡ r) e (move_moves_to s m to within ∙ p (sym e))
step_moves_to m r s w (Lock l) p within e = absurd e
step_moves_to m r s w _ p within e = absurd e

-- a mark that is moved, each time to the same, is that afterwards
pub moves_to : (m : MarkId) (r : Mark) (cs : List Change) (s : StateView) (w : WorkerId) → AllMoves (GoesTo m r) cs → can_all s w cs ≡ true → IsMarkOf s m → (mark_of s m ≡ r) ⊎ Names m cs → mark_of (make_all s w cs) m ≡ r
moves_to m r [] s w p h within (inl e) = e
moves_to m r [] s w p h within (inr n) = absurd n
moves_to m r (c ∷ cs) s w p h within d =
    let hs = and_parts (can s w c) (can_all (make s w c) w cs) h in
    moves_to m r cs (make s w c) w p.1 hs.1 (within_shape s _ (same_shape-make s w c) m within) (next d)
  where
    stay : StaysOrMoves (GoesTo m r) m (mark_of s m) (mark_of (make s w c) m) → mark_of s m ≡ r → mark_of (make s w c) m ≡ r
    stay (inl same) e = same ∙ e
    stay (inr moved) e = moved.last refl

    next : (mark_of s m ≡ r) ⊎ (IsMoveOf m c ⊎ Names m cs) → (mark_of (make s w c) m ≡ r) ⊎ Names m cs
    next (inl e) = inl (stay (step_stays_or_moves (GoesTo m r) s w c p.0 (and_parts (can s w c) (can_all (make s w c) w cs) h).0 m) e)
    next (inr (inl here)) = inl (step_moves_to m r s w c p.0 within here)
    next (inr (inr later)) = inr later

-- moves of appended lists, and weaker facts of moves
pub AllMoves-append : (P : MarkId → Mark → Mark → Type 0) (cs ds : List Change) → AllMoves P cs → AllMoves P ds → AllMoves P (cs ++ ds)
AllMoves-append P [] ds p q = q
AllMoves-append P (c ∷ cs) ds p q = (p.0, AllMoves-append P cs ds p.1 q)

MoveIs-weaker : (P Q : MarkId → Mark → Mark → Type 0) → ((m : MarkId) (f x : Mark) → P m f x → Q m f x) → (c : Change) → MoveIs P c → MoveIs Q c
MoveIs-weaker P Q f (Move m from to) p = f m from to p
MoveIs-weaker P Q f (Lock l) p = tt
MoveIs-weaker P Q f _ p = tt

pub AllMoves-weaker : (P Q : MarkId → Mark → Mark → Type 0) → ((m : MarkId) (f x : Mark) → P m f x → Q m f x) → (cs : List Change) → AllMoves P cs → AllMoves Q cs
AllMoves-weaker P Q f [] p = tt
AllMoves-weaker P Q f (c ∷ cs) p = (MoveIs-weaker P Q f c p.0, AllMoves-weaker P Q f cs p.1)

pub Names-append_left : (m : MarkId) (cs ds : List Change) → Names m cs → Names m (cs ++ ds)
Names-append_left m [] ds n = absurd n
Names-append_left m (c ∷ cs) ds (inl n) = inl n
Names-append_left m (c ∷ cs) ds (inr n) = inr (Names-append_left m cs ds n)

pub Names-append_right : (m : MarkId) (cs ds : List Change) → Names m ds → Names m (cs ++ ds)
Names-append_right m [] ds n = n
Names-append_right m (c ∷ cs) ds n = inr (Names-append_right m cs ds n)
