-- An entry makes marks run or ends those that run, but not both. So on the way no state has more than the first or the last.
use Rattle.std.proofs.Common.{◌≡◌, ◌≤◌, ◌⊎◌, ℕ, suc, Bool, true, false, cond, List, [], ◌∷◌, ◌++◌, length, Some, None, inl, inr, refl, sym, ap, ◌∙◌, subst, arith}
use Rattle.std.specs.List.{AllByRecursion}
use Rattle.std.proofs.lemmas.Bool.{and_parts}
use Rattle.item_actions.specs.declared.outcomes.Outcome.{Outcome}
use Rattle.item_actions.specs.declared.outcomes.Outcome.TheVariants as outcomes
use Rattle.lock_journal.specs.Names.{can_all, make_all, NamesOnly, GraphView, BelongsTo, IsWorkerOf, StateView, runs_by, Change, Lock, Move, WorkerId}
use Rattle.lock_journal.specs.Names.{Mark, Passed, Failed, MarkId, TaskOf, ActionOf, UnitOf, Finishes, IsKindOf, mark_from, Kind, Start, Skip, Submit}
use Rattle.lock_journal.specs.Names.{Park, Resume, Claim, Close, Block, Unblock, End, Acquire, HandBack, claimed, after_all, claimed_after}
use Rattle.lock_journal.specs.Names.{mark_before, with_if, with_member, without_if, without_member}
use Rattle.resource_lock.proofs.lemmas.Runs.{all_named-append, can_all-append}
use Rattle.lock_journal.proofs.Marks.{AllMoves, AllMoves-weaker, MoveIs}
use Rattle.lock_journal.proofs.Moves.{MayMove, list_moves}
use Rattle.lock_journal.proofs.lemmas.OwnChanges.{own_claimed_all}
use Rattle.worker_notes.proofs.lemmas.FewMarks.{Keeps, few_claimed, keeps_on}

-- no move is of a mark that runs, or none is to one
abbrev FromOthers : WorkerId → MarkId → Mark → Mark → Type 0
FromOthers w m from to = runs_by w from ≡ false

abbrev ToOthers : WorkerId → MarkId → Mark → Mark → Type 0
ToOthers w m from to = runs_by w to ≡ false

-- what has ended runs no more
pub ended_by_nobody : (w : WorkerId) (o : Outcome) → runs_by w (mark_from o) ≡ false
ended_by_nobody w (outcomes.Number n) = refl
ended_by_nobody w (outcomes.Digest d) = refl
ended_by_nobody w outcomes.NotThere = refl
ended_by_nobody w _ = refl

either : (w : WorkerId) (b : Bool) → runs_by w (cond b Passed Failed) ≡ false
either w true = refl
either w false = refl

starts : (g : GraphView) (s : StateView) (w : WorkerId) (t : ℕ) (m : MarkId) (from to : Mark) → MayMove g s w (Start t) m from to → FromOthers w m from to
starts g s w t (TaskOf n) from to p = ap (runs_by w) p.1
starts g s w t _ from to p = absurd p

parks : (g : GraphView) (s : StateView) (w : WorkerId) (a : ℕ) (m : MarkId) (from to : Mark) → MayMove g s w (Park a) m from to → FromOthers w m from to
parks g s w a (ActionOf n) from to p = ap (runs_by w) p.1
parks g s w a _ from to p = absurd p

claims : (g : GraphView) (s : StateView) (w : WorkerId) (u : ℕ) (m : MarkId) (from to : Mark) → MayMove g s w (Claim u) m from to → FromOthers w m from to
claims g s w u (UnitOf n) from to p = ap (runs_by w) p.1
claims g s w u _ from to p = absurd p

fetches : (g : GraphView) (s : StateView) (w : WorkerId) (u : ℕ) (m : MarkId) (from to : Mark) → MayMove g s w (Block (Some u)) m from to → FromOthers w m from to
fetches g s w u (UnitOf n) from to p = ap (runs_by w) p.1
fetches g s w u _ from to p = absurd p

-- the kinds that make no mark run
abbrev MakesNoneRun : Kind → Type 0
MakesNoneRun (Start t) = ⊥
MakesNoneRun (Park a) = ⊥
MakesNoneRun (Claim u) = ⊥
MakesNoneRun (Block (Some u)) = ⊥
MakesNoneRun _ = Unit {0}

others : (g : GraphView) (s : StateView) (w : WorkerId) (k : Kind) → MakesNoneRun k → (m : MarkId) (from to : Mark) → MayMove g s w k m from to → ToOthers w m from to
others g s w (Start t) none m from to p = absurd none
others g s w (Park a) none m from to p = absurd none
others g s w (Claim u) none m from to p = absurd none
others g s w (Block (Some u)) none m from to p = absurd none
others g s w (Skip t) none (TaskOf n) from to p = ap (runs_by w) p.2
others g s w (Skip t) none (ActionOf n) from to p = ap (runs_by w) p.2
others g s w (Skip t) none (UnitOf n) from to p = ap (runs_by w) p.2
others g s w (Submit a) none (ActionOf n) from to p = ap (runs_by w) p.2
others g s w (Submit a) none (UnitOf n) from to p = ap (runs_by w) p.2
others g s w (Resume a) none (ActionOf n) from to p = ap (runs_by w) p.2
others g s w (Close d) none (UnitOf n) from to p = ap (runs_by w) p.2 ∙ ended_by_nobody w d.outcome
others g s w (Unblock (Some d)) none (UnitOf n) from to p = ap (runs_by w) p.2 ∙ ended_by_nobody w d.outcome
others g s w (End t) none (TaskOf n) from to p = ap (runs_by w) p.2 ∙ either w _
others g s w (End t) none (ActionOf n) from to p = ap (runs_by w) p.2
others g s w (End t) none (UnitOf n) from to p = ap (runs_by w) p.2
others g s w _ none _ from to p = absurd p

abbrev GoesOneWay : WorkerId → List Change → Type 0
GoesOneWay w cs = AllMoves (FromOthers w) cs ⊎ AllMoves (ToOthers w) cs

from_others : (g : GraphView) (s : StateView) (w : WorkerId) (k : Kind) (cs : List Change) → AllMoves (MayMove g s w k) cs → ((m : MarkId) (from to : Mark) → MayMove g s w k m from to → FromOthers w m from to) → GoesOneWay w cs
from_others g s w k cs moves each = inl (AllMoves-weaker (MayMove g s w k) (FromOthers w) each cs moves)

to_others : (g : GraphView) (s : StateView) (w : WorkerId) (k : Kind) (cs : List Change) → AllMoves (MayMove g s w k) cs → MakesNoneRun k → GoesOneWay w cs
to_others g s w k cs moves none = inr (AllMoves-weaker (MayMove g s w k) (ToOthers w) (others g s w k none) cs moves)

one_way : (g : GraphView) (s : StateView) (w : WorkerId) (k : Kind) (cs : List Change) → AllMoves (MayMove g s w k) cs → GoesOneWay w cs
one_way g s w (Start t) cs moves = from_others g s w (Start t) cs moves (starts g s w t)
one_way g s w (Park a) cs moves = from_others g s w (Park a) cs moves (parks g s w a)
one_way g s w (Claim u) cs moves = from_others g s w (Claim u) cs moves (claims g s w u)
one_way g s w (Block (Some u)) cs moves = from_others g s w (Block (Some u)) cs moves (fetches g s w u)
one_way g s w (Block None) cs moves = to_others g s w (Block None) cs moves tt
one_way g s w (Skip t) cs moves = to_others g s w (Skip t) cs moves tt
one_way g s w (Submit a) cs moves = to_others g s w (Submit a) cs moves tt
one_way g s w (Resume a) cs moves = to_others g s w (Resume a) cs moves tt
one_way g s w (Close d) cs moves = to_others g s w (Close d) cs moves tt
one_way g s w (Unblock o) cs moves = to_others g s w (Unblock o) cs moves tt
one_way g s w (End t) cs moves = to_others g s w (End t) cs moves tt
one_way g s w Acquire cs moves = to_others g s w Acquire cs moves tt
one_way g s w HandBack cs moves = to_others g s w HandBack cs moves tt

-- how long the lists are
pub length_with : {X : Type 0} (before : X → X → Bool) (x : X) (xs : List X) → length (with_member before x xs) ≡ suc (length xs)
length_with before x [] = refl
length_with before x (y ∷ ys) = at (before y x) (length_with before x ys)
  where
    at : (b : Bool) → length (with_member before x ys) ≡ suc (length ys) → length (cond b (y ∷ with_member before x ys) (x ∷ y ∷ ys)) ≡ suc (length (y ∷ ys))
    at true rest = omega arith
    at false rest = refl

pub length_without : {X : Type 0} (before : X → X → Bool) (x : X) (xs : List X) → length (without_member before x xs) ≤ length xs
length_without before x [] = omega arith
length_without before x (y ∷ ys) = at (before y x) (before x y) (length_without before x ys)
  where
    at : (b c : Bool) → length (without_member before x ys) ≤ length ys → length (cond b (y ∷ without_member before x ys) (cond c (y ∷ ys) ys)) ≤ length (y ∷ ys)
    at true c rest = omega arith
    at false true rest = omega arith
    at false false rest = omega arith

module _ (w : WorkerId) where
  more_by : (c : Change) (ms : List MarkId) → MoveIs (FromOthers w) c → length ms ≤ length (claimed_after w ms c)
  more_by (Move m from to) ms rests =
      subst (λ b. length ms ≤ length (with_if mark_before (runs_by w to) m (without_if mark_before b m ms))) (sym rests) (at (runs_by w to))
    where
      at : (b : Bool) → length ms ≤ length (with_if mark_before b m ms)
      at true = let e = length_with mark_before m ms in omega arith
      at false = omega arith
  more_by (Lock l) ms rests = omega arith
  more_by _ ms rests = omega arith

  less_by : (c : Change) (ms : List MarkId) → MoveIs (ToOthers w) c → length (claimed_after w ms c) ≤ length ms
  less_by (Move m from to) ms rests =
      subst (λ b. length (with_if mark_before b m (without_if mark_before (runs_by w from) m ms)) ≤ length ms) (sym rests) (at (runs_by w from))
    where
      at : (b : Bool) → length (without_if mark_before b m ms) ≤ length ms
      at true = length_without mark_before m ms
      at false = omega arith
  less_by (Lock l) ms rests = omega arith
  less_by _ ms rests = omega arith

  grows : (cs : List Change) (ms : List MarkId) → AllMoves (FromOthers w) cs → length ms ≤ length (after_all (claimed_after w) ms cs)
  grows [] ms moves = omega arith
  grows (c ∷ cs) ms moves = let here = more_by c ms moves.0 in let rest = grows cs (claimed_after w ms c) moves.1 in omega arith

  shrinks : (cs : List Change) (ms : List MarkId) → AllMoves (ToOthers w) cs → length (after_all (claimed_after w) ms cs) ≤ length ms
  shrinks [] ms moves = omega arith
  shrinks (c ∷ cs) ms moves = let here = less_by c ms moves.0 in let rest = shrinks cs (claimed_after w ms c) moves.1 in omega arith

AllMoves-parts : (P : MarkId → Mark → Mark → Type 0) (cs ds : List Change) → AllMoves P (cs ++ ds) → AllMoves P cs × AllMoves P ds
AllMoves-parts P [] ds all = (tt, all)
AllMoves-parts P (c ∷ cs) ds all = let rest = AllMoves-parts P cs ds all.1 in ((all.0, rest.0), rest.1)

after_all-append : {X : Type 0} (after : X → Change → X) (x : X) (cs ds : List Change) → after_all after x (cs ++ ds) ≡ after_all after (after_all after x cs) ds
after_all-append after x [] ds = refl
after_all-append after x (c ∷ cs) ds = after_all-append after (after x c) cs ds

few_between : (s : StateView) (w : WorkerId) (front behind : List Change) → AllByRecursion (NamesOnly s) (front ++ behind) → can_all s w (front ++ behind) ≡ true → GoesOneWay w (front ++ behind)
    → length (claimed s w) ≤ 3 → length (claimed (make_all s w (front ++ behind)) w) ≤ 3 → length (claimed (make_all s w front) w) ≤ 3
few_between s w front behind named possible goes first last = at goes
  where
    can_front : can_all s w front ≡ true
    can_front = (and_parts (can_all s w front) (can_all (make_all s w front) w behind) (sym (can_all-append s w front behind) ∙ possible)).0

    half : claimed (make_all s w front) w ≡ after_all (claimed_after w) (claimed s w) front
    half = own_claimed_all s w front (all_named-append s front behind named).0 can_front

    whole : claimed (make_all s w (front ++ behind)) w ≡ after_all (claimed_after w) (after_all (claimed_after w) (claimed s w) front) behind
    whole = own_claimed_all s w (front ++ behind) named possible ∙ after_all-append (claimed_after w) (claimed s w) front behind

    at : GoesOneWay w (front ++ behind) → length (claimed (make_all s w front) w) ≤ 3
    at (inl from) =
        let more = grows w behind (after_all (claimed_after w) (claimed s w) front) (AllMoves-parts (FromOthers w) front behind from).1 in
        omega (arith, more, last, ap (λ (ms : List MarkId). length ms) half, ap (λ (ms : List MarkId). length ms) whole)
    at (inr to) =
        let less = shrinks w front (claimed s w) (AllMoves-parts (ToOthers w) front behind to).0 in
        omega (arith, less, first, ap (λ (ms : List MarkId). length ms) half)

-- an entry's changes, up to each of them
pub few_on_the_way : (g : GraphView) (s : StateView) (w : WorkerId) (k : Kind) (cs : List Change) → BelongsTo g s → IsWorkerOf s w → IsKindOf g k → Finishes g s w k cs → Keeps s w → (front behind : List Change) → cs ≡ front ++ behind
    → length (claimed (make_all s w front) w) ≤ 3
few_on_the_way g s w k cs belongs worker kind f keeps front behind is =
    let after = few_claimed (make_all s w cs) w (keeps_on g s w k cs belongs worker kind f keeps).few in
    few_between s w front behind (subst (AllByRecursion (NamesOnly s)) is f.named) (ap (can_all s w) (sym is) ∙ f.possible) (subst (GoesOneWay w) is (one_way g s w k cs (list_moves g s w k cs f.list)))
    (few_claimed s w keeps.few) (subst (λ (ds : List Change). length (claimed (make_all s w ds) w) ≤ 3) is after)
