-- What a pass shows once its uses are taken, and that nothing else can keep it from them.
use Rattle.std.proofs.Common.{◌≡◌, ◌<◌, ◌≤◌, ◌+◌, ◌⊎◌, ℕ, zero, suc, true, false, not, cond, ◌&&◌, List, [], ◌∷◌, ◌++◌, length, get_or, nat_eq}
use Rattle.std.proofs.Common.{inl, inr, refl, sym, ap, ◌∙◌, arith}
use Rattle.std.proofs.lemmas.Bool.{and_parts, false≢true, leb-true, lt-ltb}
use Rattle.std.proofs.lemmas.List.{append-nil, append_assoc}
use Rattle.lock_journal.specs.Names.{holding_after, GraphView, Holding, empty_holding, holding_of, runs_any, LockId, WorkerId, MarkId, rises}
use Rattle.lock_journal.specs.Names.{BookView, claimed, after_all, claimed_after, lock_before, locks_after, with_member}
use Rattle.lock_transforms.specs.declared.entries.Kind.TheVariants as kinds
use Rattle.lock_journal.proofs.lemmas.Claims.{runs_nothing}
use Rattle.coordination.specs.Names.{Finds, HasFinished, WasStopped}
use Rattle.coordination.specs.declared.rule.Sight.{Sight}
use Rattle.coordination.proofs.lemmas.Shown.{shows_left, stopped_for}
use Rattle.shared_services.specs.Services.{no_lock}
use Rattle.shared_services.specs.Shows.{HasTakenUses, MayTakeUses}
use Rattle.shared_services.specs.Takings.{IsShort, MayNotTake, TakesUses, has_nothing, taken}
use Rattle.shared_services.proofs.Chosen.{each_rises, one_of_each}

-- a lock behind all others takes its place there
at_the_end : (had : List LockId) (l : LockId) → ((i : ℕ) → i < length had → (get_or had i no_lock).0 < l.0) → with_member lock_before l had ≡ had ++ l ∷ []
at_the_end [] l below = refl
at_the_end (k ∷ ks) l below =
    ap (λ b. cond b (k ∷ with_member lock_before l ks) (l ∷ k ∷ ks)) (lt-ltb k.0 l.0 (below 0 (omega arith)))
    ∙ ap (λ (ls : List LockId). k ∷ ls) (at_the_end ks l (λ i low. below (suc i) (omega (arith, low))))

below_next : (had : List LockId) (l : LockId) (low : ℕ) → ((i : ℕ) → i < length had → (get_or had i no_lock).0 < low) → low ≤ l.0
    → (i : ℕ) → i < length (had ++ l ∷ []) → (get_or (had ++ l ∷ []) i no_lock).0 < l.0 + 1
below_next [] l low below least zero inside = omega arith
below_next [] l low below least (suc i) inside = absurd (omega (arith, inside))
below_next (k ∷ ks) l low below least zero inside = let first : k.0 < low = below 0 (omega arith) in omega (arith, first, least)
below_next (k ∷ ks) l low below least (suc i) inside = below_next ks l low (λ j in_range. below (suc j) (omega (arith, in_range))) least i (omega (arith, inside))

locks_onto : (had ls : List LockId) (low : ℕ) → ((i : ℕ) → i < length had → (get_or had i no_lock).0 < low) → rises low ls ≡ true → after_all locks_after had (taken ls) ≡ had ++ ls
locks_onto had [] low below rising = sym (append-nil had)
locks_onto had (l ∷ ls) low below rising =
    let parts = and_parts _ (rises (l.0 + 1) ls) rising in
    let least : low ≤ l.0 = leb-true low l.0 parts.0 in
    ap (λ (ks : List LockId). after_all locks_after ks (taken ls)) (at_the_end had l (λ i inside. let b : (get_or had i no_lock).0 < low = below i inside in omega (arith, b, least)))
    ∙ locks_onto (had ++ l ∷ []) ls (l.0 + 1) (below_next had l low below least) parts.1
    ∙ append_assoc had (l ∷ []) ls

holding_then : (h : Holding) (ls : List LockId) → after_all holding_after h (taken ls) ≡ record h { lease = true }
holding_then h [] = refl
holding_then h (l ∷ ls) = holding_then h ls

claimed_then : (w : WorkerId) (ms : List MarkId) (ls : List LockId) → after_all (claimed_after w) ms (taken ls) ≡ ms
claimed_then w ms [] = refl
claimed_then w ms (l ∷ ls) = claimed_then w ms ls

pub has_taken : {maxima asked : List ℕ} {old new : Sight} → MayTakeUses maxima asked old → HasFinished kinds.Acquire (TakesUses maxima asked) old new → HasTakenUses maxima asked old new
has_taken {maxima} {asked} {old = old} may f =
    let takes = f.finished.made in
    let rests = may.rests in
    record {
      entry = f;
      shown = shows_left f takes.made record {
        holding = holding_then (holding_of old.seen.state old.worker) takes.locks ∙ (λ k. record { lease = true; parked = (rests.holding k).parked; blocked = (holding_of old.seen.state old.worker).blocked });
        locks = ap (λ (ls : List LockId). after_all locks_after ls (taken takes.locks)) rests.locks
            ∙ locks_onto [] takes.locks 0 (λ i inside. absurd (omega (arith, inside))) (each_rises maxima asked takes.locks may.services (one_of_each takes.lowest));
        claimed = claimed_then old.worker _ takes.locks ∙ rests.claimed;
      };
    }

-- who has nothing has nothing in the book that it finds
nothing_there : (old : Sight) (book : BookView) → Finds old.worker old.seen book → holding_of old.seen.state old.worker ≡ empty_holding → claimed old.seen.state old.worker ≡ [] → has_nothing book.state old.worker ≡ true
nothing_there old book found holding none =
    let a = found.agrees in
    let same : holding_of book.state old.worker ≡ empty_holding = a.state.holding ∙ holding in
    let runs : runs_any book.state old.worker ≡ false = runs_nothing book.state old.worker (a.state.claimed ∙ none) in
    (λ i. not (same i).lease && not (same i).blocked && nat_eq (length (same i).parked) 0 && not (runs i))

may_there : {maxima asked : List ℕ} {old : Sight} {book : BookView} → MayTakeUses maxima asked old → Finds old.worker old.seen book → MayNotTake maxima book.graph old.worker book.state → ⊥
may_there {old = old} {book = book} may found not_yet = elim not_yet [
  | inl other ↦ other (ap (λ (g : GraphView). g.locks) found.agrees.graph ∙ may.locks.0, ap (λ (g : GraphView). g.all) found.agrees.graph ∙ may.locks.1)
  | inr busy ↦ false≢true (sym busy ∙ nothing_there old book found may.rests.holding may.rests.claimed)
]

-- so a taking that was stopped couldn't have all uses and a lease
pub stopped_short : {maxima asked : List ℕ} (waits : Type 0) {by : WorkerId} {old new : Sight} → MayTakeUses maxima asked old
    → WasStopped (λ g w s. MayNotTake maxima g w s ⊎ (waits × IsShort maxima asked s)) by old new → waits × WasStopped (λ g w s. IsShort maxima asked s) by old new
stopped_short waits may f = elim (f.cause) [
  | inl not_yet ↦ absurd (may_there may f.found not_yet)
  | inr short ↦ (short.0, stopped_for f short.1)
]
