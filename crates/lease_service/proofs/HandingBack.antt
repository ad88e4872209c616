-- What handing back leaves, and that it can be done.
use Rattle.std.proofs.Common.{◌≡◌, ◌≢◌, ◌⊎◌, Bool, true, false, cond, ◌||◌, List, [], ◌∷◌, ◌++◌, map, inl, inr, refl, sym, ap, ◌∙◌, arith}
use Rattle.std.proofs.lemmas.Bool.{and_from, false≢true, le-ltb}
use Rattle.lock_journal.specs.Names.{holding_after, Holding, holding_of, owns_any, Change, Unlock, Give, LockId, WorkerId, MarkId, IsFixedList}
use Rattle.lock_journal.specs.Names.{IsUnmet, BookView, condition, after_all, claimed_after, lock_before, locks_after, without_member}
use Rattle.lock_transforms.specs.declared.entries.Kind.TheVariants as kinds
use Rattle.coordination.specs.Names.{Finds, HasFinished, WasStopped, blocked_shown, claimed_shown, lease_shown, locks_shown}
use Rattle.coordination.specs.declared.rule.Sight.{Sight}
use Rattle.coordination.proofs.lemmas.Shown.{shows_left}
use Rattle.lease_service.specs.Shows.{ShowsGivenBack}
use Rattle.lock_journal.proofs.lemmas.Owned.{owns_some}
use Rattle.lease_service.proofs.Taking.{is_free}

-- these locks, and a lease where there was one
abbrev gives : List LockId → Bool → List Change
gives ls lease = map Unlock ls ++ cond lease (Give ∷ []) []

first_gone : (l : LockId) (ls : List LockId) → without_member lock_before l (l ∷ ls) ≡ ls
first_gone l ls = ap (λ b. cond b (l ∷ without_member lock_before l ls) (cond b (l ∷ ls) ls)) (le-ltb l.0 l.0 (omega arith))

no_locks : (ls : List LockId) (lease : Bool) → after_all locks_after ls (gives ls lease) ≡ []
no_locks [] true = refl
no_locks [] false = refl
no_locks (l ∷ ls) lease = ap (λ ks. after_all locks_after ks (gives ls lease)) (first_gone l ls) ∙ no_locks ls lease

no_lease : (h : Holding) (ls : List LockId) (lease : Bool) → h.lease ≡ lease → after_all holding_after h (gives ls lease) ≡ record h { lease = false }
no_lease h [] true is = refl
no_lease h [] false is = λ i. record h { lease = is i }
no_lease h (l ∷ ls) lease is = no_lease h ls lease is

same_claimed : (w : WorkerId) (ms : List MarkId) (ls : List LockId) (lease : Bool) → after_all (claimed_after w) ms (gives ls lease) ≡ ms
same_claimed w ms [] true = refl
same_claimed w ms [] false = refl
same_claimed w ms (l ∷ ls) lease = same_claimed w ms ls lease

pub shows_given_back : {old new : Sight} → HasFinished kinds.HandBack (IsFixedList kinds.HandBack) old new → ShowsGivenBack old new
shows_given_back {old} f =
    let w : WorkerId = old.worker in
    let a = f.found.agrees in
    let h : Holding = holding_of old.seen.state w in
    let made : f.changes ≡ gives (locks_shown old) h.lease = f.finished.made ∙ (λ i. gives (a.state.owned i) (a.state.holding i).lease) in
    shows_left f made record {
      holding = no_lease h (locks_shown old) h.lease refl;
      locks = no_locks (locks_shown old) h.lease;
      claimed = same_claimed w (claimed_shown old) (locks_shown old) h.lease;
    }

or_right : (a b : Bool) → b ≡ true → a || b ≡ true
or_right true b is = refl
or_right false b is = is

-- who is free and has something can hand it back in the book that it finds
can_there : (old : Sight) (book : BookView) → claimed_shown old ≡ [] → blocked_shown old ≡ false → (locks_shown old ≢ []) ⊎ (lease_shown old ≡ true) → Finds old.worker old.seen book
    → condition book.graph book.state old.worker kinds.HandBack ≡ true
can_there old book none not_blocked something found =
    let a = found.agrees in
    and_from (condition book.graph book.state old.worker kinds.Acquire) (owns_any book.state old.worker || (holding_of book.state old.worker).lease)
    (is_free old book found not_blocked none)
    (elim something [
      | inl some ↦ ap (λ b. b || (holding_of book.state old.worker).lease) (owns_some book.state old.worker (λ empty. some (sym a.state.owned ∙ empty)))
      | inr lease ↦ or_right (owns_any book.state old.worker) _ (ap (λ (h : Holding). h.lease) a.state.holding ∙ lease)
    ])

pub never_stopped : {by : WorkerId} {old new : Sight} → claimed_shown old ≡ [] → blocked_shown old ≡ false → (locks_shown old ≢ []) ⊎ (lease_shown old ≡ true)
    → WasStopped (IsUnmet kinds.HandBack) by old new → ⊥
never_stopped {old = old} none not_blocked something f = false≢true (sym (f.cause tt) ∙ can_there old f.book none not_blocked something f.found)
