-- What taking locks and a lease leaves, and when it can't be done.
use Rattle.std.proofs.Common.{◌≡◌, ◌<◌, ◌⊎◌, Bool, true, false, not, cond, ◌&&◌, List, [], ◌∷◌, ◌++◌, map, inl, inr, refl, sym, ap, ◌∙◌, subst}
use Rattle.std.specs.List.{All, filter, list_all}
use Rattle.std.proofs.lemmas.Bool.{and_from, false≢true, lt-ltb}
use Rattle.std.proofs.lemmas.List.Elements.{All-head, All-tail}
use Rattle.lock_journal.specs.Names.{holding_after, GraphView, Holding, StateView, has_parked, holding_of, owns, runs_any, stands_in, Change, Lock}
use Rattle.lock_journal.specs.Names.{Take, LockId, WorkerId, MarkId, BookView, condition, acquired, can_take_all, is_open, may_acquire, Kind}
use Rattle.lock_journal.specs.Names.{after_all, claimed_after, lock_before, locks_after, with_member}
use Rattle.lock_transforms.specs.declared.entries.Kind.TheVariants as kinds
use Rattle.lock_journal.proofs.lemmas.Claims.{runs_nothing}
use Rattle.lock_journal.proofs.lemmas.Owned.{filter_same, stands_in_owned}
use Rattle.coordination.specs.Names.{Finds, HasFailed, HasFinished, WasStopped, claimed_shown, locks_shown}
use Rattle.coordination.specs.declared.rule.Sight.{Sight}
use Rattle.coordination.proofs.lemmas.Shown.{shows_left, stopped_for}
use Rattle.lease_service.specs.Shows.{MayTake, ShowsTaken, with_locks}

-- these locks, and a lease where there was none
abbrev takes : List LockId → Bool → List Change
takes ls lease = map Lock ls ++ cond lease [] (Take ∷ [])

locks_with : (had ls : List LockId) (lease : Bool) → after_all locks_after had (takes ls lease) ≡ with_locks had ls
locks_with had [] true = refl
locks_with had [] false = refl
locks_with had (l ∷ ls) lease = locks_with (with_member lock_before l had) ls lease

holding_with : (h : Holding) (ls : List LockId) (lease : Bool) → h.lease ≡ lease → after_all holding_after h (takes ls lease) ≡ record h { lease = true }
holding_with h [] true is = λ i. record h { lease = is i }
holding_with h [] false is = refl
holding_with h (l ∷ ls) lease is = holding_with h ls lease is

claimed_with : (w : WorkerId) (ms : List MarkId) (ls : List LockId) (lease : Bool) → after_all (claimed_after w) ms (takes ls lease) ≡ ms
claimed_with w ms [] true = refl
claimed_with w ms [] false = refl
claimed_with w ms (l ∷ ls) lease = claimed_with w ms ls lease

pub shows_taken : (locks : List LockId) {kind : Kind} {old new : Sight} → HasFinished kind (λ g w s cs. cs ≡ acquired s w locks) old new → ShowsTaken locks old new
shows_taken locks {old = old} f =
    let w : WorkerId = old.worker in
    let a = f.found.agrees in
    let h : Holding = holding_of old.seen.state w in
    let more : List LockId = filter (λ l. not (stands_in l (locks_shown old))) locks in
    let same : filter (λ l. not (owns f.before.state w l)) locks ≡ more = filter_same _ _ (λ l. ap not (a.state.owns l ∙ sym (stands_in_owned old.seen.state w l))) locks in
    let made : f.changes ≡ takes more h.lease = f.finished.made ∙ (λ i. map Lock (same i) ++ cond (a.state.holding i).lease [] (Take ∷ [])) in
    shows_left f made record {
      holding = holding_with h more h.lease refl;
      locks = locks_with (locks_shown old) more h.lease;
      claimed = claimed_with w (claimed_shown old) more h.lease;
    }

all_open : (g : GraphView) (s : StateView) (w : WorkerId) (locks : List LockId) → All (λ l. l.0 < g.locks) locks → All (λ l. has_parked s w l ≡ false) locks → list_all (is_open g s w) locks ≡ true
all_open g s w [] in_range not_parked = refl
all_open g s w (l ∷ ls) in_range not_parked =
    and_from (is_open g s w l) (list_all (is_open g s w) ls)
    (and_from _ _ (lt-ltb l.0 g.locks (All-head (λ k. k.0 < g.locks) l ls in_range)) (ap not (All-head (λ k. has_parked s w k ≡ false) l ls not_parked)))
    (all_open g s w ls (All-tail (λ k. k.0 < g.locks) l ls in_range) (All-tail (λ k. has_parked s w k ≡ false) l ls not_parked))

-- who isn't blocked and has claimed nothing is so in the book that it finds
pub is_free : (old : Sight) (book : BookView) → Finds old.worker old.seen book → (holding_of old.seen.state old.worker).blocked ≡ false → claimed_shown old ≡ [] → condition book.graph book.state old.worker kinds.Acquire ≡ true
is_free old book found not_blocked none =
    let a = found.agrees in
    let blocked : (holding_of book.state old.worker).blocked ≡ false = ap (λ (h : Holding). h.blocked) a.state.holding ∙ not_blocked in
    let runs : runs_any book.state old.worker ≡ false = runs_nothing book.state old.worker (a.state.claimed ∙ none) in
    (λ i. not (blocked i) && not (runs i))

-- who may take locks may do so in the book that it finds
may_there : (old : Sight) (book : BookView) (locks : List LockId) → MayTake old locks → Finds old.worker old.seen book → may_acquire book.graph book.state old.worker locks ≡ true
may_there old book locks may found =
    let a = found.agrees in
    and_from (condition book.graph book.state old.worker kinds.Acquire) (list_all (is_open book.graph book.state old.worker) locks)
    (is_free old book found may.not_blocked may.claimed)
    (all_open book.graph book.state old.worker locks
    (subst (λ (g : GraphView). All (λ l. l.0 < g.locks) locks) (sym a.graph) may.in_range)
    (subst (λ (h : Holding). All (λ l. stands_in l h.parked ≡ false) locks) (sym a.state.holding) may.not_parked))

-- so a try that asks to be run again couldn't take all
is_short : (waits : Type 0) (locks : List LockId) (old : Sight) (book : BookView) → MayTake old locks → Finds old.worker old.seen book
    → (may_acquire book.graph book.state old.worker locks ≡ false) ⊎ (waits × (can_take_all book.state old.worker locks ≡ false)) → waits × (can_take_all book.state old.worker locks ≡ false)
is_short waits locks old book may found cause = elim cause [ inl kept ↦ absurd (false≢true (sym kept ∙ may_there old book locks may found)) | inr short ↦ short ]

pub stopped_short : (waits : Type 0) (locks : List LockId) {by : WorkerId} {old new : Sight} → MayTake old locks
    → WasStopped (λ g w s. (may_acquire g s w locks ≡ false) ⊎ (waits × (can_take_all s w locks ≡ false))) by old new → waits × WasStopped (λ g w s. can_take_all s w locks ≡ false) by old new
stopped_short waits locks {old = old} may f =
    let short = is_short waits locks old f.book may f.found f.cause in
    (short.0, stopped_for f short.1)

pub failed_short : (fails : Type 0) (locks : List LockId) {kind : Kind} {old new : Sight}
    → HasFailed kind (λ g w s. fails × (can_take_all s w locks ≡ false)) old new → fails × HasFailed kind (λ g w s. can_take_all s w locks ≡ false) old new
failed_short fails locks f = (
  f.failed.cause.0,
  record {
    before = f.before;
    after = f.after;
    found = f.found;
    graph = f.graph;
    failed = record { cause = f.failed.cause.1; allowed = f.failed.allowed; history = f.failed.history; state = f.failed.state };
    left = f.left;
    sight = f.sight;
  },
)
