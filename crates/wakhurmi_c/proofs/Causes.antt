-- What alone keeps a try of a worker from its entry, in a service without tasks.
use Rattle.std.proofs.Common.{◌≡◌, ◌≢◌, ◌⊎◌, ◌+◌, ◌==◌, ℕ, Bool, true, false, not, cond, ◌&&◌, ◌||◌, List, [], ◌∷◌, length, Option, None, inl, inr, refl, sym, ap, ◌∙◌, subst}
use Rattle.std.specs.Prelude.{nat_lt}
use Rattle.std.specs.List.{list_all, list_any}
use Rattle.std.proofs.lemmas.Bool.{and_from, and_parts, eqb-true, false≢true, false_from_ne_true, or_cases, or_right}
use Rattle.std.proofs.lemmas.List.{nil_from_length}
use Rattle.lock_journal.specs.Names.{GraphView, made_of, Holding, StateView, holding_of, is_owner, owns_any, runs_any, runs_by, runs_unit, stands_in}
use Rattle.lock_journal.specs.Names.{LockId, WorkerId, IsDisabled, IsFixedList, IsUnmet, condition, owned_from, acquired, can_take_all, is_open}
use Rattle.lock_journal.specs.Names.{may_acquire, rises, Kind, Shortage, Waits, Fails, BookView}
use Rattle.resource_lock.proofs.lemmas.Runs.{worker_from}
use Rattle.lock_transforms.specs.declared.entries.Kind.TheVariants as kinds
use Rattle.coordination.specs.Names.{Finds, Cause, Making, blocked_shown, lease_shown, locks_shown, parked_shown}
use Rattle.coordination.specs.declared.rule.Sight.{Sight}
use Rattle.worker_notes.proofs.lemmas.Entries.{belongs_sound, good_sound}
use Rattle.blocking_section.proofs.lemmas.Up.{leaves_without}
use Rattle.shared_services.specs.Takings.{HasTheLocks, IsShort, MayNotTake, TakesUses, has_nothing}
use Rattle.wakhurmi_c.specs.Calls.{EnterLeaves, HandBackLeaves, LeaveLeaves, TakeLeaves}
use Rattle.wakhurmi_c.specs.Leaves.{Leaves}
use Rattle.wakhurmi_c.specs.Places.{HasNoTasks, are_in_order, may_hand_back, may_take}
use Rattle.wakhurmi_c.specs.Uses.{MayBeAsked, TakeUsesLeaves, may_take_uses}
use Rattle.wakhurmi_c.specs.declared.answers.Answer.{Answer}
use Rattle.wakhurmi_c.specs.declared.answers.Answer.TheVariants.{Done, Busy, Refused, Stopped, Again, NoMemory, BadNumber, Misused, Empty, Full}

not_from_not : (b : Bool) → not b ≡ true → b ≡ false
not_from_not true is = absurd (false≢true is)
not_from_not false is = refl

-- what a try of a transform leaves
abbrev pub Tries : Kind → Making → Cause → Cause → Sight → Sight → Answer → Type 0
Tries kind makes fails retries = Leaves kind makes fails retries (λ s. ⊥) (λ s. ⊥)

-- a call leaves that of its own answers, where a try asks to be run again for no other cause than the call's
told : (kind : Kind) (makes : Making) (fails retries waits : Cause) (refuses misuses : Sight → Type 0) (old new : Sight) (a : Answer)
    → ((book : BookView) → Finds old.worker old.seen book → retries book.graph old.worker book.state → waits book.graph old.worker book.state)
    → Tries kind makes fails retries old new a → Leaves kind makes fails waits refuses misuses old new a
told kind makes fails retries waits refuses misuses old new Done only l = l
told kind makes fails retries waits refuses misuses old new Busy only l = record { unheard = l.unheard; book = l.book; found = l.found; kept = only l.book l.found l.kept; sight = l.sight }
told kind makes fails retries waits refuses misuses old new Refused only l = l
told kind makes fails retries waits refuses misuses old new Stopped only l =
    (l.0, record { book = l.1.book; found = l.1.found; cause = only l.1.book l.1.found l.1.cause; stopper = l.1.stopper; sight = l.1.sight })
told kind makes fails retries waits refuses misuses old new Again only l = l
told kind makes fails retries waits refuses misuses old new NoMemory only l = l
told kind makes fails retries waits refuses misuses old new BadNumber only l = absurd l.1
told kind makes fails retries waits refuses misuses old new Misused only l = absurd l.1
told kind makes fails retries waits refuses misuses old new Empty only l = absurd l
told kind makes fails retries waits refuses misuses old new Full only l = absurd l

-- a graph that is made of workers, leases and locks alone has no tasks
pub made_bare : (g : GraphView) (locks : ℕ) (all : Option LockId) (workers max : ℕ) → g ≡ made_of locks all workers max [] [] → HasNoTasks g
made_bare g locks all workers max is = (ap (λ (h : GraphView). h.tasks) is, ap (λ (h : GraphView). h.actions) is, ap (λ (h : GraphView). h.units) is)

-- where there is no task the book has no marks
unmarked : (old : Sight) (book : BookView) → HasNoTasks old.seen.graph → Finds old.worker old.seen book
    → (book.state.tasks ≡ []) × (book.state.actions ≡ []) × (book.state.units ≡ [])
unmarked old book bare found =
    let b = belongs_sound book found.sound in (
      nil_from_length book.state.tasks (b.tasks ∙ ap length (ap (λ (g : GraphView). g.tasks) found.agrees.graph ∙ bare.0)),
      nil_from_length book.state.actions (b.actions ∙ ap length (ap (λ (g : GraphView). g.actions) found.agrees.graph ∙ bare.1)),
      nil_from_length book.state.units (b.units ∙ (ap (λ (g : GraphView). g.units) found.agrees.graph ∙ bare.2)),
    )

-- so a worker in no blocking section is free in the book that it finds
is_free : (old : Sight) (book : BookView) → HasNoTasks old.seen.graph → blocked_shown old ≡ false → Finds old.worker old.seen book
    → condition book.graph book.state old.worker kinds.Acquire ≡ true
is_free old book bare unblocked found =
    let w : WorkerId = old.worker in
    let marks = unmarked old book bare found in
    let blocked : (holding_of book.state old.worker).blocked ≡ false = ap (λ (h : Holding). h.blocked) found.agrees.state.holding ∙ unblocked in
    let runs : runs_any book.state old.worker ≡ false = (λ i. list_any (runs_by w) (marks.0 i) || list_any (runs_by w) (marks.1 i) || list_any (runs_by w) (marks.2 i)) in
    (λ i. not (blocked i) && not (runs i))

all_open : (g : GraphView) (s : StateView) (w : WorkerId) (ls : List LockId) → (holding_of s w).parked ≡ [] → list_all (λ l. nat_lt l.0 g.locks) ls ≡ true → list_all (is_open g s w) ls ≡ true
all_open g s w [] none below = refl
all_open g s w (l ∷ ls) none below =
    let both = and_parts (nat_lt l.0 g.locks) (list_all (λ k. nat_lt k.0 g.locks) ls) below in
    and_from (is_open g s w l) (list_all (is_open g s w) ls) (and_from _ _ both.0 (ap (λ ps. not (stands_in l ps)) none)) (all_open g s w ls none both.1)

-- who may take locks may take them in the book that it finds
may_there : (old : Sight) (book : BookView) (ls : List LockId) → HasNoTasks old.seen.graph → may_take old ≡ true → are_in_order ls old.seen.graph.locks ≡ true
    → Finds old.worker old.seen book → may_acquire book.graph book.state old.worker ls ≡ true
may_there old book ls bare may order found =
    let holding = found.agrees.state.holding in
    let place = and_parts (not (blocked_shown old)) (length (parked_shown old) == 0) may in
    let parked : (holding_of book.state old.worker).parked ≡ [] = ap (λ (h : Holding). h.parked) holding ∙ nil_from_length (parked_shown old) (eqb-true (length (parked_shown old)) 0 place.1) in
    let below : list_all (λ l. nat_lt l.0 book.graph.locks) ls ≡ true =
    ap (λ (g : GraphView). list_all (λ (l : LockId). nat_lt l.0 g.locks) ls) found.agrees.graph ∙ (and_parts (rises 0 ls) (list_all (λ l. nat_lt l.0 old.seen.graph.locks) ls) order).1 in
    and_from (condition book.graph book.state old.worker kinds.Acquire) (list_all (is_open book.graph book.state old.worker) ls)
    (is_free old book bare (not_from_not (blocked_shown old) place.0) found)
    (all_open book.graph book.state old.worker ls parked below)

pub take_leaves : (shortage : Shortage) (locks asked : List LockId) (old new : Sight) (a : Answer) → asked ≡ locks → HasNoTasks old.seen.graph → may_take old ≡ true
    → are_in_order asked old.seen.graph.locks ≡ true
    → Tries kinds.Acquire (λ g w s cs. cs ≡ acquired s w asked) (λ g w s. (shortage ≡ Fails) × (can_take_all s w asked ≡ false))
    (λ g w s. (may_acquire g s w asked ≡ false) ⊎ ((shortage ≡ Waits) × (can_take_all s w asked ≡ false))) old new a
    → TakeLeaves shortage locks old new a
take_leaves shortage locks asked old new a same bare may order l =
    subst (λ (ls : List LockId). TakeLeaves shortage ls old new a) same
    (told kinds.Acquire (λ g w s cs. cs ≡ acquired s w asked) (λ g w s. (shortage ≡ Fails) × (can_take_all s w asked ≡ false))
    (λ g w s. (may_acquire g s w asked ≡ false) ⊎ ((shortage ≡ Waits) × (can_take_all s w asked ≡ false)))
    (λ g w s. (shortage ≡ Waits) × (can_take_all s w asked ≡ false)) (λ sight. are_in_order asked sight.seen.graph.locks ≡ false)
    (λ sight. may_take sight ≡ false) old new a (λ book found cause. elim cause [
      | inl kept ↦ absurd (false≢true (sym kept ∙ may_there old book asked bare may order found))
      | inr short ↦ short
    ]) l)

-- who may take uses has nothing in the book that it finds
nothing_there : (old : Sight) (book : BookView) → HasNoTasks old.seen.graph → may_take_uses old ≡ true → Finds old.worker old.seen book → has_nothing book.state old.worker ≡ true
nothing_there old book bare may found =
    let holding = found.agrees.state.holding in
    let both = and_parts (may_take old) (not (lease_shown old)) may in
    let place = and_parts (not (blocked_shown old)) (length (parked_shown old) == 0) both.0 in
    let free = and_parts (not (holding_of book.state old.worker).blocked) (not (runs_any book.state old.worker)) (is_free old book bare (not_from_not (blocked_shown old) place.0) found) in
    let leaseless : not (holding_of book.state old.worker).lease ≡ true = ap (λ (h : Holding). not h.lease) holding ∙ both.1 in
    let parked : (length (holding_of book.state old.worker).parked == 0) ≡ true = ap (λ (h : Holding). length h.parked == 0) holding ∙ place.1 in
    λ i. leaseless i && free.0 i && parked i && free.1 i

pub take_uses_leaves : (shortage : Shortage) (maxima asked : List ℕ) (old new : Sight) (a : Answer) → HasNoTasks old.seen.graph → may_take_uses old ≡ true
    → HasTheLocks maxima old.seen.graph
    → Tries kinds.Acquire (TakesUses maxima asked) (λ g w s. (shortage ≡ Fails) × IsShort maxima asked s)
    (λ g w s. MayNotTake maxima g w s ⊎ ((shortage ≡ Waits) × IsShort maxima asked s)) old new a
    → TakeUsesLeaves shortage maxima asked old new a
take_uses_leaves shortage maxima asked old new a bare may locks =
    told kinds.Acquire (TakesUses maxima asked) (λ g w s. (shortage ≡ Fails) × IsShort maxima asked s)
    (λ g w s. MayNotTake maxima g w s ⊎ ((shortage ≡ Waits) × IsShort maxima asked s))
    (λ g w s. (shortage ≡ Waits) × IsShort maxima asked s) (λ sight. MayBeAsked maxima asked sight.seen.graph → ⊥)
    (λ sight. may_take_uses sight ≡ false) old new a (λ book found cause. elim cause [
      | inl kept ↦ elim kept [
        | inl others ↦ absurd (others (ap (λ (g : GraphView). g.locks) found.agrees.graph ∙ locks.0, ap (λ (g : GraphView). g.all) found.agrees.graph ∙ locks.1))
        | inr busy ↦ absurd (false≢true (sym busy ∙ nothing_there old book bare may found))
      ]
      | inr short ↦ short
    ])

-- whose list of locks isn't empty owns one
some_owned : (n : ℕ) (os : List (Option WorkerId)) (w : WorkerId) → owned_from n os w ≢ [] → list_any (λ o. is_owner o w) os ≡ true
some_owned n [] w some = absurd (some refl)
some_owned n (o ∷ os) w some = at (is_owner o w) refl (some_owned (n + 1) os w)
  where
    at : (b : Bool) → is_owner o w ≡ b → (owned_from (n + 1) os w ≢ [] → list_any (λ p. is_owner p w) os ≡ true) → list_any (λ p. is_owner p w) (o ∷ os) ≡ true
    at true is rest = ap (λ b. b || list_any (λ p. is_owner p w) os) is
    at false is rest =
        ap (λ b. b || list_any (λ p. is_owner p w) os) is
        ∙ rest (λ none. some (ap (λ b. cond b (record { 0 = n } ∷ owned_from (n + 1) os w) (owned_from (n + 1) os w)) is ∙ none))

-- who may hand back can do so in the book that it finds
hands_back : (old : Sight) (book : BookView) → HasNoTasks old.seen.graph → may_hand_back old ≡ true → Finds old.worker old.seen book
    → condition book.graph book.state old.worker kinds.HandBack ≡ true
hands_back old book bare may found =
    let a = found.agrees in
    let place = and_parts (not (blocked_shown old)) (lease_shown old || not (length (locks_shown old) == 0)) may in
    let has : (owns_any book.state old.worker || (holding_of book.state old.worker).lease) ≡ true = elim (or_cases (lease_shown old) (not (length (locks_shown old) == 0)) place.1) [
      | inl lease ↦ or_right (owns_any book.state old.worker) _ (ap (λ (h : Holding). h.lease) a.state.holding ∙ lease)
      | inr some ↦ ap (λ b. b || (holding_of book.state old.worker).lease) (some_owned 0 book.state.owners old.worker (λ none.
          false≢true (ap (λ (ls : List LockId). not (length ls == 0)) (sym none ∙ a.state.owned) ∙ some)))
    ] in
    and_from (condition book.graph book.state old.worker kinds.Acquire) (owns_any book.state old.worker || (holding_of book.state old.worker).lease)
    (is_free old book bare (not_from_not (blocked_shown old) place.0) found) has

pub hand_back_leaves : (old new : Sight) (a : Answer) → HasNoTasks old.seen.graph → may_hand_back old ≡ true
    → Tries kinds.HandBack (IsFixedList kinds.HandBack) (λ g w s. ⊥) (IsUnmet kinds.HandBack) old new a → HandBackLeaves old new a
hand_back_leaves old new a bare may =
    told kinds.HandBack (IsFixedList kinds.HandBack) (λ g w s. ⊥) (IsUnmet kinds.HandBack) (λ g w s. ⊥) (λ sight. ⊥) (λ sight. may_hand_back sight ≡ false) old new a
    (λ book found unmet. false≢true (sym (unmet tt) ∙ hands_back old book bare may found))

-- who has a lease can enter a section in the book that it finds
enters : (old : Sight) (book : BookView) → HasNoTasks old.seen.graph → lease_shown old ≡ true → Finds old.worker old.seen book
    → condition book.graph book.state old.worker (kinds.Block None) ≡ true
enters old book bare lease found =
    let unit : runs_unit book.state old.worker ≡ false = ap (list_any (runs_by old.worker)) (unmarked old book bare found).2 in
    let has : (holding_of book.state old.worker).lease ≡ true = ap (λ (h : Holding). h.lease) found.agrees.state.holding ∙ lease in
    λ i. has i && not (unit i)

pub enter_leaves : (old new : Sight) (a : Answer) → HasNoTasks old.seen.graph → lease_shown old ≡ true
    → Tries (kinds.Block None) (IsFixedList (kinds.Block None)) (λ g w s. ⊥) (IsUnmet (kinds.Block None)) old new a → EnterLeaves old new a
enter_leaves old new a bare lease =
    told (kinds.Block None) (IsFixedList (kinds.Block None)) (λ g w s. ⊥) (IsUnmet (kinds.Block None)) (λ g w s. ⊥) (λ sight. ⊥) (λ sight. lease_shown sight ≡ false) old new a
    (λ book found unmet. false≢true (sym (unmet tt) ∙ enters old book bare lease found))

-- who can't leave a section can't take what it has parked, and a lease
stays : (old : Sight) (book : BookView) → HasNoTasks old.seen.graph → blocked_shown old ≡ true → Finds old.worker old.seen book
    → IsDisabled (kinds.Unblock None) book.graph old.worker book.state → can_take_all book.state old.worker (holding_of book.state old.worker).parked ≡ false
stays old book bare blocked found disabled =
    let worker = worker_from book.graph book.state old.worker (belongs_sound book found.sound) found.known in
    let inside : (holding_of book.state old.worker).blocked ≡ true = ap (λ (h : Holding). h.blocked) found.agrees.state.holding ∙ blocked in
    let unit : runs_unit book.state old.worker ≡ false = ap (list_any (runs_by old.worker)) (unmarked old book bare found).2 in
    false_from_ne_true (can_take_all book.state old.worker (holding_of book.state old.worker).parked) (λ free.
    false≢true (sym (disabled tt) ∙ leaves_without book.graph book.state old.worker worker (good_sound book found.sound) inside unit free))

pub leave_leaves : (old new : Sight) (a : Answer) → HasNoTasks old.seen.graph → blocked_shown old ≡ true
    → Tries (kinds.Unblock None) (IsFixedList (kinds.Unblock None)) (λ g w s. ⊥) (IsDisabled (kinds.Unblock None)) old new a → LeaveLeaves old new a
leave_leaves old new a bare blocked =
    told (kinds.Unblock None) (IsFixedList (kinds.Unblock None)) (λ g w s. ⊥) (IsDisabled (kinds.Unblock None))
    (λ g w s. can_take_all s w (holding_of s w).parked ≡ false) (λ sight. ⊥) (λ sight. blocked_shown sight ≡ false) old new a
    (λ book found disabled. stays old book bare blocked found disabled)
