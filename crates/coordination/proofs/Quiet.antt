-- Between two holds of a book that offers its own queued units somebody looks, or each sleeper still waits.
use Rattle.std.proofs.Common.{◌≡◌, ◌<◌, ◌⊎◌, ℕ, Bool, true, false, inl, inr, List, Some, refl, sym, ap, ◌∙◌, subst}
use Rattle.std.specs.Prelude.{length, set, slice_get}
use Rattle.std.proofs.lemmas.Bool.{cases_eq, true≢false}
use Rattle.std.proofs.lemmas.List.{get_or-set_other, length-set}
use Rattle.std.proofs.lemmas.Option.{get_or_from_slice_get, slice_get-get_or, slice_get_within}
use Rattle.lock_journal.specs.Names.{WorkerId, BookView}
use Rattle.ready_work.specs.Choices.{has_queued}
use Rattle.worker_choices.specs.Stances.{sleeps}
use Rattle.worker_choices.specs.declared.awaited.Awaited.{Awaited}
use Rattle.worker_choices.specs.declared.stances.Stance.{Stance}
use Rattle.worker_choices.specs.declared.stances.Stance.TheVariants.{Away, Sleeps}
use Rattle.worker_choices.specs.declared.woken.Woken.{Woken}
use Rattle.worker_choices.specs.declared.woken.Woken.TheVariants as woken
use Rattle.coordination.specs.Names.{is_queued_in, TellsOwn, AreQuiet, HasWoken, woken_if}
use Rattle.worker_notes.specs.SleepAndWake.{EndsTurn, IsWokenBy, stances_after}
use Rattle.worker_notes.specs.declared.outside_work.Queued.{Queued}
use Rattle.worker_notes.specs.declared.sleepers.Sleepers.{Sleepers}
use Rattle.worker_notes.specs.declared.sleepers.Then.{Then}
use Rattle.worker_notes.specs.declared.sleepers.Wakes.{Wakes}
use Rattle.coordination.proofs.Awake.{stance_at}
use Rattle.worker_notes.proofs.Sleeping.{none_sleeps, none_there}
use Rattle.coordination.proofs.Woken.{ToldOrAwake}

-- nobody sleeps
abbrev NoneSleeps : List Stance → Type 0
NoneSleeps xs = (i : ℕ) (a : Awaited) → slice_get xs i ≡ Some (Sleeps a) → ⊥

-- nor does one more that takes another stance
none_after : (xs : List Stance) (w : ℕ) (stance : Stance) → NoneSleeps xs → sleeps stance ≡ false → NoneSleeps (set xs w stance)
none_after xs w stance none awake i a at = here (cases_eq w i)
  where
    low : i < length xs
    low = subst (λ (n : ℕ). i < n) (length-set xs w stance) (slice_get_within (set xs w stance) i (Sleeps a) at)

    here : (w ≡ i) ⊎ (w ≡ i → ⊥) → ⊥
    here (inl same) =
        let is : stance ≡ Sleeps a = stance_at xs i stance a (subst (λ (k : ℕ). slice_get (set xs k stance) i ≡ Some (Sleeps a)) same at) low in
        true≢false (sym (ap sleeps is) ∙ awake)
    here (inr other) =
        none i a (slice_get-get_or xs i Away low ∙ ap Some (sym (get_or-set_other xs w i stance Away (λ e. other (sym e))) ∙ get_or_from_slice_get (set xs w stance) i (Sleeps a) Away at))

-- where nobody sleeps all are quiet, whatever is queued
quiet_where_none : (book : BookView) (queued some : Bool) (xs : List Stance) (who : Woken) → NoneSleeps xs → IsWokenBy book queued xs who → AreQuiet book some (stances_after who xs)
quiet_where_none book queued some xs woken.Nobody none by = inr (λ w a low at. absurd (none w a at))
quiet_where_none book queued some xs (woken.One w) none by = let found = by.one w refl in absurd (none w.0 found.1 found.2)
quiet_where_none book queued some xs woken.All none by = inr (λ w a low at. absurd (none_sleeps (length xs) w a at))

unwoken : (b : Bool) (w : WorkerId) (s : Sleepers) → b ≡ false → (woken_if b w s).stances ≡ s.stances
unwoken true w s is = absurd (cc)
unwoken false w s is = refl

quiet_hold : (w : WorkerId) (behind : Then) (old new : BookView) (s s' : Sleepers) (wakes : Wakes) → HasWoken TellsOwn w behind old new s s' wakes → AreQuiet new (has_queued new.state) s'.stances
quiet_hold w behind old new s s' wakes h = subst (AreQuiet new (has_queued new.state)) (sym h.stances) (here h.told)
  where
    here : ToldOrAwake TellsOwn h.queued h.woken h.stance s → AreQuiet new (has_queued new.state) h.left.stances
    here (inl none) =
        let nobody : NoneSleeps (woken_if h.woken w s).stances = subst NoneSleeps (sym (unwoken h.woken w s none.1)) (λ i a at. none_there s.stances i a none.0 at) in
        subst (AreQuiet new (has_queued new.state)) (sym h.ends.stances)
        (quiet_where_none new (is_queued_in h.queued new) (has_queued new.state) (set (woken_if h.woken w s).stances w.0 h.stance) wakes.workers (none_after (woken_if h.woken w s).stances w.0 h.stance nobody none.2) h.ends.workers)
    here (inr told) =
        subst (λ (some : Bool). AreQuiet new some h.left.stances) (ap (λ (q : Queued). is_queued_in q new) h.ends.queued ∙ (told new).1) h.ends.quiet

-- behind a turn
pub quiet_turn : (w : WorkerId) (behind : Then) (old new : BookView) (s s' : Sleepers) (wakes later : Wakes) → EndsTurn TellsOwn w behind old new s s' wakes later → AreQuiet new (has_queued new.state) s'.stances
quiet_turn w behind old new s s' wakes later (inl once) = quiet_hold w once.0 old new s s' wakes once.2
quiet_turn w behind old new s s' wakes later (inr twice) = quiet_hold w behind twice.0 new twice.1 s' later twice.3
