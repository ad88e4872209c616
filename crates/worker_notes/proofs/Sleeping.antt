-- Who sleeps, who looks, and what is so of both after somebody was woken.
use Rattle.std.proofs.Common.{◌≡◌, ◌<◌, inl, inr, ℕ, Bool, true, false, not, List, Some, refl, sym, ap, ◌∙◌, arith}
use Rattle.std.specs.Prelude.{◌&&◌, length, replicate, set, slice_get}
use Rattle.std.proofs.lemmas.List.{get_or-replicate, length-replicate, set-get_or}
use Rattle.std.proofs.lemmas.Option.{get_or_from_slice_get, slice_get_within}
use Rattle.resource_lock.proofs.lemmas.Lists.{count_by-set, one_if}
use Rattle.lock_journal.specs.BookView.{BookView}
use Rattle.worker_choices.specs.Stances.{asleep, looking, looks, sleeps}
use Rattle.worker_choices.specs.declared.awaited.Awaited.{Awaited}
use Rattle.worker_choices.specs.declared.stances.Stance.{Stance}
use Rattle.worker_choices.specs.declared.stances.Stance.TheVariants.{Away, Looks, Sleeps}
use Rattle.worker_choices.specs.declared.woken.Woken.{Woken}
use Rattle.worker_choices.specs.declared.woken.Woken.TheVariants as woken
use Rattle.worker_notes.specs.SleepAndWake.{AreQuiet, IsWokenBy, stances_after}

-- a place where a worker sleeps counts
pub none_there : (xs : List Stance) (i : ℕ) (a : Awaited) → asleep xs ≡ 0 → slice_get xs i ≡ Some (Sleeps a) → ⊥
none_there xs i a none at =
    omega (arith, none, count_by-set sleeps xs i Away Away (slice_get_within xs i (Sleeps a) at), ap (λ s. one_if (sleeps s)) (get_or_from_slice_get xs i (Sleeps a) Away at))

-- who was away and stays so changes nothing
pub stays : (xs : List Stance) (i : ℕ) (s : Stance) → s ≡ Away → slice_get xs i ≡ Some Away → set xs i s ≡ xs
stays xs i s is at = ap (λ (t : Stance). set xs i t) (is ∙ sym (get_or_from_slice_get xs i Away Away at)) ∙ set-get_or xs i Away

-- where nobody sleeps nobody is woken
pub nobody_woken : (book : BookView) (queued : Bool) (xs : List Stance) → asleep xs ≡ 0 → IsWokenBy book queued xs woken.Nobody
nobody_woken book queued xs none = record { nobody = λ is. inr (λ w a low at. absurd (none_there xs w a none at)); one = λ w is. absurd (cc); all = λ is. absurd (cc) }

-- a worker that slept and was noted as looking counts
one_looks : (xs : List Stance) (i : ℕ) (a : Awaited) → slice_get xs i ≡ Some (Sleeps a) → 0 < looking (set xs i Looks)
one_looks xs i a at =
    omega (arith, count_by-set looks xs i Looks Away (slice_get_within xs i (Sleeps a) at), ap (λ s. one_if (looks s)) (get_or_from_slice_get xs i (Sleeps a) Away at))

-- nobody sleeps where all are away
pub none_sleeps : (n i : ℕ) (a : Awaited) → slice_get (replicate n Away) i ≡ Some (Sleeps a) → ⊥
none_sleeps n i a at =
    let low = slice_get_within (replicate n Away) i (Sleeps a) at in
    let is = get_or-replicate n i Away Away (omega (arith, low, length-replicate n Away)) in
    let there = get_or_from_slice_get (replicate n Away) i (Sleeps a) Away at in
    cc

-- after whom the end of a hold woke, somebody looks or each sleeper still waits
pub quiet_after : (book : BookView) (queued : Bool) (xs : List Stance) (who : Woken) → IsWokenBy book queued xs who
    → AreQuiet book queued (stances_after who xs)
quiet_after book queued xs woken.Nobody by = by.nobody refl
quiet_after book queued xs (woken.One w) by = let found = by.one w refl in inl (one_looks xs w.0 found.1 found.2)
quiet_after book queued xs woken.All by = inr (λ w a low at. absurd (none_sleeps (length xs) w a at))

-- an entry wakes none of those that don't sleep
pub unwoken : (entered sleeps : Bool) → sleeps ≡ false → false ≡ (entered && sleeps)
unwoken true sleeps none = sym none
unwoken false sleeps none = refl

-- who isn't woken sleeps on
pub sleeps_on : (sleeps : Bool) → sleeps ≡ (sleeps && not false)
sleeps_on true = refl
sleeps_on false = refl
