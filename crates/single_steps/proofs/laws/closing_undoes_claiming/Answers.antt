use Rattle.std.proofs.Common.{◌≡◌, false, ap, sym, ◌∙◌}
use Rattle.lock_journal.specs.Names.{owns, stands_in, Retention, Retain, Release, ReleaseAndReacquire, LockId}
use Rattle.coordination.specs.declared.rule.Sight.{Sight}
use Rattle.coordination.specs.Shown.{ShowsTheSame}
use Rattle.worker_notes.proofs.lemmas.Growing.{agrees_self}
use Rattle.async_tracker.specs.Shows.{HasReleased}
use Rattle.lock_journal.proofs.lemmas.Owned.{stands_in_owned}
use Rattle.async_tracker.proofs.lemmas.Turns.{parked_still, same_again}
use Rattle.single_steps.proofs.lemmas.Turns.{free_still, waits_still}
use Rattle.single_steps.proofs.laws.closing_undoes_claiming.Goals as goal

not_owned : (l : LockId) (a c : Sight) → ShowsTheSame a c → owns a.seen.state a.worker l ≡ false → owns c.seen.state c.worker l ≡ false
not_owned l a c same none = sym (stands_in_owned c.seen.state c.worker l) ∙ (ap (stands_in l) same.locks ∙ (stands_in_owned a.seen.state a.worker l ∙ none))

released_still : (r : Retention) (l : LockId) (a c : Sight) → ShowsTheSame a c → HasReleased r l a → HasReleased r l c
released_still Retain l a c same gone = tt
released_still Release l a c same gone = λ book agrees. agrees.state.owns l ∙ not_owned l a c same (gone a.seen (agrees_self a.worker a.seen))
released_still ReleaseAndReacquire l a c same gone = λ book agrees. agrees.state.owns l ∙ not_owned l a c same (gone a.seen (agrees_self a.worker a.seen))

pub returns-clause-same : goal.returns-clause-same
returns-clause-same c = same_again

pub returns-clause-free : goal.returns-clause-free
returns-clause-free c = λ a c same free. free_still same free

pub returns-clause-parked : goal.returns-clause-parked
returns-clause-parked c = λ a c p same by. parked_still p same by

pub returns-clause-released : goal.returns-clause-released
returns-clause-released c = released_still

pub returns-clause-waits : goal.returns-clause-waits
returns-clause-waits c = λ a c same waits. waits_still same waits
