use Rattle.std.proofs.Common.{◌≡◌, true, refl}
use Rattle.std.proofs.lemmas.Bool.{false≢true}
use Rattle.lock_journal.specs.Names.{Mark, Waiting, Queued, Running, Passed, Failed, Skipped, IsEnded}
use Rattle.resource_lock.specs.Marks.{has_ended}
use Rattle.worker_choices.proofs.next_steps.all_ended.Goals as goal

is_ended : (m : Mark) → has_ended m ≡ true → IsEnded m
is_ended Waiting is = absurd (false≢true is)
is_ended Queued is = absurd (false≢true is)
is_ended (Running w) is = absurd (false≢true is)
is_ended Passed is = tt
is_ended Failed is = tt
is_ended Skipped is = tt

has_ended_so : (m : Mark) → IsEnded m → has_ended m ≡ true
has_ended_so Waiting is = absurd is
has_ended_so Queued is = absurd is
has_ended_so (Running w) is = absurd is
has_ended_so Passed is = refl
has_ended_so Failed is = refl
has_ended_so Skipped is = refl

pub returns : goal.returns
returns c =
    let both = c.all_tasks_ended.ensures in
    (λ t. λ k d lt. is_ended _ (both.0 t k d lt), λ all. both.1 (λ k d lt. has_ended_so _ (all k d lt)))
