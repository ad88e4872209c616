use Rattle.std.proofs.Common.{refl, ap}
use Rattle.std.specs.Prelude.{◌&&◌}
use Rattle.worker_choices.specs.GoingOn.{last_lets_go_on}
use Rattle.worker_notes.proofs.Sleeping.{sleeps_on, unwoken}
use Rattle.worker_notes.proofs.sleepers.Sleepers.end_hold.Goals as goal

pub returns-then-not-entry_may_wake : goal.returns-then-not-entry_may_wake
returns-then-not-entry_may_wake c =
    let sleepers = c.args.self.now in
    let none = c.if-not-entry_may_wake.true in
    let goes_on = last_lets_go_on c.args.book.now.history in
    let settled = c.settle-workers.ensures in record {
      queued = refl;
      questions = unwoken c.args.entered sleepers.questions (c.entry_may_wake.ensures.questions none);
      transforms = unwoken c.args.entered (sleepers.transforms && goes_on) (ap (λ b. b && goes_on) (c.entry_may_wake.ensures.transforms none));
      workers = settled.woken;
      stances = settled.stances;
      quiet = settled.quiet;
      questions_left = sleeps_on sleepers.questions;
      transforms_left = sleeps_on sleepers.transforms;
    }
