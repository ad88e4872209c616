use Rattle.std.proofs.Common.{rules, ◌≡◌, Bool, Result, Ok, Err, false, refl, arith, subst, sym}
use Rattle.coordination.specs.Attempts.{HasRunFirst, HasRunOn}
use Rattle.lock_transforms.specs.declared.transforms.Disposition.{Disposition}
use Rattle.lock_transforms.specs.declared.transforms.Disposition.TheVariants.{Finished, Failed, Retry}
use Rattle.worker_notes.specs.SleepAndWake.{begun, noted_after}
use Rattle.worker_notes.specs.declared.sleepers.Sleepers.{Sleepers}
use Rattle.worker_notes.specs.declared.sleepers.Then.TheVariants.{Leaves}
use Rattle.coordination.proofs.guarded.Guarded.run_first.Goals as goal
use Rattle.coordination.proofs.guarded.Guarded.run_first.Goals.{in-Ok-Retry, in_default, in_default-2, else-caller-via-then-caller+else-matches, else-caller-via-else-caller}

awake_same : {E : Type 0} (r : Result Disposition E) (s : Sleepers) → s ≡ noted_after false r s
awake_same (Ok Retry) s = refl
awake_same (Ok Finished) s = refl
awake_same (Ok Failed) s = refl
awake_same (Err e) s = refl

pub returns-then-matches-clause-held : goal.returns-then-matches-clause-held
returns-then-matches-clause-held g c =
    let t = c.args.transform.now in
    let T = g.T.Transform in
    let q = c.queued_for_sleepers-self in
    record {
      queued = q.result;
      told = q.ensures.told;
      left = c.go_on_by-ran.new.sleepers;
      run = subst (λ (p : _ × Sleepers). HasRunOn (T.kind_of t) (T.makes t) (T.fails_on t) (T.retries_on t) c.args.caller.worker (g.K.Keeper.book_of p.0) (g.K.Keeper.book_of c.go_on_by-ran.new.keeper)
          c.go_on_by-ran.new.notes.part (begun q.result Leaves p.1) c.go_on_by-ran.new.sleepers c.go_on_by-ran.result) (λ i. (q.ensures.keeper i, q.ensures.sleepers i)) c.go_on_by-ran.ensures.run;
      noted = elim c.match-matches.branch [ in-Ok-Retry w ↦ grind (arith, c.if-caller.true, w.in-Ok-Retry.is) | in_default w ↦ grind (arith, c.if-matches.true, w.matches-is) | in_default-2 w ↦ grind (arith, c.if-matches.true, w.matches-is) ];
    }

pub returns-else-caller-clause-held : goal.returns-else-caller-clause-held
returns-else-caller-clause-held g c =
    let t = c.args.transform.now in
    let T = g.T.Transform in
    let q = c.queued_for_sleepers-self in
    record {
      queued = q.result;
      told = q.ensures.told;
      left = c.go_on_by-ran.new.sleepers;
      run = subst (λ (p : _ × Sleepers). HasRunOn (T.kind_of t) (T.makes t) (T.fails_on t) (T.retries_on t) c.args.caller.worker (g.K.Keeper.book_of p.0) (g.K.Keeper.book_of c.go_on_by-ran.new.keeper)
          c.go_on_by-ran.new.notes.part (begun q.result Leaves p.1) c.go_on_by-ran.new.sleepers c.go_on_by-ran.result) (λ i. (q.ensures.keeper i, q.ensures.sleepers i)) c.go_on_by-ran.ensures.run;
      noted = elim c.else-caller.branch [
        | else-caller-via-then-caller+else-matches w ↦ elim w.match-matches.branch [
          | in-Ok-Retry v ↦ grind (arith, w.if-matches.false, v.matches-is)
          | in_default v ↦ search rules
          | in_default-2 v ↦ grind (arith, v.in_default.is)
        ]
        | else-caller-via-else-caller w ↦ subst (λ (b : Bool). c.go_on_by-ran.new.sleepers ≡ noted_after b c.go_on_by-ran.result.0 c.go_on_by-ran.new.sleepers) (sym w.if-caller.false) (awake_same c.go_on_by-ran.result.0 c.go_on_by-ran.new.sleepers)
      ];
    }
