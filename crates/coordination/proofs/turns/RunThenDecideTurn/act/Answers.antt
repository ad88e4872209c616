use Rattle.std.proofs.Common.{Bool, ap, false, inl, inr, refl, ◌∙◌, subst, sym}
use Rattle.resource_lock.specs.declared.ids.WorkerId.{WorkerId}
use Rattle.coordination.specs.Names.{DecideGives, HadStep, AreTold, AsTold, WaitsAsTold, FollowGives, HasLeft, awaits_if, HasWoken}
use Rattle.worker_notes.specs.Parts.{IsPartHere}
use Rattle.coordination.specs.declared.turns.Came.TheVariants as came
use Rattle.worker_notes.specs.SleepAndWake.{IsAwake}
use Rattle.worker_notes.specs.declared.sleepers.Then.{Then}
use Rattle.worker_notes.specs.declared.sleepers.Then.TheVariants.{Leaves}
use Rattle.coordination.proofs.Awake.{decided_awake, stopped_awake}
use Rattle.coordination.proofs.TurnKinds.{Anything, Retries, again_left, failed_left, finished_of, followed_left, left_as_told, memory_left, not_again, not_failed, not_without_memory, part_again, unfinished_of}
use Rattle.coordination.proofs.Woken.{decided_woken, gone_on, stopped_woken}
use Rattle.coordination.proofs.turns.RunThenDecideTurn.act.Goals as goal

pub decide_held-came-requires-clause-part : goal.decide_held-came-requires-clause-part
decide_held-came-requires-clause-part g c =
    let T = g.T.Transform in
    let t = c.args.self.now.transform.now in
    let B = g.K.Keeper.book_of in
    let run = c.run_first-ran in
    let h = run.ensures.held.run in
    subst (λ (w : WorkerId). IsPartHere w (B run.new.self.keeper) run.new.notes.part) (sym c.not_sleeping.ensures.worker)
    (part_again (T.kind_of t) (T.makes t) (T.fails_on t) (T.retries_on t) c.args.caller.worker (B c.args.guarded.now.keeper) (B run.new.self.keeper) h.graph run.result.0 c.args.notes.now.part run.new.notes.part c.requires.part h.ran h.kept h.room)

pub returns-in-Done-true-clause-left : goal.returns-in-Done-true-clause-left
returns-in-Done-true-clause-left g c =
    let T = g.T.Transform in
    let t = c.args.self.now.transform.now in
    let Q = g.Q in
    let X = g.Q.Step.Transform in
    let q = c.args.self.now.decision.now in
    let B = g.K.Keeper.book_of in
    let run = c.run_first-ran in
    let d = c.decide_held-came in
    let h = d.ensures.held in
    let tells = AreTold g.O.Offers.tells in
    let told = left_as_told tells (Q.Question.answers q) (Q.Question.waits_on q) (Q.Decision.step_of q) X.kind_of X.makes X.fails_on X.retries_on h.queued (λ book. (run.new.self.offers, h.told book)) c.not_sleeping.result.worker
    (B run.new.self.keeper) (B d.new.self.keeper) d.new.notes.part d.result.0 h.decided in
    let decided = subst (λ (w : WorkerId). HasLeft (DecideGives (AsTold tells (Q.Question.answers q)) (Q.Decision.step_of q) X.kind_of X.makes X.fails_on X.retries_on) (WaitsAsTold tells (Q.Question.waits_on q)) (HadStep (AsTold tells (Q.Question.answers q)) (Q.Decision.step_of q)) w
    (B run.new.self.keeper) (B d.new.self.keeper) d.new.notes.part d.result.0) c.not_sleeping.ensures.worker told in
    subst (λ f. HasLeft (FollowGives (AsTold tells (Q.Question.answers q)) (WaitsAsTold tells (Q.Question.waits_on q)) (Q.Decision.step_of q) X.kind_of X.makes X.fails_on X.retries_on (T.kind_of t) (T.makes t) (T.fails_on t)) (Retries (T.retries_on t)) Anything c.args.caller.worker
    (B c.args.guarded.now.keeper) (B d.new.self.keeper) d.new.notes.part (came.Done f)) (sym c.followed_of.ensures)
    (followed_left (AsTold tells (Q.Question.answers q)) (WaitsAsTold tells (Q.Question.waits_on q)) (Q.Decision.step_of q) X.kind_of X.makes X.fails_on X.retries_on (T.kind_of t) (T.makes t) (T.fails_on t) (T.retries_on t) c.args.caller.worker (B c.args.guarded.now.keeper) (B run.new.self.keeper) (B d.new.self.keeper) run.new.notes.part d.new.notes.part _ run.ensures.held.left run.result run.ensures.held.run
    (sym c.came_of.ensures ∙ (c.in-Done-true.is ∙ ap (λ (b : Bool). came.Done b) c.in-Done-true.field-0-test)) d.result.0 decided)

pub returns-in-Done-false-clause-left : goal.returns-in-Done-false-clause-left
returns-in-Done-false-clause-left g c =
    let T = g.T.Transform in
    let t = c.args.self.now.transform.now in
    let Q = g.Q in
    let X = g.Q.Step.Transform in
    let q = c.args.self.now.decision.now in
    let B = g.K.Keeper.book_of in
    let run = c.run_first-ran in
    failed_left (AsTold (AreTold g.O.Offers.tells) (Q.Question.answers q)) (WaitsAsTold (AreTold g.O.Offers.tells) (Q.Question.waits_on q)) (Q.Decision.step_of q) X.kind_of X.makes X.fails_on X.retries_on (T.kind_of t) (T.makes t) (T.fails_on t) (T.retries_on t) c.args.caller.worker (B c.args.guarded.now.keeper) (B run.new.self.keeper) run.new.notes.part _ run.ensures.held.left run.result run.ensures.held.run
    (sym c.came_of.ensures ∙ (c.in-Done-false.is ∙ ap (λ (b : Bool). came.Done b) c.in-Done-false.field-0-test))

pub returns-in-NoMemory-clause-left : goal.returns-in-NoMemory-clause-left
returns-in-NoMemory-clause-left g c =
    let T = g.T.Transform in
    let t = c.args.self.now.transform.now in
    let Q = g.Q in
    let X = g.Q.Step.Transform in
    let q = c.args.self.now.decision.now in
    let B = g.K.Keeper.book_of in
    let run = c.run_first-ran in
    memory_left (AsTold (AreTold g.O.Offers.tells) (Q.Question.answers q)) (WaitsAsTold (AreTold g.O.Offers.tells) (Q.Question.waits_on q)) (Q.Decision.step_of q) X.kind_of X.makes X.fails_on X.retries_on (T.kind_of t) (T.makes t) (T.fails_on t) (T.retries_on t) c.args.caller.worker (B c.args.guarded.now.keeper) (B run.new.self.keeper) run.new.notes.part _ run.ensures.held.left run.result run.ensures.held.run
    (sym c.came_of.ensures ∙ c.in-NoMemory.is)

pub returns-in-Again-clause-left : goal.returns-in-Again-clause-left
returns-in-Again-clause-left g c =
    let T = g.T.Transform in
    let t = c.args.self.now.transform.now in
    let Q = g.Q in
    let X = g.Q.Step.Transform in
    let q = c.args.self.now.decision.now in
    let B = g.K.Keeper.book_of in
    let run = c.run_first-ran in
    again_left (AsTold (AreTold g.O.Offers.tells) (Q.Question.answers q)) (WaitsAsTold (AreTold g.O.Offers.tells) (Q.Question.waits_on q)) (Q.Decision.step_of q) X.kind_of X.makes X.fails_on X.retries_on (T.kind_of t) (T.makes t) (T.fails_on t) (T.retries_on t) c.args.caller.worker (B c.args.guarded.now.keeper) (B run.new.self.keeper) run.new.notes.part _ run.ensures.held.left run.result run.ensures.held.run
    (sym c.came_of.ensures ∙ c.in-Again.is)

pub returns-in-Done-true-clause-awake : goal.returns-in-Done-true-clause-awake
returns-in-Done-true-clause-awake g c = λ ne.
    let Q = g.Q in
    let X = g.Q.Step.Transform in
    let q = c.args.self.now.decision.now in
    let B = g.K.Keeper.book_of in
    let d = c.decide_held-came in
    subst (λ (w : WorkerId). IsAwake w d.new.self.sleepers) c.not_sleeping.ensures.worker
    (decided_awake (Q.Question.answers q) (Q.Question.waits_on q) (awaits_if c.not_sleeping.result.sleeps (Q.Question.awaits q)) (Q.Decision.step_of q) X.kind_of X.makes X.fails_on X.retries_on c.not_sleeping.result.worker (g.O.Offers.tells c.run_first-ran.new.self.offers)
    c.not_sleeping.result.behind c.not_sleeping.result.woken c.not_sleeping.result.apart (B c.run_first-ran.new.self.keeper) (B d.new.self.keeper) d.new.notes.part c.run_first-ran.new.self.sleepers d.new.self.sleepers d.result d.ensures.held
    (λ is. ap (λ (b : Bool). awaits_if b (Q.Question.awaits q)) c.not_sleeping.ensures.sleeps))

pub returns-in-Done-false-clause-awake : goal.returns-in-Done-false-clause-awake
returns-in-Done-false-clause-awake g c = λ ne.
    let T = g.T.Transform in
    let t = c.args.self.now.transform.now in
    let B = g.K.Keeper.book_of in
    let run = c.run_first-ran in
    stopped_awake (T.kind_of t) (T.makes t) (T.fails_on t) (T.retries_on t) (g.O.Offers.tells c.args.guarded.now.offers) c.args.caller.worker c.args.caller.sleeps (B c.args.guarded.now.keeper) (B run.new.self.keeper) run.new.notes.part c.args.guarded.now.sleepers run.new.self.sleepers run.result run.ensures.held
    (unfinished_of run.result.0 (came.Done false) (sym c.came_of.ensures ∙ (c.in-Done-false.is ∙ ap (λ (b : Bool). came.Done b) c.in-Done-false.field-0-test)) not_failed)

pub returns-in-NoMemory-clause-awake : goal.returns-in-NoMemory-clause-awake
returns-in-NoMemory-clause-awake g c = λ ne.
    let T = g.T.Transform in
    let t = c.args.self.now.transform.now in
    let B = g.K.Keeper.book_of in
    let run = c.run_first-ran in
    stopped_awake (T.kind_of t) (T.makes t) (T.fails_on t) (T.retries_on t) (g.O.Offers.tells c.args.guarded.now.offers) c.args.caller.worker c.args.caller.sleeps (B c.args.guarded.now.keeper) (B run.new.self.keeper) run.new.notes.part c.args.guarded.now.sleepers run.new.self.sleepers run.result run.ensures.held
    (unfinished_of run.result.0 came.NoMemory (sym c.came_of.ensures ∙ c.in-NoMemory.is) not_without_memory)

pub returns-in-Again-clause-awake : goal.returns-in-Again-clause-awake
returns-in-Again-clause-awake g c = λ ne.
    let T = g.T.Transform in
    let t = c.args.self.now.transform.now in
    let B = g.K.Keeper.book_of in
    let run = c.run_first-ran in
    stopped_awake (T.kind_of t) (T.makes t) (T.fails_on t) (T.retries_on t) (g.O.Offers.tells c.args.guarded.now.offers) c.args.caller.worker c.args.caller.sleeps (B c.args.guarded.now.keeper) (B run.new.self.keeper) run.new.notes.part c.args.guarded.now.sleepers run.new.self.sleepers run.result run.ensures.held
    (unfinished_of run.result.0 came.Again (sym c.came_of.ensures ∙ c.in-Again.is) not_again)

pub returns-in-Done-true-clause-ends : goal.returns-in-Done-true-clause-ends
returns-in-Done-true-clause-ends g c =
    let T = g.T.Transform in
    let t = c.args.self.now.transform.now in
    let Q = g.Q in
    let X = g.Q.Step.Transform in
    let q = c.args.self.now.decision.now in
    let B = g.K.Keeper.book_of in
    let run = c.run_first-ran in
    let d = c.decide_held-came in
    let k = c.not_sleeping.result in
    let later = decided_woken g.O.Offers.tells run.new.self.offers k.worker k.behind (Q.Question.answers q) (Q.Question.waits_on q) (awaits_if k.sleeps (Q.Question.awaits q)) (Q.Decision.step_of q) X.kind_of X.makes X.fails_on X.retries_on
    k.woken k.apart (B run.new.self.keeper) (B d.new.self.keeper) d.new.notes.part run.new.self.sleepers d.new.self.sleepers d.result d.ensures.held in
    inr (
      B run.new.self.keeper,
      run.new.self.sleepers,
      gone_on (T.kind_of t) (T.makes t) (T.fails_on t) (T.retries_on t) c.args.caller.worker c.args.caller.sleeps (B c.args.guarded.now.keeper) (B run.new.self.keeper) run.new.notes.part c.args.guarded.now.sleepers run.new.self.sleepers run.result (g.O.Offers.tells c.args.guarded.now.offers) run.ensures.held
          (finished_of run.result.0 (sym c.came_of.ensures ∙ (c.in-Done-true.is ∙ ap (λ (b : Bool). came.Done b) c.in-Done-true.field-0-test))),
      subst (λ (p : WorkerId × Then). HasWoken (AreTold g.O.Offers.tells) p.0 p.1 (B run.new.self.keeper) (B d.new.self.keeper) run.new.self.sleepers d.new.self.sleepers d.result.1) (λ i. (c.not_sleeping.ensures.worker i, c.not_sleeping.ensures.behind i)) later,
    )

pub returns-in-Done-false-clause-ends : goal.returns-in-Done-false-clause-ends
returns-in-Done-false-clause-ends g c =
    let T = g.T.Transform in
    let t = c.args.self.now.transform.now in
    let B = g.K.Keeper.book_of in
    let run = c.run_first-ran in
    inl (
      Leaves,
      inr refl,
      stopped_woken (T.kind_of t) (T.makes t) (T.fails_on t) (T.retries_on t) c.args.caller.worker c.args.caller.sleeps (B c.args.guarded.now.keeper) (B run.new.self.keeper) run.new.notes.part c.args.guarded.now.sleepers run.new.self.sleepers run.result g.O.Offers.tells c.args.guarded.now.offers run.ensures.held
          (unfinished_of run.result.0 (came.Done false) (sym c.came_of.ensures ∙ (c.in-Done-false.is ∙ ap (λ (b : Bool). came.Done b) c.in-Done-false.field-0-test)) not_failed),
      refl,
    )

pub returns-in-NoMemory-clause-ends : goal.returns-in-NoMemory-clause-ends
returns-in-NoMemory-clause-ends g c =
    let T = g.T.Transform in
    let t = c.args.self.now.transform.now in
    let B = g.K.Keeper.book_of in
    let run = c.run_first-ran in
    inl (
      Leaves,
      inr refl,
      stopped_woken (T.kind_of t) (T.makes t) (T.fails_on t) (T.retries_on t) c.args.caller.worker c.args.caller.sleeps (B c.args.guarded.now.keeper) (B run.new.self.keeper) run.new.notes.part c.args.guarded.now.sleepers run.new.self.sleepers run.result g.O.Offers.tells c.args.guarded.now.offers run.ensures.held
          (unfinished_of run.result.0 came.NoMemory (sym c.came_of.ensures ∙ c.in-NoMemory.is) not_without_memory),
      refl,
    )

pub returns-in-Again-clause-ends : goal.returns-in-Again-clause-ends
returns-in-Again-clause-ends g c =
    let T = g.T.Transform in
    let t = c.args.self.now.transform.now in
    let B = g.K.Keeper.book_of in
    let run = c.run_first-ran in
    inl (
      Leaves,
      inr refl,
      stopped_woken (T.kind_of t) (T.makes t) (T.fails_on t) (T.retries_on t) c.args.caller.worker c.args.caller.sleeps (B c.args.guarded.now.keeper) (B run.new.self.keeper) run.new.notes.part c.args.guarded.now.sleepers run.new.self.sleepers run.result g.O.Offers.tells c.args.guarded.now.offers run.ensures.held
          (unfinished_of run.result.0 came.Again (sym c.came_of.ensures ∙ c.in-Again.is) not_again),
      refl,
    )
