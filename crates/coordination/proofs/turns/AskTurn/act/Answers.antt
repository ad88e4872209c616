use Rattle.std.proofs.Common.{ap, inl, refl}
use Rattle.coordination.proofs.Awake.{asked_awake}
use Rattle.coordination.specs.Names.{awaits_if, AreTold, AsTold, WaitsAsTold}
use Rattle.coordination.proofs.TurnKinds.{answered_left, answers_as_told, unanswered_left}
use Rattle.coordination.proofs.Woken.{asked_woken}
use Rattle.coordination.proofs.turns.AskTurn.act.Goals as goal

pub returns-in-Some-clause-left : goal.returns-in-Some-clause-left
returns-in-Some-clause-left g c =
    let Q = g.Q.Question in
    let q = c.args.self.now.question.now in
    let B = g.K.Keeper.book_of in
    let h = c.ask_held-answer in
    let a = h.ensures.asked in
    answered_left (AsTold (AreTold g.O.Offers.tells) (Q.answers q)) (WaitsAsTold (AreTold g.O.Offers.tells) (Q.waits_on q)) c.args.caller.worker (B c.args.guarded.now.keeper) (B h.new.self.keeper) c.args.notes.now.part (ap B h.ensures.same) c.requires.part h.result.0
    (answers_as_told (AreTold g.O.Offers.tells) (Q.answers q) (Q.waits_on q) a.queued (λ book. (c.args.guarded.now.offers, a.told book)) c.args.caller.worker (B c.args.guarded.now.keeper) h.result.0 a.answer) c.in-Some.answer c.in-Some.is

pub returns-in-None-clause-left : goal.returns-in-None-clause-left
returns-in-None-clause-left g c =
    let Q = g.Q.Question in
    let q = c.args.self.now.question.now in
    let B = g.K.Keeper.book_of in
    let h = c.ask_held-answer in
    let a = h.ensures.asked in
    unanswered_left (AsTold (AreTold g.O.Offers.tells) (Q.answers q)) (WaitsAsTold (AreTold g.O.Offers.tells) (Q.waits_on q)) c.args.caller.worker (B c.args.guarded.now.keeper) (B h.new.self.keeper) c.args.notes.now.part (ap B h.ensures.same) c.requires.part h.result.0
    (answers_as_told (AreTold g.O.Offers.tells) (Q.answers q) (Q.waits_on q) a.queued (λ book. (c.args.guarded.now.offers, a.told book)) c.args.caller.worker (B c.args.guarded.now.keeper) h.result.0 a.answer) c.in-None.is

pub returns-in-Some-clause-awake : goal.returns-in-Some-clause-awake
returns-in-Some-clause-awake g c = λ ne.
    let Q = g.Q.Question in
    let q = c.args.self.now.question.now in
    let B = g.K.Keeper.book_of in
    let h = c.ask_held-answer in
    asked_awake (Q.answers q) (Q.waits_on q) (awaits_if c.args.caller.sleeps (Q.awaits q)) (g.O.Offers.tells c.args.guarded.now.offers) c.args.caller.worker c.args.caller.behind c.args.caller.woken c.args.caller.apart (B c.args.guarded.now.keeper) c.args.guarded.now.sleepers h.new.self.sleepers h.result h.ensures.asked
    c.in-Some.answer c.in-Some.is

pub returns-in-None-clause-awake : goal.returns-in-None-clause-awake
returns-in-None-clause-awake g c = λ ne. absurd (ne refl)

pub returns-in-Some-clause-ends : goal.returns-in-Some-clause-ends
returns-in-Some-clause-ends g c =
    let Q = g.Q.Question in
    let q = c.args.self.now.question.now in
    let B = g.K.Keeper.book_of in
    let h = c.ask_held-answer in
    inl (c.args.caller.behind, inl refl, asked_woken g.O.Offers.tells c.args.guarded.now.offers c.args.caller.worker c.args.caller.behind (Q.answers q) (Q.waits_on q) (awaits_if c.args.caller.sleeps (Q.awaits q)) c.args.caller.woken c.args.caller.apart (B c.args.guarded.now.keeper) (B h.new.self.keeper) c.args.guarded.now.sleepers h.new.self.sleepers h.result (ap B h.ensures.same) h.ensures.asked, refl)

pub returns-in-None-clause-ends : goal.returns-in-None-clause-ends
returns-in-None-clause-ends g c =
    let Q = g.Q.Question in
    let q = c.args.self.now.question.now in
    let B = g.K.Keeper.book_of in
    let h = c.ask_held-answer in
    inl (c.args.caller.behind, inl refl, asked_woken g.O.Offers.tells c.args.guarded.now.offers c.args.caller.worker c.args.caller.behind (Q.answers q) (Q.waits_on q) (awaits_if c.args.caller.sleeps (Q.awaits q)) c.args.caller.woken c.args.caller.apart (B c.args.guarded.now.keeper) (B h.new.self.keeper) c.args.guarded.now.sleepers h.new.self.sleepers h.result (ap B h.ensures.same) h.ensures.asked, refl)
