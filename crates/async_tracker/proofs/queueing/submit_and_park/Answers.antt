use Rattle.std.proofs.Common.{Ok, inr, rules, ap, ◌∙◌}
use Rattle.coordination.proofs.lemmas.Shown.{looked_shows, stopped_for, stopped_shows}
use Rattle.worker_notes.specs.Offered.{AreTold}
use Rattle.coordination.specs.declared.decisions.Decided.TheVariants as decided
use Rattle.coordination.specs.declared.decisions.Followed.TheVariants as followed
use Rattle.async_tracker.proofs.lemmas.After.{halted, on_err}
use Rattle.async_tracker.proofs.Parking.{cannot_queue, parked_by}
use Rattle.async_tracker.proofs.QueuedItems.{Submitted, free_behind, if_left, never_answered, never_failed, never_undecided, never_waits, parked_at_once, parked_behind, released_behind, submitted_alone, submitted_still, waits_behind}
use Rattle.async_tracker.proofs.queueing.submit_and_park.Goals as goal
use Rattle.async_tracker.proofs.queueing.submit_and_park.Given.{Over}

pub returns-in_err-run_then_decide-clause-kept : goal.returns-in_err-run_then_decide-clause-kept
returns-in_err-run_then_decide-clause-kept g c =
    let e = c.run_then_decide.ensures in
    on_err c.from_residual.result (halted c.run_then_decide.result c.in_err-run_then_decide.field-0.0 c.in_err-run_then_decide.was (λ is. looked_shows (e.no_memory is)) (λ by is. stopped_shows (e.stopped by is)))

pub returns-in_err-run_then_decide-clause-stopped : goal.returns-in_err-run_then_decide-clause-stopped
returns-in_err-run_then_decide-clause-stopped g c = λ by is.
    let stopped = c.run_then_decide.ensures.stopped by (search rules) in
    stopped_for stopped (cannot_queue c.args.pass.now.sight stopped.book c.args.action stopped.found c.requires.in_range c.requires.works stopped.cause)

pub unreachable-requires : goal.unreachable-requires
unreachable-requires g c =
    let old = c.args.pass.now.sight in
    let new = c.run_then_decide.new.pass.sight in
    never_waits (AreTold g.O.Offers.tells) c.args.action old new (if_left (AreTold g.O.Offers.tells) c.args.action old new c.run_then_decide.result (followed.Decided (decided.Waiting tt)) (c.in_ok-run_then_decide.was ∙ ap Ok (c.in-Decided-Waiting.is ∙ ap followed.Decided c.in-Decided-Waiting.field-0-is)) c.run_then_decide.ensures.followed) c.requires.in_range c.requires.works c.requires.lock

pub unreachable-requires-in-Decided-Answered : goal.unreachable-requires-in-Decided-Answered
unreachable-requires-in-Decided-Answered g c =
    let old = c.args.pass.now.sight in
    let new = c.run_then_decide.new.pass.sight in
    never_answered (AreTold g.O.Offers.tells) c.args.action old new (if_left (AreTold g.O.Offers.tells) c.args.action old new c.run_then_decide.result (followed.Decided (decided.Answered tt)) (c.in_ok-run_then_decide.was ∙ ap Ok (c.in-Decided-Answered.is ∙ ap followed.Decided c.in-Decided-Answered.field-0-is)) c.run_then_decide.ensures.followed)

pub unreachable-requires-in-Undecided : goal.unreachable-requires-in-Undecided
unreachable-requires-in-Undecided g c =
    let old = c.args.pass.now.sight in
    let new = c.run_then_decide.new.pass.sight in
    never_undecided (AreTold g.O.Offers.tells) c.args.action old new (if_left (AreTold g.O.Offers.tells) c.args.action old new c.run_then_decide.result followed.Undecided (c.in_ok-run_then_decide.was ∙ ap Ok c.in-Undecided.is) c.run_then_decide.ensures.followed)

pub unreachable-requires-in-Failed : goal.unreachable-requires-in-Failed
unreachable-requires-in-Failed g c =
    let old = c.args.pass.now.sight in
    let new = c.run_then_decide.new.pass.sight in
    never_failed (AreTold g.O.Offers.tells) c.args.action old new (if_left (AreTold g.O.Offers.tells) c.args.action old new c.run_then_decide.result followed.Failed (c.in_ok-run_then_decide.was ∙ ap Ok c.in-Failed.is) c.run_then_decide.ensures.followed)

pub returns-in-Decided-Entered-clause-entries : goal.returns-in-Decided-Entered-clause-entries
returns-in-Decided-Entered-clause-entries g c =
    let old = c.args.pass.now.sight in
    let new = c.run_then_decide.new.pass.sight in
    let k = c.in-Decided-Entered in
    parked_at_once (AreTold g.O.Offers.tells) c.args.action old new k.field-0-1
    (if_left (AreTold g.O.Offers.tells) c.args.action old new c.run_then_decide.result (followed.Decided (decided.Entered tt k.field-0-1)) (c.in_ok-run_then_decide.was ∙ ap Ok (k.is ∙ ap followed.Decided k.field-0-is)) c.run_then_decide.ensures.followed)

pub returns-in-Decided-Entered-clause-shows : goal.returns-in-Decided-Entered-clause-shows
returns-in-Decided-Entered-clause-shows g c = parked_behind (AreTold g.O.Offers.tells) c.args.action c.args.pass.now.sight c.run_then_decide.new.pass.sight (returns-in-Decided-Entered-clause-entries g c)

pub returns-in-Decided-Entered-clause-own : goal.returns-in-Decided-Entered-clause-own
returns-in-Decided-Entered-clause-own g c =
    parked_by c.new.result (search rules) (search rules) (parked_behind (AreTold g.O.Offers.tells) c.args.action c.args.pass.now.sight c.run_then_decide.new.pass.sight (returns-in-Decided-Entered-clause-entries g c))

pub returns-in-Decided-Entered-clause-free : goal.returns-in-Decided-Entered-clause-free
returns-in-Decided-Entered-clause-free g c = λ none.
    free_behind (AreTold g.O.Offers.tells) c.args.action c.args.pass.now.sight c.run_then_decide.new.pass.sight (returns-in-Decided-Entered-clause-entries g c) c.requires.works.lease none

pub returns-in-Decided-Entered-clause-waits : goal.returns-in-Decided-Entered-clause-waits
returns-in-Decided-Entered-clause-waits g c = waits_behind (AreTold g.O.Offers.tells) c.args.action c.args.pass.now.sight c.run_then_decide.new.pass.sight (returns-in-Decided-Entered-clause-entries g c)

pub returns-in-Decided-Entered-clause-released : goal.returns-in-Decided-Entered-clause-released
returns-in-Decided-Entered-clause-released g c = released_behind (AreTold g.O.Offers.tells) c.args.action c.args.pass.now.sight c.run_then_decide.new.pass.sight (returns-in-Decided-Entered-clause-entries g c)

left_alone : (g : Over) (c : goal.In-NoMemory g) → Submitted (AreTold g.O.Offers.tells) c.args.action c.args.pass.now.sight c.run_then_decide.new.pass.sight
left_alone g c =
    let old = c.args.pass.now.sight in
    let new = c.run_then_decide.new.pass.sight in
    submitted_alone (AreTold g.O.Offers.tells) c.args.action old new (if_left (AreTold g.O.Offers.tells) c.args.action old new c.run_then_decide.result followed.NoMemory (c.in_ok-run_then_decide.was ∙ ap Ok c.in-NoMemory.is) c.run_then_decide.ensures.followed)

pub returns-in-NoMemory-clause-kept : goal.returns-in-NoMemory-clause-kept
returns-in-NoMemory-clause-kept g c = submitted_still (AreTold g.O.Offers.tells) c.args.action c.args.pass.now.sight c.run_then_decide.new.pass.sight (left_alone g c)

pub returns-in-NoMemory-clause-no_memory : goal.returns-in-NoMemory-clause-no_memory
returns-in-NoMemory-clause-no_memory g c = λ is. inr (left_alone g c)
