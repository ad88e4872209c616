use Rattle.std.proofs.Common.{◌≢◌, length, ap, sym, ◌∙◌, arith}
use Rattle.daemon_requirements.specs.RequirementsView.{RequirementsView}
use Rattle.daemon_manager.specs.declared.reserved.Reserved.{Reserved}
use Rattle.memory_budget.proofs.SumsKept.{release_counted, release_first, release_kept, release_stopped, released_held}
use Rattle.memory_budget.proofs.WithinKept.{released_within}
use Rattle.memory_budget.proofs.held.HeldPool.release.Goals as goal

pub overflow_sub-self : goal.overflow_sub-self
overflow_sub-self g c =
    let made_for = g.L.Linked.requirements in
    let inside = c.self.inside in
    let r : Reserved g.row.L.Denot = record { daemon = c.args.reserved.daemon; unit = c.args.reserved.unit; link = c.link.result.now } in
    let more : length c.release-spare.new.self.events ≢ length inside.pool.events = λ same. c.if-events.false (ap length c.events.ensures.value ∙ same ∙ sym (ap length c.events-events.ensures.value)) in
    let heap = c.heap_of-heap_mb.ensures.value ∙ ap (λ (q : RequirementsView). q.heap_mb) c.made_for.ensures in
    omega (arith, heap, release_counted made_for inside.pool c.release-spare.new.self inside.held_mb inside.busy_mb c.self.invariant r c.release-spare.result c.events-events.ensures.sound c.release-spare.ensures more)

pub overflow_sub-self-in-Some : goal.overflow_sub-self-in-Some
overflow_sub-self-in-Some g c =
    let made_for = g.L.Linked.requirements in
    let inside = c.self.inside in
    let r : Reserved g.row.L.Denot = record { daemon = c.args.reserved.daemon; unit = c.args.reserved.unit; link = c.link.result.now } in
    let more : length c.release-spare.new.self.events ≢ length inside.pool.events = λ same. c.if-events.false (ap length c.events.ensures.value ∙ same ∙ sym (ap length c.events-events.ensures.value)) in
    let first = c.heap_of.ensures.value ∙ ap (λ (q : RequirementsView). q.heap_mb) c.made_for-in-Some.ensures in
    omega (arith, first, release_first made_for inside.pool c.release-spare.new.self inside.held_mb inside.busy_mb c.self.invariant r c.release-spare.result c.events-events.ensures.sound c.release-spare.ensures more c.in-Some.link c.in-Some.is)

pub invariant_of-self-in-Some : goal.invariant_of-self-in-Some
invariant_of-self-in-Some g c =
    let made_for = g.L.Linked.requirements in
    let inside = c.self.inside in
    let r : Reserved g.row.L.Denot = record { daemon = c.args.reserved.daemon; unit = c.args.reserved.unit; link = c.link.result.now } in
    let more : length c.release-spare.new.self.events ≢ length inside.pool.events = λ same. c.if-events.false (ap length c.events.ensures.value ∙ same ∙ sym (ap length c.events-events.ensures.value)) in
    let heap = c.heap_of-heap_mb.ensures.value ∙ ap (λ (q : RequirementsView). q.heap_mb) c.made_for.ensures in
    let first = c.heap_of.ensures.value ∙ ap (λ (q : RequirementsView). q.heap_mb) c.made_for-in-Some.ensures in
    release_stopped made_for inside.pool c.release-spare.new.self inside.held_mb inside.busy_mb c.self.invariant r c.release-spare.result c.events-events.ensures.sound c.release-spare.ensures more c.in-Some.link c.in-Some.is _ _
    (omega (arith, first, release_first made_for inside.pool c.release-spare.new.self inside.held_mb inside.busy_mb c.self.invariant r c.release-spare.result c.events-events.ensures.sound c.release-spare.ensures more c.in-Some.link c.in-Some.is))
    (omega (arith, heap, release_counted made_for inside.pool c.release-spare.new.self inside.held_mb inside.busy_mb c.self.invariant r c.release-spare.result c.events-events.ensures.sound c.release-spare.ensures more))

pub invariant_of-self-in-None : goal.invariant_of-self-in-None
invariant_of-self-in-None g c =
    let made_for = g.L.Linked.requirements in
    let inside = c.self.inside in
    let r : Reserved g.row.L.Denot = record { daemon = c.args.reserved.daemon; unit = c.args.reserved.unit; link = c.link.result.now } in
    let more : length c.release-spare.new.self.events ≢ length inside.pool.events = λ same. c.if-events.false (ap length c.events.ensures.value ∙ same ∙ sym (ap length c.events-events.ensures.value)) in
    let heap = c.heap_of-heap_mb.ensures.value ∙ ap (λ (q : RequirementsView). q.heap_mb) c.made_for.ensures in
    release_kept made_for inside.pool c.release-spare.new.self inside.held_mb inside.busy_mb c.self.invariant r c.release-spare.result c.events-events.ensures.sound c.release-spare.ensures more _ c.in-None.is
    (omega (arith, heap, release_counted made_for inside.pool c.release-spare.new.self inside.held_mb inside.busy_mb c.self.invariant r c.release-spare.result c.events-events.ensures.sound c.release-spare.ensures more))

pub returns-in-Some-clause-held : goal.returns-in-Some-clause-held
returns-in-Some-clause-held g c =
    let inside = c.self.inside in
    let r : Reserved g.row.L.Denot = record { daemon = c.args.reserved.daemon; unit = c.args.reserved.unit; link = c.link.result.now } in
    rw (← c.self.view_is) (released_held g.L.Linked.requirements inside.pool c.release-spare.new.self inside.held_mb inside.busy_mb c.self.invariant r c.release-spare.result c.events-events.ensures.sound c.release-spare.ensures)

pub returns-in-None-clause-held : goal.returns-in-None-clause-held
returns-in-None-clause-held g c =
    let inside = c.self.inside in
    let r : Reserved g.row.L.Denot = record { daemon = c.args.reserved.daemon; unit = c.args.reserved.unit; link = c.link.result.now } in
    rw (← c.self.view_is) (released_held g.L.Linked.requirements inside.pool c.release-spare.new.self inside.held_mb inside.busy_mb c.self.invariant r c.release-spare.result c.events-events.ensures.sound c.release-spare.ensures)

pub returns-in-Some-clause-within : goal.returns-in-Some-clause-within
returns-in-Some-clause-within g c =
    let inside = c.self.inside in
    let r : Reserved g.row.L.Denot = record { daemon = c.args.reserved.daemon; unit = c.args.reserved.unit; link = c.link.result.now } in
    rw (← c.self.view_is) (released_within g.L.Linked.requirements inside.pool c.release-spare.new.self inside.held_mb inside.busy_mb c.self.invariant r c.release-spare.result c.events-events.ensures.sound c.release-spare.ensures)

pub returns-in-None-clause-within : goal.returns-in-None-clause-within
returns-in-None-clause-within g c =
    let inside = c.self.inside in
    let r : Reserved g.row.L.Denot = record { daemon = c.args.reserved.daemon; unit = c.args.reserved.unit; link = c.link.result.now } in
    rw (← c.self.view_is) (released_within g.L.Linked.requirements inside.pool c.release-spare.new.self inside.held_mb inside.busy_mb c.self.invariant r c.release-spare.result c.events-events.ensures.sound c.release-spare.ensures)
