use Rattle.std.proofs.Common.{◌≡◌, ◌<◌, length, rules}
use Rattle.blocking_section.specs.Sections.{IsGivenBackBy}
use Rattle.blocking_section.proofs.lemmas.Stays.{given_back_stays}
use Rattle.worker_notes.specs.Offered.{AsTold, WaitsAsTold}
use Rattle.coordination_tests.proofs.Agreeing.{NothingTold, ask_agrees}
use Rattle.coordination_tests.proofs.blocking_section_tests.leaves.Goals as goal

pub leave-requires-clause-own : goal.leave-requires-clause-own
leave-requires-clause-own g c =
    let own : IsGivenBackBy c.enter.new.pass.sight c.in_ok-blocked.blocked = search rules in
    let agrees = ask_agrees (AsTold NothingTold (λ queued w book entries. entries ≡ length book.history)) (WaitsAsTold NothingTold (λ queued w book. length book.history < 3)) c.enter.new.pass.sight c.ask-found.new.pass.sight c.ask-found.result c.ask-found.ensures.answered c.ask-found.ensures.stopped c.ask-found.ensures.memory in
    given_back_stays c.enter.new.pass.sight c.ask-found.new.pass.sight c.in_ok-blocked.blocked c.ask-found.ensures.worker agrees own
