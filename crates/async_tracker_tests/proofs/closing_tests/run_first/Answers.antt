use Rattle.std.proofs.Common.{rules, List, sym, subst}
use Rattle.std.specs.Prelude.{Contains}
use Rattle.lock_journal.specs.Names.{MarkId, UnitOf, mark_before}
use Rattle.coordination.specs.Shown.{claimed_shown}
use Rattle.lock_journal.proofs.lemmas.Claims.{has_member}
use Rattle.async_tracker_tests.proofs.closing_tests.run_first.Goals as goal

pub close_or_try_again-requires-clause-claimed : goal.close_or_try_again-requires-clause-claimed
close_or_try_again-requires-clause-claimed g c =
    let shows = c.claim.ensures.shows (search rules) in
    subst (λ (ms : List MarkId). Contains ms (UnitOf 0)) (sym shows.claimed) (has_member mark_before (UnitOf 0) (claimed_shown c.args.pass.now.sight))
