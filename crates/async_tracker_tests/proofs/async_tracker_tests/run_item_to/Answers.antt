use Rattle.std.proofs.Common.{rules, List, sym, subst}
use Rattle.std.specs.Prelude.{Contains}
use Rattle.lock_journal.specs.Names.{MarkId, UnitOf, mark_before}
use Rattle.coordination.specs.Shown.{claimed_shown}
use Rattle.lock_journal.proofs.lemmas.Claims.{has_member}
use Rattle.async_tracker_tests.proofs.Helping.{helps_still}
use Rattle.async_tracker_tests.proofs.async_tracker_tests.run_item_to.Goals as goal

pub close-requires-clause-claimed : goal.close-requires-clause-claimed
close-requires-clause-claimed g c =
    let shows = c.claim.ensures.shows (search rules) in
    subst (λ (ms : List MarkId). Contains ms (UnitOf c.args.unit)) (sym shows.claimed) (has_member mark_before (UnitOf c.args.unit) (claimed_shown c.args.pass.now.sight))

pub returns-in-Ok-clause-helps : goal.returns-in-Ok-clause-helps
returns-in-Ok-clause-helps g c =
    let claimed = c.claim.ensures.shows (search rules) in
    let same = c.closing_undoes_claiming.ensures.same c.args.unit c.args.pass.now.sight c.claim.new.pass.sight c.close.new.pass.sight c.requires.helps.free.lease claimed (search rules) in
    helps_still c.args.parked.now same c.requires.helps
