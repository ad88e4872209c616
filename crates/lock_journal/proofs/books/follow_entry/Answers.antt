use Rattle.lock_transforms.specs.Table.{mark_from}
use Rattle.lock_journal.proofs.EntryFollowed.{claim_led, close_led, ended_from, other_led}
use Rattle.lock_journal.proofs.books.follow_entry.Goals as goal

pub follow_claim-requires : goal.follow_claim-requires
follow_claim-requires c = (c.args.work.now.graph, c.requires.0.state, c.args.work.now.state, c.requires.1, claim_led c.state-state.ensures.belongs c.requires.2 c.in-Claim.is)

pub returns-in-Claim : goal.returns-in-Claim
returns-in-Claim c = c.follow_claim.ensures _ _ _ _ (claim_led c.state-state.ensures.belongs c.requires.2 c.in-Claim.is)

pub follow_close-requires : goal.follow_close-requires
follow_close-requires c = (
  c.args.work.now.graph,
  c.requires.0.state,
  c.args.work.now.state,
  c.requires.1,
  mark_from c.in-Close.closed.outcome,
  close_led c.state-state.ensures.belongs c.requires.2 c.in-Close.is,
)

pub returns-in-Close : goal.returns-in-Close
returns-in-Close c = c.follow_close.ensures _ _ _ _ _ (ended_from c.in-Close.closed.outcome) (close_led c.state-state.ensures.belongs c.requires.2 c.in-Close.is)

pub follow-requires : goal.follow-requires
follow-requires c = (c.requires.0.state, c.requires.1, other_led c.state-state.ensures.belongs c.requires.2 c.graph.ensures.value c.state-state.ensures.value c.made.ensures)
