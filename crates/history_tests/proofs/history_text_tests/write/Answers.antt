use Rattle.std.proofs.Common.{All, rules, subst, sym}
use Rattle.lock_journal.specs.Names.{HasEnded, IsEnded, StateView}
use Rattle.history_tests.proofs.history_text_tests.write.Goals as goal

pub write_results-requires-clause-ended : goal.write_results-requires-clause-ended
write_results-requires-clause-ended c =
    let replays = c.state-state.ensures.replays in
    let ended : All IsEnded c.args.book.now.state.tasks = search rules in
    subst HasEnded (sym replays) (c.every_run_comes_to_its_plan.ensures.ended _ _ c.graph.ensures.fits c.state-state.ensures.lawful (subst (λ (s : StateView). All IsEnded s.tasks) replays ended))
