use Rattle.std.proofs.Common.{◌∙◌, sym}
use Rattle.item_actions.proofs.Runs.{whole_runs}
use Rattle.item_actions.proofs.run_state.RunState.number.Goals as goal

pub returns : goal.returns
returns c = λ bytes h. h.longest ∙ sym (whole_runs bytes)
