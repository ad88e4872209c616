use Rattle.daemon_manager.proofs.Lawful.{given_to_nobody_else}
use Rattle.daemon_manager.proofs.laws.busy_daemons_are_given_to_nobody_else.Goals as goal

pub returns : goal.returns
returns c = given_to_nobody_else
