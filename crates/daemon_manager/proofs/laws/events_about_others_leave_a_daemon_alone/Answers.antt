use Rattle.daemon_manager.proofs.Lawful.{others}
use Rattle.daemon_manager.proofs.laws.events_about_others_leave_a_daemon_alone.Goals as goal

pub returns : goal.returns
returns c = others
