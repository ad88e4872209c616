use Rattle.run_picture.proofs.Ticking.{all_ticks}
use Rattle.run_picture.proofs.laws.each_entry_has_one_tick.Goals as goal

pub returns : goal.returns
returns c = all_ticks
