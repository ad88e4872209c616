use Rattle.std.proofs.Common.{◌∙◌}
use Rattle.run_picture.proofs.Placed.{searched_for}
use Rattle.run_picture.proofs.lock_rows.stands_in.Goals as goal

pub returns : goal.returns
returns c = c.is_ok.ensures.value ∙ searched_for c.args.locks.now c.args.lock c.binary_search.result c.binary_search.ensures.position c.requires
