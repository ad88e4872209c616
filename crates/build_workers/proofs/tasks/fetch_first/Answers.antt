use Rattle.std.proofs.Common.{rules}
use Rattle.build_workers.proofs.Points.{fetch_in}
use Rattle.build_workers.proofs.tasks.fetch_first.Goals as goal

pub fetch-requires-clause-within : goal.fetch-requires-clause-within
fetch-requires-clause-within g c κs within = (fetch_in c.action_of-found.result c.action_of-found.ensures.fits c.requires.action c.action_of-found.ensures.value (search rules)).1

pub fetch-requires-clause-fetch : goal.fetch-requires-clause-fetch
fetch-requires-clause-fetch g c κs within = (fetch_in c.action_of-found.result c.action_of-found.ensures.fits c.requires.action c.action_of-found.ensures.value (search rules)).0
