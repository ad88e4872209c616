use Rattle.std.proofs.Common.{rules}
use Rattle.wakhurmi_c.proofs.taking.take_into.Goals as goal

pub returns-clause-tried : goal.returns-clause-tried
returns-clause-tried c = record { fresh = c.args.fresh.value; is_fresh = c.requires; left = search rules }
