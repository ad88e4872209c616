use Rattle.std.proofs.Common.{◌+◌, ◌*◌, length}
use Rattle.plan_document.proofs.nodes.+define_by_header.Given as goal

abbrev pub decreases-define_by_header : goal.decreases-define_by_header
decreases-define_by_header l = 2 * length l.header.now

abbrev pub decreases-with_header : goal.decreases-with_header
decreases-with_header l = 2 * length l.below.now + 1
