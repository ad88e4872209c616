use Rattle.std.proofs.Common.{◌+◌, ◌*◌, length}
use Rattle.plan_document.proofs.nodes.+define_by_dots.Given as goal

abbrev pub decreases-define_by_dots : goal.decreases-define_by_dots
decreases-define_by_dots l = 2 * length l.dots.now

abbrev pub decreases-with_dots : goal.decreases-with_dots
decreases-with_dots l = 2 * length l.below.now + 1
