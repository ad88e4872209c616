-- Tests of a mark.
use Rattle.std.specs.Prelude.{Bool, ◌||◌}
use Rattle.resource_lock.specs.Change.{same_mark}
use Rattle.resource_lock.specs.declared.marks.Mark.{Mark}
use Rattle.resource_lock.specs.declared.marks.Mark.TheVariants.{Passed, Failed, Skipped}

abbrev pub has_passed : Mark → Bool
has_passed m = same_mark m Passed

abbrev pub has_ended : Mark → Bool
has_ended m = same_mark m Passed || same_mark m Failed || same_mark m Skipped

abbrev pub has_fallen : Mark → Bool
has_fallen m = same_mark m Failed || same_mark m Skipped
