-- What the number of an answer says.
use Rattle.std.specs.Prelude.{ℕ, ◌==◌, if◌then◌else◌}
use Rattle.wakhurmi_c.specs.declared.answers.Answer.{Answer}
use Rattle.wakhurmi_c.specs.declared.answers.Answer.TheVariants.{Done, Busy, Refused, Stopped, Again, NoMemory, BadNumber, Misused, Empty, Full}

abbrev pub answer_of : ℕ → Answer
answer_of n = if n == 0 then Done else if n == 1 then Busy else if n == 2 then Refused else if n == 3 then Stopped else if n == 4 then Again
    else if n == 5 then NoMemory else if n == 6 then BadNumber else if n == 7 then Misused else if n == 8 then Empty else Full
