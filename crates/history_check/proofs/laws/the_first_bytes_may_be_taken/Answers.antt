use Rattle.history_check.proofs.Given.{first_bytes}
use Rattle.history_check.proofs.laws.the_first_bytes_may_be_taken.Goals as goal

pub returns : goal.returns
returns c = first_bytes
