use Rattle.file_access.proofs.lemmas.Printing.{put_more}
use Rattle.file_access.proofs.sinks.put_all.Goals as goal

pub loop-rest-preserved : goal.loop-rest-preserved
loop-rest-preserved g c = put_more _ _ _ _ c.loop-rest.invariant.1 c.loop-rest.invariant.2 c.in_ok-taken.ensures.within c.in_ok-taken.ensures.taken c.in_ok-taken.ensures.kept
