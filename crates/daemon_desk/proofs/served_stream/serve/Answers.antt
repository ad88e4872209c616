use Rattle.daemon_desk.proofs.Services.{serving_nothing}
use Rattle.daemon_desk.proofs.served_stream.serve.Goals as goal

pub loop-len-init : goal.loop-len-init
loop-len-init g c = serving_nothing _

pub loop-len-preserved : goal.loop-len-preserved
loop-len-preserved g c = c.in-Ok.ensures.serves _ c.loop-len.invariant

pub returns-in-Err-clause-served : goal.returns-in-Err-clause-served
returns-in-Err-clause-served g c = c.in-Err.ensures.serves _ c.loop-len.invariant
