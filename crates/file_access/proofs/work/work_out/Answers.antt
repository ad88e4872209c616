use Rattle.std.proofs.Common.{inl}
use Rattle.std.proofs.lemmas.Option.{IfSome_then}
use Rattle.file_access.proofs.Answering.{counted, ran}
use Rattle.file_access.proofs.work.work_out.Goals as goal

pub returns-in-Ok-clause-ran : goal.returns-in-Ok-clause-ran
returns-in-Ok-clause-ran g c = ran c.in-Ok.outcome c.in-Ok.ensures.answer

pub returns-in-Ok-clause-counted : goal.returns-in-Ok-clause-counted
returns-in-Ok-clause-counted g c = counted c.in-Ok.outcome _ _ c.in-Ok.ensures.answer c.in-Ok.ensures.counted

pub returns-in-Ok-clause-honest : goal.returns-in-Ok-clause-honest
returns-in-Ok-clause-honest g c = IfSome_then _ c.in-Ok.ensures.known (λ known is. inl is)
