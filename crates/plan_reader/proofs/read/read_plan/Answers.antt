use Rattle.plan_table.specs.Document.{document_reading}
use Rattle.plan_reader.proofs.Answering.{text_read}
use Rattle.plan_reader.proofs.read.read_plan.Goals as goal

pub returns : goal.returns
returns c = text_read (document_reading c.args.bytes.now) _ _ c.in_ok-document.ensures.document c.read_tables.ensures
