use Rattle.std.proofs.Common.{Err, ap}
use Rattle.plan_table.specs.Document.{document_or_not_toml}
use Rattle.plan_table.proofs.DocumentLaws.{document_read, document_refused}
use Rattle.plan_table.proofs.document.parse_document.Goals as goal

pub returns-in-Ok : goal.returns-in-Ok
returns-in-Ok c = ap document_or_not_toml (document_read c.args.bytes.now c.in-Ok.table c.in-Ok.ensures.ok.0 c.in-Ok.ensures.ok.1)

pub returns-in-Err-NotToml : goal.returns-in-Err-NotToml
returns-in-Err-NotToml c = ap document_or_not_toml (document_refused c.args.bytes.now (c.in-Err-NotToml.ensures.refused (ap Err c.in-Err-NotToml.field-0-is)))
