use Rattle.command_answers.proofs.Readings.{file_of_plan, refused_at, too_long_is_refused}
use Rattle.command_answers.proofs.plans.read.Goals as goal

pub returns-in-Ok-TooLong-clause-refused : goal.returns-in-Ok-TooLong-clause-refused
returns-in-Ok-TooLong-clause-refused g c = too_long_is_refused (g.F.Files.files c.args.desk.now) c.args.name.now c.in-Ok-TooLong.field-0 c.in-Ok-TooLong.field-0-is c.in-Ok-TooLong.ensures.known

pub returns-in-Err-Refused-clause-refused : goal.returns-in-Err-Refused-clause-refused
returns-in-Err-Refused-clause-refused g c =
    refused_at (g.F.Files.files c.args.desk.now) c.args.name.now c.in-Ok-Bytes.field-0 c.in-Ok-Bytes.bytes c.in-Ok-Bytes.field-0-is c.in-Ok-Bytes.ensures.known c.as_bytes.result.now c.as_bytes.ensures
    c.in-Err-Refused.field-0 c.in-Err-Refused.refusal c.in-Err-Refused.field-0-is c.in-Err-Refused.ensures

pub returns-in-Ok-clause-plan : goal.returns-in-Ok-clause-plan
returns-in-Ok-clause-plan g c =
    file_of_plan (g.F.Files.files c.args.desk.now) c.args.name.now c.in-Ok-Bytes.field-0 c.in-Ok-Bytes.bytes c.in-Ok-Bytes.field-0-is c.in-Ok-Bytes.ensures.known c.as_bytes.result.now c.as_bytes.ensures
    c.in-Ok.plan c.in-Ok.ensures
