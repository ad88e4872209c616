use Rattle.std.proofs.Common.{None}
use Rattle.history_text.proofs.Words.{none_some}
use Rattle.history_text.proofs.EntryLaws.{line_is_end, line_is_no_end}
use Rattle.history_text.proofs.entry_lines.is_end_line.Goals as goal

pub returns-in_default : goal.returns-in_default
returns-in_default c = line_is_no_end c.args.count c.args.line.now None c.in_default.ensures none_some

pub returns : goal.returns
returns c = line_is_end c.args.count c.args.line.now c.in-Some.rest.now c.is_empty.result c.in-Some.ensures c.is_empty.ensures
