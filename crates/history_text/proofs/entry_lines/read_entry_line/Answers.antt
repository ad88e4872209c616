use Rattle.std.proofs.Common.{sym, ◌∙◌}
use Rattle.history_text.specs.HistoryView.{entry_with}
use Rattle.history_text.proofs.Words.{nil_from, not_nil}
use Rattle.history_text.proofs.EntryLaws.{whole_entry, more_than_entry, failed_entry}
use Rattle.history_text.proofs.entry_lines.read_entry_line.Goals as goal

pub returns-in-Ok : goal.returns-in-Ok
returns-in-Ok c = whole_entry c.args.number c.args.line.now c.in-Ok.rest.now (entry_with c.in-Ok.head c.read_entry.new.changes.items) c.in-Ok.ensures (nil_from c.in-Ok.rest.now (sym c.is_empty.ensures ∙ c.if-is_empty.true))

pub returns-in-Ok-2 : goal.returns-in-Ok-2
returns-in-Ok-2 c = more_than_entry c.args.number c.args.line.now c.in-Ok.rest.now (entry_with c.in-Ok.head c.read_entry.new.changes.items) c.in-Ok.ensures (not_nil c.in-Ok.rest.now (sym c.is_empty.ensures ∙ c.if-is_empty.false))

pub returns-in-Err : goal.returns-in-Err
returns-in-Err c = failed_entry c.args.number c.args.line.now c.read_entry.new.changes.items c.in-Err.fail c.in-Err.ensures
