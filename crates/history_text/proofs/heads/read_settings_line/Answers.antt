use Rattle.std.proofs.Common.{sym, ◌∙◌}
use Rattle.history_text.proofs.Words.{nil_from, not_nil}
use Rattle.history_text.proofs.SettingsLaws.{whole_settings, more_than_settings, no_settings}
use Rattle.history_text.proofs.heads.read_settings_line.Goals as goal

pub returns-in_default-clause-none : goal.returns-in_default-clause-none
returns-in_default-clause-none c = no_settings c.args.version c.args.line.now c.in_default.ensures

pub returns-then-is_empty-clause-some : goal.returns-then-is_empty-clause-some
returns-then-is_empty-clause-some c = whole_settings c.args.version c.args.line.now c.in-Some.rest.now c.in-Some.settings c.in-Some.ensures (nil_from c.in-Some.rest.now (sym c.is_empty.ensures ∙ c.if-is_empty.true))

pub returns-else-is_empty-clause-none : goal.returns-else-is_empty-clause-none
returns-else-is_empty-clause-none c = more_than_settings c.args.version c.args.line.now c.in-Some.rest.now c.in-Some.settings c.in-Some.ensures (not_nil c.in-Some.rest.now (sym c.is_empty.ensures ∙ c.if-is_empty.false))
