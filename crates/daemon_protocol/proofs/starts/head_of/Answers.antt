use Rattle.std.proofs.Common.{◌∙◌}
use Rattle.daemon_protocol.proofs.Starting.{look-tag}
use Rattle.daemon_protocol.proofs.starts.head_of.Goals as goal

pub returns-in-len1-up-clause-start : goal.returns-in-len1-up-clause-start
returns-in-len1-up-clause-start c = c.head_of_tag.ensures.start ∙ look-tag c.args.bytes.now c.in-len1-up.len_at_least
