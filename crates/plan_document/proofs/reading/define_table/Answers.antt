use Rattle.std.proofs.Common.{rules}
use Rattle.toml.specs.Tables.{along_dots}
use Rattle.plan_document.proofs.reading.define_table.Goals as goal

pub returns-in_err-define_by_header-clause-edit : goal.returns-in_err-define_by_header-clause-edit
unfolding along_dots
returns-in_err-define_by_header-clause-edit c = search rules

pub returns-clause-edit : goal.returns-clause-edit
unfolding along_dots
returns-clause-edit c = search rules
