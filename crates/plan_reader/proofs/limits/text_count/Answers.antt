use Rattle.std.proofs.Common.{refl}
use Rattle.plan_document.specs.View.{view}
use Rattle.plan_table.specs.Values.{text_of}
use Rattle.plan_reader.proofs.Lists.{length_of_seen}
use Rattle.plan_reader.proofs.limits.text_count.Goals as goal

pub returns : goal.returns
returns c = length_of_seen (λ v. text_of (view v)) c.args.texts.now _ refl
