use Rattle.std.proofs.Common.{◌∙◌, ap}
use Rattle.file_access.proofs.lemmas.Telling.{adds_as, adds_then}
use Rattle.generated_plan.specs.Draws.{after_draws}
use Rattle.generated_plan.specs.Made.{second_wait, items_text, wait_text}
use Rattle.generated_plan.proofs.actions.write_second.Goals as goal

pub returns-clause-text : goal.returns-clause-text
returns-clause-text g c = adds_then (adds_as (ap wait_text (c.second_wait.ensures ∙ ap second_wait c.next.ensures.value)) c.write_wait.ensures) (adds_as (ap (items_text c.args.file.now) c.next.ensures.number) c.write_items.ensures.text)

pub returns-clause-drawn : goal.returns-clause-drawn
returns-clause-drawn g c = c.write_items.ensures.drawn ∙ ap (after_draws 4) c.next.ensures.number
