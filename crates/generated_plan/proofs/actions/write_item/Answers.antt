use Rattle.std.proofs.Common.{◌≡◌, ◌∙◌, ap, append_assoc}
use Rattle.item_actions.specs.Words.{action_word}
use Rattle.file_access.proofs.lemmas.Telling.{adds_as, adds_then}
use Rattle.generated_plan.specs.Draws.{draw}
use Rattle.generated_plan.specs.Made.{kind_drawn}
use Rattle.generated_plan.proofs.actions.write_item.Goals as goal

pub returns-clause-text : goal.returns-clause-text
returns-clause-text g c =
    let word : c.as_bytes.result.now ≡ action_word (kind_drawn (draw c.args.draws.now.number)) = c.as_bytes.ensures.value ∙ c.word.ensures ∙ ap action_word (c.kind_drawn.ensures ∙ ap kind_drawn c.next.ensures.value) in
    adds_as (simp append_assoc) (adds_then (adds_then (adds_then (adds_then c.text.ensures (adds_as word c.text-2.ensures)) c.text-3.ensures) (adds_as c.bytes.ensures c.text-4.ensures)) c.text-5.ensures)
