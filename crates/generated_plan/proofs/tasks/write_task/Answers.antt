use Rattle.std.proofs.Common.{◌≡◌, ◌+◌, ◌%◌, ◌∙◌, ap, arith}
use Rattle.file_access.proofs.lemmas.Telling.{adds_as}
use Rattle.generated_plan.specs.Draws.{after_draws, draw}
use Rattle.generated_plan.specs.Made.{action_text, after_text, draws_for_after, first_wait, head_text, second_wait}
use Rattle.generated_plan.proofs.Further.{adds_four}
use Rattle.generated_plan.proofs.Numbers.{after_both}
use Rattle.generated_plan.proofs.tasks.write_task.Given.{Over}
use Rattle.generated_plan.proofs.tasks.write_task.Goals as goal

-- the number before the first action, and before the second

before_first : (g : Over) (c : goal.After-write_second g) → c.write_after.new.draws.number ≡ after_draws (1 + draws_for_after c.args.task) c.args.draws.now.number
before_first g c = c.write_after.ensures.drawn
    ∙ ap (after_draws (draws_for_after c.args.task)) c.next.ensures.number
    ∙ after_both 1 (draws_for_after c.args.task) c.args.draws.now.number

before_second : (g : Over) (c : goal.After-write_second g) → c.write_first.new.draws.number ≡ after_draws (6 + draws_for_after c.args.task) c.args.draws.now.number
before_second g c =
    let more : 1 + draws_for_after c.args.task + 5 ≡ 6 + draws_for_after c.args.task = omega arith in
    c.write_first.ensures.drawn
    ∙ ap (after_draws 5) (before_first g c)
    ∙ after_both (1 + draws_for_after c.args.task) 5 c.args.draws.now.number
    ∙ ap (λ n. after_draws n c.args.draws.now.number) more

pub returns-clause-text : goal.returns-clause-text
returns-clause-text g c =
    let k = c.args.task in
    let file = c.args.file.now in
    let x = c.args.draws.now.number in
    adds_four (head_text k (draw x % 40)) (after_text k (after_draws 1 x)) (action_text first_wait file (after_draws (1 + draws_for_after k) x)) (action_text second_wait file (after_draws (6 + draws_for_after k) x))
    (adds_as (ap (λ p. head_text k (p % 40)) c.next.ensures.value) c.write_head.ensures)
    (adds_as (ap (after_text k) c.next.ensures.number) c.write_after.ensures.text)
    (adds_as (ap (action_text first_wait file) (before_first g c)) c.write_first.ensures.text)
    (adds_as (ap (action_text second_wait file) (before_second g c)) c.write_second.ensures.text)

pub returns-clause-drawn : goal.returns-clause-drawn
returns-clause-drawn g c =
    let more : 6 + draws_for_after c.args.task + 5 ≡ 11 + draws_for_after c.args.task = omega arith in
    c.write_second.ensures.drawn
    ∙ ap (after_draws 5) (before_second g c)
    ∙ after_both (6 + draws_for_after c.args.task) 5 c.args.draws.now.number
    ∙ ap (λ n. after_draws n c.args.draws.now.number) more
