use Rattle.std.proofs.Common.{◌≡◌, ◌+◌, List, [], ◌∷◌, ◌++◌, take, sym, ap, ◌∙◌, subst}
use Rattle.std.proofs.lemmas.List.{take_more}
use Rattle.daemon_requirements.specs.declared.fields.Pair.{Pair}
use Rattle.daemon_desk.specs.Commands.{SetsVariables}
use Rattle.daemon_desk.proofs.Variables.{sets_more}
use Rattle.daemon_desk.proofs.commands.add_variables.Goals as goal

pub loop-variable-preserved : goal.loop-variable-preserved
loop-variable-preserved c =
    let place = c.loop-variable.variable-index in
    let variables = c.args.variables.now in
    let pair = c.variable-item.result in
    let more : take (place + 1) variables ≡ take place variables ++ pair ∷ [] = take_more variables place pair c.loop-variable-test.true ∙ ap (λ (y : Pair). take place variables ++ y ∷ []) (sym c.variable-item.is) in
    let did = c.in_ok-add_variable.ensures in
    subst (λ (pairs : List Pair). SetsVariables pairs c.args.command.now c.add_variable.new.command) (sym more)
    (sets_more c.args.command.now c.loop-variable.command c.add_variable.new.command (take place variables) pair c.loop-variable.invariant did.set did.others did.call did.inherits)
