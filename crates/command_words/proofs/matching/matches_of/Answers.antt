use Rattle.std.proofs.Common.{◌∙◌, map}
use Rattle.clap.specs.Simple.{app_of}
use Rattle.command_words.specs.Rules.{app_with}
use Rattle.command_words.proofs.Simple.{words_refused, words_taken}
use Rattle.command_words.proofs.matching.matches_of.Goals as goal

pub returns-in-Ok-clause-ok : goal.returns-in-Ok-clause-ok
returns-in-Ok-clause-ok c =
    words_taken (app_of c.in_ok-command.command) (app_with c.args.name.now c.args.parameters.now) (map (λ s. s.now) c.args.words.now) c.in-Ok.matches
    c.in_ok-command.ensures c.requires c.in-Ok.ensures.kinds c.in-Ok.ensures.matches

pub returns-clause-err : goal.returns-clause-err
returns-clause-err c =
    words_refused (app_of c.in_ok-command.command) (app_with c.args.name.now c.args.parameters.now) (map (λ s. s.now) c.args.words.now) c.in-Err.error.kind
    c.in_ok-command.ensures c.requires c.in-Err.ensures.kinds (λ memory. c.in_default.not-OutOfMemory (c.kind.ensures ∙ memory))
