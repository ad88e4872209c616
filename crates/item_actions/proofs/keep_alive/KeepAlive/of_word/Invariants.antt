use Rattle.std.proofs.Common.{◌≡◌, drop}
use Rattle.std.specs.List.{find}
use Rattle.std.specs.Str.{bytes_eq}
use Rattle.item_actions.specs.Words.{keep_alive_word, keep_alive_mode_of}
use Rattle.item_actions.specs.declared.keep_alive.TheConstants.KeepAlive.{ALL}
use Rattle.item_actions.proofs.keep_alive.KeepAlive.of_word.Given as goal

abbrev pub invariant-loop-mode : goal.invariant-loop-mode
invariant-loop-mode l = keep_alive_mode_of l.word ≡ find (λ mode. bytes_eq (keep_alive_word mode) l.word) (drop l.mode-index ALL)
