-- What the states of three actions give.
use Rattle.std.proofs.Common.{◌≡◌, ℕ, ◌+◌, ◌<◌, ◌^◌, ◌++◌, List, length, ap}
use Rattle.item_actions.specs.Bytes.{longest, occurrences, word_count}
use Rattle.item_actions.specs.Value.{act_on}
use Rattle.item_actions.specs.declared.actions.ItemAction.{ItemAction}
use Rattle.item_actions.specs.declared.actions.ItemAction.TheVariants as actions
use Rattle.item_actions.specs.declared.outcomes.Outcome.TheVariants.{Number}
use Rattle.item_actions.specs.NeedleMatches.{HasNeedles}
use Rattle.item_actions.specs.Runs.{HasRuns}
use Rattle.item_actions.specs.States.{IsStateOf}
use Rattle.item_actions.specs.WordPieces.{HasWords}
use Rattle.item_actions.specs.declared.needle_state.NeedleState.{NeedleState}
use Rattle.item_actions.specs.declared.run_state.RunState.{RunState}
use Rattle.item_actions.specs.declared.word_state.WordState.{WordState}
use Rattle.item_actions.specs.declared.piece_state.PieceState.TheVariants as states

pub words_give : (words : WordState) (n : ℕ) → ((bytes : List ℕ) → HasWords words bytes → n ≡ word_count bytes)
    → (action : ItemAction) (bytes : List ℕ) → IsStateOf (states.Words words) action bytes → Number n ≡ act_on action bytes
words_give words n is actions.Words bytes h = ap Number (is bytes h)
words_give words n is _ bytes h = absurd h

pub runs_give : (runs : RunState) (n : ℕ) → ((bytes : List ℕ) → HasRuns runs bytes → n ≡ longest bytes)
    → (action : ItemAction) (bytes : List ℕ) → IsStateOf (states.Longest runs) action bytes → Number n ≡ act_on action bytes
runs_give runs n is actions.Longest bytes h = ap Number (is bytes h)
runs_give runs n is _ bytes h = absurd h

pub needles_give : (needles : NeedleState) (n : ℕ) → ((needle bytes : List ℕ) → HasNeedles needles needle bytes → n ≡ occurrences needle bytes)
    → (action : ItemAction) (bytes : List ℕ) → IsStateOf (states.Count needles) action bytes → Number n ≡ act_on action bytes
needles_give needles n is (actions.Count needle) bytes h = ap Number (is needle bytes h)
needles_give needles n is _ bytes h = absurd h

-- a count's state after one piece more
pub needles_more : (old new : NeedleState) (piece : List ℕ) → ((needle bytes : List ℕ) → length bytes + length piece < 2 ^ 64 → HasNeedles old needle bytes → HasNeedles new needle (bytes ++ piece))
    → (action : ItemAction) (bytes : List ℕ) → length bytes + length piece < 2 ^ 64 → IsStateOf (states.Count old) action bytes → IsStateOf (states.Count new) action (bytes ++ piece)
needles_more old new piece more (actions.Count needle) bytes fits h = more needle bytes fits h
needles_more old new piece more _ bytes fits h = absurd h
