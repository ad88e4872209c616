-- The state of an action on the bytes that came.
use Rattle.std.specs.Prelude.{◌≡◌, ◌==◌, ℕ, List, length, count_by}
use Rattle.sha2.specs.Hashers.{Holds256}
use Rattle.item_actions.specs.declared.actions.ItemAction.{ItemAction}
use Rattle.item_actions.specs.declared.actions.ItemAction.TheVariants as actions
use Rattle.item_actions.specs.NeedleMatches.{HasNeedles}
use Rattle.item_actions.specs.Runs.{HasRuns}
use Rattle.item_actions.specs.WordPieces.{HasWords}
use Rattle.item_actions.specs.declared.piece_state.PieceState.{PieceState}
use Rattle.item_actions.specs.declared.piece_state.PieceState.TheVariants as states

-- what the state says of the action and the bytes; a state of another action says nothing of it
abbrev pub IsStateOf : PieceState → ItemAction → List ℕ → Type 0
IsStateOf (states.Lines number) actions.Lines bytes = number ≡ count_by (λ b. b == 10) bytes
IsStateOf (states.Words words) actions.Words bytes = HasWords words bytes
IsStateOf (states.Bytes number) actions.Bytes bytes = number ≡ length bytes
IsStateOf (states.Longest runs) actions.Longest bytes = HasRuns runs bytes
IsStateOf (states.Count needles) (actions.Count needle) bytes = HasNeedles needles needle bytes
IsStateOf (states.Sha256 hasher) actions.Sha256 bytes = Holds256 hasher bytes
IsStateOf _ _ _ = ⊥
