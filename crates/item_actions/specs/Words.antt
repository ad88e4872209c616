-- The words of actions, of outcomes and of keep-alive modes.
use Rattle.std.specs.Prelude.{ℕ, List, Option, codes}
use Rattle.std.specs.List.{find}
use Rattle.std.specs.Str.{bytes_eq}
use Rattle.item_actions.specs.declared.actions.ItemAction.{ItemAction}
use Rattle.item_actions.specs.declared.actions.ItemAction.TheVariants as actions
use Rattle.item_actions.specs.declared.action_kinds.ActionKind.{ActionKind}
use Rattle.item_actions.specs.declared.action_kinds.ActionKind.TheVariants as action_kinds
use Rattle.item_actions.specs.declared.outcomes.Outcome.{Outcome}
use Rattle.item_actions.specs.declared.outcomes.Outcome.TheVariants as outcomes
use Rattle.item_actions.specs.declared.outcome_kinds.OutcomeKind.{OutcomeKind}
use Rattle.item_actions.specs.declared.outcome_kinds.OutcomeKind.TheVariants as outcome_kinds
use Rattle.item_actions.specs.declared.keep_alive.KeepAlive.{KeepAlive}
use Rattle.item_actions.specs.declared.keep_alive.KeepAlive.TheVariants.{Session, Daemon}
use Rattle.item_actions.specs.declared.action_kinds.TheConstants.ActionKind.{ALL as every_action}
use Rattle.item_actions.specs.declared.outcome_kinds.TheConstants.OutcomeKind.{ALL as every_outcome}
use Rattle.item_actions.specs.declared.keep_alive.TheConstants.KeepAlive.{ALL as every_mode}

abbrev pub kind_of_action : ItemAction → ActionKind
kind_of_action actions.Lines = action_kinds.Lines
kind_of_action actions.Words = action_kinds.Words
kind_of_action actions.Bytes = action_kinds.Bytes
kind_of_action actions.Longest = action_kinds.Longest
kind_of_action (actions.Count needle) = action_kinds.Count
kind_of_action actions.Sha256 = action_kinds.Sha256

abbrev pub action_word : ActionKind → List ℕ
action_word action_kinds.Lines = codes "lines"
action_word action_kinds.Words = codes "words"
action_word action_kinds.Bytes = codes "bytes"
action_word action_kinds.Longest = codes "longest"
action_word action_kinds.Count = codes "count"
action_word action_kinds.Sha256 = codes "sha256"

-- the kind that has the word
abbrev pub action_kind_of : List ℕ → Option ActionKind
action_kind_of word = find (λ kind. bytes_eq (action_word kind) word) every_action

abbrev pub kind_of_outcome : Outcome → OutcomeKind
kind_of_outcome (outcomes.Number n) = outcome_kinds.Number
kind_of_outcome (outcomes.Digest digest) = outcome_kinds.Digest
kind_of_outcome outcomes.NotThere = outcome_kinds.NotThere
kind_of_outcome outcomes.TooLong = outcome_kinds.TooLong
kind_of_outcome outcomes.Fault = outcome_kinds.Fault
kind_of_outcome outcomes.NoMemory = outcome_kinds.NoMemory
kind_of_outcome outcomes.Skipped = outcome_kinds.Skipped

-- what a history says
abbrev pub outcome_word : OutcomeKind → List ℕ
outcome_word outcome_kinds.Number = codes "number"
outcome_word outcome_kinds.Digest = codes "digest"
outcome_word outcome_kinds.NotThere = codes "missing"
outcome_word outcome_kinds.TooLong = codes "too-long"
outcome_word outcome_kinds.Fault = codes "fault"
outcome_word outcome_kinds.NoMemory = codes "no-memory"
outcome_word outcome_kinds.Skipped = codes "skipped"

-- what results say
abbrev pub outcome_phrase : OutcomeKind → List ℕ
outcome_phrase outcome_kinds.NotThere = codes "not there"
outcome_phrase outcome_kinds.TooLong = codes "too long"
outcome_phrase outcome_kinds.NoMemory = codes "no memory"
outcome_phrase kind = outcome_word kind

-- the kind that has the word
abbrev pub outcome_kind_of : List ℕ → Option OutcomeKind
outcome_kind_of word = find (λ kind. bytes_eq (outcome_word kind) word) every_outcome

abbrev pub keep_alive_word : KeepAlive → List ℕ
keep_alive_word Session = codes "session"
keep_alive_word Daemon = codes "daemon"

-- the mode that has the word
abbrev pub keep_alive_mode_of : List ℕ → Option KeepAlive
keep_alive_mode_of word = find (λ mode. bytes_eq (keep_alive_word mode) word) every_mode
