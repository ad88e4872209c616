-- The frames by their bodies. Numbers stand with their highest byte first.
use Rattle.std.specs.Prelude.{ℕ, ◌+◌, List, [], ◌∷◌, Option, None, Some, length, take, drop, ◌==◌, ◌&&◌, nat_le, nat_lt}
use Rattle.std.specs.Prelude.{if◌then◌else◌}
use Rattle.std.specs.Int.{w16, w32, w64, from_be_bytes}
use Rattle.item_actions.specs.Forms.{is_file_name}
use Rattle.item_actions.specs.declared.actions.ItemAction.{ItemAction}
use Rattle.item_actions.specs.declared.actions.ItemAction.TheVariants as actions
use Rattle.item_actions.specs.declared.outcomes.Outcome.{Outcome}
use Rattle.item_actions.specs.declared.outcomes.Outcome.TheVariants as outcomes
use Rattle.item_actions.specs.declared.keep_alive.KeepAlive.{KeepAlive}
use Rattle.item_actions.specs.declared.keep_alive.KeepAlive.TheVariants.{Session, Daemon}
use Rattle.item_actions.specs.declared.limits.TheConstants.{MAX_NEEDLE_BYTES}
use Rattle.daemon_protocol.specs.declared.limits.TheConstants.{DIGEST_BYTES, REPLY_TAG, REQUEST_TAG, REPLY_IN_MODE_TAG, REQUEST_IN_MODE_TAG}
use Rattle.daemon_protocol.specs.declared.frames.Frame.{Frame}
use Rattle.daemon_protocol.specs.declared.frames.Frame.TheVariants.{Request, Reply, Stop}

-- the needle's length, and the needle
abbrev pub count_at : List ℕ → Option (ItemAction × ℕ)
count_at [] = None
count_at (n ∷ after) = if nat_le 1 n && nat_le n MAX_NEEDLE_BYTES && nat_le n (length after) then Some (actions.Count (take n after), n + 2) else None

-- the action at the start of the bytes, and how many bytes it takes up
abbrev pub action_at : List ℕ → Option (ItemAction × ℕ)
action_at [] = None
action_at (b ∷ after) =
    if b == 1 then Some (actions.Lines, 1)
    else (if b == 2 then Some (actions.Words, 1)
    else (if b == 3 then Some (actions.Bytes, 1)
    else (if b == 4 then Some (actions.Longest, 1)
    else (if b == 5 then count_at after
    else (if b == 6 then Some (actions.Sha256, 1) else None)))))

-- the keep-alive mode at the start of the bytes, which takes up one of them
abbrev pub mode_at : List ℕ → Option KeepAlive
mode_at [] = None
mode_at (b ∷ after) = if b == 1 then Some Session else (if b == 2 then Some Daemon else None)

-- the length of the file's name, and the name
abbrev pub request_with : ℕ → Option KeepAlive → ItemAction → List ℕ → Option Frame
request_with unit keep action bytes =
    if nat_lt (length bytes) 2 then None
    else (if from_be_bytes w16 (take 2 bytes) == length (drop 2 bytes) && is_file_name (drop 2 bytes)
    then Some (Request record { unit = unit; action = action; file = drop 2 bytes; keep = keep }) else None)

abbrev pub request_after : ℕ → Option KeepAlive → List ℕ → Option (ItemAction × ℕ) → Option Frame
request_after unit keep bytes None = None
request_after unit keep bytes (Some a) = request_with unit keep a.0 (drop a.1 bytes)

-- the action and the file
abbrev pub request_from : ℕ → Option KeepAlive → List ℕ → Option Frame
request_from unit keep bytes = request_after unit keep bytes (action_at bytes)

-- the unit, and then the action and the file
abbrev pub request_of : List ℕ → Option Frame
request_of body = if nat_lt (length body) 4 then None else request_from (from_be_bytes w32 (take 4 body)) None (drop 4 body)

abbrev pub request_behind : ℕ → List ℕ → Option KeepAlive → Option Frame
request_behind unit bytes None = None
request_behind unit bytes (Some mode) = request_from unit (Some mode) (drop 1 bytes)

-- the unit, the mode, and then the action and the file
abbrev pub request_in_mode_of : List ℕ → Option Frame
request_in_mode_of body =
    if nat_lt (length body) 4 then None else request_behind (from_be_bytes w32 (take 4 body)) (drop 4 body) (mode_at (drop 4 body))

abbrev pub cause_of : ℕ → Option Outcome
cause_of b =
    if b == 3 then Some outcomes.NotThere
    else (if b == 4 then Some outcomes.TooLong
    else (if b == 5 then Some outcomes.Fault
    else (if b == 6 then Some outcomes.NoMemory else None)))

-- the outcome whose bytes these are
abbrev pub outcome_of : List ℕ → Option Outcome
outcome_of [] = None
outcome_of (b ∷ after) =
    if b == 1 then (if length after == 8 then Some (outcomes.Number (from_be_bytes w64 after)) else None)
    else (if b == 2 then (if length after == DIGEST_BYTES then Some (outcomes.Digest after) else None)
    else (if length after == 0 then cause_of b else None))

abbrev pub reply_with : ℕ → Option KeepAlive → Option Outcome → Option Frame
reply_with unit keep None = None
reply_with unit keep (Some outcome) = Some (Reply record { unit = unit; outcome = outcome; keep = keep })

abbrev pub reply_from : ℕ → Option KeepAlive → List ℕ → Option Frame
reply_from unit keep bytes = reply_with unit keep (outcome_of bytes)

-- the unit and the outcome
abbrev pub reply_of : List ℕ → Option Frame
reply_of body = if nat_lt (length body) 4 then None else reply_from (from_be_bytes w32 (take 4 body)) None (drop 4 body)

abbrev pub reply_behind : ℕ → List ℕ → Option KeepAlive → Option Frame
reply_behind unit bytes None = None
reply_behind unit bytes (Some mode) = reply_from unit (Some mode) (drop 1 bytes)

-- the unit, the mode and the outcome
abbrev pub reply_in_mode_of : List ℕ → Option Frame
reply_in_mode_of body =
    if nat_lt (length body) 4 then None else reply_behind (from_be_bytes w32 (take 4 body)) (drop 4 body) (mode_at (drop 4 body))

abbrev pub stop_of : List ℕ → Option Frame
stop_of body = if length body == 0 then Some Stop else None

-- the frame of this tag whose body this is
abbrev pub frame_of : ℕ → List ℕ → Option Frame
frame_of tag body =
    if tag == REQUEST_TAG then request_of body
    else (if tag == REPLY_TAG then reply_of body
    else (if tag == REQUEST_IN_MODE_TAG then request_in_mode_of body
    else (if tag == REPLY_IN_MODE_TAG then reply_in_mode_of body else stop_of body)))
