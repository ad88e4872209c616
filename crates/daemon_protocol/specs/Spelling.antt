-- The bytes of a frame: its tag, the length of its body, and the body. Numbers stand with their highest byte first.
use Rattle.std.specs.Prelude.{◌≡◌, ◌≢◌, ℕ, ◌<◌, ◌≤◌, ◌^◌, List, [], ◌∷◌, ◌++◌, length, true, Option, None, Some}
use Rattle.std.specs.Int.{w16, w32, w64, to_be_bytes}
use Rattle.item_actions.specs.Forms.{is_file_name}
use Rattle.item_actions.specs.declared.actions.ItemAction.{ItemAction}
use Rattle.item_actions.specs.declared.actions.ItemAction.TheVariants as actions
use Rattle.item_actions.specs.declared.outcomes.Outcome.{Outcome}
use Rattle.item_actions.specs.declared.outcomes.Outcome.TheVariants as outcomes
use Rattle.item_actions.specs.declared.keep_alive.KeepAlive.{KeepAlive}
use Rattle.item_actions.specs.declared.keep_alive.KeepAlive.TheVariants.{Session, Daemon}
use Rattle.item_actions.specs.declared.limits.TheConstants.{MAX_NEEDLE_BYTES}
use Rattle.daemon_protocol.specs.declared.limits.TheConstants.{DIGEST_BYTES, REPLY_TAG, REQUEST_TAG, STOP_TAG, REPLY_IN_MODE_TAG, REQUEST_IN_MODE_TAG}
use Rattle.daemon_protocol.specs.declared.frames.Frame.{Frame}
use Rattle.daemon_protocol.specs.declared.frames.Frame.TheVariants.{Request, Reply, Stop}

abbrev pub action_bytes : ItemAction → List ℕ
action_bytes actions.Lines = 1 ∷ []
action_bytes actions.Words = 2 ∷ []
action_bytes actions.Bytes = 3 ∷ []
action_bytes actions.Longest = 4 ∷ []
action_bytes (actions.Count needle) = 5 ∷ length needle ∷ needle
action_bytes actions.Sha256 = 6 ∷ []

-- a skipped unit has no reply
abbrev pub outcome_bytes : Outcome → List ℕ
outcome_bytes (outcomes.Number n) = 1 ∷ to_be_bytes w64 n
outcome_bytes (outcomes.Digest digest) = 2 ∷ digest
outcome_bytes outcomes.NotThere = 3 ∷ []
outcome_bytes outcomes.TooLong = 4 ∷ []
outcome_bytes outcomes.Fault = 5 ∷ []
outcome_bytes outcomes.NoMemory = 6 ∷ []
outcome_bytes outcomes.Skipped = []

-- a frame without a keep-alive mode has no byte for it
abbrev pub mode_bytes : Option KeepAlive → List ℕ
mode_bytes None = []
mode_bytes (Some Session) = 1 ∷ []
mode_bytes (Some Daemon) = 2 ∷ []

abbrev pub body : Frame → List ℕ
body (Request r) = to_be_bytes w32 r.unit ++ (mode_bytes r.keep ++ (action_bytes r.action ++ (to_be_bytes w16 (length r.file) ++ r.file)))
body (Reply r) = to_be_bytes w32 r.unit ++ (mode_bytes r.keep ++ outcome_bytes r.outcome)
body Stop = []

abbrev pub request_tag : Option KeepAlive → ℕ
request_tag None = REQUEST_TAG
request_tag (Some mode) = REQUEST_IN_MODE_TAG

abbrev pub reply_tag : Option KeepAlive → ℕ
reply_tag None = REPLY_TAG
reply_tag (Some mode) = REPLY_IN_MODE_TAG

abbrev pub tag : Frame → ℕ
tag (Request r) = request_tag r.keep
tag (Reply r) = reply_tag r.keep
tag Stop = STOP_TAG

abbrev pub spelling : Frame → List ℕ
spelling f = tag f ∷ (to_be_bytes w32 (length (body f)) ++ body f)

-- a request's file has the form of a file's name, and a reply's unit was not skipped
abbrev pub IsValid : Frame → Type 0
IsValid (Request r) = is_file_name r.file ≡ true
IsValid (Reply r) = r.outcome ≢ outcomes.Skipped
IsValid Stop = Unit {0}

-- what the types of the fields hold
abbrev pub ActionFits : ItemAction → Type 0
ActionFits (actions.Count needle) = (1 ≤ length needle) × (length needle ≤ MAX_NEEDLE_BYTES)
ActionFits _ = Unit {0}

abbrev pub OutcomeFits : Outcome → Type 0
OutcomeFits (outcomes.Number n) = n < 2 ^ 64
OutcomeFits (outcomes.Digest digest) = length digest ≡ DIGEST_BYTES
OutcomeFits _ = Unit {0}

abbrev pub FrameFits : Frame → Type 0
FrameFits (Request r) = (r.unit < 2 ^ 32) × ActionFits r.action
FrameFits (Reply r) = (r.unit < 2 ^ 32) × OutcomeFits r.outcome
FrameFits Stop = Unit {0}
