-- What stands at the start of a stream, and the frames that it begins with.
use Rattle.std.specs.Prelude.{◌≡◌, ℕ, ◌+◌, ◌-◌, ◌≤◌, List, [], ◌∷◌, Option, None, Some, length, take, drop, ◌==◌}
use Rattle.std.specs.Prelude.{◌||◌, Bool, nat_lt, if◌then◌else◌}
use Rattle.std.specs.Int.{w32, from_be_bytes}
use Rattle.daemon_protocol.specs.Bodies.{frame_of}
use Rattle.daemon_protocol.specs.declared.frames.Frame.{Frame}
use Rattle.daemon_protocol.specs.declared.limits.TheConstants.{HEAD_BYTES, MAX_BODY_BYTES, REPLY_TAG, REQUEST_TAG, STOP_TAG}
use Rattle.daemon_protocol.specs.declared.limits.TheConstants.{REPLY_IN_MODE_TAG, REQUEST_IN_MODE_TAG}
use Rattle.daemon_protocol.specs.declared.starts.Head.{Head}
use Rattle.daemon_protocol.specs.declared.starts.Head.TheVariants as heads
use Rattle.daemon_protocol.specs.declared.starts.Flaw.TheVariants.{Tag, Length, Field}
use Rattle.daemon_protocol.specs.declared.starts.StreamStart.{StreamStart}
use Rattle.daemon_protocol.specs.declared.starts.StreamStart.TheVariants.{Unfinished, Whole, Refused}

-- a body of n bytes is one of its tag's bodies, or isn't
abbrev pub look_field : ℕ → Option Frame → StreamStart
look_field n None = Refused Field
look_field n (Some f) = Whole f (HEAD_BYTES + n)

abbrev pub look_body : ℕ → ℕ → List ℕ → StreamStart
look_body tag n bytes =
    if nat_lt MAX_BODY_BYTES n then Refused Length
    else (if nat_lt (length bytes) n then Unfinished else look_field n (frame_of tag (take n bytes)))

-- four bytes of the body's length, and the body
abbrev pub look_length : ℕ → List ℕ → StreamStart
look_length tag bytes = if nat_lt (length bytes) 4 then Unfinished else look_body tag (from_be_bytes w32 (take 4 bytes)) (drop 4 bytes)

abbrev pub is_tag : ℕ → Bool
is_tag b = b == REQUEST_TAG || b == REPLY_TAG || b == STOP_TAG || b == REQUEST_IN_MODE_TAG || b == REPLY_IN_MODE_TAG

abbrev pub look_tag : ℕ → List ℕ → StreamStart
look_tag tag bytes = if is_tag tag then look_length tag bytes else Refused Tag

-- what stands at the start of the bytes: a whole frame and its length, a flaw, or not enough to tell
abbrev pub look : List ℕ → StreamStart
look [] = Unfinished
look (tag ∷ bytes) = look_tag tag bytes

-- how long the frame is, by its head: the tag is followed by four bytes of the body's length
abbrev pub frame_len : List ℕ → ℕ
frame_len bytes = HEAD_BYTES + from_be_bytes w32 (take 4 (drop 1 bytes))

-- what is lacking of the head, and of the frame where the head is there
abbrev pub lacking : List ℕ → ℕ
lacking bytes = if nat_lt (length bytes) HEAD_BYTES then HEAD_BYTES - length bytes else frame_len bytes - length bytes

-- what stands where a head does
abbrev pub start_of : Head → StreamStart
start_of heads.Unfinished = Unfinished
start_of (heads.Whole tag body) = look_field (length body.now) (frame_of tag body.now)
start_of (heads.Refused flaw) = Refused flaw

-- a head's body ends within n bytes, of which so many come before it
abbrev pub FitsBehind : ℕ → Head → ℕ → Type 0
FitsBehind before (heads.Whole tag body) n = before + length body.now ≤ n
FitsBehind before _ n = Unit {0}

-- the bytes begin with these frames, one after the other, and then come the last
pub data Cuts : List ℕ → List Frame → List ℕ → Type 0 where
  nothing : (bytes : List ℕ) → Cuts bytes [] bytes
  first : (bytes : List ℕ) (f : Frame) (n : ℕ) (fs : List Frame) (rest : List ℕ) → look bytes ≡ Whole f n
      → Cuts (drop n bytes) fs rest → Cuts bytes (f ∷ fs) rest
