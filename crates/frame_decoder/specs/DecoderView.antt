-- What a decoder knows of a stream.
use Rattle.std.specs.Prelude.{◌≡◌, ℕ, ◌+◌, ◌≤◌, List, [], ◌∷◌, ◌++◌, Option, None, Some, Bool, true, false, length, drop}
use Rattle.daemon_protocol.specs.StreamStart.{look, Cuts}
use Rattle.daemon_protocol.specs.declared.frames.Frame.{Frame}
use Rattle.daemon_protocol.specs.declared.frames.FrameRefusal.{FrameRefusal}
use Rattle.daemon_protocol.specs.declared.frames.FrameRefusal.TheVariants.{BadTag, BadLength, BadField}
use Rattle.daemon_protocol.specs.declared.starts.Flaw.{Flaw}
use Rattle.daemon_protocol.specs.declared.starts.Flaw.TheVariants.{Tag, Length, Field}
use Rattle.daemon_protocol.specs.declared.starts.StreamStart.{StreamStart}
use Rattle.daemon_protocol.specs.declared.starts.StreamStart.TheVariants.{Unfinished, Refused}

-- the bytes held that are no whole frame yet, the place where they begin, and the refusal, if there is one
pub record DecoderView : Type 0 where
  pub held : List ℕ
  pub place : ℕ
  pub refusal : Option FrameRefusal

abbrev pub nothing_read : DecoderView
nothing_read = record { held = []; place = 0; refusal = None }

abbrev pub refusal_at : Flaw → ℕ → FrameRefusal
refusal_at Tag place = BadTag place
refusal_at Length place = BadLength place
refusal_at Field place = BadField place

-- what follows the frames begins no frame, as the reading says
abbrev pub IsEnd : List ℕ → ℕ → List ℕ → Option FrameRefusal → Type 0
IsEnd rest place held None = (look rest ≡ Unfinished) × (held ≡ rest)
IsEnd rest place held (Some refusal) = (flaw : Flaw) × (look rest ≡ Refused flaw) × (refusal ≡ refusal_at flaw place) × (held ≡ [])

-- the stream begins with these frames and no more, and the reading says what follows them
pub record Reads (stream : List ℕ) (frames : List Frame) (r : DecoderView) : Type 0 where
  pub rest : List ℕ
  pub cuts : Cuts stream frames rest
  pub place : r.place + length rest ≡ length stream
  pub end : IsEnd rest r.place r.held r.refusal

-- what stands at a place where no frame does
abbrev pub start_with : Option Flaw → StreamStart
start_with None = Unfinished
start_with (Some flaw) = Refused flaw

-- the frames and one more, where there is one
abbrev pub IsPushed : Option Frame → List Frame → List Frame → Bool → Type 0
IsPushed None before after is = (after ≡ before) × (is ≡ false)
IsPushed (Some f) before after is = (after ≡ before ++ f ∷ []) × (is ≡ true)

-- n bytes were frames, and what is held comes after them, or no frame does
abbrev pub after_frames : DecoderView → ℕ → Option Flaw → DecoderView
after_frames r n None = record { held = r.held; place = r.place + n; refusal = r.refusal }
after_frames r n (Some flaw) = record { held = []; place = r.place + n; refusal = Some (refusal_at flaw (r.place + n)) }

-- the bytes begin with these frames and no more, and the second reading says what follows them
pub record ReadsOn (bytes : List ℕ) (frames : List Frame) (before after : DecoderView) : Type 0 where
  pub len : ℕ
  pub flaw : Option Flaw
  pub within : len ≤ length bytes
  pub cuts : Cuts bytes frames (drop len bytes)
  pub end : look (drop len bytes) ≡ start_with flaw
  pub reading : after ≡ after_frames record { held = drop len bytes; place = before.place; refusal = before.refusal } len flaw
