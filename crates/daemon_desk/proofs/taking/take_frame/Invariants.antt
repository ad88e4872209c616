use Rattle.std.proofs.Common.{◌≡◌, ℕ, ◌-◌, length}
use Rattle.daemon_protocol.specs.StreamStart.{look}
use Rattle.daemon_protocol.specs.declared.frames.Frame.{Frame}
use Rattle.daemon_protocol.specs.declared.starts.StreamStart.TheVariants.{Whole}
use Rattle.daemon_desk.specs.Taking.{NothingBehind, Takes}
use Rattle.daemon_desk.proofs.taking.take_frame.Given as goal

-- what is held was taken, and nothing behind a frame
abbrev pub invariant-loop-start : goal.invariant-loop-start
invariant-loop-start g l = record {
  takes : Takes (g.S.Source.seen l.fn.source) (g.S.Source.seen l.source) l.room l.held.items;
  behind : NothingBehind l.held.items;
  whole : (f : Frame) (n : ℕ) → look l.held.items ≡ Whole f n → n ≡ length l.held.items;
}

abbrev pub decreases-loop-start : goal.decreases-loop-start
decreases-loop-start g l = l.room - length l.held.items
