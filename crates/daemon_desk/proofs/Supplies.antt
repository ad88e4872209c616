-- What was taken from a source, piece by piece.
use Rattle.std.proofs.Common.{◌≡◌, ℕ, ◌+◌, ◌≤◌, List, [], ◌++◌, length, take, drop, length-drop, length-take-le, take_all, length-append, sym, ap, ◌∙◌, arith}
use Rattle.std.proofs.Math.Seq.{take-add}
use Rattle.std.proofs.lemmas.List.{append-nil, take-append-le}
use Rattle.std.proofs.KnownBytes.{Consumes-nil, Consumes-trans, Consumes-kept}
use Rattle.std.specs.Io.KnownBytes.{Consumes, IsAtEnd, Keeps}
use Rattle.daemon_protocol.specs.StreamStart.{look, lacking}
use Rattle.daemon_protocol.specs.declared.frames.Frame.{Frame}
use Rattle.daemon_protocol.specs.declared.starts.StreamStart.TheVariants.{Unfinished, Whole}
use Rattle.daemon_protocol.proofs.lemmas.Settled.{fits}
use Rattle.file_access.specs.SourceView.{SourceView}
use Rattle.daemon_desk.specs.Taking.{NothingBehind, Takes, TakesBehind}

pub takes_nothing : (a : SourceView) (room : ℕ) → Takes a a room []
takes_nothing a room = record { taken = Consumes-nil a.left; faults = omega arith; few = omega arith }

-- where what stands there isn't told yet
pub none_behind : (held : List ℕ) → look held ≡ Unfinished → NothingBehind held
none_behind held unfinished = record { front = held; last = []; held_of = sym (append-nil held); unfinished = unfinished; lacked = omega arith }

-- a take that failed
pub takes_kept : (a b : SourceView) (room : ℕ) → Keeps a.left b.left → a.faults ≤ b.faults → Takes a b room []
takes_kept a b room kept faults = record { taken = Consumes-kept a.left a.left b.left [] (Consumes-nil a.left) kept; faults = faults; few = omega arith }

pub takes_then : {a b c : SourceView} (room more : ℕ) (held piece : List ℕ) → Takes a b room held → Takes b c more piece → length held + more ≤ room → Takes a c room (held ++ piece)
takes_then {a} {b} {c} room more held piece one two within = record {
  taken = Consumes-trans a.left b.left c.left held piece one.taken two.taken;
  faults = omega (arith, one.faults, two.faults);
  few = omega (arith, length-append held piece, two.few);
}

-- a buffer was made longer, a take filled the front of what is new, and the rest was cut off
pub takes_behind : {a b : SourceView} (held held' zeros room new : List ℕ) (len most count : ℕ) → len ≡ length held → held' ≡ take (len + count) new → room ≡ take (len + most) held ++ zeros → take len new ≡ take len room
    → length new ≤ len + most → len + count ≤ length new → Consumes a.left b.left (take count (drop len new)) → a.faults ≤ b.faults → (count ≡ 0 → IsAtEnd b.left)
    → TakesBehind a b held held' most count
takes_behind {a} {b} held held' zeros room new len most count is cut longer front within fits taken faults end =
    let piece = take count (drop len new) in
    let whole : take (len + most) held ≡ held = take_all _ held (omega (arith, is)) in
    let kept : take len room ≡ held = ap (take len) (longer ∙ ap (λ l. l ++ zeros) whole) ∙ take-append-le len held zeros (omega (arith, is)) ∙ take_all len held (omega (arith, is)) in
    let count_of : length piece ≡ count = length-take-le count (drop len new) (omega (arith, length-drop len new, fits)) in
    record {
      piece = piece;
      held_of = cut ∙ take-add len count new ∙ ap (λ l. l ++ piece) (front ∙ kept);
      takes = record { taken = taken; faults = faults; few = omega (arith, count_of, fits, within) };
      count_of = count_of;
      end = end;
    }

-- of a frame that wasn't whole no more was taken than was lacking, so nothing was taken behind it
pub nothing_behind : (held held' piece : List ℕ) (least : ℕ) → held' ≡ held ++ piece → length piece ≤ least → ((more : List ℕ) (f : Frame) (n : ℕ) → look (held ++ more) ≡ Whole f n → length held + least ≤ n)
    → (f : Frame) (n : ℕ) → look held' ≡ Whole f n → n ≡ length held'
nothing_behind held held' piece least is short lacking f n whole =
    let here : look (held ++ piece) ≡ Whole f n = ap look (sym is) ∙ whole in
    let upper = (fits (held ++ piece) f n here).1 in
    let lower = lacking piece f n here in
    omega (arith, upper, lower, short, length-append held piece, ap length is)
