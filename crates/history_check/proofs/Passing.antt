-- What was taken of an input, line by line.
use Rattle.std.proofs.Common.{◌≡◌, ℕ, zero, suc, ◌+◌, ◌-◌, ◌<◌, Bool, true, false, List, [], ◌∷◌, ◌++◌, length, take, codes, length-append, Option, Some, None, refl, sym, ap, subst, ◌∙◌, append_assoc, append-nil, arith, inl, inr, ◌⊎◌}
use Rattle.std.specs.Io.KnownBytes.{Consumes}
use Rattle.std.proofs.KnownBytes.{Consumes-nil, Consumes-trans}
use Rattle.file_access.specs.SinkView.{Rises}
use Rattle.file_access.specs.SourceView.{SourceView}
use Rattle.history_text.specs.Lines.{is_unbroken, IsLine, IsLineBefore, BeginsWithLine}
use Rattle.history_check.specs.LinesView.{LinesView}
use Rattle.history_check.specs.Taking.{Takes, TakesNext, IsOver, IsCutOff, EndsLine, LosesPiece}
use Rattle.history_check.specs.Naming.{IsOtherLine}
use Rattle.history_check.specs.Checking.{still_given, all_given, IsFront, IsJustDecided, Fails, HasTaken}
use Rattle.history_check.specs.declared.fails.CheckFail.{CheckFail}
use Rattle.history_check.specs.declared.fails.CheckFail.TheVariants.{SourceFault, NoMemory}
use Rattle.history_check.specs.declared.inputs.TheConstants.{MAX_INPUT_BYTES}
use Rattle.history_check.proofs.lemmas.Passed.{none_passed, one_passed}
use Rattle.history_check.specs.declared.lines.TheConstants.{MAX_PIECE}

pub starts : (start : SourceView) (lines : LinesView) → lines.ahead ≡ [] → lines.room ≡ MAX_INPUT_BYTES → HasTaken start start lines []
starts start lines none room = record {
  passed = [];
  over = none_passed;
  taken = subst (Consumes start.left start.left) (sym none) (Consumes-nil start.left);
  faults = omega arith;
  limit = omega (arith, ap length none, room);
}

-- what a piece more makes of the bytes
piece_more : (passed front ahead piece : List ℕ) → (passed ++ (front ++ ahead)) ++ piece ≡ passed ++ (front ++ (ahead ++ piece))
piece_more passed front ahead piece = append_assoc passed (front ++ ahead) piece ∙ ap (λ bs. passed ++ bs) (append_assoc front ahead piece)

line_more : (passed front line ahead : List ℕ) → passed ++ (front ++ (line ++ ahead)) ≡ passed ++ ((front ++ line) ++ ahead)
line_more passed front line ahead = ap (λ bs. passed ++ bs) (sym (append_assoc front line ahead))

pub taken_more : {start mid now : SourceView} {was is : LinesView} (front : List ℕ) → HasTaken start mid was front → TakesNext mid now was is → HasTaken start now is (front ++ is.line)
taken_more {start} {mid} {now} {was} {is} front so_far next =
    let whole : (so_far.passed ++ (front ++ was.ahead)) ++ next.piece ≡ so_far.passed ++ ((front ++ is.line) ++ is.ahead) =
    piece_more so_far.passed front was.ahead next.piece ∙ (ap (λ bs. so_far.passed ++ (front ++ bs)) next.bytes ∙ line_more so_far.passed front is.line is.ahead) in
    let long : length ((so_far.passed ++ (front ++ was.ahead)) ++ next.piece) ≡ length (so_far.passed ++ (front ++ was.ahead)) + length next.piece = length-append (so_far.passed ++ (front ++ was.ahead)) next.piece in
    let same : length (so_far.passed ++ ((front ++ is.line) ++ is.ahead)) ≡ length ((so_far.passed ++ (front ++ was.ahead)) ++ next.piece) = ap length (sym whole) in
    record {
      passed = so_far.passed;
      over = so_far.over;
      taken = subst (Consumes start.left now.left) whole (Consumes-trans start.left mid.left now.left (so_far.passed ++ (front ++ was.ahead)) next.piece so_far.taken next.takes.taken);
      faults = omega (arith, so_far.faults, next.takes.faults);
      limit = omega (arith, so_far.limit, next.room, long, same);
    }

pub taken_past : {start now : SourceView} {lines : LinesView} → HasTaken start now lines ([] ++ lines.line) → IsOtherLine lines.line → HasTaken start now lines []
taken_past {start} {now} {lines} so_far other = record {
  passed = so_far.passed ++ lines.line;
  over = one_passed so_far.passed lines.line so_far.over other;
  taken = subst (Consumes start.left now.left) (sym (append_assoc so_far.passed lines.line lines.ahead)) so_far.taken;
  faults = so_far.faults;
  limit = ap (λ bs. length bs + lines.room) (append_assoc so_far.passed lines.line lines.ahead) ∙ so_far.limit;
}

pub came : {start now : SourceView} {lines : LinesView} (front : List ℕ) (so_far : HasTaken start now lines front) → Takes start now MAX_INPUT_BYTES (so_far.passed ++ (front ++ lines.ahead))
came front so_far = record { taken = so_far.taken; faults = so_far.faults; few = omega (arith, so_far.limit) }

-- what is ahead, and what may still be taken behind it
abbrev pub to_come : LinesView → Option (List ℕ) → List ℕ
to_come lines left = lines.ahead ++ still_given lines.room left

pub given_behind : {start now : SourceView} {lines : LinesView} (front : List ℕ) (so_far : HasTaken start now lines front) → all_given (so_far.passed ++ (front ++ lines.ahead)) now.left ≡ so_far.passed ++ (front ++ to_come lines now.left)
given_behind {start} {now} {lines} front so_far =
    let left : MAX_INPUT_BYTES - length (so_far.passed ++ (front ++ lines.ahead)) ≡ lines.room = omega (arith, so_far.limit) in
    ap (λ n. (so_far.passed ++ (front ++ lines.ahead)) ++ still_given n now.left) left ∙ piece_more so_far.passed front lines.ahead (still_given lines.room now.left)

nil_cons : {b : ℕ} {bytes : List ℕ} → b ∷ bytes ≡ [] → ⊥
nil_cons e = cc

take_none : (n : ℕ) (bytes : List ℕ) → bytes ≡ [] → take n bytes ≡ []
take_none zero bytes is = refl
take_none (suc n) [] is = refl
take_none (suc n) (b ∷ bytes) is = absurd (nil_cons is)

no_more : (left : Option (List ℕ)) (lines : LinesView) → IsOver left lines → still_given lines.room left ≡ []
no_more None lines over = refl
no_more (Some bytes) lines (inl full) = ap (λ n. take n bytes) full
no_more (Some bytes) lines (inr end) = take_none lines.room bytes end

pub cut_off : (left : Option (List ℕ)) (lines : LinesView) → IsCutOff left lines → to_come lines left ≡ []
cut_off left lines cut = ap (λ bs. bs ++ still_given lines.room left) cut.alone ∙ no_more left lines cut.over

pub line_before : (left : Option (List ℕ)) (lines : LinesView) → IsLine lines.line ⊎ IsCutOff left lines → IsLineBefore lines.line (to_come lines left)
line_before left lines (inl whole) = inl whole
line_before left lines (inr cut) = inr (cut.unbroken, cut_off left lines cut)

pub alone : (left : Option (List ℕ)) (lines : LinesView) → IsLine lines.line ⊎ IsCutOff left lines → BeginsWithLine lines.line lines.line []
alone left lines (inl whole) = record { is = sym (append-nil lines.line); line_before = inl whole }
alone left lines (inr cut) = record { is = sym (append-nil lines.line); line_before = inr (cut.unbroken, refl) }

pub ends_either : (left : Option (List ℕ)) (lines : LinesView) (whole : Bool) → EndsLine left lines whole → IsLine lines.line ⊎ IsCutOff left lines
ends_either left lines true ends = inl ends
ends_either left lines false ends = inr ends

-- ---- what was decided last

-- the bytes behind a front, parted before the last of them
parted : (passed front line ahead piece last : List ℕ) → line ++ ahead ≡ piece ++ last → passed ++ ((front ++ line) ++ ahead) ≡ (passed ++ (front ++ piece)) ++ last
parted passed front line ahead piece last is =
    ap (λ bs. passed ++ bs) (append_assoc front line ahead ∙ (ap (λ bs. front ++ bs) is ∙ sym (append_assoc front piece last)))
    ∙ sym (append_assoc passed (front ++ piece) last)

pub just_decided : {start now : SourceView} {is : LinesView} (front : List ℕ) (so_far : HasTaken start now is (front ++ is.line)) → IsFront front → IsLine is.line ⊎ IsCutOff now.left is → length is.ahead < MAX_PIECE
    → IsJustDecided (so_far.passed ++ ((front ++ is.line) ++ is.ahead))
just_decided {start} {now} {is} front so_far begun (inl whole) few = record {
  before = so_far.passed ++ (front ++ whole.front);
  last = codes "\n" ++ is.ahead;
  undecided = record { passed = so_far.passed; over = so_far.over; front = front; begun = begun; piece = whole.front; unbroken = whole.unbroken; is = sym (append_assoc so_far.passed front whole.front) };
  few = omega (arith, few, length-append (codes "\n") is.ahead);
  is = parted so_far.passed front is.line is.ahead whole.front (codes "\n" ++ is.ahead)
      (ap (λ bs. bs ++ is.ahead) whole.is ∙ append_assoc whole.front (codes "\n") is.ahead);
}
just_decided {start} {now} {is} front so_far begun (inr cut) few = record {
  before = so_far.passed ++ (front ++ is.line);
  last = is.ahead;
  undecided = record { passed = so_far.passed; over = so_far.over; front = front; begun = begun; piece = is.line; unbroken = cut.unbroken; is = sym (append_assoc so_far.passed front is.line) };
  few = omega (arith, few);
  is = parted so_far.passed front is.line is.ahead is.line is.ahead refl;
}

-- a piece more was taken
piece_taken : {start mid now : SourceView} {was : LinesView} (front piece : List ℕ) (so_far : HasTaken start mid was front) → Takes mid now was.room piece → Takes start now MAX_INPUT_BYTES (so_far.passed ++ (front ++ (was.ahead ++ piece)))
piece_taken {start} {mid} {now} {was} front piece so_far takes =
    let bytes : (so_far.passed ++ (front ++ was.ahead)) ++ piece ≡ so_far.passed ++ (front ++ (was.ahead ++ piece)) = piece_more so_far.passed front was.ahead piece in
    let long : length ((so_far.passed ++ (front ++ was.ahead)) ++ piece) ≡ length (so_far.passed ++ (front ++ was.ahead)) + length piece = length-append (so_far.passed ++ (front ++ was.ahead)) piece in
    let same : length (so_far.passed ++ (front ++ (was.ahead ++ piece))) ≡ length ((so_far.passed ++ (front ++ was.ahead)) ++ piece) = ap length (sym bytes) in
    record {
      taken = subst (Consumes start.left now.left) bytes (Consumes-trans start.left mid.left now.left (so_far.passed ++ (front ++ was.ahead)) piece so_far.taken takes.taken);
      faults = omega (arith, so_far.faults, takes.faults);
      few = omega (arith, so_far.limit, takes.few, long, same);
    }

pub source_failed : {start mid now : SourceView} {was : LinesView} (front piece : List ℕ) → HasTaken start mid was front → IsFront front → Takes mid now was.room piece → is_unbroken (was.ahead ++ piece) ≡ true → Rises mid.faults now.faults → Fails start now SourceFault
source_failed {start} {mid} {now} {was} front piece so_far begun takes unbroken rises = (
  so_far.passed ++ (front ++ (was.ahead ++ piece)),
  piece_taken front piece so_far takes,
  record {
    passed = so_far.passed;
    over = so_far.over;
    front = front;
    begun = begun;
    piece = was.ahead ++ piece;
    unbroken = unbroken;
    is = sym (append_assoc so_far.passed front (was.ahead ++ piece));
  },
  omega (arith, rises, so_far.faults),
)

pub memory_failed : {start mid now : SourceView} {was : LinesView} (front piece : List ℕ) → HasTaken start mid was front → Takes mid now was.room piece → Fails start now NoMemory
memory_failed front piece so_far takes = (so_far.passed ++ (front ++ (_ ++ piece)), piece_taken front piece so_far takes)

-- no line was taken
pub line_failed : (start mid now : SourceView) (was : LinesView) (front : List ℕ) (fail : CheckFail) → HasTaken start mid was front → IsFront front → LosesPiece mid now was fail → Fails start now fail
line_failed start mid now was front SourceFault so_far begun lost = source_failed front lost.0 so_far begun lost.1 lost.2 lost.3
line_failed start mid now was front NoMemory so_far begun lost = memory_failed front lost.0 so_far lost.1
