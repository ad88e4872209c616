-- What was taken from a source, piece by piece.
use Rattle.std.proofs.Common.{inl, inr, refl, ◌≡◌, ℕ, ◌+◌, ◌-◌, ◌<◌, ◌≤◌, ◌⊎◌, Bool, true, false, List, [], ◌∷◌, ◌++◌, length, take, drop, length-append, sym, ap, subst, ◌∙◌, append-nil, append_assoc, arith, get_or, nat_eq, not, ◌&&◌}
use Rattle.std.proofs.KnownBytes.{Consumes-trans}
use Rattle.std.proofs.Math.Seq.{take-add}
use Rattle.std.proofs.lemmas.Bool.{eqb-true}
use Rattle.std.proofs.lemmas.List.{take_all, take_more, take_rest, take-append-drop, take-append-le, get_or-append-add, get_or-drop, length-drop, length-take-le}
use Rattle.std.specs.Prelude.{Result, Ok, Err, IsErrAnd}
use Rattle.file_access.specs.SinkView.{Rises}
use Rattle.file_access.specs.Ahead.{TakesAhead}
use Rattle.file_access.specs.SourceView.{SourceView}
use Rattle.memchr.specs.Find.{Nowhere, NoneBefore, Passes, is_byte}
use Rattle.history_text.specs.Lines.{is_unbroken, IsLine}
use Rattle.history_text.proofs.lemmas.Splits.{joined, unbroken_before}
use Rattle.history_check.specs.LinesView.{LinesView}
use Rattle.history_check.specs.Taking.{Takes, Grows, SplitsLine, Splits, TakesPiece, TakesRest, LosesPiece, TakesLine, IsOver, StaysWithin, IsNotLast, MayEnd, MayTake, shortest}
use Rattle.history_check.specs.declared.lines.Expected.{Expected}
use Rattle.history_check.specs.declared.lines.Expected.TheVariants.{Any, EntryOrEnd}
use Rattle.history_check.specs.declared.lines.TheConstants.{MAX_PIECE}
use Rattle.history_check.specs.declared.fails.CheckFail.{CheckFail}
use Rattle.history_check.specs.declared.fails.CheckFail.TheVariants.{SourceFault, NoMemory}

takes_then : {a b c : SourceView} (room more all : ℕ) (held piece : List ℕ) → Takes a b room held → Takes b c more piece → length held + length piece ≤ all → Takes a c all (held ++ piece)
takes_then {a} {b} {c} room more all held piece one two within = record {
  taken = Consumes-trans a.left b.left c.left held piece one.taken two.taken;
  faults = omega (arith, one.faults, two.faults);
  few = omega (arith, length-append held piece, within);
}

-- ---- a line of which some was taken

-- what was ahead, and a piece behind it, is the line so far
pub record IsReading (start now : SourceView) (was is : LinesView) : Type 0 where
  pub piece : List ℕ
  pub takes : Takes start now was.room piece
  pub room : is.room + length piece ≡ was.room
  pub line : is.line ≡ was.ahead ++ piece
  pub ahead : is.ahead ≡ []

-- At most so many bytes are held. Or the line isn't the last, by the bytes looked at, and at most as many are held behind its shortest or
-- behind a line end that may follow those.
abbrev pub FitsBound : Expected → ℕ → ℕ → List ℕ → Type 0
FitsBound expected least looked line = (length line ≤ least)
    ⊎ (IsNotLast expected least (take looked line) × ((length line ≤ shortest expected least + least) ⊎ (length line ≤ looked + 1 + least)))

-- ---- what the calls for a line make of it

whole_split : (looked place : ℕ) (was is : LinesView) → looked ≤ length was.line → is_unbroken (take looked was.line) ≡ true
    → NoneBefore (Passes (is_byte 10) (drop looked was.line)) 0 (length (drop looked was.line)) place × Passes (is_byte 10) (drop looked was.line) place
    → is.line ≡ take (looked + place + 1) was.line → is.ahead ≡ drop (looked + place + 1) was.line → is.room ≡ was.room → SplitsLine looked was is
whole_split looked place was is within unbroken found line ahead room =
    let rest : length (drop looked was.line) ≡ length was.line - looked = length-drop looked was.line in
    let end : looked + place < length was.line = omega (arith, found.0.high, rest) in
    let none : is_unbroken (take place (drop looked was.line)) ≡ true = unbroken_before (drop looked was.line) place found.0.before (omega (arith, found.0.high)) in
    let byte : get_or was.line (looked + place) 0 ≡ 10 = sym (get_or-drop looked was.line place 0) ∙ eqb-true _ 10 found.1 in
    record {
      whole = record {
        front = take (looked + place) was.line;
        unbroken = ap is_unbroken (take-add looked place was.line) ∙ joined (take looked was.line) (take place (drop looked was.line)) unbroken none;
        is = line ∙ (take_more was.line (looked + place) 0 end ∙ ap (λ b. take (looked + place) was.line ++ b ∷ []) byte);
      };
      bytes = sym (ap (λ bs. bs ++ is.ahead) line ∙ (ap (λ bs. take (looked + place + 1) was.line ++ bs) ahead ∙ take-append-drop (looked + place + 1) was.line));
      behind = omega (arith, ap length line, length-take-le (looked + place + 1) was.line (omega (arith, end)));
      room = room;
    }

none_split : (looked : ℕ) (was : LinesView) → looked ≤ length was.line → is_unbroken (take looked was.line) ≡ true → Nowhere (Passes (is_byte 10) (drop looked was.line)) 0 (length (drop looked was.line)) → is_unbroken was.line ≡ true
none_split looked was within unbroken none =
    let rest : is_unbroken (drop looked was.line) ≡ true =
    subst (λ (l : List ℕ). is_unbroken l ≡ true) (take_all (length (drop looked was.line)) (drop looked was.line) (omega arith)) (unbroken_before (drop looked was.line) (length (drop looked was.line)) none (omega arith)) in
    ap is_unbroken (sym (take-append-drop looked was.line)) ∙ joined (take looked was.line) (drop looked was.line) unbroken rest

-- the bytes of a text behind so many
abbrev behind : ℕ → List ℕ → List ℕ
behind n text = take (length text - n) (drop n text)

pub split_none : (looked : ℕ) (was : LinesView) (text : List ℕ) → text ≡ was.line → looked ≤ length was.line → is_unbroken (take looked was.line) ≡ true
    → Nowhere (Passes (is_byte 10) (behind looked text)) 0 (length (behind looked text)) → is_unbroken was.line ≡ true
split_none looked was text same within unbroken none =
    none_split looked was within unbroken (subst (λ (l : List ℕ). Nowhere (Passes (is_byte 10) l) 0 (length l)) (take_rest text looked ∙ ap (drop looked) same) none)

pub split_whole : (looked place : ℕ) (was is : LinesView) (text more : List ℕ) → text ≡ was.line → more ≡ was.line → looked ≤ length was.line → is_unbroken (take looked was.line) ≡ true
    → NoneBefore (Passes (is_byte 10) (behind looked text)) 0 (length (behind looked text)) place × Passes (is_byte 10) (behind looked text) place
    → was.ahead ≡ [] → is.line ≡ take (looked + place + 1) was.line → is.ahead ≡ was.ahead ++ behind (looked + place + 1) more → is.room ≡ was.room → SplitsLine looked was is
split_whole looked place was is text more same again within unbroken found none line ahead room =
    whole_split looked place was is within unbroken
    (subst (λ (l : List ℕ). NoneBefore (Passes (is_byte 10) l) 0 (length l) place × Passes (is_byte 10) l place) (take_rest text looked ∙ ap (drop looked) same) found)
    line (ahead ∙ (ap (λ bs. bs ++ behind (looked + place + 1) more) none ∙ (take_rest more (looked + place + 1) ∙ ap (drop (looked + place + 1)) again))) room

lost_fault : {start mid now : SourceView} {was held : LinesView} → IsReading start mid was held → is_unbroken held.line ≡ true → Takes mid now held.room [] → Rises mid.faults now.faults → LosesPiece start now was SourceFault
lost_fault {start} {mid} {now} {was} {held} r unbroken more rises = (
  r.piece ++ [],
  takes_then was.room held.room was.room r.piece [] r.takes more (omega (arith, r.takes.few)),
  ap is_unbroken (ap (λ bs. was.ahead ++ bs) (append-nil r.piece) ∙ sym r.line) ∙ unbroken,
  omega (arith, rises, r.takes.faults),
)

lost_memory : {start mid now : SourceView} {was held : LinesView} (piece : List ℕ) → IsReading start mid was held → Takes mid now held.room piece → LosesPiece start now was NoMemory
lost_memory {start} {mid} {now} {was} {held} piece r more = (r.piece ++ piece, takes_then was.room held.room was.room r.piece piece r.takes more (omega (arith, r.room, more.few)))

abbrev taken_to : Bool → Result Bool CheckFail
taken_to whole = Ok whole

abbrev lost_to : CheckFail → Result Bool CheckFail
lost_to fail = Err fail

pub not_split : (looked : ℕ) (was is : LinesView) (whole : Bool) → whole ≡ false → Splits looked was is (taken_to whole) → (is_unbroken was.line ≡ true) × (is ≡ was)
not_split looked was is whole none splits = subst (λ (b : Bool). Splits looked was is (taken_to b)) none splits

pieces_lost : (start mid now : SourceView) (was held is : LinesView) (most : ℕ) (fail : CheckFail) → IsReading start mid was held → is_unbroken held.line ≡ true → TakesPiece most mid now held is (lost_to fail) → LosesPiece start now was fail
pieces_lost start mid now was held is most SourceFault r unbroken takes = lost_fault {held = held} r unbroken takes.0 takes.1
pieces_lost start mid now was held is most NoMemory r unbroken takes = lost_memory {held = held} takes.0 r takes.1

-- the piece that was to come is lost, and so is the line
pub line_lost : (expected : Expected) (least : ℕ) (start mid now : SourceView) (was read held is : LinesView) (most : ℕ) (r : Result Bool CheckFail) (fail : CheckFail) → IsReading start mid was read → (is_unbroken read.line ≡ true) × (held ≡ read)
    → IsErrAnd r (λ f. f ≡ fail) → TakesPiece most mid now held is (lost_to fail) → TakesLine expected least start now was is r
line_lost expected least start mid now was read held is most (Ok whole) fail reading cut never takes = absurd never
line_lost expected least start mid now was read held is most (Err f) fail reading cut same takes =
    subst (LosesPiece start now was) (sym same) (pieces_lost start mid now was read is most fail reading cut.0 (subst (λ (l : LinesView). TakesPiece most mid now l is (lost_to fail)) cut.1 takes))

-- ---- what was read ahead

-- the last byte of a text that has some
abbrev last_byte : List ℕ → ℕ
last_byte text = get_or text (length text - 1) 0

-- a piece, parted before its last byte
parted_last : (piece : List ℕ) → 0 < length piece → piece ≡ take (length piece - 1) piece ++ last_byte piece ∷ []
parted_last piece some =
    sym (take_all (length piece - 1 + 1) piece (omega (arith, some))) ∙ take_more piece (length piece - 1) 0 (omega (arith, some))

front_unbroken : (piece : List ℕ) (count : ℕ) → length piece ≡ count → Nowhere (Passes (is_byte 10) piece) 0 (count - 1) → is_unbroken (take (length piece - 1) piece) ≡ true
front_unbroken piece count long none = unbroken_before piece (length piece - 1) (λ k from to. none k from (omega (arith, to, long))) (omega arith)

-- the last byte of a line is that of the piece that it ends with
last_of_both : (front piece : List ℕ) → 0 < length piece → last_byte (front ++ piece) ≡ last_byte piece
last_of_both front piece some =
    let place : length (front ++ piece) - 1 ≡ length front + (length piece - 1) = omega (arith, some, length-append front piece) in
    ap (λ k. get_or (front ++ piece) k 0) place ∙ get_or-append-add front piece (length piece - 1) 0

-- what was taken makes the line grow
pub rest_grows : {old new : SourceView} {was is : LinesView} (most count : ℕ) → TakesAhead old.left new.left was.line is.line most count → new.faults ≡ old.faults → most ≡ was.room → is.ahead ≡ was.ahead
    → is.room ≡ was.room - count → Grows was.room old new was is
rest_grows {old} {new} {was} {is} most count t same all ahead room = record {
  piece = t.piece;
  takes = record { taken = t.taken; faults = omega (arith, same); few = omega (arith, t.long, t.few, all) };
  few = omega (arith, t.long, t.few, all);
  room = omega (arith, t.long, t.few, all, room);
  line = t.line;
  ahead = ahead;
}

-- the line has its end, where the last byte of the piece is one
rest_ended : (was is piece : List ℕ) (count : ℕ) → is_unbroken was ≡ true → is ≡ was ++ piece → length piece ≡ count → 0 < count → Nowhere (Passes (is_byte 10) piece) 0 (count - 1) → nat_eq (last_byte is) 10 ≡ true → IsLine is
rest_ended was is piece count unbroken grown long some none ends =
    let more : 0 < length piece = omega (arith, some, long) in
    let front : List ℕ = take (length piece - 1) piece in
    let byte : last_byte piece ≡ 10 = sym (last_of_both was piece more) ∙ (ap last_byte (sym grown) ∙ eqb-true (last_byte is) 10 ends) in
    record {
      front = was ++ front;
      unbroken = joined was front unbroken (front_unbroken piece count long none);
      is = grown ∙ (ap (λ bs. was ++ bs) (parted_last piece more ∙ ap (λ b. front ++ b ∷ []) byte) ∙ sym (append_assoc was front (10 ∷ [])));
    }

-- and it has none, where the last byte isn't one
rest_unbroken : (was is piece : List ℕ) (count : ℕ) → is_unbroken was ≡ true → is ≡ was ++ piece → length piece ≡ count → 0 < count → Nowhere (Passes (is_byte 10) piece) 0 (count - 1) → nat_eq (last_byte is) 10 ≡ false → is_unbroken is ≡ true
rest_unbroken was is piece count unbroken grown long some none other =
    let more : 0 < length piece = omega (arith, some, long) in
    let front : List ℕ = take (length piece - 1) piece in
    let byte : nat_eq (last_byte piece) 10 ≡ false = ap (λ b. nat_eq b 10) (sym (last_of_both was piece more) ∙ ap last_byte (sym grown)) ∙ other in
    let last : is_unbroken (last_byte piece ∷ []) ≡ true = ap (λ b. not b && true) byte in
    ap is_unbroken grown ∙ joined was piece unbroken (ap is_unbroken (parted_last piece more) ∙ joined front (last_byte piece ∷ []) (front_unbroken piece count long none) last)

abbrev rest_to : Bool → Result Bool CheckFail
rest_to ends = Ok ends

rest_grown : {old new : SourceView} {was is : LinesView} (most count : ℕ) (ends : Bool) → is_unbroken was.line ≡ true → TakesAhead old.left new.left was.line is.line most count → Grows was.room old new was is → 0 < count
    → ends ≡ nat_eq (last_byte is.line) 10 → TakesRest old new was is (rest_to ends)
rest_grown {is = is} most count true unbroken t grown some ends = (grown, rest_ended _ is.line t.piece count unbroken t.line t.long some t.one_line (sym ends))
rest_grown {is = is} most count false unbroken t grown some ends = (grown, rest_unbroken _ is.line t.piece count unbroken t.line t.long some t.one_line (sym ends))

-- what was read ahead was taken, and the last byte says whether it ends the line
pub rest_taken : {old new : SourceView} {was is : LinesView} (held bytes : List ℕ) (most count : ℕ) (ends : Bool) → held ≡ was.line → bytes ≡ is.line → is_unbroken was.line ≡ true → TakesAhead old.left new.left held is.line most count
    → new.faults ≡ old.faults → most ≡ was.room → is.ahead ≡ was.ahead → is.room ≡ was.room - count → 0 < count → ends ≡ nat_eq (last_byte bytes) 10 → TakesRest old new was is (rest_to ends)
rest_taken {old} {new} {was} {is} held bytes most count ends text line unbroken taken same all ahead room some last =
    let t : TakesAhead old.left new.left was.line is.line most count = subst (λ (l : List ℕ). TakesAhead old.left new.left l is.line most count) text taken in
    rest_grown most count ends unbroken t (rest_grows {is = is} most count t same all ahead room) some (last ∙ ap (λ l. nat_eq (last_byte l) 10) line)

-- a line that is read goes on
pub reading_more : {start mid now : SourceView} {was held is : LinesView} (most : ℕ) → IsReading start mid was held → Grows most mid now held is → IsReading start now was is
reading_more {start} {mid} {now} {was} {held} {is} most r g = record {
  piece = r.piece ++ g.piece;
  takes = takes_then was.room held.room was.room r.piece g.piece r.takes g.takes (omega (arith, r.room, g.takes.few));
  room = omega (arith, r.room, g.room, length-append r.piece g.piece);
  line = g.line ∙ (ap (λ bs. bs ++ g.piece) r.line ∙ append_assoc was.ahead r.piece g.piece);
  ahead = g.ahead ∙ r.ahead;
}

-- nothing is ahead
none_stays : (expected : Expected) (least : ℕ) (is : LinesView) → is.ahead ≡ [] → StaysWithin expected least is
none_stays expected least is none = record {
  few = omega (arith, ap length none);
  ahead = λ long. omega (arith, ap length none);
  line = λ last few. omega (arith, few, ap length none);
}

-- the line ended with what was read ahead
pub rest_is_line : {start mid now : SourceView} {was held is : LinesView} (expected : Expected) (least most : ℕ) → IsReading start mid was held → Grows most mid now held is → IsLine is.line → TakesLine expected least start now was is (rest_to true)
rest_is_line {start} {mid} {now} {was} {held} {is} expected least most r g line =
    let more = reading_more {is = is} most r g in (
      record {
        piece = more.piece;
        takes = more.takes;
        room = more.room;
        bytes = sym more.line ∙ (sym (append-nil is.line) ∙ ap (λ bs. is.line ++ bs) (sym more.ahead));
      },
      line,
      none_stays expected least is more.ahead,
    )

-- the line goes on behind what was read ahead
pub ahead_read : {start mid now : SourceView} {was read held is : LinesView} (ends : Bool) → IsReading start mid was read → (is_unbroken read.line ≡ true) × (held ≡ read) → ends ≡ false → TakesRest mid now held is (rest_to ends)
    → IsReading start now was is × (is_unbroken is.line ≡ true)
ahead_read {start} {mid} {now} {was} {read} {held} {is} ends r cut none rest =
    let got : TakesRest mid now read is (rest_to false) =
    subst (λ (l : LinesView). TakesRest mid now l is (rest_to false)) cut.1 (subst (λ (b : Bool). TakesRest mid now held is (rest_to b)) none rest) in
    (reading_more {is = is} read.room r got.0, got.1)

-- or it ends there
pub ahead_ended : {start mid now : SourceView} {was read held is : LinesView} (expected : Expected) (least : ℕ) (ends : Bool) → IsReading start mid was read → (is_unbroken read.line ≡ true) × (held ≡ read) → ends ≡ true → TakesRest mid now held is (rest_to ends)
    → TakesLine expected least start now was is (rest_to true)
ahead_ended {start} {mid} {now} {was} {read} {held} {is} expected least ends r cut ended rest =
    let got : TakesRest mid now read is (rest_to true) =
    subst (λ (l : LinesView). TakesRest mid now l is (rest_to true)) cut.1 (subst (λ (b : Bool). TakesRest mid now held is (rest_to b)) ended rest) in
    rest_is_line {held = read} {is = is} expected least read.room r got.0 got.1

cut_off_at : {start mid now : SourceView} {was is : LinesView} (expected : Expected) (least : ℕ) → IsReading start mid was is → is_unbroken is.line ≡ true → Takes mid now is.room [] → IsOver now.left is → TakesLine expected least start now was is (taken_to false)
cut_off_at {start} {mid} {now} {was} {is} expected least r unbroken none over = (
  record {
    piece = r.piece ++ [];
    takes = takes_then was.room is.room was.room r.piece [] r.takes none (omega (arith, r.takes.few));
    room = omega (arith, r.room, length-append r.piece []);
    bytes = ap (λ bs. was.ahead ++ bs) (append-nil r.piece) ∙ (sym r.line ∙ (sym (append-nil is.line) ∙ ap (λ bs. is.line ++ bs) (sym r.ahead)));
  },
  record { unbroken = unbroken; alone = r.ahead; over = over },
  none_stays expected least is r.ahead,
)

-- nothing more comes of the line
pub line_cut_off : {start mid now : SourceView} {was read is : LinesView} (expected : Expected) (least most : ℕ) (some : Bool) → IsReading start mid was read × (is_unbroken read.line ≡ true) → some ≡ false → TakesPiece most mid now read is (taken_to some)
    → TakesLine expected least start now was is (taken_to false)
line_cut_off {start} {mid} {now} {was} {read} {is} expected least most some r none takes =
    let got : TakesPiece most mid now read is (taken_to false) = subst (λ (b : Bool). TakesPiece most mid now read is (taken_to b)) none takes in
    subst (λ (l : LinesView). TakesLine expected least start now was l (taken_to false)) (sym got.1)
    (cut_off_at {is = read} expected least r.0 r.1 got.0 (subst (λ (l : LinesView). IsOver now.left l) got.1 got.2))

-- ---- what is ahead of a line that was split off

-- what may begin the last line may do so by its first bytes
may_end_before : (expected : Expected) (begun more : List ℕ) → MayEnd expected (begun ++ more) → MayEnd expected begun
may_end_before Any begun more last = tt
may_end_before EntryOrEnd [] more last = refl
may_end_before EntryOrEnd (b ∷ begun) more last = last

may_end_by : (expected : Expected) (looked : ℕ) (line ahead : List ℕ) → looked ≤ length line → MayEnd expected line → MayEnd expected (take looked (line ++ ahead))
may_end_by expected looked line ahead within last =
    subst (MayEnd expected) (sym (take-append-le looked line ahead within))
    (may_end_before expected (take looked line) (drop looked line) (subst (MayEnd expected) (sym (take-append-drop looked line)) last))

stays_by : (expected : Expected) (least looked : ℕ) (is : LinesView) → looked < length is.line → length (is.line ++ is.ahead) ≤ looked + MAX_PIECE → FitsBound expected least looked (is.line ++ is.ahead) → StaysWithin expected least is
stays_by expected least looked is past piece (inl few) =
    let all : length (is.line ++ is.ahead) ≡ length is.line + length is.ahead = length-append is.line is.ahead in
    record { few = omega (arith, all, piece, past); ahead = λ long. omega (arith, all, few); line = λ last short. omega (arith, all, few) }
stays_by expected least looked is past piece (inr fits) = record { few = omega (arith, all, piece, past); ahead = λ long. at long fits.1; line = λ last short. absurd (ends last short fits.0) }
  where
    all : length (is.line ++ is.ahead) ≡ length is.line + length is.ahead
    all = length-append is.line is.ahead

    at : shortest expected least ≤ length is.line → ((length (is.line ++ is.ahead) ≤ shortest expected least + least) ⊎ (length (is.line ++ is.ahead) ≤ looked + 1 + least)) → length is.ahead ≤ least
    at long (inl few) = omega (arith, all, few, long)
    at long (inr few) = omega (arith, all, few, past)

    ends : MayEnd expected is.line → length is.line ≤ least → IsNotLast expected least (take looked (is.line ++ is.ahead)) → ⊥
    ends last short (inl many) = omega (arith, many, short, past, length-take-le looked (is.line ++ is.ahead) (omega (arith, all, past)))
    ends last short (inr other) = other (may_end_by expected looked is.line is.ahead (omega (arith, past)) last)

-- a line that was split off leaves no more ahead than may be
pub split_stays : (expected : Expected) (least looked : ℕ) (was is : LinesView) → SplitsLine looked was is → length was.line ≤ looked + MAX_PIECE → FitsBound expected least looked was.line → StaysWithin expected least is
split_stays expected least looked was is split piece fits =
    stays_by expected least looked is split.behind (omega (arith, piece, ap length split.bytes)) (subst (FitsBound expected least looked) split.bytes fits)

-- a piece that may be taken keeps the bound
pub piece_fits : (expected : Expected) (least most : ℕ) (begun piece : List ℕ) → MayTake expected least begun most → length piece ≤ most → FitsBound expected least (length begun) (begun ++ piece)
piece_fits expected least most begun piece may few = at may
  where
    all : length (begun ++ piece) ≡ length begun + length piece
    all = length-append begun piece

    same : take (length begun) (begun ++ piece) ≡ begun
    same = take-append-le (length begun) begun piece (omega arith) ∙ take_all (length begun) begun (omega arith)

    at : MayTake expected least begun most → FitsBound expected least (length begun) (begun ++ piece)
    at (inl within) = inl (omega (arith, all, within, few))
    at (inr (other, inl within)) = inr (subst (IsNotLast expected least) (sym same) other, inl (omega (arith, all, within, few)))
    at (inr (other, inr within)) = inr (subst (IsNotLast expected least) (sym same) other, inr (omega (arith, all, within, few)))
