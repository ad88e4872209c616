-- How many bytes are left to be read, and how many may be ahead.
use Rattle.std.proofs.Common.{◌≡◌, ℕ, ◌+◌, ◌^◌, ◌<◌, ◌≤◌, List, ◌++◌, length, length-append, codes, Result, Ok, Bool, true, false, nat_lt, refl, ap, subst, arith, ◌∙◌, sym}
use borrow.Author.Tests.{ltb-true, ltb-false}
use Rattle.file_access.specs.SourceView.{SourceView}
use Rattle.history_text.specs.Text.{end_text}
use Rattle.history_text.specs.declared.heads.Version.{Version}
use Rattle.history_text.specs.declared.heads.Version.TheVariants.{One, Two}
use Rattle.history_text.specs.Lines.{IsLine, first_line}
use Rattle.history_check.specs.LinesView.{LinesView}
use Rattle.history_text.specs.declared.read_histories.HistoryLine.{HistoryLine}
use Rattle.history_text.specs.declared.read_histories.HistoryLine.TheVariants as lines
use Rattle.history_text.specs.declared.fails.TextFail.{TextFail}
use Rattle.history_check.specs.CheckView.{CheckView, IsCounted}
use Rattle.history_check.specs.Taking.{TakesNext, StaysWithin}
use Rattle.history_check.specs.Checking.{unread, HasBytesLeft}
use Rattle.history_check.specs.declared.inputs.TheConstants.{MAX_INPUT_BYTES}
use Rattle.history_check.specs.declared.lines.Expected.TheVariants.{Any, EntryOrEnd}
use Rattle.history_check.proofs.EndLines.{no_shorter, shortest_end}

-- what was read of a source is less by the line
pub less_by_line : {mid now : SourceView} (was is : LinesView) → TakesNext mid now was is → unread is + length is.line ≡ unread was
less_by_line was is next =
    let held : length (was.ahead ++ next.piece) ≡ length was.ahead + length next.piece = length-append was.ahead next.piece in
    let parts : length (is.line ++ is.ahead) ≡ length is.line + length is.ahead = length-append is.line is.ahead in
    let same : length (was.ahead ++ next.piece) ≡ length (is.line ++ is.ahead) = ap length next.bytes in
    omega (arith, held, parts, same, next.room)

pub line_has_some : (line : List ℕ) → IsLine line → 0 < length line
line_has_some line whole =
    let long : length (whole.front ++ codes "\n") ≡ length whole.front + 1 = length-append whole.front (codes "\n") in
    omega (arith, ap length whole.is, long)

first_ten : (v : Version) → length (first_line v) ≡ 10
first_ten One = refl
first_ten Two = refl

-- where any line may be the last, at most the least are ahead
pub ahead_of_any : (least : ℕ) (is : LinesView) → StaysWithin Any least is → length is.ahead ≤ least
ahead_of_any least is within = at (nat_lt (length is.line) least) refl
  where
    at : (b : Bool) → nat_lt (length is.line) least ≡ b → length is.ahead ≤ least
    at true s = let few : length is.line < least = ltb-true (length is.line) least s in omega (arith, within.line tt (omega (arith, few)))
    at false s = within.ahead (ltb-false (length is.line) least s)

-- behind the first line there is room
pub room_behind_first : (v : Version) {mid now : SourceView} (was is : LinesView) (text : List ℕ) → TakesNext mid now was is → StaysWithin Any 16 is → unread was ≤ MAX_INPUT_BYTES → text ≡ is.line → text ≡ first_line v → HasBytesLeft 0 is
room_behind_first v was is text next within few same first =
    let ten : length is.line ≡ 10 = ap length (sym same ∙ first) ∙ first_ten v in
    let behind : length is.line + length is.ahead ≤ 16 = within.line tt (omega (arith, ten)) in
    record { ahead = omega (arith, behind, ten, shortest_end); entries = omega (arith, less_by_line was is next, few) }

-- behind the second line there is room
pub room_behind_head : {mid now : SourceView} (was is : LinesView) (least : ℕ) → TakesNext mid now was is → StaysWithin Any least is → least ≡ length (end_text 0) → HasBytesLeft 0 was → HasBytesLeft 0 is
room_behind_head was is least next within long room = record { ahead = omega (arith, ahead_of_any least is within, long); entries = omega (arith, less_by_line was is next, room.entries) }

ap_le : (old count new : ℕ) → old ≡ count → new ≡ count + 1 → count + 1 < 2 ^ 64 → length (end_text old) ≤ length (end_text new)
ap_le old count new same more fits =
    let shorter : length (end_text count) ≤ length (end_text (count + 1)) = no_shorter count fits in
    omega (arith, shorter, ap (λ n. length (end_text n)) same, ap (λ n. length (end_text n)) more)

-- behind an entry more there is room
pub room_behind_entry : {mid now : SourceView} (was is : LinesView) (least old count new : ℕ) → TakesNext mid now was is → StaysWithin EntryOrEnd least is → least ≡ length (end_text old) → old ≡ count → HasBytesLeft count was → new ≡ count + 1 → least + 12 ≤ length is.line
    → (unread is < unread was) × HasBytesLeft new is
room_behind_entry was is least old count new next within long same room more some =
    let left : unread is + length is.line ≡ unread was = less_by_line was is next in
    let end : length (end_text old) ≤ length (end_text new) = ap_le old count new same more (omega (arith, room.entries)) in
    (omega (arith, left, some), record { ahead = omega (arith, within.ahead some, long, end); entries = omega (arith, left, some, room.entries, more) })

abbrev counted_to : HistoryLine → Result HistoryLine TextFail
counted_to a = Ok a

pub one_counted : (old new : CheckView) (line : List ℕ) (a : HistoryLine) → a ≡ lines.Entry → IsCounted old line new (counted_to a) → (new.count ≡ old.count + 1) × (length (end_text old.count) + 12 ≤ length line)
one_counted old new line a entry counted = subst (λ (x : HistoryLine). IsCounted old line new (counted_to x)) entry counted
