-- What a line makes of what was taken so far, and of the answer.
use Rattle.std.proofs.Common.{◌≡◌, ℕ, ◌+◌, ◌<◌, ◌≤◌, Bool, true, false, List, [], ◌∷◌, ◌++◌, length, get_or, Option, Some, None, Result, Ok, Err, refl, sym, ap, subst, ◌∙◌, append_assoc, append-nil, arith, inl, inr, ◌⊎◌}
use Rattle.file_access.specs.SourceView.{SourceView}
use Rattle.plan_reader.specs.PlanView.{PlanView}
use Rattle.history_text.specs.Text.{numbered, entry_text, end_text}
use Rattle.history_text.specs.HistoryView.{HistoryView}
use Rattle.history_text.specs.declared.heads.Version.{Version}
use Rattle.history_text.specs.Lines.{is_unbroken, IsLine, IsLineBefore, IsNoFirst, AddsEntry, Ends, StopsIt, IsWrongAfter, Opens, OpensNone, first_line, version_of, next_number}
use Rattle.history_text.specs.Grammar.{HistoryFits, StopsInHead, StopsAt, head_of, lines_of}
use Rattle.history_text.proofs.lemmas.Splits.{same_line}
use Rattle.history_text.proofs.lemmas.LineLaws.{entry_line, end_line}
use Rattle.history_text.proofs.lemmas.TextLaws.{head_parts, second_of, first_wrong, second_wrong}
use Rattle.history_text.proofs.lemmas.ReadLaws.{ReadSoFar, at_start, read_on, read_ended, opened_so_far}
use Rattle.history_check.specs.LinesView.{LinesView}
use Rattle.history_check.specs.Taking.{TakesNext, IsCutOff, EndsLine, StaysWithin, MayEnd, LosesPiece}
use Rattle.history_check.specs.CheckView.{CheckView, IsCheckOf, OpensCheck, CheckGoesOn}
use Rattle.history_check.specs.Verdict.{IsVerdict}
use Rattle.history_check.specs.Naming.{BeginsHistory, BreaksBehind}
use Rattle.history_check.specs.Checking.{unread, Answers, AnswersBy, HasEnded, Fails, FindsNone, FindsHead, HasTaken, HasBytesLeft, IsUnderway, TakesHead, GoesOn, HasChecked, Shortens}
use Rattle.history_check.specs.Admitting.{AdmitsInput, HasAdmitted}
use Rattle.history_check.specs.declared.admitted.Admitted.{Admitted}
use Rattle.history_check.specs.declared.admitted.Admitted.TheVariants as admitted
use Rattle.history_check.specs.declared.checks.Checked.{Checked}
use Rattle.history_check.specs.declared.checks.Checked.TheVariants as checked
use Rattle.history_check.specs.declared.fails.CheckFail.{CheckFail}
use Rattle.history_check.specs.declared.fails.CheckFail.TheVariants.{NoMemory}
use Rattle.history_text.specs.declared.read_histories.HistoryLine.{HistoryLine}
use Rattle.history_text.specs.declared.read_histories.HistoryLine.TheVariants as lines
use Rattle.history_text.specs.declared.fails.TextFail.{TextFail}
use Rattle.history_text.specs.declared.fails.TextFail.TheVariants.{Stops}
use Rattle.std.specs.Prelude.{IsErrAnd}
use Rattle.history_check.specs.declared.lines.Expected.{Expected}
use Rattle.history_check.specs.declared.lines.Expected.TheVariants.{Any, EntryOrEnd}
use Rattle.history_check.specs.declared.lines.TheConstants.{MAX_PIECE}
use Rattle.history_check.proofs.Passing.{just_decided, taken_more, taken_past, came, to_come, given_behind, line_before, alone, cut_off, ends_either, memory_failed, line_failed}

in_head : (text : List ℕ) → StopsAt text 0 → StopsInHead text 0
in_head text (inl a) = a
in_head text (inr b) = absurd (let number : 0 ≡ length b.before.entries + 1 = b.number in omega arith)

-- the head lacks: what is behind the lines passed over isn't the first line, and no line
pub no_head : {start now : SourceView} {is : LinesView} → (so_far : HasTaken start now is ([] ++ is.line)) → IsCutOff now.left is → IsNoFirst is.line → FindsNone start now
no_head {start} {now} {is} so_far cut other =
    let few : length is.ahead < MAX_PIECE = omega (arith, ap length cut.alone) in
    let none : to_come is now.left ≡ [] = cut_off now.left is cut in
    let whole : is.line ++ to_come is now.left ≡ is.line = ap (λ bs. is.line ++ bs) none ∙ append-nil is.line in (
      so_far.passed ++ (([] ++ is.line) ++ is.ahead),
      came ([] ++ is.line) so_far,
      record {
        passed = so_far.passed;
        over = so_far.over;
        text = is.line ++ to_come is now.left;
        begins = inr (ap is_unbroken whole ∙ cut.unbroken);
        stops = inl (in_head (is.line ++ to_come is now.left) (first_wrong is.line (to_come is now.left) (inr (cut.unbroken, none)) other));
        is = given_behind ([] ++ is.line) so_far;
      },
      just_decided [] so_far (inl refl) (inr cut) few,
    )

-- the second line is wrong or lacks
pub no_second : (v : Version) {start mid now : SourceView} {was is : LinesView} → HasTaken start mid was (first_line v) → TakesNext mid now was is → IsLine is.line ⊎ IsCutOff now.left is → length is.ahead < MAX_PIECE → OpensNone v is.line → FindsNone start now
no_second v {start} {mid} {now} {was} {is} so_far next ends few none =
    let first : List ℕ = first_line v in
    let more = taken_more (first_line v) so_far next in
    let rest = to_come is now.left in (
      more.passed ++ ((first_line v ++ is.line) ++ is.ahead),
      came (first_line v ++ is.line) more,
      record {
        passed = more.passed;
        over = more.over;
        text = first ++ (is.line ++ rest);
        begins = inl (record { version = v; more = is.line ++ rest; is = refl });
        stops = inl (in_head (first_line v ++ (is.line ++ rest)) (second_wrong v is.line rest (line_before now.left is ends) none));
        is = given_behind (first_line v ++ is.line) more ∙ ap (λ bs. more.passed ++ bs) (append_assoc (first_line v) is.line rest);
      },
      just_decided (first_line v) more (inr (inl (v, refl))) ends few,
    )

-- the head is whole
pub head_taken : (v : Version) {p : PlanView} {start mid now : SourceView} {was is : LinesView} {h : HistoryView} {c : CheckView} → HasTaken start mid was (first_line v) → TakesNext mid now was is → Opens v is.line h → IsCheckOf p h c → IsUnderway p start now is c
head_taken v {p} {start} {mid} {now} {was} {is} {h} {c} so_far next opens check =
    let opened : ReadSoFar (first_line v ++ is.line) h [] = opened_so_far v {text = first_line v ++ is.line} {first = first_line v} {second = is.line} {rest = is.line} {more = []} {h = h} refl refl (sym (append-nil is.line)) opens in
    let same : first_line v ++ is.line ≡ lines_of h = opened.is ∙ append-nil (lines_of h) in
    record {
      history = h;
      fits = opened.fits;
      taken = subst (HasTaken start now is) same (taken_more (first_line v) so_far next);
      check = check;
    }

-- an entry came
pub entry_taken : {p : PlanView} {start mid now : SourceView} {was is : LinesView} {c d : CheckView} {k : HistoryView} (u : IsUnderway p start mid was c) → TakesNext mid now was is → IsLine is.line ⊎ IsCutOff now.left is → AddsEntry u.history is.line k → IsCheckOf p k d → IsUnderway p start now is d
entry_taken {p} {start} {mid} {now} {was} {is} {c} {d} {k} u next ends added check =
    let read : ReadSoFar (lines_of u.history ++ is.line) k [] = read_on {text = lines_of u.history ++ is.line} {rest = is.line} {line = is.line} {more = []} {h = u.history} {k = k} (at_start u.fits) (alone now.left is ends) added in
    let same : lines_of u.history ++ is.line ≡ lines_of k = read.is ∙ append-nil (lines_of k) in
    record {
      history = k;
      fits = read.fits;
      taken = subst (HasTaken start now is) same (taken_more (lines_of u.history) u.taken next);
      check = check;
    }

-- the end came, and nothing is ahead
pub end_taken : {p : PlanView} {start mid now : SourceView} {was is : LinesView} {c d : CheckView} {k : HistoryView} (a : Checked) (u : IsUnderway p start mid was c) → TakesNext mid now was is → IsLine is.line ⊎ IsCutOff now.left is → is.ahead ≡ [] → Ends u.history is.line k → IsCheckOf p k d → IsVerdict d.graph k.locks k.entries a → AnswersBy p start now d a
end_taken {p} {start} {mid} {now} {was} {is} {c} {d} {k} a u next ends none ended check verdict =
    let more = taken_more (lines_of u.history) u.taken next in (
      more.passed ++ ((lines_of u.history ++ is.line) ++ is.ahead),
      came (lines_of u.history ++ is.line) more,
      inl (record {
        history = k;
        names = record {
          passed = more.passed;
          over = more.over;
          text = lines_of u.history ++ is.line;
          history = read_ended {text = lines_of u.history ++ is.line} {rest = is.line} {line = is.line} {more = []} {h = u.history} {k = k} (at_start u.fits) (alone now.left is ends) ended refl;
          is = ap (λ bs. more.passed ++ ((lines_of u.history ++ is.line) ++ bs)) none ∙ ap (λ bs. more.passed ++ bs) (append-nil (lines_of u.history ++ is.line));
        };
        check = check;
        verdict = verdict;
      }),
      just_decided (lines_of u.history) more (inr (inr (u.history, u.fits, refl))) ends (omega (arith, ap length none)),
    )

-- a line of a history that is wrong breaks it, whatever is behind
broken : (h : HistoryView) (line more : List ℕ) (n : ℕ) → HistoryFits h → IsLineBefore line more → n ≡ next_number h → IsWrongAfter h line → BreaksBehind (lines_of h ++ (line ++ more)) n
broken h line more n fits before number wrong = record {
  before = h;
  rest = line ++ more;
  fits = fits;
  is = refl;
  number = number;
  no_entry = λ e rest good is.
      wrong.no_entry e good ((same_line line more (entry_text n e) rest before (entry_line n e) is).front ∙ ap (λ m. entry_text m e) number);
  no_end = λ rest is. wrong.no_end (same_line line more (end_text (length h.entries)) rest before (end_line (length h.entries)) is).front;
}

pub begins_first : (h : HistoryView) (rest : List ℕ) → BeginsHistory (lines_of h ++ rest)
begins_first h rest = record {
  version = version_of h.locks;
  more = second_of h ++ (numbered entry_text 1 h.entries ++ rest);
  is = append_assoc (head_of h) (numbered entry_text 1 h.entries) rest ∙ head_parts h.workers h.max h.parallel h.locks (numbered entry_text 1 h.entries ++ rest);
}

-- the text stops being a history
pub stop_taken : {p : PlanView} {start mid now : SourceView} {was is : LinesView} {c d : CheckView} {k : HistoryView} (n : ℕ) (u : IsUnderway p start mid was c) → TakesNext mid now was is → IsLine is.line ⊎ IsCutOff now.left is → length is.ahead < MAX_PIECE → StopsIt u.history is.line k n → AnswersBy p start now d (checked.NotLawful n)
stop_taken {p} {start} {mid} {now} {was} {is} {c} {d} {k} n u next ends few stops =
    let more = taken_more (lines_of u.history) u.taken next in
    let rest = to_come is now.left in (
      more.passed ++ ((lines_of u.history ++ is.line) ++ is.ahead),
      came (lines_of u.history ++ is.line) more,
      inr (record {
        number = n;
        breaks = record {
          passed = more.passed;
          over = more.over;
          text = lines_of u.history ++ (is.line ++ rest);
          begins = inl (begins_first u.history (is.line ++ rest));
          stops = inr (broken u.history is.line rest n u.fits (line_before now.left is ends) stops.number stops.wrong);
          is = given_behind (lines_of u.history ++ is.line) more ∙ ap (λ bs. more.passed ++ bs) (append_assoc (lines_of u.history) is.line rest);
        };
        answer = refl;
      }),
      just_decided (lines_of u.history) more (inr (inr (u.history, u.fits, refl))) ends few,
    )

-- no head: that is answered at 0
none_named : {p : PlanView} {start now : SourceView} → FindsNone start now → Answers p start now (checked.NotLawful 0)
none_named found = (found.0, found.1, inr (record { number = 0; breaks = found.2; answer = refl }), found.3)

pub none_found : {p : PlanView} {start now : SourceView} → FindsNone start now → AdmitsInput p start now (admitted.NotLawful 0)
none_found found = (found.0, found.1, inr (record { number = 0; breaks = found.2; answer = refl }), found.3)

-- ---- what the calls for a line answer

-- what the check makes of a line, of whichever history it is
abbrev Goes : CheckView → CheckView → List ℕ → Result HistoryLine TextFail → Type 0
Goes c d text r = (p : PlanView) (h : HistoryView) → IsCheckOf p h c → CheckGoesOn p h text d r

-- a line was taken, or what there was of it
abbrev Took : Expected → ℕ → SourceView → SourceView → LinesView → LinesView → Bool → Type 0
Took expected least mid now was is whole = TakesNext mid now was is × EndsLine now.left is whole × StaysWithin expected least is

abbrev one_taken : HistoryLine → Result HistoryLine TextFail
one_taken a = Ok a

abbrev one_failed : TextFail → Result HistoryLine TextFail
one_failed fail = Err fail

-- what the check makes of the line that was taken
goes_there : {c d : CheckView} {line text : List ℕ} (p : PlanView) (h : HistoryView) (r s : Result HistoryLine TextFail) → text ≡ line → r ≡ s → Goes c d text r → IsCheckOf p h c → CheckGoesOn p h line d s
goes_there {c} {d} {line} {text} p h r s same is goes check =
    subst (λ (x : Result HistoryLine TextFail). CheckGoesOn p h line d x) is (subst (λ (t : List ℕ). CheckGoesOn p h t d r) same (goes p h check))

pub on_entry : {p : PlanView} {start mid now : SourceView} {was is : LinesView} {c d : CheckView} (least : ℕ) (text : List ℕ) (whole : Bool) (a : HistoryLine) (u : IsUnderway p start mid was c) → Took EntryOrEnd least mid now was is whole → text ≡ is.line → a ≡ lines.Entry → Goes c d text (one_taken a) → IsUnderway p start now is d
on_entry {p} {start} {mid} {now} {was} {is} {c} {d} least text whole a u took same entry goes =
    let next : CheckGoesOn p u.history is.line d (one_taken lines.Entry) = goes_there p u.history (one_taken a) (one_taken lines.Entry) same (ap one_taken entry) goes u.check in
    entry_taken u took.0 (ends_either now.left is whole took.1) next.1 next.2

no_length : (xs : List ℕ) → length xs ≡ 0 → xs ≡ []
no_length [] none = refl
no_length (x ∷ xs) none = absurd (omega (arith, none))

-- an end line may be the last
end_may_end : (n : ℕ) (line : List ℕ) → line ≡ end_text n → MayEnd EntryOrEnd line
end_may_end n line is = ap (λ (l : List ℕ). get_or l 0 101) is

-- behind an end line that is as long as it can be nothing is ahead
none_ahead : {h k : HistoryView} {is : LinesView} (least count : ℕ) → least ≡ length (end_text count) → count ≡ length h.entries → StaysWithin EntryOrEnd least is → Ends h is.line k → is.ahead ≡ []
none_ahead {h} {k} {is} least count long counted within ended =
    let same : length is.line ≡ length (end_text (length h.entries)) = ap length ended.spelled in
    let least_is : length (end_text count) ≡ length (end_text (length h.entries)) = ap (λ n. length (end_text n)) counted in
    let whole : length is.line + length is.ahead ≤ least = within.line (end_may_end (length h.entries) is.line ended.spelled) (omega (arith, same, least_is, long)) in
    no_length is.ahead (omega (arith, whole, same, least_is, long))

pub on_end : {p : PlanView} {start mid now : SourceView} {was is : LinesView} {c d : CheckView} (least count : ℕ) (text : List ℕ) (whole : Bool) (a : HistoryLine) (answer : Checked) (u : IsUnderway p start mid was c) → Took EntryOrEnd least mid now was is whole → least ≡ length (end_text count) → count ≡ c.count → text ≡ is.line → a ≡ lines.End → Goes c d text (one_taken a) → ((p : PlanView) (h : HistoryView) → IsCheckOf p h d → IsVerdict d.graph h.locks h.entries answer) → AnswersBy p start now d answer
on_end {p} {start} {mid} {now} {was} {is} {c} {d} least count text whole a answer u took long counted same end goes verdict =
    let next : CheckGoesOn p u.history is.line d (one_taken lines.End) = goes_there p u.history (one_taken a) (one_taken lines.End) same (ap one_taken end) goes u.check in
    end_taken answer u took.0 (ends_either now.left is whole took.1) (none_ahead least count long (counted ∙ u.check.count) took.2 next.1) next.1 next.2 (verdict p next.0 next.2)

pub on_stop : {p : PlanView} {start mid now : SourceView} {was is : LinesView} {c d : CheckView} (least n : ℕ) (text : List ℕ) (whole : Bool) (fail : TextFail) (u : IsUnderway p start mid was c) → Took EntryOrEnd least mid now was is whole → text ≡ is.line → fail ≡ Stops n → Goes c d text (one_failed fail) → AnswersBy p start now d (checked.NotLawful n)
on_stop {p} {start} {mid} {now} {was} {is} {c} {d} least n text whole fail u took same stops goes =
    let next : CheckGoesOn p u.history is.line d (one_failed (Stops n)) = goes_there p u.history (one_failed fail) (one_failed (Stops n)) same (ap one_failed stops) goes u.check in
    stop_taken {d = d} n u took.0 (ends_either now.left is whole took.1) took.2.few next.1

pub no_room : {p : PlanView} {start mid now : SourceView} {was is : LinesView} {c : CheckView} (u : IsUnderway p start mid was c) → TakesNext mid now was is → Fails start now NoMemory
no_room u next = memory_failed (lines_of u.history) next.piece u.taken next.takes

pub fails_underway : {p : PlanView} {c : CheckView} (start mid now : SourceView) (was : LinesView) (fail : CheckFail) (u : IsUnderway p start mid was c) → LosesPiece mid now was fail → Fails start now fail
fails_underway start mid now was fail u lost = line_failed start mid now was (lines_of u.history) fail u.taken (inr (inr (u.history, u.fits, refl))) lost

pub handed_on : (p : PlanView) (start now : SourceView) (c : CheckView) (is : LinesView) (r : Result (Option Checked) CheckFail) (fail : CheckFail) → IsErrAnd r (λ f. f ≡ fail) → Fails start now fail → GoesOn p start now is c r
handed_on p start now c is (Ok a) fail never fails = absurd never
handed_on p start now c is (Err f) fail same fails = subst (Fails start now) (sym same) fails

-- ---- the head

abbrev opened_to : CheckView → Result CheckView TextFail
opened_to c = Ok c

pub on_head : (v : Version) {p : PlanView} {start mid now : SourceView} {was is : LinesView} (text : List ℕ) (c : CheckView) → HasTaken start mid was (first_line v) → TakesNext mid now was is → text ≡ is.line → OpensCheck p v text (opened_to c) → IsUnderway p start now is c
on_head v {p} {start} {mid} {now} {was} {is} text c so_far next same opened =
    let opens : Opens v is.line opened.0 = subst (λ (t : List ℕ). Opens v t opened.0) same opened.1 in
    head_taken v so_far next opens opened.2

pub on_no_head : (v : Version) {start mid now : SourceView} {was is : LinesView} (least : ℕ) (text : List ℕ) (whole : Bool) → HasTaken start mid was (first_line v) → Took Any least mid now was is whole → text ≡ is.line → OpensNone v text → FindsNone start now
on_no_head v {start} {mid} {now} {was} {is} least text whole so_far took same none =
    no_second v so_far took.0 (ends_either now.left is whole took.1) took.2.few (subst (λ (t : List ℕ). OpensNone v t) same none)

pub fails_at_head : (v : Version) (start mid now : SourceView) (was : LinesView) (fail : CheckFail) → HasTaken start mid was (first_line v) → LosesPiece mid now was fail → Fails start now fail
fails_at_head v start mid now was fail so_far lost = line_failed start mid now was (first_line v) fail so_far (inr (inl (v, refl))) lost

pub no_room_at_head : (v : Version) {start mid now : SourceView} {was is : LinesView} → HasTaken start mid was (first_line v) → TakesNext mid now was is → Fails start now NoMemory
no_room_at_head v so_far next = memory_failed (first_line v) next.piece so_far next.takes

pub handed_on_at_head : (p : PlanView) (start now : SourceView) (is : LinesView) (r : Result (Option CheckView) CheckFail) (fail : CheckFail) → IsErrAnd r (λ f. f ≡ fail) → Fails start now fail → TakesHead p start now is r
handed_on_at_head p start now is (Ok c) fail never fails = absurd never
handed_on_at_head p start now is (Err f) fail same fails = subst (Fails start now) (sym same) fails

-- ---- lines before the head

pub first_found : (v : Version) {start mid now : SourceView} {was is : LinesView} (text : List ℕ) → HasTaken start mid was [] → TakesNext mid now was is → text ≡ is.line → text ≡ first_line v → HasTaken start now is (first_line v)
first_found v {start} {mid} {now} {was} {is} text so_far next same first =
    subst (HasTaken start now is) (sym same ∙ first) (taken_more [] so_far next)

pub not_found : {start mid now : SourceView} {was is : LinesView} (text : List ℕ) → HasTaken start mid was [] → TakesNext mid now was is → IsCutOff now.left is → text ≡ is.line → IsNoFirst text → FindsNone start now
not_found text so_far next cut same other = no_head (taken_more [] so_far next) cut (λ v first. other v (same ∙ first))

pub passed_over : {start mid now : SourceView} {was is : LinesView} (text : List ℕ) → HasTaken start mid was [] → TakesNext mid now was is → IsLine is.line → text ≡ is.line → IsNoFirst text → HasTaken start now is []
passed_over text so_far next whole same other = taken_past (taken_more [] so_far next) (record { whole = whole; other = λ v first. other v (same ∙ first) })

pub fails_before : (start mid now : SourceView) (was : LinesView) (fail : CheckFail) → HasTaken start mid was [] → LosesPiece mid now was fail → Fails start now fail
fails_before start mid now was fail so_far lost = line_failed start mid now was [] fail so_far (inl refl) lost

pub handed_on_before : (start now : SourceView) (is : LinesView) (r : Result (Option Version) CheckFail) (fail : CheckFail) → IsErrAnd r (λ f. f ≡ fail) → Fails start now fail → FindsHead start now is r
handed_on_before start now is (Ok found) fail never fails = absurd never
handed_on_before start now is (Err f) fail same fails = subst (Fails start now) (sym same) fails

pub handed_on_whole : (p : PlanView) (start now : SourceView) (r : Result Admitted CheckFail) (fail : CheckFail) → IsErrAnd r (λ f. f ≡ fail) → Fails start now fail → HasAdmitted p start now r
handed_on_whole p start now (Ok a) fail never fails = absurd never
handed_on_whole p start now (Err f) fail is fails = subst (Fails start now) (sym is) fails

pub handed_on_ended : (p : PlanView) (start now : SourceView) (c : CheckView) (r : Result Checked CheckFail) (fail : CheckFail) → IsErrAnd r (λ f. f ≡ fail) → Fails start now fail → HasEnded p start now c r
handed_on_ended p start now c (Ok a) fail never fails = absurd never
handed_on_ended p start now c (Err f) fail is fails = subst (Fails start now) (sym is) fails

pub handed_on_checked : (p : PlanView) (start now : SourceView) (r : Result Checked CheckFail) (fail : CheckFail) → IsErrAnd r (λ f. f ≡ fail) → Fails start now fail → HasChecked p start now r
handed_on_checked p start now (Ok a) fail never fails = absurd never
handed_on_checked p start now (Err f) fail is fails = subst (Fails start now) (sym is) fails

abbrev failed_to : TextFail → Result CheckView TextFail
failed_to fail = Err fail

pub not_opened : (p : PlanView) (v : Version) {text : List ℕ} (r : Result CheckView TextFail) (fail : TextFail) (n : ℕ) → r ≡ failed_to fail → fail ≡ Stops n → OpensCheck p v text r → OpensNone v text
not_opened p v {text} r fail n is kind opened =
    let stops : OpensCheck p v text (failed_to (Stops n)) = subst (λ (x : Result CheckView TextFail). OpensCheck p v text x) (is ∙ ap failed_to kind) opened in
    stops.1

-- ---- the lines behind the head

abbrev next_gives : Option Checked → Result (Option Checked) CheckFail
next_gives a = Ok a

pub answered_there : (p : PlanView) (start now : SourceView) (is : LinesView) (c : CheckView) (r : Option Checked) (a : Checked) → r ≡ Some a → GoesOn p start now is c (next_gives r) → AnswersBy p start now c a
answered_there p start now is c r a same goes = subst (λ (x : Option Checked). GoesOn p start now is c (next_gives x)) same goes

pub still_underway : (p : PlanView) (start now : SourceView) (is : LinesView) (c : CheckView) (r : Option Checked) → r ≡ None → GoesOn p start now is c (next_gives r) → IsUnderway p start now is c
still_underway p start now is c r same goes = subst (λ (x : Option Checked). GoesOn p start now is c (next_gives x)) same goes

pub shortened : (was is : LinesView) (d : CheckView) (r : Option Checked) → r ≡ None → Shortens was is d (next_gives r) → (unread is < unread was) × HasBytesLeft d.count is
shortened was is d r same shortens = subst (λ (x : Option Checked). Shortens was is d (next_gives x)) same shortens

-- ---- the whole

abbrev head_gives : Option Version → Result (Option Version) CheckFail
head_gives r = Ok r

pub found_none : {p : PlanView} (start now : SourceView) (is : LinesView) (r : Option Version) → r ≡ None → FindsHead start now is (head_gives r) → AdmitsInput p start now (admitted.NotLawful 0)
found_none start now is r same finds = none_found (subst (λ (x : Option Version). FindsHead start now is (head_gives x)) same finds)

pub found_some : (start now : SourceView) (is : LinesView) (r : Option Version) (v : Version) → r ≡ Some v → FindsHead start now is (head_gives r) → HasTaken start now is (first_line v)
found_some start now is r v same finds = subst (λ (x : Option Version). FindsHead start now is (head_gives x)) same finds

abbrev opening_gives : Option CheckView → Result (Option CheckView) CheckFail
opening_gives r = Ok r

pub checked_none : (p : PlanView) (start now : SourceView) (is : LinesView) (r : Option CheckView) → r ≡ None → TakesHead p start now is (opening_gives r) → Answers p start now (checked.NotLawful 0)
checked_none p start now is r same takes = none_named (subst (λ (x : Option CheckView). TakesHead p start now is (opening_gives x)) same takes)

pub head_none : {p : PlanView} (start now : SourceView) (is : LinesView) (r : Option Version) → r ≡ None → FindsHead start now is (head_gives r) → Answers p start now (checked.NotLawful 0)
head_none start now is r same finds = none_named (subst (λ (x : Option Version). FindsHead start now is (head_gives x)) same finds)

pub opened_none : (p : PlanView) (start now : SourceView) (is : LinesView) (r : Option CheckView) → r ≡ None → TakesHead p start now is (opening_gives r) → AdmitsInput p start now (admitted.NotLawful 0)
opened_none p start now is r same takes = none_found (subst (λ (x : Option CheckView). TakesHead p start now is (opening_gives x)) same takes)

pub opened_some : (p : PlanView) (start now : SourceView) (is : LinesView) (r : Option CheckView) (c : CheckView) → r ≡ Some c → TakesHead p start now is (opening_gives r) → IsUnderway p start now is c
opened_some p start now is r c same takes = subst (λ (x : Option CheckView). TakesHead p start now is (opening_gives x)) same takes

pub cut_there : (left : Option (List ℕ)) (is : LinesView) (whole : Bool) → whole ≡ false → EndsLine left is whole → IsCutOff left is
cut_there left is whole same ends = subst (λ (b : Bool). EndsLine left is b) same ends

pub whole_there : (left : Option (List ℕ)) (is : LinesView) (whole : Bool) → whole ≡ true → EndsLine left is whole → IsLine is.line
whole_there left is whole same ends = subst (λ (b : Bool). EndsLine left is b) same ends
