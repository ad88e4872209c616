-- What a line makes of what was looked at so far of a text.
use Rattle.std.proofs.Common.{◌≡◌, ◌≢◌, ℕ, ◌+◌, ◌<◌, List, [], ◌∷◌, ◌++◌, length, Result, Ok, Err, refl, sym, ap, subst, ◌∙◌, append_assoc, append-nil, length-append, arith, codes, true, false, inl, inr, ◌⊎◌, nat_eq}
use Rattle.std.proofs.lemmas.Bool.{eqb-true, true≢false}
use Rattle.std.proofs.lemmas.List.{nil_from_length}
use Rattle.history_text.specs.Text.{numbered, entry_text, end_text}
use Rattle.history_text.specs.HistoryView.{HistoryView}
use Rattle.history_text.specs.declared.heads.Version.{Version}
use Rattle.history_text.specs.declared.heads.Version.TheVariants.{One, Two}
use Rattle.history_text.specs.Lines.{is_unbroken, IsLine, IsLineBefore, IsNoFirst, BeginsWithLine, AddsEntry, TakesLine, Ends, StopsIt, IsWrongAfter, Opens, OpensNone, first_line, version_of, next_number}
use Rattle.history_text.specs.Grammar.{HistoryFits, StopsInHead, StopsAt, head_of, lines_of, text_of, IsHistoryText}
use Rattle.history_text.proofs.lemmas.Splits.{same_line}
use Rattle.history_text.proofs.lemmas.LineLaws.{entry_line, end_line}
use Rattle.history_text.proofs.lemmas.TextLaws.{head_parts, second_of, first_wrong, second_wrong, text_parts}
use Rattle.history_text.proofs.lemmas.ReadLaws.{ReadSoFar, opened_so_far}
use Rattle.history_check.specs.Naming.{ArePassedOver, Names, Breaks, BeginsHistory, BreaksBehind}
use Rattle.history_check.proofs.lemmas.Passed.{none_passed, one_passed}
use Rattle.leases_picture.specs.Found.{IsBehindHead, BeginsWith, HasHistory, EndsIn, IsFoundIn}
use Rattle.history_text.specs.declared.read_histories.History.{History}
use Rattle.history_text.specs.declared.read_histories.HistoryLine.{HistoryLine}
use Rattle.history_text.specs.declared.fails.TextFail.{TextFail}
use Rattle.history_text.specs.declared.fails.TextFail.TheVariants.{Stops, NoMemory}
use Rattle.std.specs.Prelude.{IsErrAnd}

-- whether a text is empty is asked by its length
pub no_bytes : (bytes : List ℕ) → nat_eq (length bytes) 0 ≡ true → bytes ≡ []
no_bytes bytes none = nil_from_length bytes (eqb-true (length bytes) 0 none)

pub some_bytes : (bytes : List ℕ) → nat_eq (length bytes) 0 ≡ false → bytes ≢ []
some_bytes bytes some is = true≢false (sym (ap (λ (l : List ℕ). nat_eq (length l) 0) is) ∙ some)

-- the lines so far are passed over
pub record Passes (text rest : List ℕ) : Type 0 where
  pub passed : List ℕ
  pub over : ArePassedOver passed
  pub is : text ≡ passed ++ rest

pub at_front : (text : List ℕ) → Passes text text
at_front text = record { passed = []; over = none_passed; is = refl }

-- a line that isn't the first of a history, and behind which there is more, is whole
whole_line : {line more : List ℕ} → IsLineBefore line more → more ≢ [] → IsLine line
whole_line (inl whole) some = whole
whole_line (inr last) some = absurd (some last.1)

pub passes_line : {text rest line more : List ℕ} → Passes text rest → BeginsWithLine rest line more → IsNoFirst line → more ≢ [] → Passes text more
passes_line {text} {rest} {line} {more} so_far next other some = record {
  passed = so_far.passed ++ line;
  over = one_passed so_far.passed line so_far.over (record { whole = whole_line next.line_before some; other = other });
  is = so_far.is ∙ (ap (λ bs. so_far.passed ++ bs) next.is ∙ sym (append_assoc so_far.passed line more));
}

pub line_shortens : {rest line more : List ℕ} → BeginsWithLine rest line more → more ≢ [] → length more < length rest
line_shortens {rest} {line} {more} next some =
    let whole : IsLine line = whole_line next.line_before some in
    let long : length rest ≡ length line + length more = ap length next.is ∙ length-append line more in
    let front : length line ≡ length whole.front + 1 = ap length whole.is ∙ length-append whole.front (codes "\n") in
    omega arith

pub head_there : (v : Version) {text rest line more : List ℕ} → Passes text rest → BeginsWithLine rest line more → line ≡ first_line v → IsBehindHead v text more
head_there v {text} {rest} {line} {more} so_far next first = record {
  passed = so_far.passed;
  over = so_far.over;
  is = so_far.is ∙ ap (λ bs. so_far.passed ++ bs) (next.is ∙ ap (λ bs. bs ++ more) first);
}

in_head : (text : List ℕ) → StopsAt text 0 → StopsInHead text 0
in_head text (inl a) = a
in_head text (inr b) = absurd (let number : 0 ≡ length b.before.entries + 1 = b.number in omega arith)

nothing_first : IsNoFirst []
nothing_first One e = cc
nothing_first Two e = cc

-- nothing is behind the last line, which is whole
no_head_behind : {text rest line : List ℕ} → Passes text rest → rest ≡ line → IsLine line → IsNoFirst line → Breaks text 0
no_head_behind {text} {rest} {line} so_far is whole other = record {
  passed = so_far.passed ++ line;
  over = one_passed so_far.passed line so_far.over (record { whole = whole; other = other });
  text = [];
  begins = inr refl;
  stops = inl (in_head [] (first_wrong [] [] (inr (refl, refl)) nothing_first));
  is = so_far.is ∙ (ap (λ bs. so_far.passed ++ bs) is ∙ sym (append-nil (so_far.passed ++ line)));
}

-- the last line has no end
no_head_in : {text rest line : List ℕ} → Passes text rest → rest ≡ line → is_unbroken line ≡ true → IsNoFirst line → Breaks text 0
no_head_in {text} {rest} {line} so_far is unbroken other = record {
  passed = so_far.passed;
  over = so_far.over;
  text = line;
  begins = inr unbroken;
  stops = inl (in_head line (subst (λ t. StopsAt t 0) (append-nil line) (first_wrong line [] (inr (unbroken, refl)) other)));
  is = so_far.is ∙ ap (λ bs. so_far.passed ++ bs) is;
}

no_head_either : {text rest line more : List ℕ} → Passes text rest → rest ≡ line → IsLineBefore line more → IsNoFirst line → Breaks text 0
no_head_either so_far is (inl whole) other = no_head_behind so_far is whole other
no_head_either so_far is (inr last) other = no_head_in so_far is last.0 other

pub no_head : {text rest line more : List ℕ} → Passes text rest → BeginsWithLine rest line more → IsNoFirst line → more ≡ [] → Breaks text 0
no_head {text} {rest} {line} {more} so_far next other none =
    no_head_either so_far (next.is ∙ (ap (λ bs. line ++ bs) none ∙ append-nil line)) next.line_before other

pub no_second : (v : Version) {text rest line more : List ℕ} → IsBehindHead v text rest → BeginsWithLine rest line more → OpensNone v line → Breaks text 0
no_second v {text} {rest} {line} {more} head next none = record {
  passed = head.passed;
  over = head.over;
  text = first_line v ++ (line ++ more);
  begins = inl (record { version = v; more = line ++ more; is = refl });
  stops = inl (in_head (first_line v ++ (line ++ more)) (second_wrong v line more next.line_before none));
  is = head.is ∙ ap (λ bs. head.passed ++ (first_line v ++ bs)) next.is;
}

pub opened_there : (v : Version) {text rest line more : List ℕ} {h : HistoryView} → (head : IsBehindHead v text rest) → BeginsWithLine rest line more → Opens v line h → ReadSoFar (first_line v ++ rest) h more
opened_there v {text} {rest} {line} {more} {h} head next opens = opened_so_far v {text = first_line v ++ rest} {first = first_line v} {second = line} {rest = rest} {more = more} {h = h} refl refl next.is opens

pub ends_there : {text rest line more : List ℕ} {h k : HistoryView} → ReadSoFar text h rest → BeginsWithLine rest line more → Ends h line k → BeginsWith text k
ends_there {text} {rest} {line} {more} {h} {k} so_far next ended =
    subst (BeginsWith text) (sym ended.kept) (record {
      fits = so_far.fits;
      behind = more;
      is = so_far.is ∙ (ap (λ bs. lines_of h ++ bs) (next.is ∙ ap (λ bs. bs ++ more) ended.spelled)
          ∙ (sym (append_assoc (lines_of h) (end_text (length h.entries)) more) ∙ ap (λ bs. bs ++ more) (sym (text_parts h))));
    })

broken : (h : HistoryView) (line more : List ℕ) (n : ℕ) → HistoryFits h → IsLineBefore line more → n ≡ next_number h → IsWrongAfter h line → BreaksBehind (lines_of h ++ (line ++ more)) n
broken h line more n fits before number wrong = record {
  before = h;
  rest = line ++ more;
  fits = fits;
  is = refl;
  number = number;
  no_entry = λ e rest good is.
      wrong.no_entry e good ((same_line line more (entry_text n e) rest before (entry_line n e) is).front ∙ ap (λ m. entry_text m e) number);
  no_end = λ rest is. wrong.no_end (same_line line more (end_text (length h.entries)) rest before (end_line (length h.entries)) is).front;
}

begins_first : (h : HistoryView) (rest : List ℕ) → BeginsHistory (lines_of h ++ rest)
begins_first h rest = record {
  version = version_of h.locks;
  more = second_of h ++ (numbered entry_text 1 h.entries ++ rest);
  is = append_assoc (head_of h) (numbered entry_text 1 h.entries) rest ∙ head_parts h.workers h.max h.parallel h.locks (numbered entry_text 1 h.entries ++ rest);
}

pub breaks_there : {text rest line more : List ℕ} {h k : HistoryView} (n : ℕ) → ReadSoFar text h rest → BeginsWithLine rest line more → StopsIt h line k n → BeginsHistory text × BreaksBehind text n
breaks_there {text} {rest} {line} {more} {h} {k} n so_far next stops =
    let whole : lines_of h ++ (line ++ more) ≡ text = ap (λ bs. lines_of h ++ bs) (sym next.is) ∙ sym so_far.is in
    (subst BeginsHistory whole (begins_first h (line ++ more)), subst (λ t. BreaksBehind t n) whole (broken h line more n so_far.fits next.line_before stops.number stops.wrong))

pub found_there : (v : Version) {text rest : List ℕ} {h : HistoryView} (head : IsBehindHead v text rest) → BeginsWith (first_line v ++ rest) h → HasHistory text h
found_there v {text} {rest} {h} head begins = record {
  named = head.passed ++ text_of h;
  names = record { passed = head.passed; over = head.over; text = text_of h; history = record { fits = begins.fits; is = refl }; is = refl };
  behind = begins.behind;
  is = head.is ∙ (ap (λ bs. head.passed ++ bs) begins.is ∙ sym (append_assoc head.passed (text_of h) begins.behind));
}

pub broken_there : (v : Version) {text rest : List ℕ} (n : ℕ) (head : IsBehindHead v text rest) → BeginsHistory (first_line v ++ rest) × BreaksBehind (first_line v ++ rest) n → Breaks text n
broken_there v {text} {rest} n head breaks = record {
  passed = head.passed;
  over = head.over;
  text = first_line v ++ rest;
  begins = inl breaks.0;
  stops = inr breaks.1;
  is = head.is;
}

abbrev taken_line : TextFail → Result HistoryLine TextFail
taken_line fail = Err fail

abbrev ended_by : TextFail → Result (Unit {0}) TextFail
ended_by fail = Err fail

abbrev found_by : TextFail → Result History TextFail
found_by fail = Err fail

stopped_here : {text rest line more : List ℕ} {h : HistoryView} (k : HistoryView) (fail : TextFail) → ReadSoFar text h rest → BeginsWithLine rest line more → TakesLine h line k (taken_line fail) → EndsIn text k (ended_by fail)
stopped_here k (Stops n) so_far next stopped = breaks_there n so_far next stopped
stopped_here k NoMemory so_far next kept = tt

handed_on : (text : List ℕ) (k : HistoryView) (r : Result (Unit {0}) TextFail) (fail : TextFail) → IsErrAnd r (λ f. f ≡ fail) → EndsIn text k (ended_by fail) → EndsIn text k r
handed_on text k (Ok u) fail never ends = absurd never
handed_on text k (Err f) fail is ends = subst (λ (f : TextFail). EndsIn text k (ended_by f)) (sym is) ends

-- a line that was not taken ends it
pub failed_here : {text rest line more : List ℕ} {h : HistoryView} (k : HistoryView) (taken : Result HistoryLine TextFail) (fail : TextFail) (r : Result (Unit {0}) TextFail) → ReadSoFar text h rest → BeginsWithLine rest line more
    → taken ≡ taken_line fail → TakesLine h line k taken → IsErrAnd r (λ f. f ≡ fail) → EndsIn text k r
failed_here {text} {rest} {line} {more} {h} k taken fail r so_far next was took is =
    handed_on text k r fail is (stopped_here k fail so_far next (subst (λ (x : Result HistoryLine TextFail). TakesLine h line k x) was took))

pub found_all : (v : Version) {text rest line more : List ℕ} {h : HistoryView} (k : HistoryView) → IsBehindHead v text rest → BeginsWithLine rest line more → Opens v line h → BeginsWith (lines_of h ++ more) k → HasHistory text k
found_all v {text} {rest} {line} {more} {h} k head next opens begins = found_there v head (subst (λ t. BeginsWith t k) (sym (opened_there v head next opens).is) begins)

pub broken_all : (v : Version) {text rest line more : List ℕ} {h : HistoryView} (k : HistoryView) (fail : TextFail) → IsBehindHead v text rest → BeginsWithLine rest line more → Opens v line h → EndsIn (lines_of h ++ more) k (ended_by fail) → IsFoundIn text (found_by fail)
broken_all v {text} {rest} {line} {more} {h} k (Stops n) head next opens ends =
    broken_there v n head (subst (λ t. BeginsHistory t × BreaksBehind t n) (sym (opened_there v head next opens).is) ends)
broken_all v k NoMemory head next opens ends = tt
