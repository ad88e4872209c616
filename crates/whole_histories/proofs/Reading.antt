-- What reading a text line by line answers.
use Rattle.std.proofs.Common.{Result, Ok, Err, ◌≡◌, ◌≢◌, ℕ, ◌+◌, List, [], ◌++◌, length, sym, ap, subst, ◌∙◌, append_assoc}
use Rattle.history_text.specs.Text.{end_text}
use Rattle.history_text.specs.declared.read_histories.History.{History}
use Rattle.history_text.specs.declared.fails.TextFail.{TextFail}
use Rattle.history_text.specs.declared.heads.Version.{Version}
use Rattle.history_text.specs.declared.fails.TextFail.TheVariants.{Stops, NoMemory}
use Rattle.history_text.specs.declared.read_histories.HistoryLine.{HistoryLine}
use Rattle.std.specs.Prelude.{IsErrAnd}
use Rattle.history_text.specs.HistoryView.{HistoryView}
use Rattle.history_text.specs.Lines.{BeginsWithLine, IsNoFirst, Opens, OpensNone, Ends, StopsIt, TakesLine, first_line, next_number}
use Rattle.history_text.specs.Grammar.{StopsAt, IsReadFrom, lines_of, text_of}
use Rattle.history_text.proofs.lemmas.TextLaws.{text_parts, first_wrong, second_wrong, line_wrong, behind_end}
use Rattle.history_text.proofs.lemmas.ReadLaws.{ReadSoFar, opened_so_far}

pub read_past : {text rest line more : List ℕ} {h k : HistoryView} (n : ℕ) → ReadSoFar text h rest → BeginsWithLine rest line more → Ends h line k → more ≢ [] → n ≡ next_number k → StopsAt text n
read_past {text} {rest} {line} {more} {h} {k} n so_far next ended some number =
    let whole : text_of h ++ more ≡ text =
    ap (λ l. l ++ more) (text_parts h) ∙ (append_assoc (lines_of h) (end_text (length h.entries)) more
    ∙ (ap (λ l. lines_of h ++ (l ++ more)) (sym ended.spelled) ∙ (ap (λ l. lines_of h ++ l) (sym next.is) ∙ sym so_far.is))) in
    subst (λ (m : ℕ). StopsAt text m) (sym (number ∙ ap next_number ended.kept)) (subst (λ (t : List ℕ). StopsAt t (next_number h)) whole (behind_end h more so_far.fits some))

pub read_wrong : {text rest line more : List ℕ} {h k : HistoryView} (n : ℕ) → ReadSoFar text h rest → BeginsWithLine rest line more → StopsIt h line k n → StopsAt text n
read_wrong {text} {rest} {line} {more} {h} {k} n so_far next stopped =
    let whole : lines_of h ++ (line ++ more) ≡ text = ap (λ l. lines_of h ++ l) (sym next.is) ∙ sym so_far.is in
    subst (λ (m : ℕ). StopsAt text m) (sym stopped.number) (subst (λ (t : List ℕ). StopsAt t (next_number h)) whole (line_wrong h line more so_far.fits next.line_before stopped.wrong))

pub no_first : {text first rest : List ℕ} → BeginsWithLine text first rest → IsNoFirst first → StopsAt text 0
no_first {text} {first} {rest} next other = subst (λ (t : List ℕ). StopsAt t 0) (sym next.is) (first_wrong first rest next.line_before other)

pub no_second : (v : Version) {text first rest second more : List ℕ} → BeginsWithLine text first rest → first ≡ first_line v → BeginsWithLine rest second more → OpensNone v second → StopsAt text 0
no_second v {text} {first} {rest} {second} {more} next is behind none =
    let whole : first_line v ++ (second ++ more) ≡ text = sym (next.is ∙ (ap (λ l. l ++ rest) is ∙ ap (λ l. first_line v ++ l) behind.is)) in
    subst (λ (t : List ℕ). StopsAt t 0) whole (second_wrong v second more behind.line_before none)

pub opened : (v : Version) {text first rest second more : List ℕ} {h : HistoryView} → BeginsWithLine text first rest → first ≡ first_line v → BeginsWithLine rest second more → Opens v second h → ReadSoFar text h more
opened v next is behind opens = opened_so_far v next.is is behind.is opens

pub read_opened : {text more : List ℕ} {h : HistoryView} (r : Result History TextFail) → ReadSoFar text h more → IsReadFrom (lines_of h ++ more) r → IsReadFrom text r
read_opened r so_far read = subst (λ (t : List ℕ). IsReadFrom t r) (sym so_far.is) read

abbrev one_failed : TextFail → Result HistoryLine TextFail
one_failed fail = Err fail

abbrev failed_read : TextFail → Result History TextFail
failed_read fail = Err fail

stopped_read : {text rest line more : List ℕ} {h : HistoryView} (k : HistoryView) (fail : TextFail) → ReadSoFar text h rest → BeginsWithLine rest line more → TakesLine h line k (one_failed fail) → IsReadFrom text (failed_read fail)
stopped_read k (Stops n) so_far next stopped = read_wrong n so_far next stopped
stopped_read k NoMemory so_far next kept = tt

handed_on : (text : List ℕ) (r : Result History TextFail) (fail : TextFail) → IsErrAnd r (λ f. f ≡ fail) → IsReadFrom text (failed_read fail) → IsReadFrom text r
handed_on text (Ok h) fail never read = absurd never
handed_on text (Err f) fail is read = subst (λ (f : TextFail). IsReadFrom text (failed_read f)) (sym is) read

pub failed_there : {text rest line more : List ℕ} {h : HistoryView} (k : HistoryView) (taken : Result HistoryLine TextFail) (fail : TextFail) (r : Result History TextFail) → ReadSoFar text h rest → BeginsWithLine rest line more → taken ≡ one_failed fail → TakesLine h line k taken → IsErrAnd r (λ f. f ≡ fail) → IsReadFrom text r
failed_there {text} {rest} {line} {more} {h} k taken fail r so_far next was took is =
    handed_on text r fail is (stopped_read k fail so_far next (subst (λ (x : Result HistoryLine TextFail). TakesLine h line k x) was took))
