-- Reading line by line: what was read so far, and what one more line makes of it.
use Rattle.std.proofs.Common.{Result, Ok, Err, ◌≡◌, ℕ, ◌+◌, ◌<◌, List, [], ◌∷◌, ◌++◌, length, length-append, refl, sym, ap, subst, ◌∙◌, append_assoc, append-nil, arith, codes}
use Rattle.lock_transforms.specs.Entry.{Entry}
use Rattle.history_text.specs.Text.{numbered, entry_text}
use Rattle.history_text.specs.Fitting.{EntryFits, EntriesFit}
use Rattle.history_text.proofs.lemmas.Numbering.{numbered-append}
use Rattle.history_text.specs.declared.read_histories.History.{History}
use Rattle.history_text.specs.declared.fails.TextFail.{TextFail}
use Rattle.history_text.specs.declared.heads.Version.{Version}
use Rattle.history_text.specs.declared.fails.TextFail.TheVariants.{Stops, NoMemory}
use Rattle.history_text.specs.declared.read_histories.HistoryLine.{HistoryLine}
use Rattle.history_text.specs.declared.read_histories.HistoryLine.TheVariants as lines
use Rattle.history_text.specs.HistoryView.{HistoryView, history_view}
use Rattle.history_text.specs.Lines.{BeginsWithLine, Opens, AddsEntry, Ends, TakesLine, first_line, next_number}
use Rattle.history_text.specs.Grammar.{HistoryFits, IsHistoryText, IsReadFrom, GivesBack, head_of, lines_of}
use Rattle.history_text.proofs.lemmas.LineLaws.{entry_line}
use Rattle.history_text.proofs.lemmas.TextLaws.{text_parts, head_parts, second_of, one_value, no_history}

-- the text is the lines of a history so far, and the rest
pub record ReadSoFar (text : List ℕ) (h : HistoryView) (rest : List ℕ) : Type 0 where
  pub fits : HistoryFits h
  pub is : text ≡ lines_of h ++ rest

one_more : (es : List Entry) (e : Entry) → EntriesFit es → EntryFits e → EntriesFit (es ++ e ∷ [])
one_more [] e fit good = (good, tt)
one_more (x ∷ es) e fit good = (fit.0, one_more es e fit.1 good)

abbrev with_entry : HistoryView → Entry → HistoryView
with_entry h e = record h { entries = h.entries ++ e ∷ [] }

lines_with_entry : (h : HistoryView) (e : Entry) → lines_of (with_entry h e) ≡ lines_of h ++ entry_text (next_number h) e
lines_with_entry h e =
    let number : 1 + length h.entries ≡ length h.entries + 1 = omega arith in
    ap (λ l. head_of h ++ l)
    (numbered-append entry_text 1 h.entries (e ∷ [])
    ∙ (ap (λ n. numbered entry_text 1 h.entries ++ numbered entry_text n (e ∷ [])) number
    ∙ ap (λ l. numbered entry_text 1 h.entries ++ l) (append-nil (entry_text (next_number h) e))))
    ∙ sym (append_assoc (head_of h) (numbered entry_text 1 h.entries) (entry_text (next_number h) e))

pub read_on : {text rest line more : List ℕ} {h k : HistoryView} → ReadSoFar text h rest → BeginsWithLine rest line more → AddsEntry h line k → ReadSoFar text k more
read_on {text} {rest} {line} {more} {h} {k} so_far next added =
    let e : Entry = added.entry in
    let whole : text ≡ lines_of (with_entry h added.entry) ++ more =
    so_far.is ∙ (ap (λ l. lines_of h ++ l) (next.is ∙ ap (λ l. l ++ more) added.spelled)
    ∙ (sym (append_assoc (lines_of h) (entry_text (next_number h) added.entry) more)
    ∙ ap (λ l. l ++ more) (sym (lines_with_entry h added.entry)))) in
    subst (λ (x : HistoryView). ReadSoFar text x more) (sym added.is) (record {
      fits = record { head = so_far.fits.head; entries = one_more h.entries added.entry so_far.fits.entries added.fits };
      is = whole;
    })

pub read_ended : {text rest line more : List ℕ} {h k : HistoryView} → ReadSoFar text h rest → BeginsWithLine rest line more → Ends h line k → more ≡ [] → IsHistoryText text k
read_ended {text} {rest} {line} {more} {h} {k} so_far next ended none =
    subst (λ (x : HistoryView). IsHistoryText text x) (sym ended.kept) (record {
      fits = so_far.fits;
      is = so_far.is ∙ (ap (λ l. lines_of h ++ l) (next.is ∙ (ap (λ l. line ++ l) none ∙ (append-nil line ∙ ended.spelled))) ∙ sym (text_parts h));
    })

pub shorter : {rest line more : List ℕ} {h k : HistoryView} → BeginsWithLine rest line more → AddsEntry h line k → length more < length rest
shorter {rest} {line} {more} {h} {k} next added =
    let whole = entry_line (next_number h) added.entry in
    let long : length rest ≡ length line + length more = ap length next.is ∙ length-append line more in
    let some : length line ≡ length whole.front + 1 = ap length (added.spelled ∙ whole.is) ∙ length-append whole.front (codes "\n") in
    omega arith

pub opened_so_far : (v : Version) {text first second rest more : List ℕ} {h : HistoryView} → text ≡ first ++ rest → first ≡ first_line v → rest ≡ second ++ more → Opens v second h → ReadSoFar text h more
opened_so_far v {text} {first} {second} {rest} {more} {h} is one two opens =
    let whole : text ≡ first_line v ++ (second_of h ++ more) = is ∙ (ap (λ l. l ++ rest) one ∙ ap (λ l. first_line v ++ l) (two ∙ ap (λ l. l ++ more) opens.spelled)) in
    let head : text ≡ head_of h ++ more =
    whole ∙ (ap (λ u. first_line u ++ (second_of h ++ more)) (sym opens.version) ∙ sym (head_parts h.workers h.max h.parallel h.locks more)) in
    record {
      fits = record { head = opens.fits; entries = subst EntriesFit (sym opens.no_entries) tt };
      is = head ∙ ap (λ l. l ++ more) (sym (append-nil (head_of h)) ∙ ap (λ es. head_of h ++ numbered entry_text 1 es) (sym opens.no_entries));
    }

pub opened_fits : {v : Version} {line : List ℕ} {h : HistoryView} → Opens v line h → HistoryFits h
opened_fits opens = record { head = opens.fits; entries = subst EntriesFit (sym opens.no_entries) tt }

pub at_start : {h : HistoryView} {rest : List ℕ} → HistoryFits h → ReadSoFar (lines_of h ++ rest) h rest
at_start fits = record { fits = fits; is = refl }

abbrev one_taken : HistoryLine → Result HistoryLine TextFail
one_taken a = Ok a

pub added_one : {h k : HistoryView} {line : List ℕ} (taken : Result HistoryLine TextFail) (a : HistoryLine) → taken ≡ one_taken a → a ≡ lines.Entry → TakesLine h line k taken → AddsEntry h line k
added_one {h} {k} {line} taken a was is took = subst (λ (r : Result HistoryLine TextFail). TakesLine h line k r) (was ∙ ap one_taken is) took

pub ended_there : {h k : HistoryView} {line : List ℕ} (taken : Result HistoryLine TextFail) (a : HistoryLine) → taken ≡ one_taken a → a ≡ lines.End → TakesLine h line k taken → Ends h line k
ended_there {h} {k} {line} taken a was is took = subst (λ (r : Result HistoryLine TextFail). TakesLine h line k r) (was ∙ ap one_taken is) took

pub given_back : (text : List ℕ) (h : HistoryView) (r : Result History TextFail) → IsHistoryText text h → IsReadFrom text r → GivesBack h r
given_back text h (Ok k) is read = one_value text (history_view k) h read is
given_back text h (Err (Stops n)) is read = no_history text n h read is
given_back text h (Err NoMemory) is read = tt
