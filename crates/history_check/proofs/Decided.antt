-- How much is taken behind a line that is wrong.
use Rattle.std.proofs.Common.{◌≡◌, ℕ, ◌+◌, ◌-◌, ◌<◌, ◌≤◌, Bool, true, false, not, nat_eq, nat_lt, List, ◌++◌, length, length-append, take, refl, sym, ap, subst, ◌∙◌, append_assoc, append-nil, arith, inl, inr}
use Rattle.std.proofs.Math.Seq.{take-append-add}
use Rattle.std.proofs.lemmas.Bool.{and_parts}
use Rattle.std.proofs.lemmas.List.Folds.{list_all-append}
use borrow.Author.Tests.{ltb-true, ltb-false}
use Rattle.history_text.specs.Text.{numbered, entry_text}
use Rattle.history_text.specs.HistoryView.{HistoryView}
use Rattle.history_text.specs.Lines.{is_unbroken, IsLine, IsWrongAfter, first_line, second_line, version_of, next_number}
use Rattle.history_text.specs.Grammar.{HistoryFits, head_of, lines_of}
use Rattle.history_text.proofs.lemmas.Splits.{same_line}
use Rattle.history_text.proofs.lemmas.LineLaws.{entry_line, first_is_line, second_is_line}
use Rattle.history_text.proofs.lemmas.TextLaws.{NoEntryAt, head_parts, same_from}
use Rattle.history_check.specs.Naming.{ArePassedOver}
use Rattle.history_check.specs.Checking.{IsFront, IsUndecided, IsJustDecided}
use Rattle.history_check.specs.declared.lines.TheConstants.{MAX_PIECE}
use Rattle.history_check.proofs.Steps.{begins_first}
use Rattle.history_check.proofs.OneAnswer.{Starts, line_is_broken, named_text}

-- an unbroken text begins with no line
no_line_in : (text line more : List ℕ) → is_unbroken text ≡ true → IsLine line → text ≡ line ++ more → ⊥
no_line_in text line more unbroken whole is =
    line_is_broken line whole (and_parts (is_unbroken line) (is_unbroken more) (sym (list_all-append (λ b. not (nat_eq b 10)) line more) ∙ (ap is_unbroken (sym is) ∙ unbroken))).0

starts_there : (front piece : List ℕ) → IsFront front → is_unbroken piece ≡ true → Starts (front ++ piece)
starts_there front piece (inl none) unbroken = inr (ap is_unbroken (ap (λ bs. bs ++ piece) none) ∙ unbroken)
starts_there front piece (inr (inl first)) unbroken = inl (record { version = first.0; more = piece; is = ap (λ bs. bs ++ piece) first.1 })
starts_there front piece (inr (inr k)) unbroken = subst Starts (ap (λ bs. bs ++ piece) (sym k.2)) (inl (begins_first k.0 piece))

-- behind the lines of a history stands no piece where a wrong line is
no_piece : (h : HistoryView) (front piece line more : List ℕ) → HistoryFits h → IsLine line → IsWrongAfter h line → IsFront front → is_unbroken piece ≡ true → front ++ piece ≡ lines_of h ++ (line ++ more) → ⊥
no_piece h front piece line more fits whole wrong (inl none) unbroken is =
    let begins = begins_first h (line ++ more) in
    no_line_in piece (first_line begins.version) begins.more unbroken (first_is_line begins.version) (ap (λ bs. bs ++ piece) (sym none) ∙ (is ∙ begins.is))
no_piece h front piece line more fits whole wrong (inr (inl first)) unbroken is =
    let second : List ℕ = second_line h.workers h.max h.parallel h.locks in
    let rest : List ℕ = numbered entry_text 1 h.entries ++ (line ++ more) in
    let one : List ℕ = first_line (version_of h.locks) in
    let begins : lines_of h ++ (line ++ more) ≡ first_line (version_of h.locks) ++ (second_line h.workers h.max h.parallel h.locks ++ (numbered entry_text 1 h.entries ++ (line ++ more))) =
    append_assoc (head_of h) (numbered entry_text 1 h.entries) (line ++ more) ∙ head_parts h.workers h.max h.parallel h.locks (numbered entry_text 1 h.entries ++ (line ++ more)) in
    no_line_in piece second rest unbroken (second_is_line h.workers h.max h.parallel h.locks)
    (same_line (first_line first.0) piece one (second ++ rest) (inl (first_is_line first.0)) (first_is_line (version_of h.locks)) (ap (λ bs. bs ++ piece) (sym first.1) ∙ (is ∙ begins))).rest
no_piece h front piece line more fits whole wrong (inr (inr k)) unbroken is =
    let none : NoEntryAt (next_number k.0) piece = λ e rest good there. no_line_in piece (entry_text (next_number k.0) e) rest unbroken (entry_line (next_number k.0) e) there in
    let other : NoEntryAt (next_number h) (line ++ more) = λ e rest good there.
    wrong.no_entry e good (same_line line more (entry_text (next_number h) e) rest (inl whole) (entry_line (next_number h) e) there).front in
    no_line_in piece line more unbroken whole (same_from k.0 h piece (line ++ more) k.1 fits none other (ap (λ bs. bs ++ piece) (sym k.2) ∙ is)).rest

-- bytes with a wrong line decide something
decided : (h : HistoryView) (before passed line more : List ℕ) → ArePassedOver passed → HistoryFits h → IsLine line → IsWrongAfter h line → IsUndecided before → before ≡ passed ++ (lines_of h ++ (line ++ more)) → ⊥
decided h before passed line more over fits whole wrong u is =
    no_piece h u.front u.piece line more fits whole wrong u.begun u.unbroken
    (named_text before u.passed passed (u.front ++ u.piece) (lines_of h ++ (line ++ more)) u.over over (starts_there u.front u.piece u.begun u.unbroken)
    (inl (begins_first h (line ++ more))) (u.is ∙ append_assoc u.passed u.front u.piece) is)

-- the bytes in front, where no more are behind them
front_of : (before last held more : List ℕ) → before ++ last ≡ held ++ more → length last ≤ length more → before ≡ held ++ take (length before - length held) more
front_of before last held more is few =
    let all : length before + length last ≡ length held + length more = sym (length-append before last) ∙ (ap length is ∙ length-append held more) in
    let long : length held + (length before - length held) ≡ length before = omega (arith, all, few) in
    let same : take (length before + 0) (before ++ last) ≡ before = take-append-add before last 0 ∙ append-nil before in
    sym same ∙ (ap (λ n. take n (before ++ last)) (omega (arith, long)) ∙ (ap (take (length held + (length before - length held))) is ∙ take-append-add held more (length before - length held)))

pub little_behind : (h : HistoryView) (passed line more : List ℕ) → ArePassedOver passed → HistoryFits h → IsLine line → IsWrongAfter h line → IsJustDecided (passed ++ lines_of h ++ line ++ more) → length more < MAX_PIECE
little_behind h passed line more over fits whole wrong just = at (nat_lt (length more) MAX_PIECE) refl
  where
    at : (b : Bool) → nat_lt (length more) MAX_PIECE ≡ b → length more < MAX_PIECE
    at true s = ltb-true (length more) MAX_PIECE s
    at false s =
        let many : MAX_PIECE ≤ length more = ltb-false (length more) MAX_PIECE s in
        let front = front_of just.before just.last (passed ++ lines_of h ++ line) more (sym just.is) (omega (arith, just.few, many)) in
        let rest = take (length just.before - length (passed ++ lines_of h ++ line)) more in
        absurd (decided h just.before passed line rest over fits whole wrong just.undecided (front ∙ (append_assoc (passed ++ lines_of h) line rest ∙ append_assoc passed (lines_of h) (line ++ rest))))
