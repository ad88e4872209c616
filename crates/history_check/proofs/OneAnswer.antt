-- The bytes of an input have one answer at most.
use Rattle.std.proofs.Common.{◌≡◌, ℕ, ◌+◌, suc, true, not, ◌&&◌, nat_eq, List, [], ◌∷◌, ◌++◌, length, codes, refl, sym, ap, subst, ◌∙◌, append_assoc, append-nil, inl, inr, ◌⊎◌, Option}
use Rattle.std.specs.List.{AllByRecursion, concat}
use Rattle.std.proofs.lemmas.List.Folds.{list_all-append}
use Rattle.std.proofs.lemmas.Bool.{and_parts, false≢true, true≢false}
use Rattle.lock_journal.specs.Names.{StateView, GraphView, opening_of, Entry, effect, replay_from, Allowed, lawful_from}
use Rattle.plan_reader.specs.PlanView.{PlanView}
use Rattle.plan_reader.specs.Graph.{graph_of}
use Rattle.history_text.specs.Text.{numbered, entry_text, end_text}
use Rattle.history_text.specs.HistoryView.{HistoryView}
use Rattle.history_text.specs.Lines.{is_unbroken, IsLine, first_line, next_number}
use Rattle.history_text.specs.Grammar.{HistoryFits, StopsInHead, StopsAt, head_of, lines_of, text_of}
use Rattle.history_text.proofs.lemmas.Splits.{same_line}
use Rattle.history_text.proofs.lemmas.LineLaws.{first_is_line}
use Rattle.history_text.proofs.lemmas.TextLaws.{NoEntryAt, same_from, no_entry_at_end, text_parts, one_place}
use Rattle.history_check.specs.Verdict.{IsFirstUnlawful, IsVerdict, IsAnswerTo}
use Rattle.history_check.specs.Naming.{IsOtherLine, ArePassedOver, BeginsHistory, BreaksBehind, Names}
use Rattle.history_check.specs.Checking.{AnswersHistory, AnswersBreak, IsAnswer}
use Rattle.history_check.specs.declared.checks.Checked.{Checked}
use Rattle.history_check.specs.declared.checks.Checked.TheVariants as checked
use Rattle.history_check.proofs.Steps.{begins_first}

-- ---- where the text begins

abbrev pub Starts : List ℕ → Type 0
Starts text = BeginsHistory text ⊎ (is_unbroken text ≡ true)

pub line_is_broken : (line : List ℕ) → IsLine line → is_unbroken line ≡ true → ⊥
line_is_broken line whole unbroken =
    let parts : (is_unbroken whole.front && is_unbroken (codes "\n")) ≡ true = sym (list_all-append (λ b. not (nat_eq b 10)) whole.front (codes "\n")) ∙ (ap is_unbroken (sym whole.is) ∙ unbroken) in
    false≢true (and_parts (is_unbroken whole.front) (is_unbroken (codes "\n")) parts).1

no_other : (text line more : List ℕ) → Starts text → IsOtherLine line → text ≡ line ++ more → ⊥
no_other text line more (inl begins) other is =
    other.other begins.version
    (same_line line more (first_line begins.version) begins.more (inl other.whole) (first_is_line begins.version) (sym is ∙ begins.is)).front
no_other text line more (inr unbroken) other is =
    let same : text ≡ line = (same_line text [] line more (inr (unbroken, refl)) other.whole (append-nil text ∙ is)).front in
    line_is_broken line other.whole (ap is_unbroken (sym same) ∙ unbroken)

same_text : (ls ks : List (List ℕ)) (s t : List ℕ) → AllByRecursion IsOtherLine ls → AllByRecursion IsOtherLine ks → Starts s → Starts t → concat ls ++ s ≡ concat ks ++ t → s ≡ t
same_text [] [] s t a b begins begun is = is
same_text [] (k ∷ ks) s t a b begins begun is = absurd (no_other s k (concat ks ++ t) begins b.0 (is ∙ append_assoc k (concat ks) t))
same_text (l ∷ ls) [] s t a b begins begun is = absurd (no_other t l (concat ls ++ s) begun a.0 (sym is ∙ append_assoc l (concat ls) s))
same_text (l ∷ ls) (k ∷ ks) s t a b begins begun is =
    same_text ls ks s t a.1 b.1 begins begun
    (same_line l (concat ls ++ s) k (concat ks ++ t) (inl a.0.whole) b.0.whole (sym (append_assoc l (concat ls) s) ∙ (is ∙ append_assoc k (concat ks) t))).rest

pub named_text : (all passed other s t : List ℕ) → ArePassedOver passed → ArePassedOver other → Starts s → Starts t → all ≡ passed ++ s → all ≡ other ++ t → s ≡ t
named_text all passed other s t a b begins begun one two =
    same_text a.lines b.lines s t a.others b.others begins begun
    (ap (λ bs. bs ++ s) (sym a.is) ∙ (sym one ∙ (two ∙ ap (λ bs. bs ++ t) b.is)))

-- ---- histories, and texts that stop

with_end : (h : HistoryView) (more : List ℕ) → text_of h ++ more ≡ lines_of h ++ (end_text (length h.entries) ++ more)
with_end h more = ap (λ bs. bs ++ more) (text_parts h) ∙ append_assoc (lines_of h) (end_text (length h.entries)) more

same_history : (h k : HistoryView) (more rest : List ℕ) → HistoryFits h → HistoryFits k → text_of h ++ more ≡ text_of k ++ rest → h ≡ k
same_history h k more rest a b is =
    (same_from h k (end_text (length h.entries) ++ more) (end_text (length k.entries) ++ rest) a b
    (no_entry_at_end (next_number h) (length h.entries) more) (no_entry_at_end (next_number k) (length k.entries) rest)
    (sym (with_end h more) ∙ (is ∙ with_end k rest))).history

no_break : (h : HistoryView) (more text : List ℕ) (n : ℕ) → HistoryFits h → text_of h ++ more ≡ text → StopsInHead text n ⊎ BreaksBehind text n → ⊥
no_break h more text n fits is (inl stops) =
    stops.no_head h (numbered entry_text 1 h.entries ++ (end_text (length h.entries) ++ more)) fits.head
    (sym is ∙ (with_end h more ∙ append_assoc (head_of h) (numbered entry_text 1 h.entries) (end_text (length h.entries) ++ more)))
no_break h more text n fits is (inr stops) =
    let same = same_from stops.before h stops.rest (end_text (length h.entries) ++ more) stops.fits fits
    (subst (λ (m : ℕ). NoEntryAt m stops.rest) stops.number stops.no_entry) (no_entry_at_end (next_number h) (length h.entries) more)
    (sym stops.is ∙ (sym is ∙ with_end h more)) in
    stops.no_end more (same.rest ∙ ap (λ (k : HistoryView). end_text (length k.entries) ++ more) (sym same.history))

stops_at : (text : List ℕ) (n : ℕ) → StopsInHead text n ⊎ BreaksBehind text n → StopsAt text n
stops_at text n (inl stops) = inl stops
stops_at text n (inr stops) = inr (record {
  before = stops.before;
  rest = stops.rest;
  fits = stops.fits;
  is = stops.is;
  number = stops.number;
  no_entry = stops.no_entry;
  no_end = λ is. stops.no_end [] (is ∙ sym (append-nil (end_text (length stops.before.entries))));
})

-- ---- verdicts

allowed_there : (g : GraphView) (s : StateView) (before : List Entry) (e : Entry) (behind : List Entry) → lawful_from g s (before ++ e ∷ behind) → Allowed g (replay_from s before) e
allowed_there g s [] e behind lawful = lawful.0
allowed_there g s (x ∷ before) e behind lawful = allowed_there g (effect s x) before e behind lawful.1

front_is : {x y : Entry} {xs ys : List Entry} → x ∷ xs ≡ y ∷ ys → x ≡ y
front_is e = cc

rest_is : {x y : Entry} {xs ys : List Entry} → x ∷ xs ≡ y ∷ ys → xs ≡ ys
rest_is e = cc

same_place : (g : GraphView) (s : StateView) (xs : List Entry) (e : Entry) (es ys : List Entry) (f : Entry) (fs : List Entry) → lawful_from g s xs → ¬ Allowed g (replay_from s xs) e → lawful_from g s ys → ¬ Allowed g (replay_from s ys) f
    → xs ++ e ∷ es ≡ ys ++ f ∷ fs → length xs ≡ length ys
same_place g s [] e es [] f fs a refused b other is = refl
same_place g s [] e es (y ∷ ys) f fs a refused b other is = absurd (refused (subst (Allowed g s) (sym (front_is is)) b.0))
same_place g s (x ∷ xs) e es [] f fs a refused b other is = absurd (other (subst (Allowed g s) (front_is is) a.0))
same_place g s (x ∷ xs) e es (y ∷ ys) f fs a refused b other is =
    ap suc (same_place g (effect s x) xs e es ys f fs a.1 refused (subst (λ z. lawful_from g (effect s z) ys) (sym (front_is is)) b.1) (subst (λ z. ¬ Allowed g (replay_from (effect s z) ys) f) (sym (front_is is)) other) (rest_is is))

not_both : (g : GraphView) (es : List Entry) (n : ℕ) → lawful_from g (opening_of g) es → IsFirstUnlawful g es n → ⊥
not_both g es n lawful first =
    first.refused (allowed_there g (opening_of g) first.before first.entry first.behind (subst (lawful_from g (opening_of g)) first.is lawful))

one_first : (g : GraphView) (es : List Entry) (m n : ℕ) → IsFirstUnlawful g es m → IsFirstUnlawful g es n → checked.NotLawful m ≡ checked.NotLawful n
one_first g es m n a b =
    let same : length a.before ≡ length b.before = same_place g (opening_of g) a.before a.entry a.behind b.before b.entry b.behind a.lawful a.refused b.lawful b.refused (sym a.is ∙ b.is) in
    ap checked.NotLawful (a.number ∙ (ap (λ n. n + 1) same ∙ sym b.number))

pub one_verdict : (g : GraphView) (locks : Option ℕ) (es : List Entry) (a b : Checked) → IsVerdict g locks es a → IsVerdict g locks es b → a ≡ b
one_verdict g locks es (checked.Lawful m) (checked.Lawful n) a b = ap checked.Lawful (a.2 ∙ sym b.2)
one_verdict g locks es (checked.Lawful m) (checked.NotLawful n) a (inl b) = absurd (true≢false (sym b.0 ∙ a.0))
one_verdict g locks es (checked.Lawful m) (checked.NotLawful n) a (inr b) = absurd (not_both g es n a.1 b.1)
one_verdict g locks es (checked.NotLawful m) (checked.Lawful n) (inl a) b = absurd (true≢false (sym a.0 ∙ b.0))
one_verdict g locks es (checked.NotLawful m) (checked.Lawful n) (inr a) b = absurd (not_both g es m b.1 a.1)
one_verdict g locks es (checked.NotLawful m) (checked.NotLawful n) (inl a) (inl b) = ap checked.NotLawful (a.1 ∙ sym b.1)
one_verdict g locks es (checked.NotLawful m) (checked.NotLawful n) (inl a) (inr b) = absurd (true≢false (sym a.0 ∙ b.0))
one_verdict g locks es (checked.NotLawful m) (checked.NotLawful n) (inr a) (inl b) = absurd (true≢false (sym b.0 ∙ a.0))
one_verdict g locks es (checked.NotLawful m) (checked.NotLawful n) (inr a) (inr b) = one_first g es m n a.1 b.1

-- ---- answers

starts_text : (h : HistoryView) (text more : List ℕ) → text ≡ text_of h → Starts (text ++ more)
starts_text h text more is = subst Starts (ap (λ bs. bs ++ more) (sym is)) (inl (subst BeginsHistory (sym (with_end h more)) (begins_first h (end_text (length h.entries) ++ more))))

behind_names : {came : List ℕ} {h : HistoryView} (all more : List ℕ) (n : Names came h) → all ≡ came ++ more → all ≡ n.passed ++ (n.text ++ more)
behind_names all more n is = is ∙ (ap (λ bs. bs ++ more) n.is ∙ append_assoc n.passed n.text more)

both_histories : (p : PlanView) (all came more came' more' : List ℕ) (a b : Checked) → all ≡ came ++ more → all ≡ came' ++ more' → AnswersHistory p came a → AnswersHistory p came' b → a ≡ b
both_histories p all came more came' more' a b one two x y =
    let same = named_text all x.names.passed y.names.passed (x.names.text ++ more) (y.names.text ++ more') x.names.over y.names.over
    (starts_text x.history x.names.text more x.names.history.is) (starts_text y.history y.names.text more' y.names.history.is)
    (behind_names all more x.names one) (behind_names all more' y.names two) in
    let texts : text_of x.history ++ more ≡ text_of y.history ++ more' = ap (λ bs. bs ++ more) (sym x.names.history.is) ∙ (same ∙ ap (λ bs. bs ++ more') y.names.history.is) in
    let equal = same_history x.history y.history more more' x.names.history.fits y.names.history.fits texts in
    one_verdict (graph_of p y.history.workers y.history.max y.history.parallel) y.history.locks y.history.entries a b (subst (λ h. IsAnswerTo p h a) equal x.verdict) y.verdict

history_or_break : (p : PlanView) (all came more : List ℕ) (a b : Checked) → all ≡ came ++ more → AnswersHistory p came a → AnswersBreak all b → ⊥
history_or_break p all came more a b one x y =
    let same = named_text all x.names.passed y.breaks.passed (x.names.text ++ more) y.breaks.text x.names.over y.breaks.over
    (starts_text x.history x.names.text more x.names.history.is) y.breaks.begins
    (behind_names all more x.names one) y.breaks.is in
    no_break x.history more y.breaks.text y.number x.names.history.fits (ap (λ bs. bs ++ more) (sym x.names.history.is) ∙ same) y.breaks.stops

both_break : (all : List ℕ) (a b : Checked) → AnswersBreak all a → AnswersBreak all b → a ≡ b
both_break all a b x y =
    let same = named_text all x.breaks.passed y.breaks.passed x.breaks.text y.breaks.text x.breaks.over y.breaks.over x.breaks.begins y.breaks.begins x.breaks.is y.breaks.is in
    let number : x.number ≡ y.number = one_place y.breaks.text x.number y.number (subst (λ t. StopsAt t x.number) same (stops_at x.breaks.text x.number x.breaks.stops)) (stops_at y.breaks.text y.number y.breaks.stops) in
    x.answer ∙ (ap checked.NotLawful number ∙ sym y.answer)

pub one_answer : (p : PlanView) (all came more came' more' : List ℕ) (a b : Checked) → all ≡ came ++ more → all ≡ came' ++ more' → IsAnswer p came all a → IsAnswer p came' all b → a ≡ b
one_answer p all came more came' more' a b one two (inl x) (inl y) = both_histories p all came more came' more' a b one two x y
one_answer p all came more came' more' a b one two (inl x) (inr y) = absurd (history_or_break p all came more a b one x y)
one_answer p all came more came' more' a b one two (inr x) (inl y) = absurd (history_or_break p all came' more' b a two y x)
one_answer p all came more came' more' a b one two (inr x) (inr y) = both_break all a b x y
