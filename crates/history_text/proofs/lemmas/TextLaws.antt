-- The laws of whole texts: a text has one value, or one place at which it stops.
use Rattle.std.proofs.Common.{◌≡◌, ◌≢◌, ℕ, ◌+◌, ◌<◌, ◌≤◌, suc, zero, List, [], ◌∷◌, ◌++◌, length, get_or, nat_eq, Option, Some, None, Bool, refl, sym, ap, subst, ◌∙◌, append_assoc, append-nil, arith, codes, inl, inr, ◌⊎◌}
use Rattle.std.proofs.lemmas.Bool.{true≢false}
use Rattle.lock_transforms.specs.Entry.{Entry}
use Rattle.history_text.specs.Text.{numbered, head_text, entry_text, end_text}
use Rattle.history_text.specs.Fitting.{HeadFits, EntryFits, EntriesFit}
use Rattle.history_text.specs.declared.heads.Settings.{Settings}
use Rattle.history_text.specs.declared.heads.Version.{Version}
use Rattle.history_text.specs.declared.heads.Version.TheVariants.{One, Two}
use Rattle.history_text.specs.HistoryView.{HistoryView}
use Rattle.history_text.specs.Reading.{after, entry_at, settings_at}
use Rattle.history_text.specs.Lines.{IsLineBefore, IsNoFirst, IsWrongAfter, OpensNone, first_line, second_line, version_of, next_number}
use Rattle.history_text.specs.Grammar.{HistoryFits, IsHistoryText, StopsInHead, StopsBehind, StopsAt, head_of, lines_of, text_of}
use Rattle.history_text.proofs.Words.{some_is, none_some, after_again}
use Rattle.history_text.proofs.lemmas.Splits.{SameParts, same_line}
use Rattle.history_text.proofs.EntryLaws.{entry_again, end_is_no_entry}
use Rattle.history_text.proofs.SettingsLaws.{said, settings_again}
use Rattle.history_text.proofs.lemmas.LineLaws.{entry_line, end_line, first_is_line, second_is_line}

-- no line of an entry with this number is in front
abbrev pub NoEntryAt : ℕ → List ℕ → Type 0
NoEntryAt n text = (e : Entry) (more : List ℕ) → EntryFits e → text ≢ entry_text n e ++ more

record SameRead {A : Type 0} (x y : A) (r s : List ℕ) : Type 0 where
  pub value : x ≡ y
  pub rest : r ≡ s

abbrev found : {A : Type 0} → A → List ℕ → Option (A × List ℕ)
found x rest = Some (x, rest)

pair_is : {A : Type 0} {x y : A} {r s : List ℕ} → found x r ≡ found y s → SameRead x y r s
pair_is e = record { value = ap (λ x. x.0) (some_is e); rest = ap (λ x. x.1) (some_is e) }

same_entry : (n : ℕ) (e f : Entry) (r s : List ℕ) → EntryFits e → EntryFits f → entry_text n e ++ r ≡ entry_text n f ++ s → SameRead e f r s
same_entry n e f r s a b is = pair_is (sym (entry_again n e r a) ∙ (ap (entry_at n) is ∙ entry_again n f s b))

same_lines : (n : ℕ) (es fs : List Entry) (r s : List ℕ) → EntriesFit es → EntriesFit fs → NoEntryAt (n + length es) r → NoEntryAt (n + length fs) s
    → numbered entry_text n es ++ r ≡ numbered entry_text n fs ++ s → SameRead es fs r s
same_lines n [] [] r s a b no_r no_s is = record { value = refl; rest = is }
same_lines n [] (f ∷ fs) r s a b no_r no_s is =
    let here : n ≡ n + 0 = omega arith in
    absurd (no_r f (numbered entry_text (n + 1) fs ++ s) b.0 (is ∙ (append_assoc (entry_text n f) (numbered entry_text (n + 1) fs) s ∙ ap (λ k. entry_text k f ++ (numbered entry_text (n + 1) fs ++ s)) here)))
same_lines n (e ∷ es) [] r s a b no_r no_s is =
    let here : n ≡ n + 0 = omega arith in
    absurd (no_s e (numbered entry_text (n + 1) es ++ r) a.0 (sym is ∙ (append_assoc (entry_text n e) (numbered entry_text (n + 1) es) r ∙ ap (λ k. entry_text k e ++ (numbered entry_text (n + 1) es ++ r)) here)))
same_lines n (e ∷ es) (f ∷ fs) r s a b no_r no_s is =
    let one = same_entry n e f (numbered entry_text (n + 1) es ++ r) (numbered entry_text (n + 1) fs ++ s) a.0 b.0
    (sym (append_assoc (entry_text n e) (numbered entry_text (n + 1) es) r) ∙ (is ∙ append_assoc (entry_text n f) (numbered entry_text (n + 1) fs) s)) in
    let left : n + suc (length es) ≡ n + 1 + length es = omega arith in
    let right : n + suc (length fs) ≡ n + 1 + length fs = omega arith in
    let more = same_lines (n + 1) es fs r s a.1 b.1 (subst (λ (k : ℕ). NoEntryAt k r) left no_r) (subst (λ (k : ℕ). NoEntryAt k s) right no_s) one.rest in
    record { value = ap (λ x. x ∷ es) one.value ∙ ap (λ l. f ∷ l) more.value; rest = more.rest }

pub head_parts : (w m : ℕ) (p : Bool) (l : Option ℕ) (rest : List ℕ) → head_text w m p l ++ rest ≡ first_line (version_of l) ++ (second_line w m p l ++ rest)
head_parts w m p None rest = refl
head_parts w m p (Some l) rest = refl

abbrev pub second_of : HistoryView → List ℕ
second_of h = second_line h.workers h.max h.parallel h.locks

-- the first lines of the versions differ in their ninth byte
pub same_version : (v u : Version) → first_line v ≡ first_line u → v ≡ u
same_version One One is = refl
same_version One Two is = absurd (true≢false (ap (λ l. nat_eq (get_or l 8 0) 49) is))
same_version Two One is = absurd (true≢false (ap (λ l. nat_eq (get_or l 8 0) 50) is))
same_version Two Two is = refl

-- the version is the history's, and its second line and this rest follow
pub record SecondOf (v : Version) (text rest : List ℕ) (h : HistoryView) : Type 0 where
  pub version : version_of h.locks ≡ v
  pub behind : text ≡ second_of h ++ rest

pub second_of_head : (v : Version) (text rest : List ℕ) (h : HistoryView) → first_line v ++ text ≡ head_of h ++ rest → SecondOf v text rest h
second_of_head v text rest h is =
    let parts = same_line (first_line v) text (first_line (version_of h.locks)) (second_of h ++ rest) (inl (first_is_line v)) (first_is_line (version_of h.locks)) (is ∙ head_parts h.workers h.max h.parallel h.locks rest) in
    record { version = sym (same_version v (version_of h.locks) parts.front); behind = parts.rest }

abbrev said_by : HistoryView → Settings
said_by h = said h.workers h.max h.parallel h.locks

same_head : (h k : HistoryView) (r s : List ℕ) → HeadFits h.workers h.max h.locks → HeadFits k.workers k.max k.locks → head_of h ++ r ≡ head_of k ++ s → SameRead (said_by h) (said_by k) r s
same_head h k r s a b is =
    let second = second_of_head (version_of h.locks) (second_of h ++ r) s k (sym (head_parts h.workers h.max h.parallel h.locks r) ∙ is) in
    pair_is (sym (settings_again h.workers h.max h.parallel h.locks r a)
    ∙ (ap (settings_at (version_of h.locks)) second.behind
    ∙ (ap (λ v. settings_at v (second_of k ++ s)) (sym second.version) ∙ settings_again k.workers k.max k.parallel k.locks s b)))

pub no_entry_at_end : (n m : ℕ) (more : List ℕ) → NoEntryAt n (end_text m ++ more)
no_entry_at_end n m more e rest fits is = none_some (sym (end_is_no_entry n m more) ∙ (ap (entry_at n) is ∙ entry_again n e rest fits))

no_entry_is_end : (n m : ℕ) → NoEntryAt n (end_text m)
no_entry_is_end n m e rest fits is = no_entry_at_end n m [] e rest fits (append-nil (end_text m) ∙ is)

-- the same head, the same entries and the same rest
pub record SameLines (h k : HistoryView) (r s : List ℕ) : Type 0 where
  pub history : h ≡ k
  pub rest : r ≡ s

abbrev put : Settings → List Entry → HistoryView
put s es = record { workers = s.workers; max = s.max; parallel = s.parallel; locks = s.locks; entries = es }

pub same_from : (h k : HistoryView) (r s : List ℕ) → HistoryFits h → HistoryFits k → NoEntryAt (next_number h) r → NoEntryAt (next_number k) s → lines_of h ++ r ≡ lines_of k ++ s → SameLines h k r s
same_from h k r s a b no_r no_s is =
    let heads = same_head h k (numbered entry_text 1 h.entries ++ r) (numbered entry_text 1 k.entries ++ s) a.head b.head
    (sym (append_assoc (head_of h) (numbered entry_text 1 h.entries) r) ∙ (is ∙ append_assoc (head_of k) (numbered entry_text 1 k.entries) s)) in
    let left : length h.entries + 1 ≡ 1 + length h.entries = omega arith in
    let right : length k.entries + 1 ≡ 1 + length k.entries = omega arith in
    let lines = same_lines 1 h.entries k.entries r s a.entries b.entries (subst (λ (n : ℕ). NoEntryAt n r) left no_r) (subst (λ (n : ℕ). NoEntryAt n s) right no_s) heads.rest in
    record { history = ap (λ x. put x h.entries) heads.value ∙ ap (put (said_by k)) lines.value; rest = lines.rest }

pub text_parts : (h : HistoryView) → text_of h ≡ lines_of h ++ end_text (length h.entries)
text_parts h = refl

pub one_value : (text : List ℕ) (h k : HistoryView) → IsHistoryText text h → IsHistoryText text k → h ≡ k
one_value text h k a b =
    (same_from h k (end_text (length h.entries)) (end_text (length k.entries)) a.fits b.fits (no_entry_is_end (next_number h) (length h.entries)) (no_entry_is_end (next_number k) (length k.entries))
    (sym (text_parts h) ∙ (sym a.is ∙ (b.is ∙ text_parts k)))).history

begins_with_head : (text rest : List ℕ) (h : HistoryView) → text ≡ lines_of h ++ rest → text ≡ head_of h ++ (numbered entry_text 1 h.entries ++ rest)
begins_with_head text rest h is = is ∙ append_assoc (head_of h) (numbered entry_text 1 h.entries) rest

no_entry_behind : (text : List ℕ) (n : ℕ) (b : StopsBehind text n) → NoEntryAt (next_number b.before) b.rest
no_entry_behind text n b = subst (λ (k : ℕ). NoEntryAt k b.rest) b.number b.no_entry

pub one_place : (text : List ℕ) (m n : ℕ) → StopsAt text m → StopsAt text n → m ≡ n
one_place text m n (inl a) (inl b) = a.number ∙ sym b.number
one_place text m n (inl a) (inr b) = absurd (a.no_head b.before (numbered entry_text 1 b.before.entries ++ b.rest) b.fits.head (begins_with_head text b.rest b.before b.is))
one_place text m n (inr a) (inl b) = absurd (b.no_head a.before (numbered entry_text 1 a.before.entries ++ a.rest) a.fits.head (begins_with_head text a.rest a.before a.is))
one_place text m n (inr a) (inr b) =
    a.number ∙ (ap next_number (same_from a.before b.before a.rest b.rest a.fits b.fits (no_entry_behind text m a) (no_entry_behind text n b) (sym a.is ∙ b.is)).history ∙ sym b.number)

pub no_history : (text : List ℕ) (n : ℕ) (h : HistoryView) → StopsAt text n → IsHistoryText text h → ⊥
no_history text n h (inl a) b = a.no_head h (numbered entry_text 1 h.entries ++ end_text (length h.entries)) b.fits.head (begins_with_head text (end_text (length h.entries)) h (b.is ∙ text_parts h))
no_history text n h (inr a) b =
    let same = same_from a.before h a.rest (end_text (length h.entries)) a.fits b.fits (no_entry_behind text n a) (no_entry_is_end (next_number h) (length h.entries)) (sym a.is ∙ (b.is ∙ text_parts h)) in
    a.no_end (same.rest ∙ ap (λ k. end_text (length k.entries)) (sym same.history))

pub first_wrong : (line more : List ℕ) → IsLineBefore line more → IsNoFirst line → StopsAt (line ++ more) 0
first_wrong line more before other = inl (record {
  number = refl;
  no_head = λ h rest fits is.
      other (version_of h.locks) (same_line line more (first_line (version_of h.locks)) (second_of h ++ rest) before (first_is_line (version_of h.locks))
      (is ∙ head_parts h.workers h.max h.parallel h.locks rest)).front;
})

pub second_wrong : (v : Version) (line more : List ℕ) → IsLineBefore line more → OpensNone v line → StopsAt (first_line v ++ (line ++ more)) 0
second_wrong v line more before other = inl (record {
  number = refl;
  no_head = λ h rest fits is.
      let second = second_of_head v (line ++ more) rest h is in
      other h.workers h.max h.parallel h.locks fits second.version (same_line line more (second_of h) rest before (second_is_line h.workers h.max h.parallel h.locks) second.behind).front;
})

pub line_wrong : (h : HistoryView) (line more : List ℕ) → HistoryFits h → IsLineBefore line more → IsWrongAfter h line → StopsAt (lines_of h ++ (line ++ more)) (next_number h)
line_wrong h line more fits before wrong = inr (record {
  before = h;
  rest = line ++ more;
  fits = fits;
  is = refl;
  number = refl;
  no_entry = λ e rest good is. wrong.no_entry e good (same_line line more (entry_text (next_number h) e) rest before (entry_line (next_number h) e) is).front;
  no_end = λ is. wrong.no_end (same_line line more (end_text (length h.entries)) [] before (end_line (length h.entries)) (is ∙ sym (append-nil (end_text (length h.entries))))).front;
})

pub behind_end : (h : HistoryView) (more : List ℕ) → HistoryFits h → more ≢ [] → StopsAt (text_of h ++ more) (next_number h)
behind_end h more fits some =
    let end : List ℕ = end_text (length h.entries) in
    inr (record {
      before = h;
      rest = end_text (length h.entries) ++ more;
      fits = fits;
      number = refl;
      is = ap (λ l. l ++ more) (text_parts h) ∙ append_assoc (lines_of h) (end_text (length h.entries)) more;
      no_entry = no_entry_at_end (next_number h) (length h.entries) more;
      no_end = λ is. some (same_line (end_text (length h.entries)) more (end_text (length h.entries)) [] (inl (end_line (length h.entries))) (end_line (length h.entries)) (is ∙ sym (append-nil (end_text (length h.entries))))).rest;
    })
