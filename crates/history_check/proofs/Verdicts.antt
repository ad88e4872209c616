-- What the check of a history is, entry by entry.
use Rattle.std.proofs.Common.{◌≡◌, ◌≢◌, ℕ, ◌+◌, List, [], ◌∷◌, ◌++◌, length, length-append, refl, sym, ap, subst, ◌∙◌, append_assoc, append-nil, arith, Result, Ok, inl, inr, ◌⊎◌, true, false}
use Rattle.std.proofs.Common.{Option, Some, None}
use Rattle.std.specs.Prelude.{IfSome, option_map}
use Rattle.lock_journal.specs.Names.{GraphView, StateView, opening_of, Entry, effect, replay, Allowed, Lawful, Change}
use Rattle.lock_journal.proofs.lemmas.Replays.{lawful_from-push, replay_from-push}
use Rattle.plan_reader.specs.PlanView.{PlanView}
use Rattle.plan_reader.specs.Graph.{graph_of}
use Rattle.history_text.specs.Text.{entry_text}
use Rattle.history_text.specs.HistoryView.{HistoryView, entry_with}
use Rattle.history_text.specs.Lines.{AddsEntry}
use Rattle.history_text.specs.LineValues.{IsEntryLine, IsLineInto}
use Rattle.history_text.specs.declared.fails.TextFail.{TextFail}
use Rattle.history_text.specs.declared.read_histories.EntryHead.{EntryHead}
use Rattle.history_text.specs.declared.lines.LineHead.{LineHead}
use Rattle.history_text.specs.declared.lines.LineHead.TheVariants as heads
use Rattle.history_check.specs.CheckView.{CheckView, BeginsUnlawful, IsCheckOf, IsFresh, AdmitsNext, RefusesEntry, Passes, Stays, Adds}
use Rattle.history_check.specs.Verdict.{IsFirstUnlawful, IsVerdict, names_other_locks}
use Rattle.history_check.specs.declared.checks.Checked.TheVariants as checked

none_behind : (all admitted behind : List Entry) → all ≡ admitted ++ behind → length all ≡ length admitted → behind ≡ []
none_behind all admitted [] is same = refl
none_behind all admitted (e ∷ es) is same =
    absurd (let long : length all ≡ length admitted + length (e ∷ es) = ap length is ∙ length-append admitted (e ∷ es) in omega arith)

-- where so many were admitted as came, the entries that were are all
front_is_all : {p : PlanView} {h : HistoryView} {c : CheckView} (is : IsCheckOf p h c) → c.admitted ≡ c.count → h.entries ≡ is.front
front_is_all {p} {h} {c} is all =
    let none : is.behind ≡ [] = none_behind h.entries is.front is.behind is.entries (sym is.count ∙ (sym all ∙ is.admitted)) in
    is.entries ∙ (ap (λ es. is.front ++ es) none ∙ append-nil is.front)

pub all_lawful : {p : PlanView} {h : HistoryView} (c : CheckView) → IsCheckOf p h c → c.admitted ≡ c.count → Lawful c.graph h.entries
all_lawful c is all = subst (Lawful c.graph) (sym (front_is_all is all)) is.lawful

first_behind : (g : GraphView) (all admitted behind : List Entry) (n : ℕ) → all ≡ admitted ++ behind → BeginsUnlawful g admitted behind → length admitted ≢ length all → Lawful g admitted → n ≡ length admitted + 1 → IsFirstUnlawful g all n
first_behind g all admitted [] n is refused other lawful number = absurd (other (sym (ap length (is ∙ append-nil admitted))))
first_behind g all admitted (e ∷ es) n is refused other lawful number = record { before = admitted; entry = e; behind = es; is = is; number = number; lawful = lawful; refused = refused }

pub first_unlawful : {p : PlanView} {h : HistoryView} (c : CheckView) (n : ℕ) → IsCheckOf p h c → c.admitted ≢ c.count → n ≡ c.admitted + 1 → IsFirstUnlawful c.graph h.entries n
first_unlawful {p} {h} c n is other number =
    first_behind c.graph h.entries is.front is.behind n is.entries is.refused (λ same. other (is.admitted ∙ (same ∙ sym is.count))) is.lawful (number ∙ ap (λ k. k + 1) is.admitted)

-- what is answered where so many were admitted as came, or fewer, or where another number of locks is named
pub answers_lawful : (p : PlanView) (h : HistoryView) (c : CheckView) (n : ℕ) → n ≡ c.admitted → c.admitted ≡ c.count → c.other_locks ≡ false → IsCheckOf p h c → IsVerdict c.graph h.locks h.entries (checked.Lawful n)
answers_lawful p h c n number all same is = (sym is.other_locks ∙ same, all_lawful c is all, number ∙ (all ∙ is.count))

pub answers_unlawful : (p : PlanView) (h : HistoryView) (c : CheckView) (n : ℕ) → n ≡ c.admitted + 1 → c.admitted ≢ c.count → c.other_locks ≡ false → IsCheckOf p h c → IsVerdict c.graph h.locks h.entries (checked.NotLawful n)
answers_unlawful p h c n number other same is = inr (sym is.other_locks ∙ same, first_unlawful c n is other number)

pub answers_other : (p : PlanView) (h : HistoryView) (c : CheckView) → c.other_locks ≡ true → IsCheckOf p h c → IsVerdict c.graph h.locks h.entries (checked.NotLawful 0)
answers_other p h c other is = inl (sym is.other_locks ∙ other, refl)

-- a check of no entry
pub fresh_check : {p : PlanView} {h : HistoryView} (c : CheckView) → h.entries ≡ [] → IsFresh (graph_of p h.workers h.max h.parallel) h.locks c → IsCheckOf p h c
fresh_check {h = h} c none fresh = record {
  graph = fresh.graph;
  other_locks = fresh.other_locks ∙ ap (names_other_locks h.locks) (sym fresh.graph);
  count = fresh.count ∙ ap length (sym none);
  front = [];
  behind = [];
  entries = none;
  lawful = tt;
  state = fresh.state ∙ ap opening_of (sym fresh.graph);
  admitted = fresh.admitted;
  kept = fresh.kept;
  refused = tt;
}

abbrev pub with_entry : HistoryView → Entry → HistoryView
with_entry h e = record h { entries = h.entries ++ e ∷ [] }

one_longer : (es : List Entry) (e : Entry) (old new : ℕ) → old ≡ length es → new ≡ old + 1 → new ≡ length (es ++ e ∷ [])
one_longer es e old new was is = omega (arith, was, is, length-append es (e ∷ []))

behind_some : (g : GraphView) (admitted behind : List Entry) (e : Entry) → (behind ≡ [] → ⊥) → BeginsUnlawful g admitted behind → BeginsUnlawful g admitted (behind ++ e ∷ [])
behind_some g admitted [] e some refused = absurd (some refl)
behind_some g admitted (x ∷ xs) e some refused = refused

grown : (old : Option (List Entry)) (front : List Entry) (e : Entry) → IfSome old (λ es. es ≡ front) → IfSome (option_map (λ es. es ++ e ∷ []) old) (λ es. es ≡ front ++ e ∷ [])
grown None front e kept = tt
grown (Some es) front e kept = ap (λ xs. xs ++ e ∷ []) kept

with_admitted : {p : PlanView} {h : HistoryView} {old new : CheckView} (e : Entry) → IsCheckOf p h old → new.graph ≡ old.graph → new.other_locks ≡ old.other_locks → new.count ≡ old.count + 1 → AdmitsNext old new e → IsCheckOf p (with_entry h e) new
with_admitted {p} {h} {old} {new} e is graph other count a =
    let more : List Entry = is.front ++ e ∷ [] in
    let allowed : Allowed old.graph (replay old.graph is.front) e = subst (λ (s : StateView). Allowed old.graph s e) is.state a.allowed in
    let lawful : Lawful old.graph more = lawful_from-push old.graph (opening_of old.graph) is.front e is.lawful allowed in
    record {
      graph = graph ∙ is.graph;
      other_locks = other ∙ (is.other_locks ∙ ap (names_other_locks h.locks) (sym graph));
      count = one_longer h.entries e old.count new.count is.count count;
      front = more;
      behind = [];
      entries = ap (λ es. es ++ e ∷ []) (front_is_all is a.all) ∙ sym (append-nil more);
      lawful = subst (λ (g : GraphView). Lawful g more) (sym graph) lawful;
      state = a.state
          ∙ (ap (λ (s : StateView). effect s e) is.state
          ∙ (sym (replay_from-push (opening_of old.graph) is.front e) ∙ ap (λ (g : GraphView). replay g more) (sym graph)));
      admitted = one_longer is.front e old.admitted new.admitted is.admitted a.admitted;
      kept = subst (λ (k : Option (List Entry)). IfSome k (λ es. es ≡ more)) (sym a.kept) (grown old.kept is.front e is.kept);
      refused = tt;
    }

-- what was admitted before stays, and behind it this stands
with_behind : {p : PlanView} {h : HistoryView} {old new : CheckView} (e : Entry) (behind : List Entry) (is : IsCheckOf p h old) → new.graph ≡ old.graph → new.other_locks ≡ old.other_locks → new.count ≡ old.count + 1 → Stays old new
    → (with_entry h e).entries ≡ is.front ++ behind → BeginsUnlawful old.graph is.front behind → IsCheckOf p (with_entry h e) new
with_behind {p} {h} {old} {new} e behind is graph other count stays entries refused = record {
  graph = graph ∙ is.graph;
  other_locks = other ∙ (is.other_locks ∙ ap (names_other_locks h.locks) (sym graph));
  count = one_longer h.entries e old.count new.count is.count count;
  front = is.front;
  behind = behind;
  entries = entries;
  lawful = subst (λ (g : GraphView). Lawful g is.front) (sym graph) is.lawful;
  state = stays.state ∙ (is.state ∙ ap (λ (g : GraphView). replay g is.front) (sym graph));
  admitted = stays.admitted ∙ is.admitted;
  kept = subst (λ (k : Option (List Entry)). IfSome k (λ es. es ≡ is.front)) (sym stays.kept) is.kept;
  refused = subst (λ (g : GraphView). BeginsUnlawful g is.front behind) (sym graph) refused;
}

with_refused : {p : PlanView} {h : HistoryView} {old new : CheckView} (e : Entry) → IsCheckOf p h old → new.graph ≡ old.graph → new.other_locks ≡ old.other_locks → new.count ≡ old.count + 1 → RefusesEntry old new e → IsCheckOf p (with_entry h e) new
with_refused {p} {h} {old} {new} e is graph other count r =
    with_behind {new = new} e (e ∷ []) is graph other count r.stays (ap (λ es. es ++ e ∷ []) (front_is_all is r.all))
    (subst (λ (s : StateView). ¬ Allowed old.graph s e) is.state r.refused)

with_passed : {p : PlanView} {h : HistoryView} {old new : CheckView} (e : Entry) → IsCheckOf p h old → new.graph ≡ old.graph → new.other_locks ≡ old.other_locks → new.count ≡ old.count + 1 → Passes old new → IsCheckOf p (with_entry h e) new
with_passed {p} {h} {old} {new} e is graph other count a =
    let some : is.behind ≡ [] → ⊥ = λ none.
    let same : length h.entries ≡ length is.front = ap length (is.entries ∙ (ap (λ es. is.front ++ es) none ∙ append-nil is.front)) in
    omega (arith, same, is.count, is.admitted, a.fewer) in
    with_behind {new = new} e (is.behind ++ e ∷ []) is graph other count a.stays
    (ap (λ es. es ++ e ∷ []) is.entries ∙ append_assoc is.front is.behind (e ∷ []))
    (behind_some old.graph is.front is.behind e some is.refused)

by_case : {p : PlanView} {h : HistoryView} {old new : CheckView} (e : Entry) → IsCheckOf p h old → new.graph ≡ old.graph → new.other_locks ≡ old.other_locks → new.count ≡ old.count + 1 → AdmitsNext old new e ⊎ RefusesEntry old new e ⊎ Passes old new → IsCheckOf p (with_entry h e) new
by_case e is graph other count (inl a) = with_admitted e is graph other count a
by_case e is graph other count (inr (inl r)) = with_refused e is graph other count r
by_case e is graph other count (inr (inr a)) = with_passed e is graph other count a

pub with_one_more : {p : PlanView} {h : HistoryView} {old new : CheckView} (e : Entry) → IsCheckOf p h old → Adds old new e → IsCheckOf p (with_entry h e) new
with_one_more e is adds = by_case e is adds.graph adds.other_locks adds.count adds.entry

-- the line of an entry came
pub entry_came : {p : PlanView} {h : HistoryView} {old new : CheckView} (count : ℕ) (line : List ℕ) (e : Entry) → count ≡ old.count → IsCheckOf p h old → IsEntryLine count line e → Adds old new e → (k : HistoryView) × AddsEntry h line k × IsCheckOf p k new
entry_came {p} {h} {old} {new} count line e same is read adds = (
  with_entry h e,
  record {
    entry = e;
    fits = read.fits;
    spelled = read.spelled ∙ ap (λ n. entry_text (n + 1) e) (same ∙ is.count);
    is = refl;
  },
  with_one_more e is adds,
)

abbrev said : LineHead → Result LineHead TextFail
said head = Ok head

pub entry_said : (count : ℕ) (line : List ℕ) (changes : List Change) (value : LineHead) (h : EntryHead) → value ≡ heads.Entry h → IsLineInto count line changes (said value) → IsEntryLine count line (entry_with h changes)
entry_said count line changes value h is read = subst (λ (v : LineHead). IsLineInto count line changes (said v)) is read

pub added_there : {old was new is : CheckView} {e f : Entry} → old ≡ was → is ≡ new → e ≡ f → Adds was is e → Adds old new f
added_there {old} {was} {new} {is} {e} {f} before behind same adds =
    subst (λ (o : CheckView). Adds o new f) (sym before) (subst (λ (n : CheckView). Adds was n f) behind (subst (λ (x : Entry). Adds was is x) same adds))
