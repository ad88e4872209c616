-- The entries of a whole history, checked one by one.
use Rattle.std.proofs.Common.{◌≡◌, ℕ, ◌+◌, ◌<◌, ◌≤◌, List, [], ◌∷◌, ◌++◌, length, map, take, get_or, Option, refl, sym, ap, subst, ◌∙◌, arith}
use Rattle.std.specs.Prelude.{option_map}
use Rattle.std.proofs.lemmas.List.{take_all, take_more, get_or-map, length-map, length-take-le}
use Rattle.lock_journal.specs.Names.{Entry, entry, Change, GraphView}
use Rattle.plan_reader.specs.PlanView.{PlanView}
use Rattle.plan_reader.specs.Graph.{graph_of}
use Rattle.history_text.specs.HistoryView.{HistoryView, history_view, entry_read}
use Rattle.history_text.specs.declared.read_histories.History.{History}
use Rattle.history_text.specs.declared.read_histories.HistoryEntry.{HistoryEntry}
use Rattle.history_check.specs.CheckView.{CheckView, IsCheckOf, IsFresh, Adds}
use Rattle.history_check.specs.Verdict.{IsVerdict, IsAnswerTo}
use Rattle.history_check.specs.declared.checks.Checked.{Checked}
use Rattle.history_check.proofs.Verdicts.{fresh_check, with_one_more}

-- the history with so many of its entries
abbrev pub first_of : ℕ → HistoryView → HistoryView
first_of n h = record h { entries = take n h.entries }

-- a check of no entry
pub none_so_far : (p : PlanView) (h : HistoryView) (c : CheckView) → IsFresh (graph_of p h.workers h.max h.parallel) h.locks c → IsCheckOf p (first_of 0 h) c
none_so_far p h c is = fresh_check c refl is

one_more_so_far : (p : PlanView) (h : HistoryView) (n : ℕ) (e : Entry) (old new : CheckView) → n < length h.entries → e ≡ get_or h.entries n e → IsCheckOf p (first_of n h) old → Adds old new e → IsCheckOf p (first_of (n + 1) h) new
one_more_so_far p h n e old new within there is adds =
    let same : take n h.entries ++ e ∷ [] ≡ take (n + 1) h.entries = sym (take_more h.entries n e within ∙ ap (λ x. take n h.entries ++ x ∷ []) (sym there)) in
    subst (λ (es : List Entry). IsCheckOf p (record h { entries = es }) new) same (with_one_more e is adds)

-- the next entry that was read was added
pub one_read : (p : PlanView) (h : History) (n : ℕ) (items : List HistoryEntry) (e : HistoryEntry) (changes : Option (List Change)) (old new : CheckView) → items ≡ h.entries.items → n < length items → e ≡ get_or items n e
    → changes ≡ option_map (λ cs. cs.items) e.changes → IsCheckOf p (first_of n (history_view h)) old → Adds old new (entry e.worker e.kind changes) → IsCheckOf p (first_of (n + 1) (history_view h)) new
one_read p h n items e changes old new same within there read is adds =
    let all : map entry_read items ≡ map entry_read h.entries.items = ap (map entry_read) same in
    let long : n < length (map entry_read h.entries.items) = omega (arith, within, length-map items entry_read, ap length all) in
    let at : entry_read e ≡ get_or (map entry_read h.entries.items) n (entry_read e) =
    ap entry_read there ∙ (sym (get_or-map entry_read items n e (entry_read e) within) ∙ ap (λ es. get_or es n (entry_read e)) all) in
    one_more_so_far p (history_view h) n (entry_read e) old new long at is (subst (λ (cs : Option (List Change)). Adds old new (entry e.worker e.kind cs)) read adds)

-- all entries were added
pub all_read : (p : PlanView) (h : History) (n : ℕ) (items : List HistoryEntry) (c : CheckView) → items ≡ h.entries.items → length items ≤ n → IsCheckOf p (first_of n (history_view h)) c → IsCheckOf p (history_view h) c
all_read p h n items c same whole is =
    let long : length (map entry_read h.entries.items) ≤ n = omega (arith, whole, ap length same, length-map h.entries.items entry_read) in
    subst (λ (es : List Entry). IsCheckOf p (record (history_view h) { entries = es }) c) (take_all n (map entry_read h.entries.items) long) is

-- so many entries were added as were read
pub counted_so_far : (p : PlanView) (h : History) (n : ℕ) (items : List HistoryEntry) (c : CheckView) → items ≡ h.entries.items → n ≤ length items → IsCheckOf p (first_of n (history_view h)) c → c.count ≡ n
counted_so_far p h n items c same within is =
    let long : n ≤ length (map entry_read h.entries.items) = omega (arith, within, ap length same, length-map h.entries.items entry_read) in
    is.count ∙ length-take-le n (map entry_read h.entries.items) long

-- what a check answers is the answer to the history that it is of
pub answered : (p : PlanView) (h : HistoryView) (c : CheckView) (a : Checked) → IsCheckOf p h c → ((q : PlanView) (k : HistoryView) → IsCheckOf q k c → IsVerdict c.graph k.locks k.entries a) → IsAnswerTo p h a
answered p h c a is answers = subst (λ (g : GraphView). IsVerdict g h.locks h.entries a) is.graph (answers p h is)
