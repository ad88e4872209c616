-- A book that goes on, as one worker sees it.
use Rattle.std.proofs.Common.{◌≡◌, ℕ, eqb, List, [], ◌∷◌, ◌++◌, refl, sym, ap, ◌∙◌, append_assoc, append-nil, ne_eqb, cond, suc, ◌+◌, length, get_or, take, Some, arith, subst, eq-eqb, length-append}
use Rattle.std.proofs.lemmas.List.Sums.{sum_by-append}
use Rattle.std.proofs.lemmas.List.{length-take-le, take_more}
use Rattle.std.proofs.lemmas.Option.{get_or_from_slice_get, slice_get_within}
use Rattle.std.specs.Prelude.{slice_get}
use Rattle.lock_journal.specs.Names.{GraphView, StateView, WorkerId, Lawful, Entry, replay, BookView, closed_by, NoneOf, SameFor}
use Rattle.lock_journal.proofs.lemmas.Growing.{closed_by-own, same_by_own}
use Rattle.worker_notes.specs.Agrees.{Agrees, IsSoundBook}
use Rattle.worker_notes.specs.WorkerEntries.{last_in, last_of, entry_count_of}

pub none_of-append : (w : WorkerId) (xs ys : List Entry) → NoneOf w xs → NoneOf w ys → NoneOf w (xs ++ ys)
none_of-append w [] ys p q = q
none_of-append w (e ∷ xs) ys p q = (p.0, none_of-append w xs ys p.1 q)

last_in-append : (n found : ℕ) (w : WorkerId) (xs ys : List Entry) → last_in n found w (xs ++ ys) ≡ last_in (n + length xs) (last_in n found w xs) w ys
last_in-append n found w [] ys = let same : n ≡ n + length {A = Entry} [] = omega arith in ap (λ (k : ℕ). last_in k found w ys) same
last_in-append n found w (e ∷ es) ys =
    let f : ℕ = cond (eqb e.worker.0 w.0) (suc n) found in
    let same : suc n + length es ≡ n + length (e ∷ es) = omega arith in
    last_in-append (suc n) f w es ys ∙ ap (λ (k : ℕ). last_in k (last_in (suc n) f w es) w ys) same

last_in-none : (n found : ℕ) (w : WorkerId) (xs : List Entry) → NoneOf w xs → last_in n found w xs ≡ found
last_in-none n found w [] none = refl
last_in-none n found w (e ∷ es) none = ap (λ b. last_in (suc n) (cond b (suc n) found) w es) (ne_eqb e.worker.0 w.0 none.0) ∙ last_in-none (suc n) found w es none.1

-- the worker's last entry is where it was
last_of-none : (w : WorkerId) (xs ys : List Entry) → NoneOf w ys → last_of w (xs ++ ys) ≡ last_of w xs
last_of-none w xs ys none = last_in-append 0 0 w xs ys ∙ last_in-none (0 + length xs) (last_of w xs) w ys none

pub last_of-push : (w : WorkerId) (xs : List Entry) (e : Entry) → last_of w (xs ++ e ∷ []) ≡ cond (eqb e.worker.0 w.0) (suc (length xs)) (last_of w xs)
last_of-push w xs e = let same : 0 + length xs ≡ length xs = omega arith in last_in-append 0 0 w xs (e ∷ []) ∙ ap (λ (k : ℕ). last_in k (last_of w xs) w (e ∷ [])) same

pub last_of-own : (w : WorkerId) (xs : List Entry) (e : Entry) → e.worker.0 ≡ w.0 → last_of w (xs ++ e ∷ []) ≡ length (xs ++ e ∷ [])
last_of-own w xs e is =
    let long = length-append xs (e ∷ []) in
    let count : suc (length xs) ≡ length (xs ++ e ∷ []) = omega arith in
    last_of-push w xs e ∙ (ap (λ b. cond b (suc (length xs)) (last_of w xs)) (eq-eqb e.worker.0 w.0 is) ∙ count)

-- one entry further
pub last_of-more : (w : WorkerId) (h : List Entry) (n : ℕ) (e : Entry) → slice_get h n ≡ Some e → last_of w (take (n + 1) h) ≡ cond (eqb e.worker.0 w.0) (n + 1) (last_of w (take n h))
last_of-more w h n e at =
    let within = slice_get_within h n e at in
    let here : get_or h n e ≡ e = get_or_from_slice_get h n e e at in
    let long : length (take n h) ≡ n = length-take-le n h (omega arith) in
    let count : suc (length (take n h)) ≡ n + 1 = omega arith in
    ap (λ (l : List Entry). last_of w l) (take_more h n e within ∙ ap (λ (x : Entry). take n h ++ x ∷ []) here)
    ∙ (last_of-push w (take n h) e ∙ ap (λ (k : ℕ). cond (eqb e.worker.0 w.0) k (last_of w (take n h))) count)

entry_count_of-none : (w : WorkerId) (ys : List Entry) → NoneOf w ys → entry_count_of w ys ≡ 0
entry_count_of-none w [] none = refl
entry_count_of-none w (e ∷ ys) none = rw (ne_eqb e.worker.0 w.0 none.0) (entry_count_of-none w ys none.1)

entry_count_of-same : (w : WorkerId) (xs ys : List Entry) → NoneOf w ys → entry_count_of w (xs ++ ys) ≡ entry_count_of w xs
entry_count_of-same w xs ys none =
    let both : entry_count_of w (xs ++ ys) ≡ entry_count_of w xs + entry_count_of w ys = sum_by-append (λ (e : Entry). cond (eqb e.worker.0 w.0) 1 0) xs ys in
    let no = entry_count_of-none w ys none in omega arith

-- entries of others alone were added to a sound book, which is sound again
pub goes_on : (w : WorkerId) (old new : BookView) (more : List Entry) → IsSoundBook old → IsSoundBook new → new.graph ≡ old.graph → new.history ≡ old.history ++ more → NoneOf w more → Agrees w old new
goes_on w old new more sound sound' graph history none =
    let lawful : Lawful old.graph (old.history ++ more) = subst (λ (p : GraphView × List Entry). Lawful p.0 p.1) (λ i. (graph i, history i)) sound'.lawful in
    let replays : new.state ≡ replay old.graph (old.history ++ more) = sound'.replays ∙ (λ i. replay (graph i) (history i)) in
    let state : SameFor w (replay old.graph old.history) (replay old.graph (old.history ++ more)) = same_by_own old.graph old.history more w lawful none in
    record {
      graph = graph;
      between = more;
      history = history;
      others = none;
      state = subst (λ (p : StateView × StateView). SameFor w p.0 p.1) (λ i. (sym sound.replays i, sym replays i)) state;
      closings = ap (λ (h : List Entry). closed_by w h) history ∙ closed_by-own old.history more w none;
      count = ap (λ (h : List Entry). entry_count_of w h) history ∙ entry_count_of-same w old.history more none;
      last = ap (λ (h : List Entry). last_of w h) history ∙ last_of-none w old.history more none;
    }

same_for-self : (w : WorkerId) (s : StateView) → SameFor w s s
same_for-self w s = record { holding = refl; owns = λ l. refl; owned = refl; running = λ m. ((λ e. e), (λ e. e)); claimed = refl; runs_task = refl; is_parked = refl; runs_unit = refl; is_idle = refl }

same_for-then : (w : WorkerId) (a b c : StateView) → SameFor w a b → SameFor w b c → SameFor w a c
same_for-then w a b c p q = record {
  holding = q.holding ∙ p.holding;
  owns = λ l. q.owns l ∙ p.owns l;
  owned = q.owned ∙ p.owned;
  running = λ m. ((λ e. (q.running m).0 ((p.running m).0 e)), (λ e. (p.running m).1 ((q.running m).1 e)));
  claimed = q.claimed ∙ p.claimed;
  runs_task = q.runs_task ∙ p.runs_task;
  is_parked = q.is_parked ∙ p.is_parked;
  runs_unit = q.runs_unit ∙ p.runs_unit;
  is_idle = q.is_idle ∙ p.is_idle;
}

pub agrees_then : (w : WorkerId) (a b c : BookView) → Agrees w a b → Agrees w b c → Agrees w a c
agrees_then w a b c p q = record {
  graph = q.graph ∙ p.graph;
  between = p.between ++ q.between;
  history = q.history ∙ (ap (λ (l : List Entry). l ++ q.between) p.history ∙ append_assoc a.history p.between q.between);
  others = none_of-append w p.between q.between p.others q.others;
  state = same_for-then w a.state b.state c.state p.state q.state;
  closings = q.closings ∙ p.closings;
  count = q.count ∙ p.count;
  last = q.last ∙ p.last;
}

-- the same graph, state and history
pub agrees_same : (w : WorkerId) (a b : BookView) → b.graph ≡ a.graph → b.state ≡ a.state → b.history ≡ a.history → Agrees w a b
agrees_same w a b graph state history = record {
  graph = graph;
  between = [];
  history = history ∙ sym (append-nil a.history);
  others = tt;
  state = subst (SameFor w a.state) (sym state) (same_for-self w a.state);
  closings = ap (λ (h : List Entry). closed_by w h) history;
  count = ap (λ (h : List Entry). entry_count_of w h) history;
  last = ap (λ (h : List Entry). last_of w h) history;
}

pub agrees_self : (w : WorkerId) (a : BookView) → Agrees w a a
agrees_self w a = agrees_same w a a refl refl refl
