-- What a book shows, and one that goes on from it.
use Rattle.std.proofs.Common.{◌≡◌, ◌+◌, ◌≤◌, ℕ, suc, cond, eqb, Bool, true, false, Option, Some, None, replicate, List, [], ◌∷◌, ◌++◌, refl, sym, ap, ◌∙◌, subst, length, take, arith, length-append, append_assoc}
use Rattle.std.specs.List.{All}
use Rattle.std.proofs.lemmas.List.{take-append-le, take_all, get_or-replicate, length-replicate}
use Rattle.std.proofs.lemmas.List.Elements.{All-weaker}
use mathlib.Core.List.{IsPrefix}
use Rattle.lock_journal.specs.Names.{GraphView, WorkerId, leases_out, Entry, prefix_state, replay, BookView}
use Rattle.worker_notes.specs.WorkerEntries.{last_in, last_of}
use Rattle.history_views.specs.Growing.{IsLater}
use Rattle.history_views.specs.declared.views.Extent.{Extent}
use Rattle.run_watch.specs.Looks.{AreLooksAt, IsBoardOf, IsRoomFor, MayShow, WasSeenIn}
use Rattle.run_watch.specs.Watches.{IsShownBy}
use Rattle.run_watch.specs.declared.boards.Watch.{Watch}
use Rattle.run_watch.specs.declared.watchers.Look.{Look}

-- all of its entries
pub shown_whole : (b : BookView) (n k : ℕ) → n ≡ length b.history → k ≡ leases_out b.state → b.state ≡ replay b.graph b.history → IsShownBy b n k
shown_whole b n k many out replays =
    let all : prefix_state b.graph b.history n ≡ replay b.graph b.history = ap (λ (h : List Entry). replay b.graph h) (take_all n b.history (omega (arith, many))) in record {
      within = omega (arith, many);
      leases = out ∙ ap leases_out (replays ∙ sym all);
    }

-- what it shows is shown by each book that goes on from it
pub shown_later : (a b : BookView) (n k : ℕ) → IsLater a b → IsShownBy a n k → IsShownBy b n k
shown_later a b n k later s =
    let p = later.history in
    let le = s.within in
    let front : take n b.history ≡ take n a.history = ap (λ (h : List Entry). take n h) (sym p.1) ∙ take-append-le n a.history p.0 le in
    let long : length b.history ≡ length a.history + length p.0 = ap (λ (h : List Entry). length h) (sym p.1) ∙ length-append a.history p.0 in record {
      within = omega (arith, le, long);
      leases = s.leases ∙ sym (ap leases_out (ap (λ (g : GraphView). replay g (take n b.history)) later.graph ∙ ap (λ (h : List Entry). replay a.graph h) front));
    }

-- a beginning as long as the whole is the whole
is_whole : (xs ys : List Entry) → IsPrefix xs ys → length ys ≤ length xs → ys ≡ xs
is_whole [] [] p le = refl
is_whole [] (y ∷ ys) p le = absurd (omega arith)
is_whole (x ∷ xs) [] p le = absurd (cc (p.1))
is_whole (x ∷ xs) (y ∷ ys) p le =
    let rest = is_whole xs ys (p.0, cc (p.1)) (omega arith) in cc (p.1, rest)

-- what a book shows that goes on by nothing, is shown by the first
pub shown_before : (a b : BookView) (n k : ℕ) → IsLater a b → length b.history ≤ length a.history → IsShownBy b n k → IsShownBy a n k
shown_before a b n k later le s =
    let same : b.history ≡ a.history = is_whole a.history b.history later.history le in
    let in_b = s.within in
    let long : length b.history ≡ length a.history = ap (λ (h : List Entry). length h) same in record {
      within = omega (arith, in_b, long);
      leases = s.leases ∙ ap leases_out (ap (λ (g : GraphView). prefix_state g b.history n) later.graph ∙ ap (λ (h : List Entry). prefix_state a.graph h n) same);
    }

pub seen_later : (a b : BookView) (looks : List Look) → IsLater a b → All (WasSeenIn a) looks → All (WasSeenIn b) looks
seen_later a b looks later all = All-weaker (WasSeenIn a) (WasSeenIn b) (λ l s. shown_later a b l.shown.entries l.shown.leases later s) looks all

-- what was noted up to a last look that showed no more than a pass had seen, is shown by what the pass had seen
pub seen_at_end : (seen : BookView) (last : Extent) (looks : List Look) (n : ℕ) → n ≤ length seen.history → last.entries ≤ n → AreLooksAt seen last looks → All (WasSeenIn seen) looks
seen_at_end seen last looks n many few a =
    let entries = a.entries in
    let le : length a.top.history ≤ length seen.history = omega (arith, entries, many, few) in
    All-weaker (WasSeenIn a.top) (WasSeenIn seen) (λ l s. shown_before seen a.top l.shown.entries l.shown.leases a.later le s) looks a.shown

-- a look that was noted, or none
may_later : (a b : BookView) → IsLater a b → (o : Option Extent) → MayShow a o → MayShow b o
may_later a b later None may = tt
may_later a b later (Some e) may = shown_later a b e.entries e.leases later may

pub looks_later : (a b : BookView) (looks : List (Option Extent)) → IsLater a b → All (MayShow a) looks → All (MayShow b) looks
looks_later a b looks later all = All-weaker (MayShow a) (MayShow b) (may_later a b later) looks all

-- where nothing was noted
pub nothing_noted : (b : BookView) (n : ℕ) → All (MayShow b) (replicate n None)
nothing_noted b n = λ k d low.
    let none : Option Extent = None in
    let long : length (replicate n none) ≡ n = length-replicate n none in
    subst (MayShow b) (sym (get_or-replicate n k none d (omega (arith, long, low)))) tt

later_or_not : (b : Bool) (n found : ℕ) → found ≤ n → cond b (suc n) found ≤ suc n
later_or_not true n found le = omega arith
later_or_not false n found le = omega arith

last_in_within : (n found : ℕ) (w : WorkerId) (es : List Entry) → found ≤ n → last_in n found w es ≤ n + length es
last_in_within n found w [] le = omega arith
last_in_within n found w (e ∷ es) le =
    let rest = last_in_within (suc n) (cond (eqb e.worker.0 w.0) (suc n) found) w es (later_or_not (eqb e.worker.0 w.0) n found le) in omega (arith, rest)

-- a worker's last entry is one of the history, if it has one
pub last_within : (w : WorkerId) (h : List Entry) → last_of w h ≤ length h
last_within w h = let le = last_in_within 0 0 w h (omega arith) in omega (arith, le)

pub zeros : (xs : List ℕ) (n : ℕ) → xs ≡ replicate n 0 → xs ≡ replicate (length xs) 0
zeros xs n is = is ∙ ap (λ (m : ℕ). replicate m 0) (sym (ap (λ (l : List ℕ). length l) is ∙ length-replicate n 0))

begins_then : (xs ys zs : List Entry) → IsPrefix xs ys → IsPrefix ys zs → IsPrefix xs zs
begins_then xs ys zs p q = (p.0 ++ q.0, sym (append_assoc xs p.0 q.0) ∙ (ap (λ l. l ++ q.0) p.1 ∙ q.1))

pub later_on : (a b c : BookView) → IsLater a b → IsLater b c → IsLater a c
later_on a b c p q = record { graph = q.graph ∙ p.graph; history = begins_then a.history b.history c.history p.history q.history }

-- a board that begins
pub begun_board : (seen : BookView) (n m : ℕ) (closed : List ℕ) (noted : List (Option Extent)) (watches : List Watch) (many : ℕ)
    → IsRoomFor n closed noted watches many → m ≤ length seen.history → IsBoardOf seen n m closed noted watches many
begun_board seen n m closed noted watches many r le = record {
  few = le;
  closings = r.closings;
  len = ap (λ (l : List (Option Extent)). length l) r.looks ∙ length-replicate n None;
  shown = subst (All (MayShow seen)) (sym r.looks) (nothing_noted seen n);
  empty = r.empty;
  room = r.room;
}
