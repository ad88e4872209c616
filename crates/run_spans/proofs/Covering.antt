-- A span covers an entry exactly where what it tells holds after the entry.
use Rattle.std.proofs.Common.{◌≡◌, ℕ, ◌+◌, ◌<◌, ◌≤◌, suc, zero, Bool, true, false, cond, List, [], ◌∷◌, ◌++◌, length, take, drop, Option, Some, None, inl, inr, refl, sym, ap, subst, ◌∙◌, append_assoc, arith}
use Rattle.std.specs.Prelude.{nat_eq}
use Rattle.std.specs.List.{AllByRecursion}
use Rattle.std.proofs.lemmas.Bool.{eqb-true, eq-eqb}
use Rattle.lock_journal.specs.Names.{WorkerId, Change, Entry}
use Rattle.run_spans.specs.Steps.{Step, changes_in, steps_of, steps_from}
use Rattle.run_spans.specs.Subjects.{begins, key_of}
use Rattle.run_spans.specs.Spans.{first_saying, step_key, span_with, spans_in, spans_of}
use Rattle.run_spans.specs.Covering.{holder, holder_after, Covers, Covered}
use Rattle.run_spans.specs.declared.spans.Saying.{Saying}
use Rattle.run_spans.specs.declared.spans.Span.{Span}
use Rattle.run_spans.proofs.Sayings.{AreUpTo, AreBehind, silent, heard, said_within, said_behind, said_before}

-- the fields of a span, however it ends
from_of : (end : ℕ) (x : Step) (o : Option Saying) → (span_with end x o).from ≡ x.entry
from_of end x None = refl
from_of end x (Some s) = refl

key_is : (end : ℕ) (x : Step) (o : Option Saying) → key_of (span_with end x o).subject ≡ step_key x
key_is end x None = refl
key_is end x (Some s) = refl

worker_is : (end : ℕ) (x : Step) (o : Option Saying) → (span_with end x o).worker ≡ x.worker
worker_is end x None = refl
worker_is end x (Some s) = refl

abbrev until_or : ℕ → Option Saying → ℕ
until_or end None = end
until_or end (Some s) = s.entry

until_is : (end : ℕ) (x : Step) (o : Option Saying) → (span_with end x o).until ≡ until_or end o
until_is end x None = refl
until_is end x (Some s) = refl

-- no span of later steps covers an entry
later_here : (b : Bool) (q : ℕ) (w : WorkerId) (k : ℕ) (s : Span) (ss : List Span) → k < s.from → (Covered q w k ss → ⊥) → Covered q w k (cond b (s ∷ ss) ss) → ⊥
later_here true q w k s ss late more (inl c) = omega (arith, late, c.from)
later_here true q w k s ss late more (inr c) = more c
later_here false q w k s ss late more c = more c

none_later : (end k : ℕ) (q : ℕ) (w : WorkerId) (xs : List Step) → AreBehind k xs → Covered q w k (spans_in end xs) → ⊥
none_later end k q w [] all c = c
none_later end k q w (x ∷ xs) all c =
    let o = first_saying xs (step_key x) in
    later_here (begins x.change) q w k (span_with end x o) (spans_in end xs) (subst (λ n. k < n) (sym (from_of end x o)) all.0) (none_later end k q w xs all.1) c

-- one step more in front
turn_to : (b e : Bool) (s : Span) (ss : List Span) (xs : List Step) (q k : ℕ) (v w : WorkerId)
    → (Covered q w k ss → holder xs q None ≡ Some w)
    → (b ≡ true → e ≡ false → Covers q w k s → ⊥)
    → (b ≡ true → e ≡ true → Covered q w k (s ∷ ss) → holder xs q (Some v) ≡ Some w)
    → Covered q w k (cond b (s ∷ ss) ss) → holder xs q (cond e (cond b (Some v) None) None) ≡ Some w
turn_to true true s ss xs q k v w rest other own c = own refl refl c
turn_to true false s ss xs q k v w rest other own (inl c) = absurd (other refl refl c)
turn_to true false s ss xs q k v w rest other own (inr c) = rest c
turn_to false true s ss xs q k v w rest other own c = rest c
turn_to false false s ss xs q k v w rest other own c = rest c

turn_back : (b e : Bool) (s : Span) (ss : List Span) (xs : List Step) (q k : ℕ) (v w : WorkerId)
    → (holder xs q None ≡ Some w → Covered q w k ss)
    → (b ≡ true → e ≡ true → holder xs q (Some v) ≡ Some w → Covered q w k (s ∷ ss))
    → holder xs q (cond e (cond b (Some v) None) None) ≡ Some w → Covered q w k (cond b (s ∷ ss) ss)
turn_back true true s ss xs q k v w rest own h = own refl refl h
turn_back true false s ss xs q k v w rest own h = inr (rest h)
turn_back false true s ss xs q k v w rest own h = rest h
turn_back false false s ss xs q k v w rest own h = rest h

abbrev worker_or : WorkerId → Option WorkerId → WorkerId
worker_or v None = v
worker_or v (Some w) = w

open_by : (end k q : ℕ) (ys : List Step) → AreBehind k ys → k < end → (o : Option Saying) → first_saying ys q ≡ o → k < until_or end o
open_by end k q ys behind last None is = last
open_by end k q ys behind last (Some s) is = said_within (λ n. k < n) ys q s behind is

some_worker : (v w : WorkerId) → Some v ≡ Some w → v ≡ w
some_worker v w h = ap (λ (o : Option WorkerId). worker_or v o) h

-- where it is not spoken of in some steps, it is behind them, if ever
open_until : (end k q : ℕ) (xs ys : List Step) → AreBehind k ys → k < end → first_saying xs q ≡ None → k < until_or end (first_saying (xs ++ ys) q)
open_until end k q xs ys behind last is =
    subst (λ (o : Option Saying). k < until_or end o) (sym (said_behind xs ys q is)) (open_by end k q ys behind last (first_saying ys q) refl)

own_to : (end k q : ℕ) (x : Step) (xs ys : List Step) (w : WorkerId) (a : Option Saying) → first_saying xs q ≡ a → q ≡ step_key x
    → AreUpTo k xs → (Covered q w k (spans_in end (xs ++ ys)) → holder xs q None ≡ Some w)
    → Covered q w k (span_with end x (first_saying (xs ++ ys) (step_key x)) ∷ spans_in end (xs ++ ys)) → holder xs q (Some x.worker) ≡ Some w
own_to end k q x xs ys w None is same upto rest (inl c) =
    silent xs q (Some x.worker) is ∙ ap (λ (v : WorkerId). Some v) (sym (worker_is end x (first_saying (xs ++ ys) (step_key x))) ∙ c.worker)
own_to end k q x xs ys w None is same upto rest (inr c) =
    let none : None ≡ Some w = sym (silent xs q None is) ∙ rest c in absurd (cc)
own_to end k q x xs ys w (Some s) is same upto rest (inl c) =
    let here : first_saying (xs ++ ys) (step_key x) ≡ Some s = ap (first_saying (xs ++ ys)) (sym same) ∙ said_before xs ys q s is in
    let ends : (span_with end x (first_saying (xs ++ ys) (step_key x))).until ≡ s.entry = until_is end x (first_saying (xs ++ ys) (step_key x)) ∙ ap (until_or end) here in
    let within : s.entry ≤ k = said_within (λ n. n ≤ k) xs q s upto is in
    absurd (omega (arith, ends, within, c.until))
own_to end k q x xs ys w (Some s) is same upto rest (inr c) = heard xs q s (Some x.worker) None is ∙ rest c

own_back : (end k q : ℕ) (x : Step) (xs ys : List Step) (w : WorkerId) (a : Option Saying) → first_saying xs q ≡ a → q ≡ step_key x
    → x.entry ≤ k → AreBehind k ys → k < end → (holder xs q None ≡ Some w → Covered q w k (spans_in end (xs ++ ys)))
    → holder xs q (Some x.worker) ≡ Some w → Covered q w k (span_with end x (first_saying (xs ++ ys) (step_key x)) ∷ spans_in end (xs ++ ys))
own_back end k q x xs ys w None is same here behind last rest h =
    let o = first_saying (xs ++ ys) (step_key x) in
    let mine : x.worker ≡ w = some_worker x.worker w (sym (silent xs q (Some x.worker) is) ∙ h) in
    let far : k < until_or end (first_saying (xs ++ ys) (step_key x)) = subst (λ n. k < until_or end (first_saying (xs ++ ys) n)) same (open_until end k q xs ys behind last is) in
    inl (record {
      subject = key_is end x o ∙ sym same;
      worker = worker_is end x o ∙ mine;
      from = subst (λ n. n ≤ k) (sym (from_of end x o)) here;
      until = subst (λ n. k < n) (sym (until_is end x o)) far;
    })
own_back end k q x xs ys w (Some s) is same here behind last rest h = inr (rest (heard xs q s None (Some x.worker) is ∙ h))

other_key : (end k q : ℕ) (x : Step) (o : Option Saying) (w : WorkerId) → nat_eq q (step_key x) ≡ false → Covers q w k (span_with end x o) → ⊥
other_key end k q x o w e c =
    let yes : nat_eq q (step_key x) ≡ true = eq-eqb q (step_key x) (sym c.subject ∙ key_is end x o) in
    absurd (cc)

-- steps up to an entry, and those behind it
pub covered_then : (end k q : ℕ) (w : WorkerId) (xs ys : List Step) → AreUpTo k xs → AreBehind k ys → k < end
    → Covered q w k (spans_in end (xs ++ ys)) → holder xs q None ≡ Some w
covered_then end k q w [] ys upto behind last c = absurd (none_later end k q w ys behind c)
covered_then end k q w (x ∷ xs) ys upto behind last c =
    let rest = covered_then end k q w xs ys upto.1 behind last in
    turn_to (begins x.change) (nat_eq q (step_key x)) (span_with end x (first_saying (xs ++ ys) (step_key x))) (spans_in end (xs ++ ys)) xs q k x.worker w rest
    (λ b e. other_key end k q x (first_saying (xs ++ ys) (step_key x)) w e)
    (λ b e. own_to end k q x xs ys w (first_saying xs q) refl (eqb-true q (step_key x) e) upto.1 rest)
    c

pub held_then : (end k q : ℕ) (w : WorkerId) (xs ys : List Step) → AreUpTo k xs → AreBehind k ys → k < end
    → holder xs q None ≡ Some w → Covered q w k (spans_in end (xs ++ ys))
held_then end k q w [] ys upto behind last h = absurd (cc)
held_then end k q w (x ∷ xs) ys upto behind last h =
    let rest = held_then end k q w xs ys upto.1 behind last in
    turn_back (begins x.change) (nat_eq q (step_key x)) (span_with end x (first_saying (xs ++ ys) (step_key x))) (spans_in end (xs ++ ys)) xs q k x.worker w rest
    (λ b e. own_back end k q x xs ys w (first_saying xs q) refl (eqb-true q (step_key x) e) upto.0 behind last rest)
    h

-- the steps of one entry are at it
at_entry : (P : ℕ → Type 0) (n : ℕ) (w : WorkerId) (cs : List Change) → P n → AllByRecursion (λ x. P x.entry) (steps_of n w cs)
at_entry P n w [] h = tt
at_entry P n w (c ∷ cs) h = (h, at_entry P n w cs h)

all_both : (P : Step → Type 0) (xs ys : List Step) → AllByRecursion P xs → AllByRecursion P ys → AllByRecursion P (xs ++ ys)
all_both P [] ys a b = b
all_both P (x ∷ xs) ys a b = (a.0, all_both P xs ys a.1 b)

from_on : (k n : ℕ) (es : List Entry) → k < n → AreBehind k (steps_from n es)
from_on k n [] h = tt
from_on k n (e ∷ es) h =
    all_both (λ x. k < x.entry) (steps_of n e.worker (changes_in e.changes)) (steps_from (n + 1) es)
    (at_entry (λ m. k < m) n e.worker (changes_in e.changes) h) (from_on k (n + 1) es (omega (arith, h)))

up_to : (k m n : ℕ) (es : List Entry) → n + m ≤ k + 1 → AreUpTo k (steps_from n (take m es))
up_to k zero n es h = tt
up_to k (suc m) n [] h = tt
up_to k (suc m) n (e ∷ es) h =
    all_both (λ x. x.entry ≤ k) (steps_of n e.worker (changes_in e.changes)) (steps_from (n + 1) (take m es))
    (at_entry (λ i. i ≤ k) n e.worker (changes_in e.changes) (omega (arith, h))) (up_to k m (n + 1) es (omega (arith, h)))

split_at : (k n : ℕ) (es : List Entry) → steps_from n es ≡ steps_from n (take k es) ++ steps_from (n + k) (drop k es)
split_at zero n es = ap (λ m. steps_from m es) (omega arith)
split_at (suc k) n [] = refl
split_at (suc k) n (e ∷ es) =
    let next : n + 1 + k ≡ n + suc k = omega arith in
    ap (λ l. steps_of n e.worker (changes_in e.changes) ++ l) (split_at k (n + 1) es ∙ ap (λ m. steps_from (n + 1) (take k es) ++ steps_from m (drop k es)) next)
    ∙ sym (append_assoc (steps_of n e.worker (changes_in e.changes)) (steps_from (n + 1) (take k es)) (steps_from (n + suc k) (drop k es)))

pub covered_holds : (es : List Entry) (k q : ℕ) (w : WorkerId) → k ≤ length es → Covered q w k (spans_of es) → holder_after es k q ≡ Some w
covered_holds es k q w within c =
    covered_then (length es + 1) k q w (steps_from 1 (take k es)) (steps_from (1 + k) (drop k es)) (up_to k k 1 es (omega arith))
    (from_on k (1 + k) (drop k es) (omega arith)) (omega (arith, within))
    (subst (λ xs. Covered q w k (spans_in (length es + 1) xs)) (split_at k 1 es) c)

pub holds_covered : (es : List Entry) (k q : ℕ) (w : WorkerId) → k ≤ length es → holder_after es k q ≡ Some w → Covered q w k (spans_of es)
holds_covered es k q w within h =
    subst (λ xs. Covered q w k (spans_in (length es + 1) xs)) (sym (split_at k 1 es))
    (held_then (length es + 1) k q w (steps_from 1 (take k es)) (steps_from (1 + k) (drop k es)) (up_to k k 1 es (omega arith))
    (from_on k (1 + k) (drop k es) (omega arith)) (omega (arith, within)) h)
