-- The spans of a history stand in the order in which they begin.
use Rattle.std.proofs.Common.{◌≡◌, ◌≤◌, ℕ, ◌+◌, List, [], ◌∷◌, ◌++◌, Bool, true, false, cond, None, Some, refl, sym, subst, arith}
use Rattle.std.specs.Prelude.{Option, length}
use Rattle.resource_lock.specs.declared.ids.WorkerId.{WorkerId}
use Rattle.resource_lock.specs.declared.changes.Change.{Change}
use Rattle.lock_transforms.specs.Entry.{Entry}
use Rattle.run_spans.specs.Spans.{spans_in, spans_of, span_with, first_saying, step_key}
use Rattle.run_spans.specs.Steps.{Step, steps_of, steps_from, changes_in}
use Rattle.run_spans.specs.Subjects.{begins}
use Rattle.run_spans.specs.declared.spans.Span.{Span}
use Rattle.picture_layout.specs.Panels.{Rising}

pub rising_lower : (m n : ℕ) (ss : List Span) → m ≤ n → Rising n ss → Rising m ss
rising_lower m n [] less r = tt
rising_lower m n (s ∷ ss) less r = (omega (arith, less, r.0), r.1)

abbrev RisingSteps : ℕ → List Step → Type 0
RisingSteps n [] = Unit {0}
RisingSteps n (x ∷ xs) = (n ≤ x.entry) × RisingSteps x.entry xs

steps_lower : (m n : ℕ) (xs : List Step) → m ≤ n → RisingSteps n xs → RisingSteps m xs
steps_lower m n [] less r = tt
steps_lower m n (x ∷ xs) less r = (omega (arith, less, r.0), r.1)

entry_rises : (n : ℕ) (w : WorkerId) (cs : List Change) (ys : List Step) → RisingSteps n ys → RisingSteps n (steps_of n w cs ++ ys)
entry_rises n w [] ys r = r
entry_rises n w (c ∷ cs) ys r = (omega arith, entry_rises n w cs ys r)

steps_rise : (n : ℕ) (es : List Entry) → RisingSteps n (steps_from n es)
steps_rise n [] = tt
steps_rise n (e ∷ es) = entry_rises n e.worker (changes_in e.changes) (steps_from (n + 1) es) (steps_lower n (n + 1) (steps_from (n + 1) es) (omega arith) (steps_rise (n + 1) es))

begun_at : (end : ℕ) (x : Step) (o : Option _) → (span_with end x o).from ≡ x.entry
begun_at end x None = refl
begun_at end x (Some s) = refl

one_rises : (b : Bool) (n m : ℕ) (s : Span) (ss : List Span) → s.from ≡ m → n ≤ m → Rising m ss → Rising n (cond b (s ∷ ss) ss)
one_rises true n m s ss at less r = (omega (arith, at, less), subst (λ k. Rising k ss) (sym at) r)
one_rises false n m s ss at less r = rising_lower n m ss less r

spans_rise : (end n : ℕ) (xs : List Step) → RisingSteps n xs → Rising n (spans_in end xs)
spans_rise end n [] r = tt
spans_rise end n (x ∷ xs) r =
    let o = first_saying xs (step_key x) in
    one_rises (begins x.change) n x.entry (span_with end x o) (spans_in end xs) (begun_at end x o) r.0 (spans_rise end x.entry xs r.1)

pub spans_of_rise : (es : List Entry) → Rising 1 (spans_of es)
spans_of_rise es = spans_rise (length es + 1) 1 (steps_from 1 es) (steps_rise 1 es)
