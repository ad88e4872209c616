-- The spans of a history: each begins with a step that says that its subject holds, and ends with the next step that says something of it.
use Rattle.std.specs.Prelude.{ℕ, ◌+◌, nat_eq, List, [], ◌∷◌, length, Option, None, Some, if◌then◌else◌}
use Rattle.lock_transforms.specs.Entry.{Entry}
use Rattle.run_spans.specs.Steps.{Step, steps_from}
use Rattle.run_spans.specs.Subjects.{subject_of, begins, mark_left, key_of}
use Rattle.run_spans.specs.declared.spans.Saying.{Saying}
use Rattle.run_spans.specs.declared.spans.Span.{Span}

abbrev pub step_key : Step → ℕ
step_key x = key_of (subject_of x.worker x.change)

abbrev pub saying : Step → Saying
saying x = record { entry = x.entry; mark = mark_left x.change }

-- the first step that says something of the subject with this key
abbrev pub first_saying : List Step → ℕ → Option Saying
first_saying [] q = None
first_saying (x ∷ xs) q = if nat_eq q (step_key x) then Some (saying x) else first_saying xs q

-- the span that a step begins, by what is said next; without that it goes on to the end
abbrev pub span_with : ℕ → Step → Option Saying → Span
span_with end x None = record { subject = subject_of x.worker x.change; worker = x.worker; from = x.entry; until = end; mark = mark_left x.change }
span_with end x (Some s) = record { subject = subject_of x.worker x.change; worker = x.worker; from = x.entry; until = s.entry; mark = s.mark }

-- those of some steps, where the number behind the last entry is end
abbrev pub spans_in : ℕ → List Step → List Span
spans_in end [] = []
spans_in end (x ∷ xs) =
    if begins x.change then span_with end x (first_saying xs (step_key x)) ∷ spans_in end xs
    else spans_in end xs

abbrev pub spans_of : List Entry → List Span
spans_of es = spans_in (length es + 1) (steps_from 1 es)
