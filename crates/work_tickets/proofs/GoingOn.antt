-- A push and a pop let the line go on.
use Rattle.std.proofs.Common.{◌≡◌, ℕ, suc, List, [], ◌∷◌, ◌++◌, length, refl, sym, subst, arith, append_assoc, length-append}
use mathlib.Core.List.{IsPrefix}
use Rattle.work_tickets.specs.Lines.{GoesOn, line_of, pushed}
use Rattle.work_tickets.specs.declared.rule.Line.{Line}
use Rattle.work_tickets.proofs.Beginnings.{prefix_self, prefix_trans}

pub goes_on_self : (line : Line) → GoesOn line line
goes_on_self line = record { popped = prefix_self line.popped; pushed = prefix_self (pushed line) }

pub goes_on_trans : (old now new : Line) → GoesOn old now → GoesOn now new → GoesOn old new
goes_on_trans old now new a b = record {
  popped = prefix_trans old.popped now.popped new.popped a.popped b.popped;
  pushed = prefix_trans (pushed old) (pushed now) (pushed new) a.pushed b.pushed;
}

pub pushed_on : (popped queued : List ℕ) (x : ℕ) → GoesOn (line_of popped queued) (line_of popped (queued ++ x ∷ []))
pushed_on popped queued x = record { popped = prefix_self popped; pushed = (x ∷ [], append_assoc popped queued (x ∷ [])) }

pub popped_on : (popped rest : List ℕ) (x : ℕ) → GoesOn (line_of popped (x ∷ rest)) (line_of (popped ++ x ∷ []) rest)
popped_on popped rest x = record {
  popped = (x ∷ [], refl);
  pushed = subst (λ l. IsPrefix (popped ++ x ∷ rest) l) (sym (append_assoc popped (x ∷ []) rest)) (prefix_self (popped ++ x ∷ rest));
}

-- a push makes one place more, and a pop none
pub place_more : (popped queued : List ℕ) (x : ℕ) → length (popped ++ (queued ++ x ∷ [])) ≡ suc (length (popped ++ queued))
place_more popped queued x = omega (arith, length-append popped (queued ++ x ∷ []), length-append queued (x ∷ []), length-append popped queued)

pub places_same : (popped rest : List ℕ) (x : ℕ) → length ((popped ++ x ∷ []) ++ rest) ≡ length (popped ++ x ∷ rest)
places_same popped rest x = omega (arith, length-append (popped ++ x ∷ []) rest, length-append popped (x ∷ []), length-append popped (x ∷ rest))

pub popped_more : (popped : List ℕ) (x : ℕ) → length (popped ++ x ∷ []) ≡ suc (length popped)
popped_more popped x = omega (arith, length-append popped (x ∷ []))
