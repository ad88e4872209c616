-- Whether a unit is queued, from the lowest that is.
use Rattle.std.proofs.Common.{◌≡◌, ℕ, zero, suc, ◌<◌, Bool, true, false, List, [], ◌∷◌, length, get_or, Option, None, Some, refl, sym, arith}
use Rattle.std.specs.Prelude.{◌||◌, IfNone, IfSome}
use Rattle.std.specs.List.{list_any}
use Rattle.std.specs.Option.{is_some}
use Rattle.resource_lock.specs.Change.{same_mark}
use Rattle.resource_lock.specs.GraphView.{GraphView}
use Rattle.resource_lock.specs.Shape.{BelongsTo}
use Rattle.resource_lock.specs.StateView.{StateView}
use Rattle.resource_lock.specs.declared.marks.Mark.{Mark}
use Rattle.resource_lock.specs.declared.marks.Mark.TheVariants.{Waiting, Queued, Running, Passed, Failed, Skipped}
use Rattle.ready_work.specs.Choices.{IsQueued, has_queued}
use Rattle.ready_work.specs.Lowest.{IsLowest, IsNone}

is_queued_mark : (m : Mark) → same_mark m Queued ≡ true → m ≡ Queued
is_queued_mark Waiting is = absurd (cc is)
is_queued_mark Queued is = refl
is_queued_mark (Running w) is = absurd (cc is)
is_queued_mark Passed is = absurd (cc is)
is_queued_mark Failed is = absurd (cc is)
is_queued_mark Skipped is = absurd (cc is)

-- one of the marks is queued, which is that at a place
some_queued : (marks : List Mark) (u : ℕ) → u < length marks → get_or marks u Waiting ≡ Queued → list_any (λ m. same_mark m Queued) marks ≡ true
some_queued [] u lt is = absurd (omega arith)
some_queued (m ∷ marks) zero lt is = rw is refl
some_queued (m ∷ marks) (suc u) lt is = or_true (same_mark m Queued) (some_queued marks u (omega arith) is)
  where
    or_true : (b : Bool) {c : Bool} → c ≡ true → (b || c) ≡ true
    or_true true is = refl
    or_true false is = is

-- and the other way round
none_queued : (marks : List Mark) → ((u : ℕ) → u < length marks → get_or marks u Waiting ≡ Queued → ⊥) → list_any (λ m. same_mark m Queued) marks ≡ false
none_queued [] none = refl
none_queued (m ∷ marks) none = at (same_mark m Queued) (λ is. none zero (omega arith) (is_queued_mark m is)) (none_queued marks (λ u lt is. none (suc u) (omega arith) is))
  where
    at : (b : Bool) {c : Bool} → (b ≡ true → ⊥) → c ≡ false → (b || c) ≡ false
    at true not' rest = absurd (not' refl)
    at false not' rest = rest

-- a unit is queued exactly where there is a lowest that is
pub queued_by_lowest : (g : GraphView) (s : StateView) (found : Option ℕ) → BelongsTo g s → IfSome found (IsLowest (IsQueued g s)) → IfNone found (IsNone (IsQueued g s)) → is_some found ≡ has_queued s
queued_by_lowest g s None belongs some none = sym (none_queued s.units (λ u lt is. none.none u (record { within = let same = belongs.units in omega arith; queued = is })))
queued_by_lowest g s (Some u) belongs some none = sym (some_queued s.units u (let within = some.is.within in let same = belongs.units in omega arith) some.is.queued)
