-- A unit whose work was done was closed by one entry, and any other by none.
use Rattle.std.proofs.Common.{◌≡◌, ◌≢◌, ℕ, ◌==◌, Bool, true, false, cond, List, [], ◌∷◌, Option, Some, None, refl, sym, ap, ◌∙◌, subst, inl, inr}
use Rattle.std.specs.List.{AllByRecursion}
use Rattle.lock_journal.specs.Names.{Change, Mark, Waiting, Passed, Failed, UnitOf, Fits, opening_of, GraphView, StateView, mark_of, Kind, Close}
use Rattle.lock_journal.specs.Names.{Unblock, IsKindOf, lawful_from, Lawful, closing_of, where_finished, closings, last_or, outcome_in, Entry, effect}
use Rattle.lock_journal.specs.Names.{replay, has_passed, mark_from, IsDone}
use Rattle.item_actions.specs.declared.outcomes.Outcome.{Outcome}
use Rattle.item_actions.specs.declared.outcomes.Outcome.TheVariants.{Number, Digest, Skipped as NotRun}
use Rattle.item_actions.specs.Value.{passes}
use Rattle.lock_journal.specs.Closing.{IsClosedOnce}
use Rattle.lock_journal.proofs.lemmas.Fitting.{apart_of}
use Rattle.lock_journal.proofs.History.{ClosedAs}
use Rattle.lock_journal.proofs.Ranges.{each-append}
use Rattle.lock_journal.proofs.Runs.{holds_after}

-- no entry that is allowed carries the outcome of a unit that never ran
abbrev Ran : Outcome → Type 0
Ran o = o ≢ NotRun

ran_if : (b : Bool) (o : Outcome) → o ≢ NotRun → AllByRecursion Ran (cond b (o ∷ []) [])
ran_if true o ran = (ran, tt)
ran_if false o ran = tt

kind_ran : (g : GraphView) (u : ℕ) (k : Kind) → IsKindOf g k → AllByRecursion Ran (closing_of u k)
kind_ran g u (Close d) is = ran_if (d.unit == u) d.outcome is.1
kind_ran g u (Unblock (Some d)) is = ran_if (d.unit == u) d.outcome is.1
kind_ran g u _ is = tt

entry_ran : (g : GraphView) (u : ℕ) (k : Kind) (o : Option (List Change)) → IsKindOf g k → AllByRecursion Ran (where_finished o (closing_of u k))
entry_ran g u k None is = tt
entry_ran g u k (Some cs) is = kind_ran g u k is

closings_ran : (g : GraphView) (s : StateView) (h : List Entry) (u : ℕ) → lawful_from g s h → AllByRecursion Ran (closings h u)
closings_ran g s [] u lawful = tt
closings_ran g s (e ∷ h) u lawful = each-append Ran (where_finished e.changes (closing_of u e.kind)) (closings h u) (entry_ran g u e.kind e.changes lawful.0.kind) (closings_ran g (effect s e) h u lawful.1)

mark_from_passing : (o : Outcome) → passes o ≡ true → Passed ≡ mark_from o
mark_from_passing (Number n) e = refl
mark_from_passing (Digest d) e = refl
mark_from_passing _ e = absurd (cc)

mark_from_failing : (o : Outcome) → passes o ≡ false → Failed ≡ mark_from o
mark_from_failing (Number n) e = absurd (cc)
mark_from_failing (Digest d) e = absurd (cc)
mark_from_failing _ e = refl

closed_with : (g : GraphView) (h : List Entry) (u : ℕ) (m : Mark) (o : Outcome) → Lawful g h → mark_of (replay g h) (UnitOf u) ≡ m → closings h u ≡ o ∷ [] → m ≡ mark_from o → has_passed m ≡ passes o → IsClosedOnce g h u
closed_with g h u m o lawful is closed from passed =
    let out : outcome_in h u ≡ o = ap (last_or NotRun) closed in
    record {
      once = closed ∙ ap (λ p. p ∷ []) (sym out);
      ran = subst Ran (sym out) (subst (AllByRecursion Ran) closed (closings_ran g (opening_of g) h u lawful)).0;
      mark = is ∙ (from ∙ ap mark_from (sym out));
      passed = ap has_passed is ∙ (passed ∙ ap passes (sym out));
    }

pub closed_once : (g : GraphView) (h : List Entry) (u : ℕ) → Fits g → Lawful g h → IsDone (mark_of (replay g h) (UnitOf u)) → IsClosedOnce g h u
closed_once g h u fits lawful done = at done ((holds_after g h (apart_of g fits) lawful).recorded.closed u)
  where
    at : IsDone (mark_of (replay g h) (UnitOf u)) → ClosedAs (closings h u) (mark_of (replay g h) (UnitOf u)) → IsClosedOnce g h u
    at (inl e) c = let p = subst (ClosedAs (closings h u)) e c in closed_with g h u Passed p.0 lawful e p.1 (mark_from_passing p.0 p.2) (sym p.2)
    at (inr e) c = let p = subst (ClosedAs (closings h u)) e c in closed_with g h u Failed p.0 lawful e p.1 (mark_from_failing p.0 p.2) (sym p.2)

none_closed : (os : List Outcome) (m : Mark) → ClosedAs os m → m ≢ Passed → m ≢ Failed → os ≡ []
none_closed os Passed c not_passed not_failed = absurd (not_passed refl)
none_closed os Failed c not_passed not_failed = absurd (not_failed refl)
none_closed os Waiting c not_passed not_failed = c
none_closed os _ c not_passed not_failed = c

pub never_closed : (g : GraphView) (h : List Entry) (u : ℕ) → Fits g → Lawful g h → mark_of (replay g h) (UnitOf u) ≢ Passed → mark_of (replay g h) (UnitOf u) ≢ Failed → closings h u ≡ []
never_closed g h u fits lawful not_passed not_failed = none_closed (closings h u) (mark_of (replay g h) (UnitOf u)) ((holds_after g h (apart_of g fits) lawful).recorded.closed u) not_passed not_failed
