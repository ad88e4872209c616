-- No change of one worker changes what another has.
use Rattle.std.proofs.Common.{◌≡◌, ℕ, List, true, false, not, ◌&&◌, eqb, refl, sym, ◌∙◌, ap, None, Some, inl, inr, get_or, set}
use Rattle.std.specs.Option.{is_none}
use Rattle.std.proofs.lemmas.Bool.{and_parts, eqb-true, ne_eqb}
use Rattle.std.proofs.lemmas.List.{get_or-set_other}
use Rattle.resource_lock.proofs.lemmas.Lists.{get_or-set_cases}
use Rattle.resource_lock.proofs.lemmas.Undo.{same_lock, same_mark_is, none_from, owner_from}
use Rattle.resource_lock.specs.StateView.{StateView, Holding, empty_holding, holding_of, owner_of, owns, kept_from, is_owner, mark_of, has_parked, runs_by}
use Rattle.resource_lock.specs.Change.{same_mark, names_only, can, make, holding_after, with_holding}
use Rattle.resource_lock.specs.declared.ids.LockId.{LockId}
use Rattle.resource_lock.specs.declared.ids.WorkerId.{WorkerId}
use Rattle.resource_lock.specs.declared.marks.Mark.{Mark}
use Rattle.resource_lock.specs.declared.marks.Mark.TheVariants.{Waiting, Queued, Running, Passed, Failed, Skipped}
use Rattle.resource_lock.specs.declared.marks.MarkId.{MarkId}
use Rattle.resource_lock.specs.declared.marks.MarkId.TheVariants.{Task as TaskOf, Action as ActionOf, Unit as UnitOf}
use Rattle.resource_lock.specs.declared.changes.Change.{Change}
use Rattle.resource_lock.specs.declared.changes.Change.TheVariants.{Lock, Unlock, Take, Give, Move, Park, Unpark, Enter, Leave}

-- what a worker has is the same in two states: its holding, its locks, and the marks that it runs
pub record SameFor (w : WorkerId) (s t : StateView) : Type 0 where
  pub holding : holding_of t w ≡ holding_of s w
  pub owns : (l : LockId) → owns t w l ≡ owns s w l
  pub runs : (m : MarkId) → runs_by w (mark_of t m) ≡ runs_by w (mark_of s m)

apart : (v w : WorkerId) → (w.0 ≡ v.0 → ⊥) → eqb v.0 w.0 ≡ false
apart v w other = ne_eqb v.0 w.0 (λ e. other (sym e))

other_holding : (s : StateView) (v w : WorkerId) (h : Holding) → (w.0 ≡ v.0 → ⊥) → SameFor w s (with_holding s v h)
other_holding s v w h other = record { holding = get_or-set_other s.holdings v.0 w.0 h empty_holding other; owns = λ l. refl; runs = λ m. refl }

-- a mark that is written, and was, doesn't run by another
pub not_running : (v w : WorkerId) (m : Mark) → (w.0 ≡ v.0 → ⊥) → names_only m v ≡ true → runs_by w m ≡ false
not_running v w (Running u) other h = ne_eqb u.0 w.0 (λ e. other (sym e ∙ eqb-true u.0 v.0 h))
not_running v w Waiting other h = refl
not_running v w Queued other h = refl
not_running v w Passed other h = refl
not_running v w Failed other h = refl
not_running v w Skipped other h = refl

marks_other : (marks : List Mark) (i j : ℕ) (v w : WorkerId) (from to : Mark) → (w.0 ≡ v.0 → ⊥) → get_or marks i Waiting ≡ from → names_only from v ≡ true → names_only to v ≡ true
    → runs_by w (get_or (set marks i to) j Waiting) ≡ runs_by w (get_or marks j Waiting)
marks_other marks i j v w from to other is old new = elim (get_or-set_cases marks i j to Waiting) [
  | inl at ↦ ap (runs_by w) at.1 ∙ not_running v w to other new
      ∙ sym (ap (λ k. runs_by w (get_or marks k Waiting)) at.0 ∙ ap (runs_by w) is ∙ not_running v w from other old)
  | inr off ↦ ap (runs_by w) off
]

moved_others : (s : StateView) (v w : WorkerId) (m : MarkId) (from to : Mark) → (w.0 ≡ v.0 → ⊥) → mark_of s m ≡ from → names_only from v ≡ true → names_only to v ≡ true → SameFor w s (make s v (Move m from to))
moved_others s v w (TaskOf t) from to other is old new = record {
  holding = refl;
  owns = λ l. refl;
  runs = elim [ TaskOf k ↦ marks_other s.tasks t k v w from to other is old new | ActionOf k ↦ refl | UnitOf k ↦ refl ];
}
moved_others s v w (ActionOf t) from to other is old new = record {
  holding = refl;
  owns = λ l. refl;
  runs = elim [ TaskOf k ↦ refl | ActionOf k ↦ marks_other s.actions t k v w from to other is old new | UnitOf k ↦ refl ];
}
moved_others s v w (UnitOf t) from to other is old new = record {
  holding = refl;
  owns = λ l. refl;
  runs = elim [ TaskOf k ↦ refl | ActionOf k ↦ refl | UnitOf k ↦ marks_other s.units t k v w from to other is old new ];
}

-- a change of worker v keeps what worker w has
pub others_keep : (s : StateView) (v w : WorkerId) (c : Change) → (w.0 ≡ v.0 → ⊥) → can s v c ≡ true → SameFor w s (make s v c)
others_keep s v w (Lock l) other h =
    let free : owner_of s l ≡ None = none_from (owner_of s l) (and_parts (is_none (owner_of s l)) (not (kept_from s v l)) (and_parts (is_none (owner_of s l) && not (kept_from s v l)) (not (has_parked s v l)) h).0).0 in
    record {
      holding = refl;
      owns = λ k. elim (get_or-set_cases s.owners l.0 k.0 (Some v) None) [
        | inl at ↦ ap (λ o. is_owner o w) at.1 ∙ apart v w other ∙ sym (ap (λ x. owns s w x) (same_lock k l at.0) ∙ ap (λ o. is_owner o w) free)
        | inr off ↦ ap (λ o. is_owner o w) off
      ];
      runs = λ m. refl;
    }
others_keep s v w (Unlock l) other h = record {
  holding = refl;
  owns = λ k. elim (get_or-set_cases s.owners l.0 k.0 None None) [
    | inl at ↦ ap (λ o. is_owner o w) at.1 ∙ sym (ap (λ x. owns s w x) (same_lock k l at.0) ∙ ap (λ o. is_owner o w) (owner_from (owner_of s l) v h) ∙ apart v w other)
    | inr off ↦ ap (λ o. is_owner o w) off
  ];
  runs = λ m. refl;
}
others_keep s v w Take other h = other_holding s v w (holding_after (holding_of s v) Take) other
others_keep s v w Give other h = other_holding s v w (holding_after (holding_of s v) Give) other
others_keep s v w (Park l) other h = other_holding s v w (holding_after (holding_of s v) (Park l)) other
others_keep s v w (Unpark l) other h = other_holding s v w (holding_after (holding_of s v) (Unpark l)) other
others_keep s v w Enter other h = other_holding s v w (holding_after (holding_of s v) Enter) other
others_keep s v w Leave other h = other_holding s v w (holding_after (holding_of s v) Leave) other
others_keep s v w (Move m from to) other h =
    let first : ((same_mark (mark_of s m) from && not (same_mark from to) && names_only from v) ≡ true) × (names_only to v ≡ true) = and_parts _ (names_only to v) h in
    let second : ((same_mark (mark_of s m) from && not (same_mark from to)) ≡ true) × (names_only from v ≡ true) = and_parts _ (names_only from v) first.0 in
    let is : mark_of s m ≡ from = same_mark_is (mark_of s m) from (and_parts _ (not (same_mark from to)) second.0).0 in
    moved_others s v w m from to other is second.1 first.1
