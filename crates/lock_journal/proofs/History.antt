-- What the entries so far say of the marks: how often a task was started or skipped and a unit claimed, and how it was closed.
use Rattle.std.proofs.Common.{◌≡◌, ℕ, ◌+◌, ◌==◌, ◌⊎◌, Bool, true, false, cond, List, [], ◌∷◌, ◌++◌, None, Some, refl, sym, ap, ◌∙◌, subst, inl, inr, arith, append-nil}
use Rattle.std.proofs.lemmas.Bool.{cases_eq, eq-eqb, ne_eqb}
use Rattle.std.proofs.lemmas.List.Sums.{sum_by-append}
use Rattle.lock_journal.specs.Names.{Change, WorkerId, Mark, Waiting, Queued, Running, Passed, Failed, Skipped, MarkId, TaskOf, UnitOf, GraphView}
use Rattle.lock_journal.specs.Names.{action_of, IsItemOf, IsFetchOf, first_item, StateView, mark_of, Kind, Start, Skip, Submit, Claim, Close, Block}
use Rattle.lock_journal.specs.Names.{Unblock, End, closing_of, closings, Entry, end_mark, mark_from}
use Rattle.resource_lock.specs.Ranges.{IsItem}
use Rattle.item_actions.specs.declared.outcomes.Outcome.{Outcome}
use Rattle.item_actions.specs.declared.outcomes.Outcome.TheVariants.{Number, Digest, NotThere, TooLong, Fault, NoMemory, Skipped as NotRun}
use Rattle.item_actions.specs.Value.{passes}
use Rattle.lock_journal.specs.Runs.{finished_as, times, starts, skips, claims}
use Rattle.lock_journal.proofs.Conditions.{all_passed}
use Rattle.lock_journal.proofs.lemmas.Fitting.{RangesApart}
use Rattle.lock_journal.proofs.lemmas.Growing.{closings-push}
use Rattle.lock_journal.proofs.Marks.{StaysOrMoves}
use Rattle.lock_journal.proofs.Moves.{MayMove}
use Rattle.lock_journal.proofs.Steps.{IsStep}

-- how often a task with this mark was started, or a unit with it was claimed; how often a task was skipped
abbrev pub times_begun : Mark → ℕ
times_begun (Running w) = 1
times_begun Passed = 1
times_begun Failed = 1
times_begun _ = 0

abbrev pub times_skipped : Mark → ℕ
times_skipped Skipped = 1
times_skipped _ = 0

-- how a unit with this mark was closed
abbrev pub ClosedAs : List Outcome → Mark → Type 0
ClosedAs os Passed = (o : Outcome) × (os ≡ o ∷ []) × (passes o ≡ true)
ClosedAs os Failed = (o : Outcome) × (os ≡ o ∷ []) × (passes o ≡ false)
ClosedAs os _ = os ≡ []

pub record IsRecorded (g : GraphView) (h : List Entry) (s : StateView) : Type 0 where
  pub started : (t : ℕ) → times (starts t) h ≡ times_begun (mark_of s (TaskOf t))
  pub skipped : (t : ℕ) → times (skips t) h ≡ times_skipped (mark_of s (TaskOf t))
  pub claimed : (u : ℕ) → IsItem g u → times (claims u) h ≡ times_begun (mark_of s (UnitOf u))
  pub closed : (u : ℕ) → ClosedAs (closings h u) (mark_of s (UnitOf u))

abbrev one : Bool → ℕ
one b = cond b 1 0

-- a mark that stays, or is another's
same_count : (f : Mark → ℕ) (old new : Mark) → new ≡ old → f new ≡ f old + 0
same_count f old new e = let a = ap f e in omega arith

end_begun : (g : GraphView) (s : StateView) (t : ℕ) → times_begun (end_mark g s t) ≡ 1
end_begun g s t = at (all_passed g s t)
  where
    at : (b : Bool) → times_begun (cond b Passed Failed) ≡ 1
    at true = refl
    at false = refl

end_dropped : (g : GraphView) (s : StateView) (t : ℕ) → times_skipped (end_mark g s t) ≡ 0
end_dropped g s t = at (all_passed g s t)
  where
    at : (b : Bool) → times_skipped (cond b Passed Failed) ≡ 0
    at true = refl
    at false = refl

counts : (f : Mark → ℕ) (old new from to : Mark) (n : ℕ) → old ≡ from → new ≡ to → f to ≡ f from + n → f new ≡ f old + n
counts f old new from to n p q h = ap f q ∙ (h ∙ ap (λ m. f m + n) (sym p))

stays_if : (P : MarkId → Mark → Mark → Type 0) (m : MarkId) (old new : Mark) → StaysOrMoves P m old new → ((from to : Mark) → P m from to → ⊥) → new ≡ old
stays_if P m old new (inl same) f = same
stays_if P m old new (inr moved) f = absurd (f moved.last_from new moved.last)

-- every move of the mark is this one
abbrev MovesAs : (MarkId → Mark → Mark → Type 0) → MarkId → Mark → Mark → Type 0
MovesAs P m from to = (x y : Mark) → P m x y → (x ≡ from) × (y ≡ to)

moved_count : (f : Mark → ℕ) (P : MarkId → Mark → Mark → Type 0) (m : MarkId) (old new from to : Mark) → StaysOrMoves P m old new → MovesAs P m from to → f to ≡ f from → f new ≡ f old + 0
moved_count f P m old new from to (inl same) as' e = same_count f old new same
moved_count f P m old new from to (inr moved) as' e =
    let a = as' old moved.first_to moved.first in
    let b = as' moved.last_from new moved.last in
    counts f old new from to 0 a.0 b.1 (omega arith)

begun_step : (g : GraphView) (s : StateView) (w : WorkerId) (k : Kind) (s' : StateView) → IsStep g s w k s' → (t : ℕ) → times_begun (mark_of s' (TaskOf t)) ≡ times_begun (mark_of s (TaskOf t)) + one (starts t k)
begun_step g s w (Start n) s' h t = at (cases_eq n t) (h.stays_or_moves (TaskOf t))
  where
    at : (n ≡ t) ⊎ (n ≡ t → ⊥) → StaysOrMoves (MayMove g s w (Start n)) (TaskOf t) (mark_of s (TaskOf t)) (mark_of s' (TaskOf t)) → times_begun (mark_of s' (TaskOf t)) ≡ times_begun (mark_of s (TaskOf t)) + one (n == t)
    at (inl e) _ =
        let old : mark_of s (TaskOf t) ≡ Waiting = subst (λ z. mark_of s (TaskOf z) ≡ Waiting) e h.condition.0 in
        let new : mark_of s' (TaskOf t) ≡ Running w = subst (λ z. mark_of s' (TaskOf z) ≡ Running w) e h.moves_to in
        rw (eq-eqb n t e) (counts times_begun _ _ Waiting (Running w) 1 old new (omega arith))
    at (inr ne) so = rw (ne_eqb n t ne) (same_count times_begun _ _ (stays_if (MayMove g s w (Start n)) (TaskOf t) _ _ so (λ x y p. ne (sym p.0))))
begun_step g s w (Skip n) s' h t = moved_count times_begun (MayMove g s w (Skip n)) (TaskOf t) _ _ Waiting Skipped (h.stays_or_moves (TaskOf t)) (λ x y p. (p.1, p.2)) refl
begun_step g s w (End n) s' h t = moved_count times_begun (MayMove g s w (End n)) (TaskOf t) _ _ (Running w) (end_mark g s n) (h.stays_or_moves (TaskOf t)) (λ x y p. (p.1, p.2)) (end_begun g s n)
begun_step g s w (Block None) s' h t = same_count times_begun _ _ (stays_if (MayMove g s w (Block None)) (TaskOf t) _ _ (h.stays_or_moves (TaskOf t)) (λ x y p. p))
begun_step g s w (Unblock None) s' h t = same_count times_begun _ _ (stays_if (MayMove g s w (Unblock None)) (TaskOf t) _ _ (h.stays_or_moves (TaskOf t)) (λ x y p. p))
begun_step g s w k s' h t = same_count times_begun _ _ (stays_if (MayMove g s w k) (TaskOf t) _ _ (h.stays_or_moves (TaskOf t)) (λ x y p. p))

dropped_step : (g : GraphView) (s : StateView) (w : WorkerId) (k : Kind) (s' : StateView) → IsStep g s w k s' → (t : ℕ) → times_skipped (mark_of s' (TaskOf t)) ≡ times_skipped (mark_of s (TaskOf t)) + one (skips t k)
dropped_step g s w (Skip n) s' h t = at (cases_eq n t) (h.stays_or_moves (TaskOf t))
  where
    at : (n ≡ t) ⊎ (n ≡ t → ⊥) → StaysOrMoves (MayMove g s w (Skip n)) (TaskOf t) (mark_of s (TaskOf t)) (mark_of s' (TaskOf t)) → times_skipped (mark_of s' (TaskOf t)) ≡ times_skipped (mark_of s (TaskOf t)) + one (n == t)
    at (inl e) _ =
        let old : mark_of s (TaskOf t) ≡ Waiting = subst (λ z. mark_of s (TaskOf z) ≡ Waiting) e h.condition.0 in
        let new : mark_of s' (TaskOf t) ≡ Skipped = subst (λ z. mark_of s' (TaskOf z) ≡ Skipped) e h.moves_to.0 in
        rw (eq-eqb n t e) (counts times_skipped _ _ Waiting Skipped 1 old new (omega arith))
    at (inr ne) so = rw (ne_eqb n t ne) (same_count times_skipped _ _ (stays_if (MayMove g s w (Skip n)) (TaskOf t) _ _ so (λ x y p. ne (sym p.0))))
dropped_step g s w (Start n) s' h t = moved_count times_skipped (MayMove g s w (Start n)) (TaskOf t) _ _ Waiting (Running w) (h.stays_or_moves (TaskOf t)) (λ x y p. (p.1, p.2)) refl
dropped_step g s w (End n) s' h t = moved_count times_skipped (MayMove g s w (End n)) (TaskOf t) _ _ (Running w) (end_mark g s n) (h.stays_or_moves (TaskOf t)) (λ x y p. (p.1, p.2)) (end_dropped g s n)
dropped_step g s w (Block None) s' h t = same_count times_skipped _ _ (stays_if (MayMove g s w (Block None)) (TaskOf t) _ _ (h.stays_or_moves (TaskOf t)) (λ x y p. p))
dropped_step g s w (Unblock None) s' h t = same_count times_skipped _ _ (stays_if (MayMove g s w (Unblock None)) (TaskOf t) _ _ (h.stays_or_moves (TaskOf t)) (λ x y p. p))
dropped_step g s w k s' h t = same_count times_skipped _ _ (stays_if (MayMove g s w k) (TaskOf t) _ _ (h.stays_or_moves (TaskOf t)) (λ x y p. p))

mark_from_begun : (o : Outcome) → times_begun (mark_from o) ≡ 1
mark_from_begun (Number n) = refl
mark_from_begun (Digest n) = refl
mark_from_begun NotThere = refl
mark_from_begun TooLong = refl
mark_from_begun Fault = refl
mark_from_begun NoMemory = refl
mark_from_begun NotRun = refl

-- a fetch is no item
no_item : (g : GraphView) (a b u : ℕ) → RangesApart g → IsFetchOf g a u → IsItemOf g b u → ⊥
no_item g a b u apart f i =
    let same : a ≡ b = apart.one_action a b u (inl f) (inr i) in
    let here : IsItemOf g a u = subst (λ z. IsItemOf g z u) (sym same) i in
    let first : first_item (action_of g a) ≡ (action_of g a).first_unit + 1 = rw f.0 refl in
    let low = here.0 in
    let is = f.1 in
    omega arith

claimed_step : (g : GraphView) (s : StateView) (w : WorkerId) (k : Kind) (s' : StateView) → IsStep g s w k s' → (u : ℕ) → IsItem g u → times_begun (mark_of s' (UnitOf u)) ≡ times_begun (mark_of s (UnitOf u)) + one (claims u k)
claimed_step g s w (Claim n) s' h u i = at (cases_eq n u) (h.stays_or_moves (UnitOf u))
  where
    at : (n ≡ u) ⊎ (n ≡ u → ⊥) → StaysOrMoves (MayMove g s w (Claim n)) (UnitOf u) (mark_of s (UnitOf u)) (mark_of s' (UnitOf u)) → times_begun (mark_of s' (UnitOf u)) ≡ times_begun (mark_of s (UnitOf u)) + one (n == u)
    at (inl e) _ =
        let old : mark_of s (UnitOf u) ≡ Queued = subst (λ z. mark_of s (UnitOf z) ≡ Queued) e h.condition in
        let new : mark_of s' (UnitOf u) ≡ Running w = subst (λ z. mark_of s' (UnitOf z) ≡ Running w) e h.moves_to in
        rw (eq-eqb n u e) (counts times_begun _ _ Queued (Running w) 1 old new (omega arith))
    at (inr ne) so = rw (ne_eqb n u ne) (same_count times_begun _ _ (stays_if (MayMove g s w (Claim n)) (UnitOf u) _ _ so (λ x y p. ne (sym p.0))))
claimed_step g s w (Skip n) s' h u i = moved_count times_begun (MayMove g s w (Skip n)) (UnitOf u) _ _ Waiting Skipped (h.stays_or_moves (UnitOf u)) (λ x y p. (p.1, p.2)) refl
claimed_step g s w (Submit n) s' h u i = moved_count times_begun (MayMove g s w (Submit n)) (UnitOf u) _ _ Waiting Queued (h.stays_or_moves (UnitOf u)) (λ x y p. (p.1, p.2)) refl
claimed_step g s w (Close d) s' h u i = moved_count times_begun (MayMove g s w (Close d)) (UnitOf u) _ _ (Running w) (mark_from d.outcome) (h.stays_or_moves (UnitOf u)) (λ x y p. (p.1, p.2)) (mark_from_begun d.outcome)
claimed_step g s w (Block (Some n)) s' h u i =
    let f : IsFetchOf g h.condition.0 n = h.condition.1 in
    same_count times_begun _ _ (stays_if (MayMove g s w (Block (Some n))) (UnitOf u) _ _ (h.stays_or_moves (UnitOf u)) (λ x y p. no_item g h.condition.0 i.0 n h.apart f (subst (IsItemOf g i.0) p.0 i.1)))
claimed_step g s w (Unblock (Some d)) s' h u i = moved_count times_begun (MayMove g s w (Unblock (Some d))) (UnitOf u) _ _ (Running w) (mark_from d.outcome) (h.stays_or_moves (UnitOf u)) (λ x y p. (p.1, p.2)) (mark_from_begun d.outcome)
claimed_step g s w (End n) s' h u i = moved_count times_begun (MayMove g s w (End n)) (UnitOf u) _ _ Waiting Skipped (h.stays_or_moves (UnitOf u)) (λ x y p. (p.1, p.2)) refl
claimed_step g s w k s' h u i = same_count times_begun _ _ (stays_if (MayMove g s w k) (UnitOf u) _ _ (h.stays_or_moves (UnitOf u)) (λ x y p. p))

mark_from_closed : (o : Outcome) → ClosedAs (o ∷ []) (mark_from o)
mark_from_closed (Number n) = (Number n, refl, refl)
mark_from_closed (Digest n) = (Digest n, refl, refl)
mark_from_closed NotThere = (NotThere, refl, refl)
mark_from_closed TooLong = (TooLong, refl, refl)
mark_from_closed Fault = (Fault, refl, refl)
mark_from_closed NoMemory = (NoMemory, refl, refl)
mark_from_closed NotRun = (NotRun, refl, refl)

nothing_closed : (os : List Outcome) (m : Mark) → ClosedAs os m → ClosedAs (os ++ []) m
nothing_closed os m h = subst (λ z. ClosedAs z m) (sym (append-nil os)) h

moved_closed : (os : List Outcome) (P : MarkId → Mark → Mark → Type 0) (m : MarkId) (old new from to : Mark) → StaysOrMoves P m old new → MovesAs P m from to → (ClosedAs os from → ClosedAs os to) → ClosedAs os old → ClosedAs (os ++ []) new
moved_closed os P m old new from to (inl same) as' f h = nothing_closed os new (subst (ClosedAs os) (sym same) h)
moved_closed os P m old new from to (inr moved) as' f h =
    let a = as' old moved.first_to moved.first in
    let b = as' moved.last_from new moved.last in
    nothing_closed os new (subst (ClosedAs os) (sym b.1) (f (subst (ClosedAs os) a.0 h)))

stays_closed : (os : List Outcome) (old new : Mark) → new ≡ old → ClosedAs os old → ClosedAs (os ++ []) new
stays_closed os old new same h = nothing_closed os new (subst (ClosedAs os) (sym same) h)

closes : (os : List Outcome) (o : Outcome) (old new : Mark) (w : WorkerId) → old ≡ Running w → new ≡ mark_from o → ClosedAs os old → ClosedAs (os ++ o ∷ []) new
closes os o old new w p q h =
    let none : os ≡ [] = subst (ClosedAs os) p h in
    subst (λ z. ClosedAs (z ++ o ∷ []) new) (sym none) (subst (ClosedAs (o ∷ [])) (sym q) (mark_from_closed o))

closed_step : (g : GraphView) (s : StateView) (w : WorkerId) (k : Kind) (s' : StateView) → IsStep g s w k s' → (u : ℕ) (os : List Outcome) → ClosedAs os (mark_of s (UnitOf u)) → ClosedAs (os ++ closing_of u k) (mark_of s' (UnitOf u))
closed_step g s w (Close d) s' h u os c = at (cases_eq d.unit u) (h.stays_or_moves (UnitOf u))
  where
    at : (d.unit ≡ u) ⊎ (d.unit ≡ u → ⊥) → StaysOrMoves (MayMove g s w (Close d)) (UnitOf u) (mark_of s (UnitOf u)) (mark_of s' (UnitOf u)) → ClosedAs (os ++ cond (d.unit == u) (d.outcome ∷ []) []) (mark_of s' (UnitOf u))
    at (inl e) _ =
        rw (eq-eqb d.unit u e)
        (closes os d.outcome _ (mark_of s' (UnitOf u)) w (subst (λ z. mark_of s (UnitOf z) ≡ Running w) e h.condition) (subst (λ z. mark_of s' (UnitOf z) ≡ mark_from d.outcome) e h.moves_to) c)
    at (inr ne) so = rw (ne_eqb d.unit u ne) (stays_closed os _ (mark_of s' (UnitOf u)) (stays_if (MayMove g s w (Close d)) (UnitOf u) _ _ so (λ x y p. ne (sym p.0))) c)
closed_step g s w (Unblock (Some d)) s' h u os c = at (cases_eq d.unit u) (h.stays_or_moves (UnitOf u))
  where
    at : (d.unit ≡ u) ⊎ (d.unit ≡ u → ⊥) → StaysOrMoves (MayMove g s w (Unblock (Some d))) (UnitOf u) (mark_of s (UnitOf u)) (mark_of s' (UnitOf u)) → ClosedAs (os ++ cond (d.unit == u) (d.outcome ∷ []) []) (mark_of s' (UnitOf u))
    at (inl e) _ =
        rw (eq-eqb d.unit u e)
        (closes os d.outcome _ (mark_of s' (UnitOf u)) w (subst (λ z. mark_of s (UnitOf z) ≡ Running w) e h.condition) (subst (λ z. mark_of s' (UnitOf z) ≡ mark_from d.outcome) e h.moves_to) c)
    at (inr ne) so = rw (ne_eqb d.unit u ne) (stays_closed os _ (mark_of s' (UnitOf u)) (stays_if (MayMove g s w (Unblock (Some d))) (UnitOf u) _ _ so (λ x y p. ne (sym p.0))) c)
closed_step g s w (Skip n) s' h u os c = moved_closed os (MayMove g s w (Skip n)) (UnitOf u) _ _ Waiting Skipped (h.stays_or_moves (UnitOf u)) (λ x y p. (p.1, p.2)) (λ z. z) c
closed_step g s w (End n) s' h u os c = moved_closed os (MayMove g s w (End n)) (UnitOf u) _ _ Waiting Skipped (h.stays_or_moves (UnitOf u)) (λ x y p. (p.1, p.2)) (λ z. z) c
closed_step g s w (Submit n) s' h u os c = moved_closed os (MayMove g s w (Submit n)) (UnitOf u) _ _ Waiting Queued (h.stays_or_moves (UnitOf u)) (λ x y p. (p.1, p.2)) (λ z. z) c
closed_step g s w (Claim n) s' h u os c = moved_closed os (MayMove g s w (Claim n)) (UnitOf u) _ _ Queued (Running w) (h.stays_or_moves (UnitOf u)) (λ x y p. (p.1, p.2)) (λ z. z) c
closed_step g s w (Block (Some n)) s' h u os c = moved_closed os (MayMove g s w (Block (Some n))) (UnitOf u) _ _ Waiting (Running w) (h.stays_or_moves (UnitOf u)) (λ x y p. (p.1, p.2)) (λ z. z) c
closed_step g s w k s' h u os c = stays_closed os _ (mark_of s' (UnitOf u)) (stays_if (MayMove g s w k) (UnitOf u) _ _ (h.stays_or_moves (UnitOf u)) (λ x y p. p)) c

-- one entry more
times-push : (test : Kind → Bool) (h : List Entry) (e : Entry) → times test (h ++ e ∷ []) ≡ times test h + one (finished_as test e)
times-push test h e = let a = sum_by-append (λ x. one (finished_as test x)) h (e ∷ []) in omega (arith, a)

abbrev pub finished : WorkerId → Kind → List Change → Entry
finished w k cs = record { worker = w; kind = k; changes = Some cs }

abbrev pub failed : WorkerId → Kind → Entry
failed w k = record { worker = w; kind = k; changes = None }

pub recorded_finished : (g : GraphView) (s : StateView) (w : WorkerId) (k : Kind) (cs : List Change) (s' : StateView) (h : List Entry) → IsStep g s w k s' → IsRecorded g h s → IsRecorded g (h ++ finished w k cs ∷ []) s'
recorded_finished g s w k cs s' h step recorded = record {
  started = λ t. times-push (starts t) h (finished w k cs) ∙ (ap (λ n. n + one (starts t k)) (recorded.started t) ∙ sym (begun_step g s w k s' step t));
  skipped = λ t. times-push (skips t) h (finished w k cs) ∙ (ap (λ n. n + one (skips t k)) (recorded.skipped t) ∙ sym (dropped_step g s w k s' step t));
  claimed = λ u i. times-push (claims u) h (finished w k cs) ∙ (ap (λ n. n + one (claims u k)) (recorded.claimed u i) ∙ sym (claimed_step g s w k s' step u i));
  closed = λ u. subst (λ os. ClosedAs os (mark_of s' (UnitOf u))) (sym (closings-push h (finished w k cs) u)) (closed_step g s w k s' step u (closings h u) (recorded.closed u));
}

pub recorded_failed : (g : GraphView) (s : StateView) (w : WorkerId) (k : Kind) (h : List Entry) → IsRecorded g h s → IsRecorded g (h ++ failed w k ∷ []) s
recorded_failed g s w k h recorded = record {
  started = λ t. let a = times-push (starts t) h (failed w k) in let b = recorded.started t in omega arith;
  skipped = λ t. let a = times-push (skips t) h (failed w k) in let b = recorded.skipped t in omega arith;
  claimed = λ u i. let a = times-push (claims u) h (failed w k) in let b = recorded.claimed u i in omega arith;
  closed = λ u. subst (λ os. ClosedAs os (mark_of s (UnitOf u))) (sym (closings-push h (failed w k) u)) (nothing_closed (closings h u) (mark_of s (UnitOf u)) (recorded.closed u));
}
