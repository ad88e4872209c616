-- The leases out after each entry of a lawful history are those of its state.
use Rattle.std.proofs.Common.{◌≡◌, ℕ, ◌+◌, ◌<◌, ◌^◌, zero, suc, length, get_or, take, not, ◌&&◌, ltb, count_by, replicate, Bool, true, false, List, [], ◌∷◌, Option, None, Some, refl, sym, ap, subst, ◌∙◌, arith}
use Rattle.std.specs.Prelude.{IfSome}
use Rattle.std.proofs.lemmas.Bool.{and_parts, ltb-true}
use Rattle.lock_journal.specs.Names.{can, can_all, make, make_all, holding_after, Fits, GraphView, opening_of, BelongsTo, StateView, Holding}
use Rattle.lock_journal.specs.Names.{empty_holding, holding_of, leases_out, IsWorkerOf, Change, Lock, Unlock, Take, Give, Move, Unpark, Enter, Leave}
use Rattle.lock_journal.specs.Names.{WorkerId, Mark, Waiting, Queued, Running, Passed, Failed, Skipped, MarkId, TaskOf, ActionOf, UnitOf, Allowed}
use Rattle.lock_journal.specs.Names.{Finishes, lawful_from, Lawful, Entry, entry, effect, replay_from, prefix_state}
use Rattle.resource_lock.specs.declared.changes.Change.TheVariants.{Park}
use Rattle.resource_lock.proofs.lemmas.Kept.{leases-with_holding}
use Rattle.resource_lock.proofs.lemmas.Lists.{one_if}
use Rattle.resource_lock.proofs.lemmas.Runs.{belongs_along, belongs_opening, same_shape-make, same_shape-make_all, worker_along, worker_from}
use Rattle.run_spans.specs.Levels.{after_change, after_changes, levels_of, nothing_out}
use Rattle.run_spans.specs.Steps.{changes_in}
use Rattle.run_spans.specs.declared.levels.Level.{Level}

moved_out : (v : Level) (m : MarkId) (from to : Mark) → (after_change v (Move m from to)).out ≡ v.out
moved_out v (TaskOf t) from to = refl
moved_out v (ActionOf a) from to = refl
moved_out v (UnitOf u) Waiting Waiting = refl
moved_out v (UnitOf u) Waiting Queued = refl
moved_out v (UnitOf u) Waiting (Running y) = refl
moved_out v (UnitOf u) Waiting Passed = refl
moved_out v (UnitOf u) Waiting Failed = refl
moved_out v (UnitOf u) Waiting Skipped = refl
moved_out v (UnitOf u) Queued Waiting = refl
moved_out v (UnitOf u) Queued Queued = refl
moved_out v (UnitOf u) Queued (Running y) = refl
moved_out v (UnitOf u) Queued Passed = refl
moved_out v (UnitOf u) Queued Failed = refl
moved_out v (UnitOf u) Queued Skipped = refl
moved_out v (UnitOf u) (Running x) Waiting = refl
moved_out v (UnitOf u) (Running x) Queued = refl
moved_out v (UnitOf u) (Running x) (Running y) = refl
moved_out v (UnitOf u) (Running x) Passed = refl
moved_out v (UnitOf u) (Running x) Failed = refl
moved_out v (UnitOf u) (Running x) Skipped = refl
moved_out v (UnitOf u) Passed Waiting = refl
moved_out v (UnitOf u) Passed Queued = refl
moved_out v (UnitOf u) Passed (Running y) = refl
moved_out v (UnitOf u) Passed Passed = refl
moved_out v (UnitOf u) Passed Failed = refl
moved_out v (UnitOf u) Passed Skipped = refl
moved_out v (UnitOf u) Failed Waiting = refl
moved_out v (UnitOf u) Failed Queued = refl
moved_out v (UnitOf u) Failed (Running y) = refl
moved_out v (UnitOf u) Failed Passed = refl
moved_out v (UnitOf u) Failed Failed = refl
moved_out v (UnitOf u) Failed Skipped = refl
moved_out v (UnitOf u) Skipped Waiting = refl
moved_out v (UnitOf u) Skipped Queued = refl
moved_out v (UnitOf u) Skipped (Running y) = refl
moved_out v (UnitOf u) Skipped Passed = refl
moved_out v (UnitOf u) Skipped Failed = refl
moved_out v (UnitOf u) Skipped Skipped = refl

one_lease : (b : Bool) → b ≡ true → one_if b ≡ 1
one_lease b h = ap one_if h

no_lease : (b : Bool) → b ≡ false → one_if b ≡ 0
no_lease b h = ap one_if h

not_so : (b : Bool) → not b ≡ true → b ≡ false
not_so true h = sym h
not_so false h = refl

change_out : (s : StateView) (w : WorkerId) (c : Change) (v : Level) → IsWorkerOf s w → can s w c ≡ true → s.max_leases < 2 ^ 64 → v.out ≡ leases_out s
    → (after_change v c).out ≡ leases_out (make s w c)
change_out s w (Lock l) v within h few is = is
change_out s w (Unlock l) v within h few is = is
change_out s w (Move (TaskOf t) from to) v within h few is = is
change_out s w (Move (ActionOf a) from to) v within h few is = is
change_out s w (Move (UnitOf u) from to) v within h few is = moved_out v (UnitOf u) from to ∙ is
change_out s w Take v within h few is =
    let parts : ((not (holding_of s w).lease && not (holding_of s w).blocked) ≡ true) × (ltb (leases_out s) s.max_leases ≡ true) = and_parts (not (holding_of s w).lease && not (holding_of s w).blocked) (ltb (leases_out s) s.max_leases) h in
    let free : (holding_of s w).lease ≡ false = not_so (holding_of s w).lease (and_parts (not (holding_of s w).lease) (not (holding_of s w).blocked) parts.0).0 in
    let room : leases_out s < s.max_leases = ltb-true (leases_out s) s.max_leases parts.1 in
    let none : one_if (holding_of s w).lease ≡ 0 = no_lease (holding_of s w).lease free in
    let count : leases_out (make s w Take) + one_if (holding_of s w).lease ≡ leases_out s + 1 = leases-with_holding s w (holding_after (holding_of s w) Take) within in
    omega (arith, is, room, none, count, few)
change_out s w Give v within h few is =
    let one : one_if (holding_of s w).lease ≡ 1 = one_lease (holding_of s w).lease h in
    let count : leases_out (make s w Give) + one_if (holding_of s w).lease ≡ leases_out s + 0 = leases-with_holding s w (holding_after (holding_of s w) Give) within in
    omega (arith, is, one, count)
change_out s w (Park l) v within h few is =
    let count : leases_out (make s w (Park l)) + one_if (holding_of s w).lease ≡ leases_out s + one_if (holding_of s w).lease = leases-with_holding s w (holding_after (holding_of s w) (Park l)) within in
    omega (arith, is, count)
change_out s w (Unpark l) v within h few is =
    let count : leases_out (make s w (Unpark l)) + one_if (holding_of s w).lease ≡ leases_out s + one_if (holding_of s w).lease = leases-with_holding s w (holding_after (holding_of s w) (Unpark l)) within in
    omega (arith, is, count)
change_out s w Enter v within h few is =
    let count : leases_out (make s w Enter) + one_if (holding_of s w).lease ≡ leases_out s + one_if (holding_of s w).lease = leases-with_holding s w (holding_after (holding_of s w) Enter) within in
    omega (arith, is, count)
change_out s w Leave v within h few is =
    let count : leases_out (make s w Leave) + one_if (holding_of s w).lease ≡ leases_out s + one_if (holding_of s w).lease = leases-with_holding s w (holding_after (holding_of s w) Leave) within in
    omega (arith, is, count)

changes_out : (cs : List Change) (s : StateView) (w : WorkerId) (v : Level) → IsWorkerOf s w → can_all s w cs ≡ true → s.max_leases < 2 ^ 64 → v.out ≡ leases_out s
    → (after_changes v cs).out ≡ leases_out (make_all s w cs)
changes_out [] s w v within h few is = is
changes_out (c ∷ cs) s w v within h few is =
    let parts = and_parts (can s w c) (can_all (make s w c) w cs) h in
    let shape = same_shape-make s w c in
    changes_out cs (make s w c) w (after_change v c) (worker_along s (make s w c) w shape within) parts.1
    (subst (λ n. n < 2 ^ 64) shape.max_leases few) (change_out s w c v within parts.0 few is)

record After (g : GraphView) (s : StateView) (v : Level) (e : Entry) : Type 0 where
  out : (after_changes v (changes_in e.changes)).out ≡ leases_out (effect s e)
  belongs : BelongsTo g (effect s e)

entry_out : (g : GraphView) (s : StateView) (v : Level) (e : Entry) → g.max_leases < 2 ^ 64 → BelongsTo g s → Allowed g s e → v.out ≡ leases_out s → After g s v e
entry_out g s v e few belongs allowed is = by e.changes allowed.finished
  where
    by : (changes : Option (List Change)) → IfSome changes (Finishes g s e.worker e.kind) → After g s v (entry e.worker e.kind changes)
    by None finished = record { out = is; belongs = belongs }
    by (Some cs) finished =
        let within : IsWorkerOf s e.worker = worker_from g s e.worker belongs allowed.worker in
        record {
          out = changes_out cs s e.worker v within finished.possible (subst (λ n. n < 2 ^ 64) (sym belongs.max_leases) few) is;
          belongs = belongs_along g s (make_all s e.worker cs) (same_shape-make_all s e.worker cs) belongs;
        }

out_from : (g : GraphView) (k : ℕ) (es : List Entry) (s : StateView) (v : Level) → g.max_leases < 2 ^ 64 → BelongsTo g s → lawful_from g s es → v.out ≡ leases_out s → k < length es
    → (get_or (levels_of v es) k nothing_out).out ≡ leases_out (replay_from s (take (suc k) es))
out_from g k [] s v few belongs lawful is within = absurd (omega (arith, within))
out_from g zero (e ∷ es) s v few belongs lawful is within = (entry_out g s v e few belongs lawful.0 is).out
out_from g (suc k) (e ∷ es) s v few belongs lawful is within =
    let one = entry_out g s v e few belongs lawful.0 is in
    out_from g k es (effect s e) (after_changes v (changes_in e.changes)) few one.belongs lawful.1 one.out (omega (arith, within))

none_out : (n : ℕ) → count_by (λ (x : Holding). x.lease) (replicate n empty_holding) ≡ 0
none_out zero = refl
none_out (suc n) = none_out n

pub levels_are_leases : (g : GraphView) (h : List Entry) (k : ℕ) → Fits g → Lawful g h → k < length h → (get_or (levels_of nothing_out h) k nothing_out).out ≡ leases_out (prefix_state g h (k + 1))
levels_are_leases g h k fits lawful within =
    let next : suc k ≡ k + 1 = omega arith in
    out_from g k h (opening_of g) nothing_out (omega (arith, fits.few_leases)) (belongs_opening g) lawful (sym (none_out g.workers)) within
    ∙ ap (λ n. leases_out (prefix_state g h n)) next
