-- The units queued after each entry of a lawful history are those of its state.
use Rattle.std.proofs.Common.{◌≡◌, ℕ, ◌+◌, ◌-◌, ◌<◌, ◌^◌, zero, suc, length, get_or, take, not, ◌&&◌, cond, count_by, replicate, set, Bool, true, false, List, [], ◌∷◌, Option, None, Some, refl, sym, ap, subst, ◌∙◌, arith}
use Rattle.std.specs.Prelude.{IfSome}
use Rattle.std.specs.List.{AllByRecursion}
use Rattle.std.proofs.lemmas.Bool.{and_parts, true≢false}
use Rattle.std.proofs.lemmas.List.{length-set}
use Rattle.std.proofs.lemmas.List.Sums.{count_by-le-length}
use Rattle.lock_journal.specs.Names.{can, can_all, make, make_all, same_mark, names_only, NamesOnly, Fits, GraphView, opening_of, BelongsTo}
use Rattle.lock_journal.specs.Names.{StateView, mark_of, Change, Lock, Unlock, Take, Give, Move, Unpark, Enter, Leave, WorkerId, Mark, Waiting}
use Rattle.lock_journal.specs.Names.{Queued, Running, Passed, Failed, Skipped, TaskOf, ActionOf, UnitOf, Allowed, Finishes, lawful_from, Lawful}
use Rattle.lock_journal.specs.Names.{Entry, entry, effect, replay_from, prefix_state}
use Rattle.resource_lock.specs.declared.changes.Change.TheVariants.{Park}
use Rattle.resource_lock.proofs.lemmas.Lists.{count_by-set, one_if}
use Rattle.resource_lock.proofs.lemmas.Runs.{belongs_along, belongs_opening, same_shape-make, same_shape-make_all, all_named_along}
use Rattle.resource_lock.proofs.lemmas.Undo.{same_mark_is}
use Rattle.run_spans.specs.Levels.{up, after_change, after_changes, levels_of, nothing_out, units_queued}
use Rattle.run_spans.specs.Steps.{changes_in}
use Rattle.run_spans.specs.declared.levels.Level.{Level}

-- what a unit's move makes of those that are queued, by whether it was queued and is
abbrev moved_by : ℕ → Bool → Bool → ℕ
moved_by n was is = cond is (up n) (cond was (n - 1) n)

moved : (v : Level) (u : ℕ) (from to : Mark) → (after_change v (Move (UnitOf u) from to)).queued ≡ moved_by v.queued (same_mark from Queued) (same_mark to Queued)
moved v u Waiting Waiting = refl
moved v u Waiting Queued = refl
moved v u Waiting (Running y) = refl
moved v u Waiting Passed = refl
moved v u Waiting Failed = refl
moved v u Waiting Skipped = refl
moved v u Queued Waiting = refl
moved v u Queued Queued = refl
moved v u Queued (Running y) = refl
moved v u Queued Passed = refl
moved v u Queued Failed = refl
moved v u Queued Skipped = refl
moved v u (Running x) Waiting = refl
moved v u (Running x) Queued = refl
moved v u (Running x) (Running y) = refl
moved v u (Running x) Passed = refl
moved v u (Running x) Failed = refl
moved v u (Running x) Skipped = refl
moved v u Passed Waiting = refl
moved v u Passed Queued = refl
moved v u Passed (Running y) = refl
moved v u Passed Passed = refl
moved v u Passed Failed = refl
moved v u Passed Skipped = refl
moved v u Failed Waiting = refl
moved v u Failed Queued = refl
moved v u Failed (Running y) = refl
moved v u Failed Passed = refl
moved v u Failed Failed = refl
moved v u Failed Skipped = refl
moved v u Skipped Waiting = refl
moved v u Skipped Queued = refl
moved v u Skipped (Running y) = refl
moved v u Skipped Passed = refl
moved v u Skipped Failed = refl
moved v u Skipped Skipped = refl

counted : (was is : Bool) (n count count' : ℕ) → (was ≡ true → is ≡ true → ⊥) → n ≡ count → count' < 2 ^ 63 → count' + one_if was ≡ count + one_if is → moved_by n was is ≡ count'
counted true true n count count' never same few more = absurd (never refl refl)
counted true false n count count' never same few more = omega (arith, same, more)
counted false true n count count' never same few more = omega (arith, same, more, few)
counted false false n count count' never same few more = omega (arith, same, more)

abbrev is_queued : Mark → Bool
is_queued m = same_mark m Queued

not_both : (from to : Mark) → not (same_mark from to) ≡ true → is_queued from ≡ true → is_queued to ≡ true → ⊥
not_both from to other a b =
    let one : from ≡ Queued = same_mark_is from Queued a in
    let two : to ≡ Queued = same_mark_is to Queued b in
    true≢false (sym other ∙ ap not (ap (λ x. same_mark x to) one ∙ ap (same_mark Queued) two))

unit_queued : (s : StateView) (v : Level) (u : ℕ) (from to : Mark) → u < length s.units → same_mark (mark_of s (UnitOf u)) from ≡ true → not (same_mark from to) ≡ true → length s.units < 2 ^ 63
    → v.queued ≡ units_queued s → (after_change v (Move (UnitOf u) from to)).queued ≡ count_by is_queued (set s.units u to)
unit_queued s v u from to within here other few is =
    let was : is_queued (get_or s.units u Waiting) ≡ is_queued from = ap is_queued (same_mark_is (mark_of s (UnitOf u)) from here) in
    let more : count_by is_queued (set s.units u to) + one_if (is_queued (get_or s.units u Waiting)) ≡ count_by is_queued s.units + one_if (is_queued to) =
    count_by-set is_queued s.units u to Waiting within in
    let same : one_if (is_queued (get_or s.units u Waiting)) ≡ one_if (is_queued from) = ap one_if was in
    let long : length (set s.units u to) ≡ length s.units = length-set s.units u to in
    moved v u from to
    ∙ counted (is_queued from) (is_queued to) v.queued (count_by is_queued s.units) (count_by is_queued (set s.units u to)) (not_both from to other) is
    (omega (arith, count_by-le-length is_queued (set s.units u to), long, few)) (omega (arith, more, same))

change_queued : (s : StateView) (w : WorkerId) (c : Change) (v : Level) → NamesOnly s c → can s w c ≡ true → length s.units < 2 ^ 63 → v.queued ≡ units_queued s
    → (after_change v c).queued ≡ units_queued (make s w c)
change_queued s w (Lock l) v named h few is = is
change_queued s w (Unlock l) v named h few is = is
change_queued s w Take v named h few is = is
change_queued s w Give v named h few is = is
change_queued s w (Park l) v named h few is = is
change_queued s w (Unpark l) v named h few is = is
change_queued s w Enter v named h few is = is
change_queued s w Leave v named h few is = is
change_queued s w (Move (TaskOf t) from to) v named h few is = is
change_queued s w (Move (ActionOf a) from to) v named h few is = is
change_queued s w (Move (UnitOf u) from to) v named h few is =
    let first : ((same_mark (mark_of s (UnitOf u)) from && not (same_mark from to) && names_only from w) ≡ true) × (names_only to w ≡ true) = and_parts _ (names_only to w) h in
    let second : ((same_mark (mark_of s (UnitOf u)) from && not (same_mark from to)) ≡ true) × (names_only from w ≡ true) = and_parts _ (names_only from w) first.0 in
    let third : (same_mark (mark_of s (UnitOf u)) from ≡ true) × (not (same_mark from to) ≡ true) = and_parts _ (not (same_mark from to)) second.0 in
    unit_queued s v u from to named third.0 third.1 few is

changes_queued : (cs : List Change) (s : StateView) (w : WorkerId) (v : Level) → AllByRecursion (NamesOnly s) cs → can_all s w cs ≡ true → length s.units < 2 ^ 63 → v.queued ≡ units_queued s
    → (after_changes v cs).queued ≡ units_queued (make_all s w cs)
changes_queued [] s w v named h few is = is
changes_queued (c ∷ cs) s w v named h few is =
    let parts = and_parts (can s w c) (can_all (make s w c) w cs) h in
    let shape = same_shape-make s w c in
    changes_queued cs (make s w c) w (after_change v c) (all_named_along s (make s w c) cs shape named.1) parts.1
    (subst (λ n. n < 2 ^ 63) shape.units few) (change_queued s w c v named.0 parts.0 few is)

record After (g : GraphView) (s : StateView) (v : Level) (e : Entry) : Type 0 where
  queued : (after_changes v (changes_in e.changes)).queued ≡ units_queued (effect s e)
  belongs : BelongsTo g (effect s e)

entry_queued : (g : GraphView) (s : StateView) (v : Level) (e : Entry) → g.units < 2 ^ 63 → BelongsTo g s → Allowed g s e → v.queued ≡ units_queued s → After g s v e
entry_queued g s v e few belongs allowed is = by e.changes allowed.finished
  where
    by : (changes : Option (List Change)) → IfSome changes (Finishes g s e.worker e.kind) → After g s v (entry e.worker e.kind changes)
    by None finished = record { queued = is; belongs = belongs }
    by (Some cs) finished = record {
      queued = changes_queued cs s e.worker v finished.named finished.possible (subst (λ n. n < 2 ^ 63) (sym belongs.units) few) is;
      belongs = belongs_along g s (make_all s e.worker cs) (same_shape-make_all s e.worker cs) belongs;
    }

queued_from : (g : GraphView) (k : ℕ) (es : List Entry) (s : StateView) (v : Level) → g.units < 2 ^ 63 → BelongsTo g s → lawful_from g s es → v.queued ≡ units_queued s → k < length es
    → (get_or (levels_of v es) k nothing_out).queued ≡ units_queued (replay_from s (take (suc k) es))
queued_from g k [] s v few belongs lawful is within = absurd (omega (arith, within))
queued_from g zero (e ∷ es) s v few belongs lawful is within = (entry_queued g s v e few belongs lawful.0 is).queued
queued_from g (suc k) (e ∷ es) s v few belongs lawful is within =
    let one = entry_queued g s v e few belongs lawful.0 is in
    queued_from g k es (effect s e) (after_changes v (changes_in e.changes)) few one.belongs lawful.1 one.queued (omega (arith, within))

none_queued : (n : ℕ) → count_by is_queued (replicate n Waiting) ≡ 0
none_queued zero = refl
none_queued (suc n) = none_queued n

pub levels_are_queued : (g : GraphView) (h : List Entry) (k : ℕ) → Fits g → Lawful g h → k < length h → (get_or (levels_of nothing_out h) k nothing_out).queued ≡ units_queued (prefix_state g h (k + 1))
levels_are_queued g h k fits lawful within =
    let next : suc k ≡ k + 1 = omega arith in
    queued_from g k h (opening_of g) nothing_out (omega (arith, fits.few_units)) (belongs_opening g) lawful (sym (none_queued g.units)) within
    ∙ ap (λ n. units_queued (prefix_state g h n)) next
