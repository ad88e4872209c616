-- The history of a book has a text: its numbers are the graph's, and its marks name the entries' workers.
use Rattle.std.proofs.Common.{◌≡◌, ◌≢◌, ℕ, ◌≤◌, List, [], ◌∷◌, Option, Some, None, IfSome, All, true, refl, ap, arith}
use Rattle.std.specs.List.{AllByRecursion}
use Rattle.std.proofs.lemmas.Bool.{and_parts, eqb-true}
use Rattle.std.proofs.lemmas.List.Elements.{recursion_from_All}
use Rattle.lock_journal.specs.Names.{StateView, GraphView, Fits, opening_of, BelongsTo, NamesOnly, names_only, can, can_all, make, Entry, effect}
use Rattle.lock_journal.specs.Names.{changed, IsKindOf, Finishes, lawful_from, Lawful, IsFitKind}
use Rattle.resource_lock.proofs.lemmas.Runs.{same_shape-make, same_shape-make_all, belongs_along, belongs_opening, all_named_along}
use Rattle.resource_lock.proofs.lemmas.Units.{few_actions_in_all}
use Rattle.lock_journal.specs.Bounds.{IsFitOutcome}
use Rattle.plan_reader.specs.declared.limits.TheConstants.{MAX_LEASES, MAX_WORKERS}
use Rattle.history_text.specs.Fitting.{MarkFits, ChangeFits, ChangesFit, OutcomeFits, KindFits, EffectFits, EntriesFit, HeadFits}
use Rattle.history_text.specs.Plain.{WorkerId, MarkId, TaskOf, ActionOf, UnitOf, Mark, Waiting, Queued, Running, Passed, Failed, Skipped, Change, Lock, Unlock, Take, Give, Move, Park, Unpark, Enter, Leave, Outcome, Number, Digest, NotThere, TooLong, Fault, NoMemory, NotRun, Kind, Start, Skip, Submit, ParkFor, Resume, Claim, Close, Block, Unblock, End, Acquire, HandBack}

abbrev worker : ℕ → WorkerId
worker n = record { 0 = n }

mark_fits : (w : WorkerId) (m : Mark) → names_only m w ≡ true → MarkFits w m
mark_fits w (Running v) named = ap worker (eqb-true v.0 w.0 named)
mark_fits w Waiting named = tt
mark_fits w Queued named = tt
mark_fits w Passed named = tt
mark_fits w Failed named = tt
mark_fits w Skipped named = tt

moved_fit : (s : StateView) (w : WorkerId) (m : MarkId) (from to : Mark) → can s w (Move m from to) ≡ true → MarkFits w from × MarkFits w to
moved_fit s w m from to possible =
    let last = and_parts _ (names_only to w) possible in
    let front = and_parts _ (names_only from w) last.0 in
    (mark_fits w from front.1, mark_fits w to last.1)

change_fits : (g : GraphView) (s : StateView) (w : WorkerId) (c : Change) → Fits g → BelongsTo g s → NamesOnly s c → can s w c ≡ true → ChangeFits w c
change_fits g s w (Lock l) fits belongs named possible = omega (arith, named, belongs.locks, fits.few_locks)
change_fits g s w (Unlock l) fits belongs named possible = omega (arith, named, belongs.locks, fits.few_locks)
change_fits g s w (Park l) fits belongs named possible = omega (arith, named, belongs.locks, fits.few_locks)
change_fits g s w (Unpark l) fits belongs named possible = omega (arith, named, belongs.locks, fits.few_locks)
change_fits g s w (Move (TaskOf n) from to) fits belongs named possible = (omega (arith, named, belongs.tasks, fits.few_tasks), (moved_fit s w (TaskOf n) from to possible).0, (moved_fit s w (TaskOf n) from to possible).1)
change_fits g s w (Move (ActionOf n) from to) fits belongs named possible = (omega (arith, named, belongs.actions, few_actions_in_all g fits), (moved_fit s w (ActionOf n) from to possible).0, (moved_fit s w (ActionOf n) from to possible).1)
change_fits g s w (Move (UnitOf n) from to) fits belongs named possible = (omega (arith, named, belongs.units, fits.few_units), (moved_fit s w (UnitOf n) from to possible).0, (moved_fit s w (UnitOf n) from to possible).1)
change_fits g s w Take fits belongs named possible = tt
change_fits g s w Give fits belongs named possible = tt
change_fits g s w Enter fits belongs named possible = tt
change_fits g s w Leave fits belongs named possible = tt

changes_fit : (g : GraphView) (s : StateView) (w : WorkerId) (cs : List Change) → Fits g → BelongsTo g s → AllByRecursion (NamesOnly s) cs → can_all s w cs ≡ true → ChangesFit w cs
changes_fit g s w [] fits belongs named possible = tt
changes_fit g s w (c ∷ cs) fits belongs named possible =
    let shape = same_shape-make s w c in (
      change_fits g s w c fits belongs named.0 (and_parts _ _ possible).0,
      changes_fit g (make s w c) w cs fits (belongs_along g s (make s w c) shape belongs) (all_named_along s (make s w c) cs shape named.1) (and_parts _ _ possible).1,
    )

outcome_fits : (o : Outcome) → o ≢ NotRun → IsFitOutcome o → OutcomeFits o
outcome_fits (Number n) run h = h
outcome_fits (Digest bytes) run h = h
outcome_fits NotThere run h = tt
outcome_fits TooLong run h = tt
outcome_fits Fault run h = tt
outcome_fits NoMemory run h = tt
outcome_fits NotRun run h = absurd (run refl)

kind_fits : (g : GraphView) (k : Kind) → Fits g → IsKindOf g k → IsFitKind k → KindFits k
kind_fits g (Start t) fits within h = omega (arith, within, fits.few_tasks)
kind_fits g (Skip t) fits within h = omega (arith, within, fits.few_tasks)
kind_fits g (End t) fits within h = omega (arith, within, fits.few_tasks)
kind_fits g (Submit a) fits within h = omega (arith, within, few_actions_in_all g fits)
kind_fits g (ParkFor a) fits within h = omega (arith, within, few_actions_in_all g fits)
kind_fits g (Resume a) fits within h = omega (arith, within, few_actions_in_all g fits)
kind_fits g (Claim u) fits within h = omega (arith, within, fits.few_units)
kind_fits g (Close d) fits within h = (omega (arith, within.0, fits.few_units), outcome_fits d.outcome within.1 h)
kind_fits g (Block None) fits within h = tt
kind_fits g (Block (Some u)) fits within h = omega (arith, within, fits.few_units)
kind_fits g (Unblock None) fits within h = tt
kind_fits g (Unblock (Some d)) fits within h = (omega (arith, within.0, fits.few_units), outcome_fits d.outcome within.1 h)
kind_fits g Acquire fits within h = tt
kind_fits g HandBack fits within h = tt

effect_fits : (g : GraphView) (s : StateView) (w : WorkerId) (k : Kind) (changes : Option (List Change)) → Fits g → BelongsTo g s → IfSome changes (Finishes g s w k) → EffectFits w changes
effect_fits g s w k None fits belongs h = tt
effect_fits g s w k (Some cs) fits belongs h = changes_fit g s w cs fits belongs h.named h.possible

belongs_after : (g : GraphView) (s : StateView) (w : WorkerId) (changes : Option (List Change)) → BelongsTo g s → BelongsTo g (changed s w changes)
belongs_after g s w None belongs = belongs
belongs_after g s w (Some cs) belongs = belongs_along g s (changed s w (Some cs)) (same_shape-make_all s w cs) belongs

entries_fit : (g : GraphView) (s : StateView) (es : List Entry) → Fits g → BelongsTo g s → lawful_from g s es → AllByRecursion (λ e. IsFitKind e.kind) es → EntriesFit es
entries_fit g s [] fits belongs lawful fit = tt
entries_fit g s (e ∷ es) fits belongs lawful fit = (
  record {
    worker = omega (arith, lawful.0.worker, fits.few_workers);
    kind = kind_fits g e.kind fits lawful.0.kind fit.0;
    effect = effect_fits g s e.worker e.kind e.changes fits belongs lawful.0.finished;
  },
  entries_fit g (effect s e) es fits (belongs_after g s e.worker e.changes belongs) lawful.1 fit.1,
)

pub history_fits : (g : GraphView) (es : List Entry) → Fits g → Lawful g es → All (λ e. IsFitKind e.kind) es → EntriesFit es
history_fits g es fits lawful fit = entries_fit g (opening_of g) es fits (belongs_opening g) lawful (recursion_from_All (λ e. IsFitKind e.kind) es fit)

-- a graph may have more workers and leases than a head names
pub head_fits : (g : GraphView) → Fits g → g.workers ≤ MAX_WORKERS → g.max_leases ≤ MAX_LEASES → HeadFits g.workers g.max_leases (Some g.locks)
head_fits g fits few_workers few_leases = record { some_worker = fits.some_worker; few_workers = few_workers; some_lease = fits.some_lease; few_leases = few_leases; few_locks = omega (arith, fits.few_locks) }
