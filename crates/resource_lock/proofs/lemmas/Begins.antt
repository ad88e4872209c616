-- The state that a run begins in is good.
use Rattle.std.proofs.Common.{◌≡◌, ℕ, ◌≤◌, length, map, false, refl, sym, ◌∙◌, ap, subst, arith, get_or, replicate, None, inl, inr}
use Rattle.std.specs.List.{All}
use Rattle.std.specs.Vec.{vec_capacity}
use Rattle.std.proofs.lemmas.Bool.{cases_lt}
use Rattle.std.proofs.lemmas.List.{get_or-replicate, get_or_past, length-replicate}
use Rattle.resource_lock.proofs.lemmas.Counted.{none_counted, same_counts}
use Rattle.resource_lock.specs.StateView.{StateView, Holding, empty_holding, holding_of, is_owned, is_owner, owns, leases_out, stands_in, each_once, runs_by}
use Rattle.resource_lock.specs.Good.{Good}
use Rattle.resource_lock.specs.GraphView.{GraphView}
use Rattle.resource_lock.specs.Opening.{opening_of}
use Rattle.resource_lock.specs.Counting.{counts_of, locks_owned, no_counts}
use Rattle.resource_lock.specs.State.{state_view, IsSound}
use Rattle.resource_lock.specs.declared.marks.Mark.TheVariants.{Waiting}
use Rattle.resource_lock.specs.declared.states.State.TheInside.{Inside}

all_same : {X : Type 0} (n i : ℕ) (x : X) → get_or (replicate n x) i x ≡ x
all_same n i x = elim (cases_lt i n) [
  | inl within ↦ get_or-replicate n i x x within
  | inr past ↦ get_or_past (replicate n x) i x (omega (arith, length-replicate n x))
]

pub good_opening : (g : GraphView) → Good (opening_of g)
good_opening g = record {
  few_leases = omega (arith, none_counted (λ (h : Holding). h.lease) g.workers empty_holding refl);
  all_alone = λ v w l k is first second. let none : owns (opening_of g) v l ≡ false = ap (λ o. is_owner o v) (all_same g.locks l.0 None) in cc;
  parked_not_owned = λ w l owned. ap (λ (h : Holding). stands_in l h.parked) (all_same g.workers w.0 empty_holding);
  parked_once = λ w. ap (λ (h : Holding). each_once h.parked) (all_same g.workers w.0 empty_holding);
  parked_locks = λ w l stands. let none : stands_in l (holding_of (opening_of g) w).parked ≡ false = ap (λ (h : Holding). stands_in l h.parked) (all_same g.workers w.0 empty_holding) in cc;
  blocked_no_lease = λ w blocked. ap (λ (h : Holding). h.lease) (all_same g.workers w.0 empty_holding);
}

-- a state is known by its parts
pub same_standing : {s t : StateView} → s.max_leases ≡ t.max_leases → s.all ≡ t.all → s.owners ≡ t.owners → s.holdings ≡ t.holdings → s.tasks ≡ t.tasks → s.actions ≡ t.actions → s.units ≡ t.units → s ≡ t
same_standing {s} {t} a all b c d e f =
    ap (λ x. record s { max_leases = x }) a
    ∙ ap (λ x. record s { max_leases = t.max_leases; all = x }) all
    ∙ ap (λ x. record s { max_leases = t.max_leases; all = t.all; owners = x }) b
    ∙ ap (λ x. record s { max_leases = t.max_leases; all = t.all; owners = t.owners; holdings = x }) c
    ∙ ap (λ x. record t { tasks = x; actions = s.actions; units = s.units }) d
    ∙ ap (λ x. record t { actions = x; units = s.units }) e
    ∙ ap (λ x. record t { units = x }) f

pub sound_opening : (a : Inside) (g : GraphView) → state_view a ≡ opening_of g → a.out ≡ 0 → a.owned ≡ 0 → map (λ h. h.counts) a.held.items ≡ replicate g.workers no_counts → All (λ h. length a.owners.items ≤ vec_capacity h.parked) a.held.items → IsSound a
sound_opening a g view out owned counts room = record {
  good = subst Good (sym view) (good_opening g);
  leases = out ∙ sym (none_counted (λ (h : Holding). h.lease) g.workers empty_holding refl) ∙ ap leases_out (sym view);
  owned = owned ∙ sym (none_counted is_owned g.locks None refl) ∙ ap locks_owned (sym view);
  counts = λ w. ap (λ x. get_or x w.0 no_counts) counts
      ∙ all_same g.workers w.0 no_counts
      ∙ sym (same_counts (none_counted (λ o. is_owner o w) g.locks None refl) (none_counted (runs_by w) (length g.tasks) Waiting refl) (none_counted (runs_by w) (length g.actions) Waiting refl) (none_counted (runs_by w) g.units Waiting refl))
      ∙ ap (λ s. counts_of s w) (sym view);
  room = room;
}
