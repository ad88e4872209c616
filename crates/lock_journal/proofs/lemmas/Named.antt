-- A lawful history leads to a good state of its graph, whose owners and runners are workers of the graph.
use Rattle.std.proofs.Common.{◌≡◌, ℕ, zero, suc, refl, length, ◌<◌, true, List, [], ◌∷◌, get_or, set, replicate, Option, None, Some, inl, inr, sym, ap, ◌∙◌, subst, arith}
use Rattle.std.specs.Prelude.{IfSome}
use Rattle.std.proofs.lemmas.Bool.{and_parts, eqb-true}
use Rattle.resource_lock.proofs.lemmas.Begins.{good_opening}
use Rattle.resource_lock.proofs.lemmas.Counted.{moves}
use Rattle.resource_lock.proofs.lemmas.Lists.{get_or-set_cases}
use Rattle.resource_lock.proofs.lemmas.Runs.{belongs_opening}
use Rattle.lock_journal.specs.Names.{Good, BelongsTo, can, can_all, make, make_all, names_only, opening_of, GraphView, StateView, Change, Lock}
use Rattle.lock_journal.specs.Names.{Unlock, Take, Give, Move, Unpark, Enter, Leave, WorkerId, Mark, Waiting, Running, TaskOf, ActionOf, UnitOf, Kind}
use Rattle.lock_journal.specs.Names.{Finishes, lawful_from, Lawful, Entry, changed, effect, replay_from, replay}
use Rattle.resource_lock.specs.declared.changes.Change.TheVariants.{Park}
use Rattle.lock_journal.proofs.lemmas.Replays.{entries_good}
use Rattle.lock_journal.specs.Own.{NamesWorkers}

runner : (v w : WorkerId) (m : Mark) (n : ℕ) → v.0 < n → names_only m v ≡ true → m ≡ Running w → w.0 < n
runner v w m n low own is =
    let same : w.0 ≡ v.0 = eqb-true w.0 v.0 (sym (ap (λ (k : Mark). names_only k v) is) ∙ own) in omega arith

-- a mark that is written by a worker
marked : (marks : List Mark) (i j n : ℕ) (v w : WorkerId) (to : Mark) → v.0 < n → names_only to v ≡ true → (get_or marks j Waiting ≡ Running w → w.0 < n) → get_or (set marks i to) j Waiting ≡ Running w → w.0 < n
marked marks i j n v w to low own old is = elim (get_or-set_cases marks i j to Waiting) [
  | inl at ↦ runner v w to n low own (sym at.1 ∙ is)
  | inr off ↦ old (sym off ∙ is)
]

module _ (n : ℕ) (v : WorkerId) (low : v.0 < n) where
  change_names : (s : StateView) (c : Change) → can s v c ≡ true → NamesWorkers n s → NamesWorkers n (make s v c)
  change_names s (Lock l) h old = record {
    owners = λ k w is. elim (get_or-set_cases s.owners l.0 k.0 (Some v) None) [
      | inl at ↦ let same : Some v ≡ Some w = sym at.1 ∙ is in subst (λ (x : WorkerId). x.0 < n) (cc) low
      | inr off ↦ old.owners k w (sym off ∙ is)
    ];
    runners = old.runners;
  }
  change_names s (Unlock l) h old = record {
    owners = λ k w is. elim (get_or-set_cases s.owners l.0 k.0 None None) [
      | inl at ↦ let not : None ≡ Some w = sym at.1 ∙ is in absurd (cc)
      | inr off ↦ old.owners k w (sym off ∙ is)
    ];
    runners = old.runners;
  }
  change_names s (Move (TaskOf t) from to) h old = record {
    owners = old.owners;
    runners = elim [
      | TaskOf k ↦ λ w. marked s.tasks t k n v w to low (moves s v (TaskOf t) from to h).to_own (old.runners (TaskOf k) w)
      | ActionOf k ↦ old.runners (ActionOf k)
      | UnitOf k ↦ old.runners (UnitOf k)
    ];
  }
  change_names s (Move (ActionOf a) from to) h old = record {
    owners = old.owners;
    runners = elim [
      | TaskOf k ↦ old.runners (TaskOf k)
      | ActionOf k ↦ λ w. marked s.actions a k n v w to low (moves s v (ActionOf a) from to h).to_own (old.runners (ActionOf k) w)
      | UnitOf k ↦ old.runners (UnitOf k)
    ];
  }
  change_names s (Move (UnitOf u) from to) h old = record {
    owners = old.owners;
    runners = elim [
      | TaskOf k ↦ old.runners (TaskOf k)
      | ActionOf k ↦ old.runners (ActionOf k)
      | UnitOf k ↦ λ w. marked s.units u k n v w to low (moves s v (UnitOf u) from to h).to_own (old.runners (UnitOf k) w)
    ];
  }
  change_names s Take h old = record { owners = old.owners; runners = old.runners }
  change_names s Give h old = record { owners = old.owners; runners = old.runners }
  change_names s (Park l) h old = record { owners = old.owners; runners = old.runners }
  change_names s (Unpark l) h old = record { owners = old.owners; runners = old.runners }
  change_names s Enter h old = record { owners = old.owners; runners = old.runners }
  change_names s Leave h old = record { owners = old.owners; runners = old.runners }

  changes_name : (cs : List Change) (s : StateView) → can_all s v cs ≡ true → NamesWorkers n s → NamesWorkers n (make_all s v cs)
  changes_name [] s h old = old
  changes_name (c ∷ cs) s h old =
      let p = and_parts (can s v c) (can_all (make s v c) v cs) h in
      changes_name cs (make s v c) p.1 (change_names s c p.0 old)

  entry_names : (g : GraphView) (s : StateView) (k : Kind) (o : Option (List Change)) → IfSome o (Finishes g s v k) → NamesWorkers n s → NamesWorkers n (changed s v o)
  entry_names g s k None f old = old
  entry_names g s k (Some cs) f old = changes_name cs s f.possible old

entries_name : (g : GraphView) (h : List Entry) (s : StateView) → lawful_from g s h → NamesWorkers g.workers s → NamesWorkers g.workers (replay_from s h)
entries_name g [] s lawful old = old
entries_name g (e ∷ h) s lawful old = entries_name g h (effect s e) lawful.1 (entry_names g.workers e.worker lawful.0.worker g s e.kind e.changes lawful.0.finished old)

all_same : {X : Type 0} (n k : ℕ) (x : X) → get_or (replicate n x) k x ≡ x
all_same zero k x = refl
all_same (suc n) zero x = refl
all_same (suc n) (suc k) x = all_same n k x

none_named : (g : GraphView) → NamesWorkers g.workers (opening_of g)
none_named g = record {
  owners = λ l w is. let not : None ≡ Some w = sym (all_same g.locks l.0 None) ∙ is in absurd (cc);
  runners = elim [
    | TaskOf k ↦ λ w is. let not : Waiting ≡ Running w = sym (all_same (length g.tasks) k Waiting) ∙ is in absurd (cc)
    | ActionOf k ↦ λ w is. let not : Waiting ≡ Running w = sym (all_same (length g.actions) k Waiting) ∙ is in absurd (cc)
    | UnitOf k ↦ λ w is. let not : Waiting ≡ Running w = sym (all_same g.units k Waiting) ∙ is in absurd (cc)
  ];
}

pub named : (g : GraphView) (h : List Entry) → Lawful g h → NamesWorkers g.workers (replay g h)
named g h lawful = entries_name g h (opening_of g) lawful (none_named g)

-- the state is a good one of the graph
pub belongs : (g : GraphView) (h : List Entry) → Lawful g h → BelongsTo g (replay g h)
belongs g h lawful = (entries_good g h (opening_of g) lawful (belongs_opening g, good_opening g)).0

pub good : (g : GraphView) (h : List Entry) → Lawful g h → Good (replay g h)
good g h lawful = (entries_good g h (opening_of g) lawful (belongs_opening g, good_opening g)).1
