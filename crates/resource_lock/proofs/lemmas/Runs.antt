-- Changes made in order: what they keep, and the last of them taken back.
use Rattle.std.proofs.Common.{◌≡◌, ◌<◌, length, List, [], ◌∷◌, ◌++◌, Bool, true, false, ◌&&◌, None, refl, sym, ◌∙◌, ap, subst, arith}
use Rattle.std.specs.List.{AllByRecursion}
use Rattle.std.proofs.lemmas.Bool.{and_parts}
use Rattle.std.proofs.lemmas.List.{length-set, length-replicate}
use Rattle.resource_lock.proofs.lemmas.Undo.{undone}
use Rattle.resource_lock.proofs.lemmas.Kept.{kept, can_back}
use Rattle.resource_lock.specs.StateView.{StateView, empty_holding, IsWorkerOf, IsMarkOf, holding_of}
use Rattle.resource_lock.specs.Change.{can, make, make_all, can_all, inverse_of, holding_after, with_holding, NamesOnly}
use Rattle.resource_lock.specs.Good.{Good}
use Rattle.resource_lock.specs.Shape.{SameShape, BelongsTo}
use Rattle.resource_lock.specs.GraphView.{GraphView}
use Rattle.resource_lock.specs.Opening.{opening_of}
use Rattle.resource_lock.specs.declared.marks.Mark.TheVariants.{Waiting}
use Rattle.resource_lock.specs.declared.ids.WorkerId.{WorkerId}
use Rattle.resource_lock.specs.declared.marks.MarkId.{MarkId}
use Rattle.resource_lock.specs.declared.marks.MarkId.TheVariants.{Task as TaskOf, Action as ActionOf, Unit as UnitOf}
use Rattle.resource_lock.specs.declared.changes.Change.{Change}
use Rattle.resource_lock.specs.declared.changes.Change.TheVariants.{Lock, Unlock, Take, Give, Move, Park, Unpark, Enter, Leave}

same_shape-refl : (s : StateView) → SameShape s s
same_shape-refl s = record { max_leases = refl; all = refl; locks = refl; workers = refl; tasks = refl; actions = refl; units = refl }

pub same_shape-trans : (a b c : StateView) → SameShape a b → SameShape b c → SameShape a c
same_shape-trans a b c x y = record { max_leases = x.max_leases ∙ y.max_leases; all = x.all ∙ y.all; locks = x.locks ∙ y.locks; workers = x.workers ∙ y.workers; tasks = x.tasks ∙ y.tasks; actions = x.actions ∙ y.actions; units = x.units ∙ y.units }

shape_holding : (s : StateView) (w : WorkerId) (c : Change) → SameShape s (with_holding s w (holding_after (holding_of s w) c))
shape_holding s w c = record { max_leases = refl; all = refl; locks = refl; workers = sym (length-set s.holdings w.0 (holding_after (holding_of s w) c)); tasks = refl; actions = refl; units = refl }

-- a change keeps which locks, workers and marks there are
pub same_shape-make : (s : StateView) (w : WorkerId) (c : Change) → SameShape s (make s w c)
same_shape-make s w (Lock l) = record { max_leases = refl; all = refl; locks = sym (length-set s.owners l.0 _); workers = refl; tasks = refl; actions = refl; units = refl }
same_shape-make s w (Unlock l) = record { max_leases = refl; all = refl; locks = sym (length-set s.owners l.0 _); workers = refl; tasks = refl; actions = refl; units = refl }
same_shape-make s w (Move (TaskOf t) a b) = record { max_leases = refl; all = refl; locks = refl; workers = refl; tasks = sym (length-set s.tasks t b); actions = refl; units = refl }
same_shape-make s w (Move (ActionOf t) a b) = record { max_leases = refl; all = refl; locks = refl; workers = refl; tasks = refl; actions = sym (length-set s.actions t b); units = refl }
same_shape-make s w (Move (UnitOf t) a b) = record { max_leases = refl; all = refl; locks = refl; workers = refl; tasks = refl; actions = refl; units = sym (length-set s.units t b) }
same_shape-make s w Take = shape_holding s w Take
same_shape-make s w Give = shape_holding s w Give
same_shape-make s w (Park l) = shape_holding s w (Park l)
same_shape-make s w (Unpark l) = shape_holding s w (Unpark l)
same_shape-make s w Enter = shape_holding s w Enter
same_shape-make s w Leave = shape_holding s w Leave

pub same_shape-make_all : (s : StateView) (w : WorkerId) (cs : List Change) → SameShape s (make_all s w cs)
same_shape-make_all s w [] = same_shape-refl s
same_shape-make_all s w (c ∷ cs) = same_shape-trans s (make s w c) (make_all (make s w c) w cs) (same_shape-make s w c) (same_shape-make_all (make s w c) w cs)

pub worker_along : (s t : StateView) (w : WorkerId) → SameShape s t → IsWorkerOf s w → IsWorkerOf t w
worker_along s t w same h = omega (arith, same.workers)

named_mark : (s t : StateView) (m : MarkId) → SameShape s t → IsMarkOf s m → IsMarkOf t m
named_mark s t (TaskOf k) same h = omega (arith, same.tasks)
named_mark s t (ActionOf k) same h = omega (arith, same.actions)
named_mark s t (UnitOf k) same h = omega (arith, same.units)

pub named_along : (s t : StateView) (c : Change) → SameShape s t → NamesOnly s c → NamesOnly t c
named_along s t (Lock l) same h = omega (arith, same.locks)
named_along s t (Unlock l) same h = omega (arith, same.locks)
named_along s t (Park l) same h = omega (arith, same.locks)
named_along s t (Unpark l) same h = omega (arith, same.locks)
named_along s t (Move m a b) same h = named_mark s t m same h
named_along s t _ same h = tt

pub all_named_along : (s t : StateView) (cs : List Change) → SameShape s t → AllByRecursion (NamesOnly s) cs → AllByRecursion (NamesOnly t) cs
all_named_along s t [] same h = tt
all_named_along s t (c ∷ cs) same h = (named_along s t c same h.0, all_named_along s t cs same h.1)

pub make_all-append : (s : StateView) (w : WorkerId) (cs ds : List Change) → make_all s w (cs ++ ds) ≡ make_all (make_all s w cs) w ds
make_all-append s w [] ds = refl
make_all-append s w (c ∷ cs) ds = make_all-append (make s w c) w cs ds

and_regroup : (a b c : Bool) → (a && (b && c)) ≡ ((a && b) && c)
and_regroup true b c = refl
and_regroup false b c = refl

pub can_all-append : (s : StateView) (w : WorkerId) (cs ds : List Change) → can_all s w (cs ++ ds) ≡ (can_all s w cs && can_all (make_all s w cs) w ds)
can_all-append s w [] ds = refl
can_all-append s w (c ∷ cs) ds = ap (λ b. can s w c && b) (can_all-append (make s w c) w cs ds) ∙ and_regroup (can s w c) (can_all (make s w c) w cs) (can_all (make_all (make s w c) w cs) w ds)

pub all_named-append : (s : StateView) (cs ds : List Change) → AllByRecursion (NamesOnly s) (cs ++ ds) → AllByRecursion (NamesOnly s) cs × AllByRecursion (NamesOnly s) ds
all_named-append s [] ds h = (tt, h)
all_named-append s (c ∷ cs) ds h = let rest : AllByRecursion (NamesOnly s) cs × AllByRecursion (NamesOnly s) ds = all_named-append s cs ds h.1 in ((h.0, rest.0), rest.1)

pub all_named_from : (s : StateView) (cs ds : List Change) → AllByRecursion (NamesOnly s) cs → AllByRecursion (NamesOnly s) ds → AllByRecursion (NamesOnly s) (cs ++ ds)
all_named_from s [] ds a b = b
all_named_from s (c ∷ cs) ds a b = (a.0, all_named_from s cs ds a.1 b)

-- changes that can be made in turn keep a state good
pub kept_all : (s : StateView) (w : WorkerId) (cs : List Change) → IsWorkerOf s w → AllByRecursion (NamesOnly s) cs → Good s → can_all s w cs ≡ true → Good (make_all s w cs)
kept_all s w [] worker named good h = good
kept_all s w (c ∷ cs) worker named good h =
    let both : (can s w c ≡ true) × (can_all (make s w c) w cs ≡ true) = and_parts (can s w c) (can_all (make s w c) w cs) h in
    kept_all (make s w c) w cs (worker_along s (make s w c) w (same_shape-make s w c) worker) (all_named_along s (make s w c) cs (same_shape-make s w c) named.1) (kept s w c worker named.0 good both.0) both.1

-- a state with the same locks, workers and marks is one of the same graph
pub belongs_along : (g : GraphView) (s t : StateView) → SameShape s t → BelongsTo g s → BelongsTo g t
belongs_along g s t same b = record { max_leases = sym same.max_leases ∙ b.max_leases; all = sym same.all ∙ b.all; locks = sym same.locks ∙ b.locks; workers = sym same.workers ∙ b.workers; tasks = sym same.tasks ∙ b.tasks; actions = sym same.actions ∙ b.actions; units = sym same.units ∙ b.units }

-- the state that a run begins in is one of its graph
pub belongs_opening : (g : GraphView) → BelongsTo g (opening_of g)
belongs_opening g = record { max_leases = refl; all = refl; locks = length-replicate g.locks None; workers = length-replicate g.workers empty_holding; tasks = length-replicate (length g.tasks) Waiting; actions = length-replicate (length g.actions) Waiting; units = length-replicate g.units Waiting }

pub worker_from : (g : GraphView) (s : StateView) (w : WorkerId) → BelongsTo g s → w.0 < g.workers → IsWorkerOf s w
worker_from g s w b h = omega (arith, b.workers)

-- The last of the changes made can be taken back, which leaves the state before it.
pub record TakesBack (s t : StateView) (w : WorkerId) (cs : List Change) (c : Change) : Type 0 where
  pub named : NamesOnly t (inverse_of c)
  pub possible : can t w (inverse_of c) ≡ true
  pub back : make t w (inverse_of c) ≡ make_all s w cs

named_inverse : (s : StateView) (c : Change) → NamesOnly s c → NamesOnly s (inverse_of c)
named_inverse s (Lock l) h = h
named_inverse s (Unlock l) h = h
named_inverse s (Park l) h = h
named_inverse s (Unpark l) h = h
named_inverse s (Move m a b) h = h
named_inverse s Take h = tt
named_inverse s Give h = tt
named_inverse s Enter h = tt
named_inverse s Leave h = tt

pub last_taken_back : (s t : StateView) (w : WorkerId) (cs : List Change) (c : Change) → IsWorkerOf s w → Good s → AllByRecursion (NamesOnly s) (cs ++ c ∷ []) → can_all s w (cs ++ c ∷ []) ≡ true → t ≡ make_all s w (cs ++ c ∷ []) → TakesBack s t w cs c
last_taken_back s t w cs c worker good named possible is =
    let mid : StateView = make_all s w cs in
    let parts : (can_all s w cs ≡ true) × ((can (make_all s w cs) w c && true) ≡ true) = and_parts (can_all s w cs) (can (make_all s w cs) w c && true) (sym (can_all-append s w cs (c ∷ [])) ∙ possible) in
    let can_last : can (make_all s w cs) w c ≡ true = (and_parts (can (make_all s w cs) w c) true parts.1).0 in
    let names : AllByRecursion (NamesOnly s) cs × AllByRecursion (NamesOnly s) (c ∷ []) = all_named-append s cs (c ∷ []) named in
    let same : SameShape s (make_all s w cs) = same_shape-make_all s w cs in
    let here : IsWorkerOf (make_all s w cs) w = worker_along s (make_all s w cs) w same worker in
    let named_here : NamesOnly (make_all s w cs) c = named_along s (make_all s w cs) c same names.1.0 in
    let good_here : Good (make_all s w cs) = kept_all s w cs worker names.0 good parts.0 in
    let now : t ≡ make (make_all s w cs) w c = is ∙ make_all-append s w cs (c ∷ []) in
    record {
      named = subst (λ (x : StateView). NamesOnly x (inverse_of c)) (sym now) (named_along (make_all s w cs) (make (make_all s w cs) w c) (inverse_of c) (same_shape-make (make_all s w cs) w c) (named_inverse (make_all s w cs) c named_here));
      possible = ap (λ (x : StateView). can x w (inverse_of c)) now ∙ can_back (make_all s w cs) w c here named_here good_here can_last;
      back = ap (λ (x : StateView). make x w (inverse_of c)) now ∙ undone (make_all s w cs) w c here can_last;
    }

pub same_shape-sym : (a b : StateView) → SameShape a b → SameShape b a
same_shape-sym a b x = record { max_leases = sym x.max_leases; all = sym x.all; locks = sym x.locks; workers = sym x.workers; tasks = sym x.tasks; actions = sym x.actions; units = sym x.units }
