-- Where no entry names the all-projects lock, a history is lawful with it exactly where it is lawful by the rule of graphs without one.
use Rattle.std.proofs.Common.{◌≡◌, ◌↔◌, ℕ, zero, suc, ◌+◌, ◌<◌, length, get_or, set, List, [], ◌∷◌, ◌++◌, map, replicate, Bool, true, false, not, cond, ◌&&◌, ◌||◌, eqb, Option, None, Some, refl, sym, ◌∙◌, ap, subst, arith}
use Rattle.std.specs.List.{AllByRecursion, list_any, list_all, range_with_len}
use Rattle.std.specs.Option.{is_none}
use Rattle.std.specs.Prelude.{IfSome}
use Rattle.std.proofs.lemmas.Bool.{ne_eqb}
use Rattle.std.proofs.lemmas.List.{get_or_append_left, replicate-append-replicate, length-replicate, length-set, length_push, set-append_left}
use Rattle.std.proofs.lemmas.List.Folds.{list_any-append}
use Rattle.std.proofs.Math.Seq.{get_or-append_seam}
use Rattle.resource_lock.proofs.lemmas.Runs.{same_shape-make, same_shape-make_all}
use Rattle.lock_journal.specs.Names.{can, can_all, make, make_all, same_mark, NamesOnly, GraphView, action_of, task_of, opening_of, actions_of}
use Rattle.lock_journal.specs.Names.{is_item, StateView, has_parked, holding_of, is_idle, is_owner, is_parked, kept_from, mark_of, owner_of, owns_any}
use Rattle.lock_journal.specs.Names.{runs_any, runs_unit, Change, Lock, Unlock, Take, Give, Move, ParkLock, Unpark, Enter, Leave, LockId, WorkerId}
use Rattle.lock_journal.specs.Names.{Waiting, Queued, Running, Skipped, TaskOf, ActionOf, UnitOf, Allowed, Finishes, IsKindOf, IsListOf, Lawful}
use Rattle.lock_journal.specs.Names.{lawful_from, Entry, changed, effect, condition, end_mark, has_passed, list_of, owned, owned_from, parked_locks}
use Rattle.lock_journal.specs.Names.{skipped_action, skipped_actions, skipped_waiting, Kind, Start, Skip, Submit, Park, Resume, Claim, Close, Block}
use Rattle.lock_journal.specs.Names.{Unblock, End, Acquire, HandBack}
use Rattle.resource_lock.specs.Change.{with_owner}
use Rattle.resource_lock.specs.StateView.{all_owner, is_all, is_other}
use Rattle.lock_transforms.specs.Table.{has_fallen}
use Rattle.lock_journal.specs.PlainPlans.{Finished, IsBelow, NameLocksBelow, WasAllowed, WasLawful, could, could_all, was_lawful_from, with_all}

abbrev lock_at : ℕ → LockId
lock_at n = record { 0 = n }

-- the state with the all-projects lock behind the others, which nobody owns
abbrev widen : StateView → StateView
widen s = record s { all = Some (lock_at (length s.owners)); owners = s.owners ++ None ∷ [] }

-- ---- a lock of the projects

owner_same : (s : StateView) (l : LockId) → l.0 < length s.owners → owner_of (widen s) l ≡ owner_of s l
owner_same s l within = get_or_append_left s.owners (None ∷ []) None l.0 within

nobody_owns_all : (s : StateView) → all_owner (widen s) ≡ None
nobody_owns_all s = get_or-append_seam s.owners None [] None

alone : (a b : Bool) → (a || false || (false && b)) ≡ a
alone true b = refl
alone false b = refl

-- only its owner keeps it
kept_is : (s : StateView) (w : WorkerId) (l : LockId) → l.0 < length s.owners → kept_from (widen s) w l ≡ is_other (owner_of s l) w
kept_is s w l within =
    ap (λ o. is_other o w || is_other (all_owner (widen s)) w || (is_all (widen s) l && list_any (λ o. is_other o w) (widen s).owners)) (owner_same s l within)
    ∙ ap (λ o. is_other (owner_of s l) w || is_other o w || (is_all (widen s) l && list_any (λ o. is_other o w) (widen s).owners)) (nobody_owns_all s)
    ∙ ap (λ b. is_other (owner_of s l) w || false || (b && list_any (λ o. is_other o w) (widen s).owners)) (ne_eqb (length s.owners) l.0 (λ e. absurd (omega (arith, e, within))))
    ∙ alone (is_other (owner_of s l) w) (list_any (λ o. is_other o w) (widen s).owners)

free_part : (o : Option WorkerId) (w : WorkerId) (p : Bool) → (is_none o && not (is_other o w) && not p) ≡ (is_none o && not p)
free_part None w p = refl
free_part (Some v) w p = refl

-- ---- a change

can_same : (s : StateView) (w : WorkerId) (c : Change) → IsBelow (length s.owners) c → can (widen s) w c ≡ could s w c
can_same s w (Lock l) below =
    ap (λ o. is_none o && not (kept_from (widen s) w l) && not (has_parked s w l)) (owner_same s l below)
    ∙ ap (λ b. is_none (owner_of s l) && not b && not (has_parked s w l)) (kept_is s w l below)
    ∙ free_part (owner_of s l) w (has_parked s w l)
can_same s w (Unlock l) below = ap (λ o. is_owner o w) (owner_same s l below)
can_same s w (ParkLock l) below = ap (λ o. not (is_owner o w) && not (has_parked s w l)) (owner_same s l below)
can_same s w (Move (TaskOf t) from to) below = refl
can_same s w (Move (ActionOf a) from to) below = refl
can_same s w (Move (UnitOf u) from to) below = refl
can_same s w Take below = refl
can_same s w Give below = refl
can_same s w (Unpark l) below = refl
can_same s w Enter below = refl
can_same s w Leave below = refl

owner_put : (s : StateView) (l : LockId) (o : Option WorkerId) → l.0 < length s.owners → with_owner (widen s) l o ≡ widen (with_owner s l o)
owner_put s l o within =
    ap (λ os. record s { all = Some (lock_at (length s.owners)); owners = os }) (set-append_left s.owners (None ∷ []) l.0 o within)
    ∙ ap (λ n. record s { all = Some (lock_at n); owners = set s.owners l.0 o ++ None ∷ [] }) (sym (length-set s.owners l.0 o))

make_same : (s : StateView) (w : WorkerId) (c : Change) → IsBelow (length s.owners) c → make (widen s) w c ≡ widen (make s w c)
make_same s w (Lock l) below = owner_put s l (Some w) below
make_same s w (Unlock l) below = owner_put s l None below
make_same s w (Move (TaskOf t) from to) below = refl
make_same s w (Move (ActionOf a) from to) below = refl
make_same s w (Move (UnitOf u) from to) below = refl
make_same s w Take below = refl
make_same s w Give below = refl
make_same s w (ParkLock l) below = refl
make_same s w (Unpark l) below = refl
make_same s w Enter below = refl
make_same s w Leave below = refl

-- ---- changes in turn

still_long : (n : ℕ) (s : StateView) (w : WorkerId) (c : Change) → length s.owners ≡ n → length (make s w c).owners ≡ n
still_long n s w c long = sym (same_shape-make s w c).locks ∙ long

here : (n : ℕ) (s : StateView) (c : Change) → length s.owners ≡ n → IsBelow n c → IsBelow (length s.owners) c
here n s c long below = subst (λ m. IsBelow m c) (sym long) below

can_all_same : (n : ℕ) (s : StateView) (w : WorkerId) (cs : List Change) → length s.owners ≡ n → AllByRecursion (IsBelow n) cs → can_all (widen s) w cs ≡ could_all s w cs
can_all_same n s w [] long below = refl
can_all_same n s w (c ∷ cs) long below =
    ap (λ b. b && can_all (make (widen s) w c) w cs) (can_same s w c (here n s c long below.0))
    ∙ ap (λ t. could s w c && can_all t w cs) (make_same s w c (here n s c long below.0))
    ∙ ap (λ b. could s w c && b) (can_all_same n (make s w c) w cs (still_long n s w c long) below.1)

make_all_same : (n : ℕ) (s : StateView) (w : WorkerId) (cs : List Change) → length s.owners ≡ n → AllByRecursion (IsBelow n) cs → make_all (widen s) w cs ≡ widen (make_all s w cs)
make_all_same n s w [] long below = refl
make_all_same n s w (c ∷ cs) long below =
    ap (λ t. make_all t w cs) (make_same s w c (here n s c long below.0))
    ∙ make_all_same n (make s w c) w cs (still_long n s w c long) below.1

named_in : (n : ℕ) (s : StateView) (c : Change) → length s.owners ≡ n → IsBelow n c → NamesOnly (widen s) c → NamesOnly s c
named_in n s (Lock l) long below named = omega (arith, long, below)
named_in n s (Unlock l) long below named = omega (arith, long, below)
named_in n s (ParkLock l) long below named = omega (arith, long, below)
named_in n s (Unpark l) long below named = omega (arith, long, below)
named_in n s (Move (TaskOf t) from to) long below named = named
named_in n s (Move (ActionOf a) from to) long below named = named
named_in n s (Move (UnitOf u) from to) long below named = named
named_in n s Take long below named = tt
named_in n s Give long below named = tt
named_in n s Enter long below named = tt
named_in n s Leave long below named = tt

longer : (s : StateView) → length (widen s).owners ≡ length s.owners + 1
longer s = length_push s.owners None

named_out : (s : StateView) (c : Change) → NamesOnly s c → NamesOnly (widen s) c
named_out s (Lock l) named = omega (arith, longer s, named)
named_out s (Unlock l) named = omega (arith, longer s, named)
named_out s (ParkLock l) named = omega (arith, longer s, named)
named_out s (Unpark l) named = omega (arith, longer s, named)
named_out s (Move (TaskOf t) from to) named = named
named_out s (Move (ActionOf a) from to) named = named
named_out s (Move (UnitOf u) from to) named = named
named_out s Take named = tt
named_out s Give named = tt
named_out s Enter named = tt
named_out s Leave named = tt

all_named_in : (n : ℕ) (s : StateView) (cs : List Change) → length s.owners ≡ n → AllByRecursion (IsBelow n) cs → AllByRecursion (NamesOnly (widen s)) cs → AllByRecursion (NamesOnly s) cs
all_named_in n s [] long below named = tt
all_named_in n s (c ∷ cs) long below named = (named_in n s c long below.0 named.0, all_named_in n s cs long below.1 named.1)

all_named_out : (s : StateView) (cs : List Change) → AllByRecursion (NamesOnly s) cs → AllByRecursion (NamesOnly (widen s)) cs
all_named_out s [] named = tt
all_named_out s (c ∷ cs) named = (named_out s c named.0, all_named_out s cs named.1)

-- ---- conditions and lists

or_nothing : (b : Bool) → (b || false) ≡ b
or_nothing true = refl
or_nothing false = refl

owns_any_same : (s : StateView) (w : WorkerId) → owns_any (widen s) w ≡ owns_any s w
owns_any_same s w = list_any-append (λ o. is_owner o w) s.owners (None ∷ []) ∙ or_nothing (owns_any s w)

idle_same : (s : StateView) (w : WorkerId) → is_idle (widen s) w ≡ is_idle s w
idle_same s w = ap (λ b. not (holding_of s w).blocked && not (holding_of s w).lease && not b && not (runs_any s w)) (owns_any_same s w)

condition_same : (g : GraphView) (s : StateView) (w : WorkerId) (kind : Kind) → condition (with_all g) (widen s) w kind ≡ condition g s w kind
condition_same g s w (Start t) = ap (λ b. same_mark (mark_of s (TaskOf t)) Waiting && list_all (λ k. has_passed (mark_of s (TaskOf k))) (task_of g t).after && b) (idle_same s w)
condition_same g s w (Skip t) = ap (λ b. same_mark (mark_of s (TaskOf t)) Waiting && list_any (λ k. has_fallen (mark_of s (TaskOf k))) (task_of g t).after && b) (idle_same s w)
condition_same g s w (Submit a) = refl
condition_same g s w (Park a) = refl
condition_same g s w (Resume a) = refl
condition_same g s w (Claim u) = ap (λ b. is_item g u && same_mark (mark_of s (UnitOf u)) Queued && not (runs_unit s w) && not (holding_of s w).blocked && not (holding_of s w).lease && (is_parked s w || b)) (idle_same s w)
condition_same g s w (Close c) = refl
condition_same g s w (Block (Some u)) = refl
condition_same g s w (Block None) = refl
condition_same g s w (Unblock (Some c)) = refl
condition_same g s w (Unblock None) = refl
condition_same g s w (End t) = refl
condition_same g s w Acquire = refl
condition_same g s w HandBack = ap (λ b. not (holding_of s w).blocked && not (runs_any s w) && (b || (holding_of s w).lease)) (owns_any_same s w)

owned_plus : (n : ℕ) (os : List (Option WorkerId)) (w : WorkerId) → owned_from n (os ++ None ∷ []) w ≡ owned_from n os w
owned_plus n [] w = refl
owned_plus n (o ∷ os) w = ap (λ ls. cond (is_owner o w) (lock_at n ∷ ls) ls) (owned_plus (n + 1) os w)

owned_same : (s : StateView) (w : WorkerId) → owned (widen s) w ≡ owned s w
owned_same s w = owned_plus 0 s.owners w

skipped_same : (g : GraphView) (as' : List ℕ) → skipped_actions (with_all g) as' ≡ skipped_actions g as'
skipped_same g [] = refl
skipped_same g (a ∷ rest) = ap (λ cs. skipped_action g a ++ cs) (skipped_same g rest)

waiting_same : (g : GraphView) (s : StateView) (as' : List ℕ) → skipped_waiting (with_all g) (widen s) as' ≡ skipped_waiting g s as'
waiting_same g s [] = refl
waiting_same g s (a ∷ rest) = ap (λ cs. cond (same_mark (mark_of s (ActionOf a)) Waiting) (skipped_action g a) [] ++ cs) (waiting_same g s rest)

list_same : (g : GraphView) (s : StateView) (w : WorkerId) (kind : Kind) → list_of (with_all g) (widen s) w kind ≡ list_of g s w kind
list_same g s w (Start t) = refl
list_same g s w (Skip t) = ap (λ cs. Move (TaskOf t) Waiting Skipped ∷ cs) (skipped_same g (actions_of g t))
list_same g s w (Submit a) = refl
list_same g s w (Park a) = refl
list_same g s w (Resume a) = refl
list_same g s w (Claim u) = refl
list_same g s w (Close c) = refl
list_same g s w (Block (Some u)) = ap (λ ls. Move (UnitOf u) Waiting (Running w) ∷ Give ∷ parked_locks ls ++ Enter ∷ []) (owned_same s w)
list_same g s w (Block None) = ap (λ ls. Give ∷ parked_locks ls ++ Enter ∷ []) (owned_same s w)
list_same g s w (Unblock (Some c)) = refl
list_same g s w (Unblock None) = refl
list_same g s w (End t) = ap (λ cs. cs ++ Move (TaskOf t) (Running w) (end_mark g s t) ∷ cond (holding_of s w).lease (Unlock (task_of g t).lock ∷ Give ∷ []) []) (waiting_same g s (actions_of g t))
list_same g s w Acquire = refl
list_same g s w HandBack = ap (λ ls. map Unlock ls ++ cond (holding_of s w).lease (Give ∷ []) []) (owned_same s w)

is_list_in : (g : GraphView) (s : StateView) (w : WorkerId) (kind : Kind) (cs : List Change) → IsListOf (with_all g) (widen s) w kind cs → IsListOf g s w kind cs
is_list_in g s w (Start t) cs is = is ∙ list_same g s w (Start t)
is_list_in g s w (Skip t) cs is = is ∙ list_same g s w (Skip t)
is_list_in g s w (Submit a) cs is = is ∙ list_same g s w (Submit a)
is_list_in g s w (Park a) cs is = is ∙ list_same g s w (Park a)
is_list_in g s w (Resume a) cs is = is ∙ list_same g s w (Resume a)
is_list_in g s w (Claim u) cs is = is ∙ list_same g s w (Claim u)
is_list_in g s w (Close c) cs is = is ∙ list_same g s w (Close c)
is_list_in g s w (Block (Some u)) cs is = is ∙ list_same g s w (Block (Some u))
is_list_in g s w (Block None) cs is = is ∙ list_same g s w (Block None)
is_list_in g s w (Unblock (Some c)) cs is = is ∙ list_same g s w (Unblock (Some c))
is_list_in g s w (Unblock None) cs is = is ∙ list_same g s w (Unblock None)
is_list_in g s w (End t) cs is = is ∙ list_same g s w (End t)
is_list_in g s w Acquire cs is = is
is_list_in g s w HandBack cs is = is ∙ list_same g s w HandBack

is_list_out : (g : GraphView) (s : StateView) (w : WorkerId) (kind : Kind) (cs : List Change) → IsListOf g s w kind cs → IsListOf (with_all g) (widen s) w kind cs
is_list_out g s w (Start t) cs is = is ∙ sym (list_same g s w (Start t))
is_list_out g s w (Skip t) cs is = is ∙ sym (list_same g s w (Skip t))
is_list_out g s w (Submit a) cs is = is ∙ sym (list_same g s w (Submit a))
is_list_out g s w (Park a) cs is = is ∙ sym (list_same g s w (Park a))
is_list_out g s w (Resume a) cs is = is ∙ sym (list_same g s w (Resume a))
is_list_out g s w (Claim u) cs is = is ∙ sym (list_same g s w (Claim u))
is_list_out g s w (Close c) cs is = is ∙ sym (list_same g s w (Close c))
is_list_out g s w (Block (Some u)) cs is = is ∙ sym (list_same g s w (Block (Some u)))
is_list_out g s w (Block None) cs is = is ∙ sym (list_same g s w (Block None))
is_list_out g s w (Unblock (Some c)) cs is = is ∙ sym (list_same g s w (Unblock (Some c)))
is_list_out g s w (Unblock None) cs is = is ∙ sym (list_same g s w (Unblock None))
is_list_out g s w (End t) cs is = is ∙ sym (list_same g s w (End t))
is_list_out g s w Acquire cs is = is
is_list_out g s w HandBack cs is = is ∙ sym (list_same g s w HandBack)

kind_in : (g : GraphView) (kind : Kind) → IsKindOf (with_all g) kind → IsKindOf g kind
kind_in g (Start t) is = is
kind_in g (Skip t) is = is
kind_in g (Submit a) is = is
kind_in g (Park a) is = is
kind_in g (Resume a) is = is
kind_in g (Claim u) is = is
kind_in g (Close c) is = is
kind_in g (Block (Some u)) is = is
kind_in g (Block None) is = is
kind_in g (Unblock (Some c)) is = is
kind_in g (Unblock None) is = is
kind_in g (End t) is = is
kind_in g Acquire is = is
kind_in g HandBack is = is

kind_out : (g : GraphView) (kind : Kind) → IsKindOf g kind → IsKindOf (with_all g) kind
kind_out g (Start t) is = is
kind_out g (Skip t) is = is
kind_out g (Submit a) is = is
kind_out g (Park a) is = is
kind_out g (Resume a) is = is
kind_out g (Claim u) is = is
kind_out g (Close c) is = is
kind_out g (Block (Some u)) is = is
kind_out g (Block None) is = is
kind_out g (Unblock (Some c)) is = is
kind_out g (Unblock None) is = is
kind_out g (End t) is = is
kind_out g Acquire is = is
kind_out g HandBack is = is

-- ---- entries

finished_in : (n : ℕ) (g : GraphView) (s : StateView) (w : WorkerId) (kind : Kind) (o : Option (List Change)) → length s.owners ≡ n → IfSome o (AllByRecursion (IsBelow n)) → IfSome o (Finishes (with_all g) (widen s) w kind) → IfSome o (Finished g s w kind)
finished_in n g s w kind None long below f = tt
finished_in n g s w kind (Some cs) long below f = record {
  condition = sym (condition_same g s w kind) ∙ f.condition;
  list = is_list_in g s w kind cs f.list;
  named = all_named_in n s cs long below f.named;
  possible = sym (can_all_same n s w cs long below) ∙ f.possible;
}

finished_out : (n : ℕ) (g : GraphView) (s : StateView) (w : WorkerId) (kind : Kind) (o : Option (List Change)) → length s.owners ≡ n → IfSome o (AllByRecursion (IsBelow n)) → IfSome o (Finished g s w kind) → IfSome o (Finishes (with_all g) (widen s) w kind)
finished_out n g s w kind None long below f = tt
finished_out n g s w kind (Some cs) long below f = record {
  condition = condition_same g s w kind ∙ f.condition;
  list = is_list_out g s w kind cs f.list;
  named = all_named_out s cs f.named;
  possible = can_all_same n s w cs long below ∙ f.possible;
}

changed_same : (n : ℕ) (s : StateView) (w : WorkerId) (o : Option (List Change)) → length s.owners ≡ n → IfSome o (AllByRecursion (IsBelow n)) → changed (widen s) w o ≡ widen (changed s w o)
changed_same n s w None long below = refl
changed_same n s w (Some cs) long below = make_all_same n s w cs long below

changed_long : (n : ℕ) (s : StateView) (w : WorkerId) (o : Option (List Change)) → length s.owners ≡ n → length (changed s w o).owners ≡ n
changed_long n s w None long = long
changed_long n s w (Some cs) long = sym (same_shape-make_all s w cs).locks ∙ long

-- ---- histories

lawful_in : (n : ℕ) (g : GraphView) (s : StateView) (h : List Entry) → length s.owners ≡ n → NameLocksBelow n h → lawful_from (with_all g) (widen s) h → was_lawful_from g s h
lawful_in n g s [] long below lawful = tt
lawful_in n g s (e ∷ es) long below lawful = (
  record { worker = lawful.0.worker; kind = kind_in g e.kind lawful.0.kind; finished = finished_in n g s e.worker e.kind e.changes long below.0 lawful.0.finished },
  lawful_in n g (effect s e) es (changed_long n s e.worker e.changes long) below.1 (subst (λ t. lawful_from (with_all g) t es) (changed_same n s e.worker e.changes long below.0) lawful.1),
)

lawful_out : (n : ℕ) (g : GraphView) (s : StateView) (h : List Entry) → length s.owners ≡ n → NameLocksBelow n h → was_lawful_from g s h → lawful_from (with_all g) (widen s) h
lawful_out n g s [] long below lawful = tt
lawful_out n g s (e ∷ es) long below lawful = (
  record { worker = lawful.0.worker; kind = kind_out g e.kind lawful.0.kind; finished = finished_out n g s e.worker e.kind e.changes long below.0 lawful.0.finished },
  subst (λ t. lawful_from (with_all g) t es) (sym (changed_same n s e.worker e.changes long below.0)) (lawful_out n g (effect s e) es (changed_long n s e.worker e.changes long) below.1 lawful.1),
)

abbrev no_worker : Option WorkerId
no_worker = None

one_more : (n : ℕ) → replicate (n + 1) no_worker ≡ replicate n no_worker ++ no_worker ∷ []
one_more n = sym (replicate-append-replicate n 1 no_worker)

opens_wide : (g : GraphView) → opening_of (with_all g) ≡ widen (opening_of g)
opens_wide g =
    ap (λ os. record (opening_of g) { all = Some (lock_at g.locks); owners = os }) (one_more g.locks)
    ∙ ap (λ n. record (opening_of g) { all = Some (lock_at n); owners = replicate g.locks None ++ None ∷ [] }) (sym (length-replicate {A = Option WorkerId} g.locks None))

pub lawful_as_without : (g : GraphView) (h : List Entry) → NameLocksBelow g.locks h → Lawful (with_all g) h ↔ WasLawful g h
lawful_as_without g h below =
    let long : length (opening_of g).owners ≡ g.locks = length-replicate {A = Option WorkerId} g.locks None in (
      λ lawful. lawful_in g.locks g (opening_of g) h long below (subst (λ t. lawful_from (with_all g) t h) (opens_wide g) lawful),
      λ lawful. subst (λ t. lawful_from (with_all g) t h) (sym (opens_wide g)) (lawful_out g.locks g (opening_of g) h long below lawful),
    )
