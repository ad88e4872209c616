-- Entries with given changes.
use Rattle.std.proofs.Common.{◌≡◌, ◌≢◌, ◌≤◌, ◌<◌, ◌+◌, ℕ, Bool, true, false, Decides, List, [], ◌∷◌, Some, length, refl, sym, ◌∙◌, ap, subst, arith}
use Rattle.std.specs.List.{list_all, AllByRecursion}
use Rattle.std.proofs.lemmas.Bool.{and_from, and_parts, false≢true, leb-true, ltb-true, lt-ltb}
use Rattle.resource_lock.specs.GraphView.{GraphView}
use Rattle.resource_lock.specs.StateView.{StateView, holding_of}
use Rattle.resource_lock.specs.Change.{can_all, NamesOnly}
use Rattle.resource_lock.specs.Shape.{BelongsTo}
use Rattle.resource_lock.specs.declared.ids.WorkerId.{WorkerId}
use Rattle.resource_lock.specs.declared.changes.Change.{Change}
use Rattle.resource_lock.specs.declared.changes.Change.TheVariants.{Lock, Unlock, Take, Give, Move, Park as ParkLock, Unpark, Enter, Leave}
use Rattle.lock_transforms.specs.Admitting.{IsAcquire, HasTried, takes_within}
use Rattle.lock_transforms.specs.Entry.{entry}
use Rattle.lock_transforms.specs.Allowed.{Allowed, IsKindOf, IsListOf}
use Rattle.lock_transforms.specs.Making.{Makes}
use Rattle.lock_transforms.specs.Table.{condition, list_of, is_enabled, acquires}
use Rattle.lock_transforms.specs.TentativeView.{TentativeView, IsSoundTentative, Worked}
use Rattle.lock_transforms.specs.declared.entries.Kind.{Kind}
use Rattle.lock_transforms.specs.declared.entries.Kind.TheVariants.{Start, Skip, Submit, Park, Resume, Claim, Close, Block, Unblock, End, Acquire, HandBack}
use Rattle.lock_transforms.proofs.Makings.{worked_from, made_is}
use Rattle.lock_transforms.proofs.Steps.{leads_none}

-- all kinds but one fix their changes
pub fixed_list : (g : GraphView) (s : StateView) (w : WorkerId) (k : Kind) (cs : List Change) → k ≢ Acquire → IsListOf g s w k cs → cs ≡ list_of g s w k
fixed_list g s w (Start t) cs other list = list
fixed_list g s w (Skip t) cs other list = list
fixed_list g s w (Submit a) cs other list = list
fixed_list g s w (Park a) cs other list = list
fixed_list g s w (Resume a) cs other list = list
fixed_list g s w (Claim u) cs other list = list
fixed_list g s w (Close c) cs other list = list
fixed_list g s w (Block u) cs other list = list
fixed_list g s w (Unblock c) cs other list = list
fixed_list g s w (End t) cs other list = list
fixed_list g s w Acquire cs other list = absurd (other refl)
fixed_list g s w HandBack cs other list = list

-- an entry of such a kind that is allowed has the changes that the kind fixes, and can finish
pub list_allowed : (g : GraphView) (s : StateView) (w : WorkerId) (k : Kind) (cs : List Change) → k ≢ Acquire → Allowed g s (entry w k (Some cs)) → cs ≡ list_of g s w k
list_allowed g s w k cs other allowed = fixed_list g s w k cs other allowed.finished.list

pub enabled_allowed : (g : GraphView) (s : StateView) (w : WorkerId) (k : Kind) (cs : List Change) → k ≢ Acquire → Allowed g s (entry w k (Some cs)) → is_enabled g s w k ≡ true
enabled_allowed g s w k cs other allowed =
    and_from (condition g s w k) (can_all s w (list_of g s w k)) allowed.finished.condition
    (ap (can_all s w) (sym (list_allowed g s w k cs other allowed)) ∙ allowed.finished.possible)

-- nothing was made for an entry that isn't allowed
pub refused_at_once : {t : TentativeView} {k : Kind} {cs : List Change} {answer : Bool} → answer ≡ false → t.made ≡ [] → ¬ Allowed t.graph t.state (entry t.worker k (Some cs)) → HasTried t t k cs answer
refused_at_once {t} is fresh refused = record {
  worked = record { graph = refl; worker = refl; room = omega (arith, ap length fresh); leads = leads_none t fresh };
  allowed = λ e. absurd (false≢true (sym is ∙ e));
  made = λ e. absurd (false≢true (sym is ∙ e));
  refused = λ e. refused;
}

-- locks within the state's, and how many there can be

pub within_named : (s : StateView) (low : ℕ) (leased : Bool) (cs : List Change) → acquires low leased cs ≡ true → list_all (takes_within (length s.owners)) cs ≡ true → AllByRecursion (NamesOnly s) cs
within_named s low leased [] taken within = tt
within_named s low leased (Lock l ∷ cs) taken within =
    let on = and_parts _ _ taken in
    let here = and_parts _ _ within in
    (ltb-true l.0 (length s.owners) here.0, within_named s (l.0 + 1) leased cs on.1 here.1)
within_named s low leased (Take ∷ []) taken within = (tt, tt)
within_named s low leased (Take ∷ c ∷ cs) taken within = absurd (false≢true taken)
within_named s low leased (Unlock l ∷ cs) taken within = absurd (false≢true taken)
within_named s low leased (Give ∷ cs) taken within = absurd (false≢true taken)
within_named s low leased (Move m from to ∷ cs) taken within = absurd (false≢true taken)
within_named s low leased (ParkLock l ∷ cs) taken within = absurd (false≢true taken)
within_named s low leased (Unpark l ∷ cs) taken within = absurd (false≢true taken)
within_named s low leased (Enter ∷ cs) taken within = absurd (false≢true taken)
within_named s low leased (Leave ∷ cs) taken within = absurd (false≢true taken)

pub named_within : (s : StateView) (cs : List Change) → AllByRecursion (NamesOnly s) cs → list_all (takes_within (length s.owners)) cs ≡ true
named_within s [] named = refl
named_within s (Lock l ∷ cs) named = and_from _ _ (lt-ltb l.0 (length s.owners) named.0) (named_within s cs named.1)
named_within s (Take ∷ cs) named = named_within s cs named.1
named_within s (Unlock l ∷ cs) named = named_within s cs named.1
named_within s (Give ∷ cs) named = named_within s cs named.1
named_within s (Move m from to ∷ cs) named = named_within s cs named.1
named_within s (ParkLock l ∷ cs) named = named_within s cs named.1
named_within s (Unpark l ∷ cs) named = named_within s cs named.1
named_within s (Enter ∷ cs) named = named_within s cs named.1
named_within s (Leave ∷ cs) named = named_within s cs named.1

pub few_acquired : (n low : ℕ) (leased : Bool) (cs : List Change) → low ≤ n → acquires low leased cs ≡ true → list_all (takes_within n) cs ≡ true → length cs + low ≤ n + 1
few_acquired n low leased [] below taken within = omega arith
few_acquired n low leased (Lock l ∷ cs) below taken within =
    let on = and_parts _ _ taken in
    let here = and_parts _ _ within in
    let least : low ≤ l.0 = leb-true low l.0 on.0 in
    let bounded : l.0 < n = ltb-true l.0 n here.0 in
    let upper : l.0 + 1 ≤ n = omega (arith, bounded) in
    omega (arith, least, few_acquired n (l.0 + 1) leased cs upper on.1 here.1)
few_acquired n low leased (Take ∷ []) below taken within = omega arith
few_acquired n low leased (Take ∷ c ∷ cs) below taken within = absurd (false≢true taken)
few_acquired n low leased (Unlock l ∷ cs) below taken within = absurd (false≢true taken)
few_acquired n low leased (Give ∷ cs) below taken within = absurd (false≢true taken)
few_acquired n low leased (Move m from to ∷ cs) below taken within = absurd (false≢true taken)
few_acquired n low leased (ParkLock l ∷ cs) below taken within = absurd (false≢true taken)
few_acquired n low leased (Unpark l ∷ cs) below taken within = absurd (false≢true taken)
few_acquired n low leased (Enter ∷ cs) below taken within = absurd (false≢true taken)
few_acquired n low leased (Leave ∷ cs) below taken within = absurd (false≢true taken)

-- an `Acquire` whose condition holds, and whose changes take locks of the graph in rising order
pub acquire_from : (t : TentativeView) (cs : List Change) → IsSoundTentative t → condition t.graph t.state t.worker Acquire ≡ true
    → acquires 0 (holding_of t.state t.worker).lease cs ≡ true → list_all (takes_within t.graph.locks) cs ≡ true → IsAcquire t cs
acquire_from t cs sound met list within = record {
  worker = sound.worker;
  condition = met;
  list = list;
  named = within_named t.state 0 (holding_of t.state t.worker).lease cs list (ap (λ n. list_all (takes_within n) cs) sound.belongs.locks ∙ within);
  few = omega (arith, few_acquired t.graph.locks 0 (holding_of t.state t.worker).lease cs (omega arith) list within);
}

-- it isn't allowed otherwise

pub unmet : {g : GraphView} {s : StateView} {w : WorkerId} {k : Kind} {cs : List Change} → condition g s w k ≡ false → ¬ Allowed g s (entry w k (Some cs))
unmet fails = λ allowed. false≢true (sym fails ∙ allowed.finished.condition)

pub unlisted : {g : GraphView} {s : StateView} {w : WorkerId} {cs : List Change} → acquires 0 (holding_of s w).lease cs ≡ false → ¬ Allowed g s (entry w Acquire (Some cs))
unlisted fails = λ allowed. false≢true (sym fails ∙ allowed.finished.list)

pub unnamed : {g : GraphView} {s : StateView} {w : WorkerId} {k : Kind} {cs : List Change} → BelongsTo g s → list_all (takes_within g.locks) cs ≡ false → ¬ Allowed g s (entry w k (Some cs))
unnamed {g} {s} {w} {k} {cs} belongs fails = λ allowed. false≢true (sym fails ∙ ap (λ n. list_all (takes_within n) cs) (sym belongs.locks) ∙ named_within s cs allowed.finished.named)

-- the changes were made, or one of them can't be
pub acquired_tried : {old new : TentativeView} {cs : List Change} {all : Bool} → old.made ≡ [] → IsAcquire old cs → Makes old new cs all → HasTried old new Acquire cs all
acquired_tried {old} {new} {cs} fresh acquire makes = record {
  worked = worked_from fresh makes;
  allowed = λ e. record { worker = acquire.worker; kind = tt; finished = record { condition = acquire.condition; list = acquire.list; named = acquire.named; possible = (makes.whole e).possible } };
  made = λ e. made_is fresh (subst (Makes old new cs) e makes);
  refused = λ e allowed. false≢true (sym (makes.stopped e) ∙ allowed.finished.possible);
}

-- the changes that a kind fixes were made, and are those given or not
pub made_tried : {old new : TentativeView} {k : Kind} {cs : List Change} {same : Bool} → Worked old new → Allowed old.graph old.state (entry old.worker k (Some new.made)) → k ≢ Acquire → Decides same (new.made ≡ cs) → HasTried old new k cs same
made_tried {old} {new} {k} {cs} worked allowed other same = record {
  worked = worked;
  allowed = λ e. subst (λ (l : List Change). Allowed old.graph old.state (entry old.worker k (Some l))) (same.0 e) allowed;
  made = λ e. same.0 e;
  refused = λ e given. false≢true (sym e ∙ same.1 (list_allowed old.graph old.state old.worker k new.made other allowed ∙ sym (list_allowed old.graph old.state old.worker k cs other given)));
}

-- they weren't all made, since an entry of the kind can't finish
pub stopped_tried : {old new : TentativeView} {k : Kind} {cs : List Change} → Worked old new → k ≢ Acquire → is_enabled old.graph old.state old.worker k ≡ false → HasTried old new k cs false
stopped_tried {old} {new} {k} {cs} worked other fails = record {
  worked = worked;
  allowed = λ e. absurd (false≢true e);
  made = λ e. absurd (false≢true e);
  refused = λ e given. false≢true (sym fails ∙ enabled_allowed old.graph old.state old.worker k cs other given);
}

pub outside_tried : {old new : TentativeView} {k : Kind} {cs : List Change} → Worked old new → ¬ IsKindOf old.graph k → HasTried old new k cs false
outside_tried worked outside = record {
  worked = worked;
  allowed = λ e. absurd (false≢true e);
  made = λ e. absurd (false≢true e);
  refused = λ e given. outside given.kind;
}
