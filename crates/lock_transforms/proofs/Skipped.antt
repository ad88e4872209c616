-- Actions and units that are skipped.
use Rattle.std.proofs.Common.{◌≡◌, ◌≢◌, ℕ, zero, suc, ◌+◌, ◌-◌, ◌<◌, ◌≤◌, length, List, [], ◌∷◌, ◌++◌, Bool, true, false, cond, refl, sym, ◌∙◌, ap, subst, arith}
use Rattle.std.specs.List.{AllByRecursion, range_with_len}
use Rattle.std.proofs.lemmas.List.{append_assoc, append-nil, length-append, get_or-set_other}
use Rattle.std.proofs.lemmas.List.FromFn.{length-map-range_with_len}
use Rattle.resource_lock.specs.StateView.{StateView, mark_of}
use Rattle.resource_lock.specs.Change.{same_mark, make, make_all}
use Rattle.resource_lock.specs.GraphView.{GraphView, action_of}
use Rattle.resource_lock.specs.Ranges.{units_in, units_of}
use Rattle.resource_lock.specs.Fits.{Fits}
use Rattle.resource_lock.specs.declared.ids.WorkerId.{WorkerId}
use Rattle.resource_lock.specs.declared.marks.Mark.{Mark}
use Rattle.resource_lock.specs.declared.marks.Mark.TheVariants.{Waiting, Skipped}
use Rattle.resource_lock.specs.declared.marks.MarkId.TheVariants.{Task as TaskOf, Action as ActionOf, Unit as UnitOf}
use Rattle.resource_lock.specs.declared.changes.Change.{Change}
use Rattle.resource_lock.specs.declared.changes.Change.TheVariants.{Lock, Unlock, Move}
use Rattle.lock_transforms.specs.TentativeView.{TentativeView}
use Rattle.lock_transforms.specs.Making.{Makes}
use Rattle.lock_transforms.specs.Table.{moved_units, skipped_action, skipped_actions, skipped_waiting}
use Rattle.lock_transforms.proofs.Makings.{Joins}
use Rattle.lock_transforms.proofs.lemmas.Within.{units_meet}

pub skipped_actions-append : (g : GraphView) → Joins (skipped_actions g)
skipped_actions-append g [] bs = refl
skipped_actions-append g (a ∷ as') bs = ap (λ l. skipped_action g a ++ l) (skipped_actions-append g as' bs) ∙ sym (append_assoc (skipped_action g a) (skipped_actions g as') (skipped_actions g bs))

pub skipped_waiting-append : (g : GraphView) (s : StateView) → Joins (skipped_waiting g s)
skipped_waiting-append g s [] bs = refl
skipped_waiting-append g s (a ∷ as') bs =
    let here : List Change = cond (same_mark (mark_of s (ActionOf a)) Waiting) (skipped_action g a) [] in
    ap (λ l. here ++ l) (skipped_waiting-append g s as' bs) ∙ sym (append_assoc here (skipped_waiting g s as') (skipped_waiting g s bs))

-- how many changes skip an action
pub length-skipped_action : (g : GraphView) (a : ℕ) → length (skipped_action g a) ≡ units_in (action_of g a) + 1
length-skipped_action g a =
    let units : length (moved_units (units_of g a) Waiting Skipped) ≡ units_in (action_of g a) = length-map-range_with_len (λ u. Move (UnitOf u) Waiting Skipped) (action_of g a).first_unit (units_in (action_of g a)) in
    omega arith

-- where the units of an action end
abbrev pub units_end : GraphView → ℕ → ℕ
units_end g a = (action_of g a).first_unit + units_in (action_of g a)

-- those that skip actions one behind the other: one for each action, and one for each unit from the first to the last
skipped_from : {g : GraphView} → Fits g → (first n : ℕ) → first + n < length g.actions
    → length (skipped_actions g (range_with_len first (suc n))) + (action_of g first).first_unit ≡ suc n + units_end g (first + n)
skipped_from {g} fits first zero within =
    let last : first ≡ first + zero = omega arith in
    omega (arith, length-skipped_action g first, length-append (skipped_action g first) [], ap (units_end g) last)
skipped_from {g} fits first (suc n) within =
    let same : first + 1 + n ≡ first + suc n = omega arith in
    let rest : length (skipped_actions g (range_with_len (first + 1) (suc n))) + (action_of g (first + 1)).first_unit ≡ suc n + units_end g (first + 1 + n) = skipped_from fits (first + 1) n (omega arith) in
    let all : length (skipped_actions g (range_with_len first (suc (suc n)))) ≡ length (skipped_action g first) + length (skipped_actions g (range_with_len (first + 1) (suc n))) = length-append (skipped_action g first) (skipped_actions g (range_with_len (first + 1) (suc n))) in
    omega (arith, length-skipped_action g first, units_meet fits first (omega arith), ap (units_end g) same)

pub skipped_by_units : {g : GraphView} → Fits g → (first count : ℕ) → 0 < count → first + count ≤ length g.actions
    → length (skipped_actions g (range_with_len first count)) + (action_of g first).first_unit ≡ count + units_end g (first + (count - 1))
skipped_by_units {g} fits first zero some within = absurd (omega (arith, some))
skipped_by_units {g} fits first (suc n) some within =
    let last : first + n ≡ first + (suc n - 1) = omega arith in
    omega (arith, skipped_from fits first n (omega (arith, within)), ap (units_end g) last)

-- at least one for each action
pub each_skipped : (g : GraphView) (first n : ℕ) → n ≤ length (skipped_actions g (range_with_len first n))
each_skipped g first zero = omega arith
each_skipped g first (suc n) =
    omega (arith, each_skipped g (first + 1) n, length-skipped_action g first, length-append (skipped_action g first) (skipped_actions g (range_with_len (first + 1) n)))

pub fewer_waiting : (g : GraphView) (s : StateView) (as' : List ℕ) → length (skipped_waiting g s as') ≤ length (skipped_actions g as')
fewer_waiting g s [] = omega arith
fewer_waiting g s (a ∷ as') = elim (same_mark (mark_of s (ActionOf a)) Waiting) as (λ b. length (cond b (skipped_action g a) [] ++ skipped_waiting g s as') ≤ length (skipped_action g a ++ skipped_actions g as')) [
  | true ↦ omega (arith, fewer_waiting g s as', length-append (skipped_action g a) (skipped_waiting g s as'), length-append (skipped_action g a) (skipped_actions g as'))
  | false ↦ omega (arith, fewer_waiting g s as', length-append (skipped_action g a) (skipped_actions g as'))
]

-- a change of the mark of an action other than this one, or of no action's
abbrev Elsewhere : ℕ → Change → Type 0
Elsewhere k (Move (ActionOf a) from to) = a ≢ k
Elsewhere k (Move (TaskOf t) from to) = Unit {0}
Elsewhere k (Move (UnitOf u) from to) = Unit {0}
Elsewhere k _ = Unit {0}

action_stays_one : (k : ℕ) (s : StateView) (w : WorkerId) (c : Change) → Elsewhere k c → mark_of (make s w c) (ActionOf k) ≡ mark_of s (ActionOf k)
action_stays_one k s w (Move (ActionOf a) from to) other = get_or-set_other s.actions a k to Waiting (λ e. other (sym e))
action_stays_one k s w (Move (TaskOf t) from to) other = refl
action_stays_one k s w (Move (UnitOf u) from to) other = refl
action_stays_one k s w (Lock l) other = refl
action_stays_one k s w (Unlock l) other = refl
action_stays_one k s w _ other = refl

action_stays : (k : ℕ) (s : StateView) (w : WorkerId) (cs : List Change) → AllByRecursion (Elsewhere k) cs → mark_of (make_all s w cs) (ActionOf k) ≡ mark_of s (ActionOf k)
action_stays k s w [] others = refl
action_stays k s w (c ∷ cs) others = action_stays k (make s w c) w cs others.1 ∙ action_stays_one k s w c others.0

elsewhere-append : (k : ℕ) (cs ds : List Change) → AllByRecursion (Elsewhere k) cs → AllByRecursion (Elsewhere k) ds → AllByRecursion (Elsewhere k) (cs ++ ds)
elsewhere-append k [] ds a b = b
elsewhere-append k (c ∷ cs) ds a b = (a.0, elsewhere-append k cs ds a.1 b)

elsewhere-units : (k : ℕ) (us : List ℕ) (from to : Mark) → AllByRecursion (Elsewhere k) (moved_units us from to)
elsewhere-units k [] from to = tt
elsewhere-units k (u ∷ us) from to = (tt, elsewhere-units k us from to)

-- skipping the actions before one leaves it
elsewhere-before : (g : GraphView) (s : StateView) (k first n : ℕ) → first + n ≤ k → AllByRecursion (Elsewhere k) (skipped_waiting g s (range_with_len first n))
elsewhere-before g s k first zero before = tt
elsewhere-before g s k first (suc n) before =
    elsewhere-append k (cond (same_mark (mark_of s (ActionOf first)) Waiting) (skipped_action g first) []) (skipped_waiting g s (range_with_len (first + 1) n))
    (elim (same_mark (mark_of s (ActionOf first)) Waiting) as (λ b. AllByRecursion (Elsewhere k) (cond b (skipped_action g first) [])) [
      | true ↦ ((λ e. absurd (omega arith)), elsewhere-units k (units_of g first) Waiting Skipped)
      | false ↦ tt
    ])
    (elsewhere-before g s k (first + 1) n (omega arith))

-- what skips one action, as a list for one number
pub one_skipped : {b c : TentativeView} {all : Bool} (g : GraphView) (k : ℕ) → b.graph ≡ g → Makes b c (skipped_action b.graph k) all → Makes b c (skipped_actions g (k ∷ [])) all
one_skipped {b} {c} {all} g k same made = subst (λ (l : List Change). Makes b c l all) (ap (λ x. skipped_action x k) same ∙ sym (append-nil (skipped_action g k))) made

-- what skips an action is the same after those before it were skipped
pub still_waiting : {a b : TentativeView} (first k : ℕ) → first ≤ k → Makes a b (skipped_waiting a.graph a.state (range_with_len first (k - first))) true → skipped_waiting b.graph b.state (k ∷ []) ≡ skipped_waiting a.graph a.state (k ∷ [])
still_waiting {a} {b} first k from made =
    let others : AllByRecursion (Elsewhere k) (skipped_waiting a.graph a.state (range_with_len first (k - first))) = elsewhere-before a.graph a.state k first (k - first) (omega arith) in
    let mark : mark_of b.state (ActionOf k) ≡ mark_of a.state (ActionOf k) = ap (λ s. mark_of s (ActionOf k)) (made.whole refl).state ∙ action_stays k a.state a.worker (skipped_waiting a.graph a.state (range_with_len first (k - first))) others in
    ap (λ (g : GraphView). skipped_waiting g b.state (k ∷ [])) made.graph
    ∙ ap (λ m. cond (same_mark m Waiting) (skipped_action a.graph k) [] ++ []) mark

pub one_waiting : {a b c : TentativeView} {all : Bool} (first k : ℕ) → first ≤ k → Makes a b (skipped_waiting a.graph a.state (range_with_len first (k - first))) true → Makes b c (skipped_waiting b.graph b.state (k ∷ [])) all → Makes b c (skipped_waiting a.graph a.state (k ∷ [])) all
one_waiting {a} {b} {c} {all} first k from front next = subst (λ (l : List Change). Makes b c l all) (still_waiting first k from front) next
