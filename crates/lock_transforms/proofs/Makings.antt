-- Lists of changes made one after another.
use Rattle.std.proofs.Common.{◌≡◌, ℕ, zero, suc, ◌<◌, ◌≤◌, ◌+◌, ◌-◌, length, take, drop, get_or, List, [], ◌∷◌, ◌++◌, Bool, true, false, cond, ◌&&◌, refl, sym, ◌∙◌, ap, subst, arith, zero-add, add-zero, inl, inr}
use Rattle.std.proofs.lemmas.Bool.{and_from, and_left, and_parts, and_right, false≢true, cases_Bool}
use Rattle.std.specs.List.{range_with_len}
use Rattle.std.proofs.lemmas.List.{append_assoc, append-nil, length-append, length_push, take_more, take-append-drop}
use Rattle.resource_lock.proofs.lemmas.Runs.{belongs_along, same_shape-make_all, named_along, make_all-append, can_all-append}
use Rattle.resource_lock.specs.StateView.{StateView}
use Rattle.resource_lock.specs.GraphView.{GraphView}
use Rattle.resource_lock.specs.Shape.{SameShape, BelongsTo}
use Rattle.resource_lock.specs.Change.{can, make, make_all, can_all, NamesOnly}
use Rattle.resource_lock.specs.declared.ids.WorkerId.{WorkerId}
use Rattle.resource_lock.specs.declared.changes.Change.{Change}
use Rattle.lock_transforms.specs.TentativeView.{TentativeView, noted, Worked}
use Rattle.lock_transforms.specs.Making.{MadeAll, Makes, possible_front}
use Rattle.lock_transforms.proofs.Steps.{leads_none, leads_more}

-- what is made of a list can be made
front_possible : (s : StateView) (w : WorkerId) (cs : List Change) → can_all s w (possible_front s w cs) ≡ true
front_possible s w [] = refl
front_possible s w (c ∷ cs) = elim (cases_Bool (can s w c)) [
  | inl can_be ↦ subst (λ b. can_all s w (cond b (c ∷ possible_front (make s w c) w cs) []) ≡ true) (sym can_be)
      (and_from (can s w c) (can_all (make s w c) w (possible_front (make s w c) w cs)) can_be (front_possible (make s w c) w cs))
  | inr cannot ↦ subst (λ b. can_all s w (cond b (c ∷ possible_front (make s w c) w cs) []) ≡ true) (sym cannot) refl
]

-- a list that can be made, and what is made of another behind it
front-append : (s : StateView) (w : WorkerId) (cs ds : List Change) → can_all s w cs ≡ true → possible_front s w (cs ++ ds) ≡ cs ++ possible_front (make_all s w cs) w ds
front-append s w [] ds possible = refl
front-append s w (c ∷ cs) ds possible =
    let parts = and_parts (can s w c) (can_all (make s w c) w cs) possible in
    ap (λ b. cond b (c ∷ possible_front (make s w c) w (cs ++ ds)) []) parts.0 ∙ ap (λ l. c ∷ l) (front-append (make s w c) w cs ds parts.1)

-- of a list that can be made all is made
front_whole : (s : StateView) (w : WorkerId) (cs : List Change) → can_all s w cs ≡ true → possible_front s w cs ≡ cs
front_whole s w [] possible = refl
front_whole s w (c ∷ cs) possible =
    let parts = and_parts (can s w c) (can_all (make s w c) w cs) possible in
    ap (λ b. cond b (c ∷ possible_front (make s w c) w cs) []) parts.0 ∙ ap (λ l. c ∷ l) (front_whole (make s w c) w cs parts.1)

-- nothing is made behind a list that can't be made
front_stopped : (s : StateView) (w : WorkerId) (cs ds : List Change) → can_all s w cs ≡ false → possible_front s w (cs ++ ds) ≡ possible_front s w cs
front_stopped s w [] ds impossible = absurd (false≢true (sym impossible))
front_stopped s w (c ∷ cs) ds impossible = elim (cases_Bool (can s w c)) [
  | inl can_be ↦ subst (λ b. cond b (c ∷ possible_front (make s w c) w (cs ++ ds)) [] ≡ cond b (c ∷ possible_front (make s w c) w cs) []) (sym can_be)
      (ap (λ l. c ∷ l) (front_stopped (make s w c) w cs ds (sym (ap (λ b. b && can_all (make s w c) w cs) can_be) ∙ impossible)))
  | inr cannot ↦ subst (λ b. cond b (c ∷ possible_front (make s w c) w (cs ++ ds)) [] ≡ cond b (c ∷ possible_front (make s w c) w cs) []) (sym cannot) refl
]

-- one change that can be made
pub makes_one : (t : TentativeView) (c : Change) → NamesOnly t.state c → can t.state t.worker c ≡ true → 0 < t.room → Makes t (noted t c) (c ∷ []) true
makes_one t c named possible room =
    let longer : length (t.made ++ c ∷ []) ≡ length t.made + 1 = length_push t.made c in
    record {
      graph = refl;
      worker = refl;
      room = omega arith;
      few = omega arith;
      leads = λ before l. leads_more before t c l named possible;
      front = subst (MadeAll t (noted t c)) (sym (front_whole t.state t.worker (c ∷ []) (and_from (can t.state t.worker c) true possible refl)))
          (record { made = refl; state = refl; possible = and_from (can t.state t.worker c) true possible refl });
      whole = λ e. record { made = refl; state = refl; possible = and_from (can t.state t.worker c) true possible refl };
      stopped = λ e. absurd (false≢true (sym e));
    }

-- no change
pub makes_none : (t : TentativeView) → Makes t t [] true
makes_none t = record {
  graph = refl;
  worker = refl;
  room = refl;
  few = omega arith;
  leads = λ before l. l;
  front = record { made = sym (append-nil t.made); state = refl; possible = refl };
  whole = λ e. record { made = sym (append-nil t.made); state = refl; possible = refl };
  stopped = λ e. absurd (false≢true (sym e));
}

-- one change that can't be made
pub makes_not : (t : TentativeView) (c : Change) → can t.state t.worker c ≡ false → Makes t t (c ∷ []) false
makes_not t c impossible = record {
  graph = refl;
  worker = refl;
  room = refl;
  few = omega arith;
  leads = λ before l. l;
  front = subst (λ b. MadeAll t t (cond b (c ∷ []) [])) (sym impossible) (record { made = sym (append-nil t.made); state = refl; possible = refl });
  whole = λ e. absurd (false≢true e);
  stopped = λ e. ap (λ b. b && true) impossible;
}

-- all are made exactly where each can be
pub makes_answer : {a b : TentativeView} {cs : List Change} {all : Bool} → Makes a b cs all → all ≡ can_all a.state a.worker cs
makes_answer {all = all} makes = elim (cases_Bool all) [
  | inl whole ↦ whole ∙ sym (makes.whole whole).possible
  | inr stopped ↦ stopped ∙ sym (makes.stopped stopped)
]

-- all of a list made, and then all of another
made_then : {a b c : TentativeView} {cs ds : List Change} → b.worker ≡ a.worker → MadeAll a b cs → MadeAll b c ds → MadeAll a c (cs ++ ds)
made_then {a} {b} {c} {cs} {ds} same first second = record {
  made = second.made ∙ ap (λ (made : List Change). made ++ ds) first.made ∙ append_assoc a.made cs ds;
  state = second.state
      ∙ ap (λ (w : WorkerId). make_all b.state w ds) same
      ∙ ap (λ (s : StateView). make_all s a.worker ds) first.state
      ∙ sym (make_all-append a.state a.worker cs ds);
  possible = can_all-append a.state a.worker cs ds
      ∙ and_from (can_all a.state a.worker cs) (can_all (make_all a.state a.worker cs) a.worker ds) first.possible
      (ap (λ (s : StateView). can_all s a.worker ds) (sym first.state) ∙ ap (λ (w : WorkerId). can_all b.state w ds) (sym same) ∙ second.possible);
}

-- a list, and then another
pub makes_then : {a b c : TentativeView} {cs ds : List Change} {all : Bool} → Makes a b cs true → Makes b c ds all → Makes a c (cs ++ ds) all
makes_then {a} {b} {c} {cs} {ds} {all} first second =
    let whole : MadeAll a b cs = first.whole refl in
    let split : can_all a.state a.worker (cs ++ ds) ≡ (can_all a.state a.worker cs && can_all b.state b.worker ds) =
    can_all-append a.state a.worker cs ds
    ∙ ap (λ (s : StateView). can_all a.state a.worker cs && can_all s a.worker ds) (sym whole.state)
    ∙ ap (λ (w : WorkerId). can_all a.state a.worker cs && can_all b.state w ds) (sym first.worker) in
    let long : length (cs ++ ds) ≡ length cs + length ds = length-append cs ds in
    record {
      graph = second.graph ∙ first.graph;
      worker = second.worker ∙ first.worker;
      room = second.room ∙ first.room;
      few = omega (arith, first.few, second.few);
      leads = λ before l. second.leads before (first.leads before l);
      front = subst (MadeAll a c) (sym (front-append a.state a.worker cs ds whole.possible))
          (made_then first.worker whole (subst (MadeAll b c) (λ i. possible_front (whole.state i) (first.worker i) ds) second.front));
      whole = λ e. made_then first.worker whole (second.whole e);
      stopped = λ e. split ∙ and_right (can_all a.state a.worker cs) (can_all b.state b.worker ds) (second.stopped e);
    }

-- a list that can't be made, and what would come behind it
pub makes_stopped : {a b : TentativeView} {cs : List Change} (ds : List Change) → Makes a b cs false → Makes a b (cs ++ ds) false
makes_stopped {a} {b} {cs} ds first =
    let long : length (cs ++ ds) ≡ length cs + length ds = length-append cs ds in
    record {
      graph = first.graph;
      worker = first.worker;
      room = first.room;
      few = omega (arith, first.few);
      leads = first.leads;
      front = subst (MadeAll a b) (sym (front_stopped a.state a.worker cs ds (first.stopped refl))) first.front;
      whole = λ e. absurd (false≢true e);
      stopped = λ e. can_all-append a.state a.worker cs ds ∙ and_left (can_all a.state a.worker cs) (can_all (make_all a.state a.worker cs) a.worker ds) (first.stopped refl);
    }

-- the numbers of a state stay its numbers
pub same_shape-makes : {a b : TentativeView} {cs : List Change} → Makes a b cs true → SameShape a.state b.state
same_shape-makes {a} {b} {cs} made = subst (SameShape a.state) (sym (made.whole refl).state) (same_shape-make_all a.state a.worker cs)

pub still_belongs : {a b : TentativeView} {cs : List Change} → Makes a b cs true → BelongsTo a.graph a.state → BelongsTo b.graph b.state
still_belongs {a} {b} made belongs = subst (λ (g : GraphView). BelongsTo g b.state) (sym made.graph) (belongs_along a.graph a.state b.state (same_shape-makes made) belongs)

pub still_named : {a b : TentativeView} {cs : List Change} (c : Change) → Makes a b cs true → NamesOnly a.state c → NamesOnly b.state c
still_named {a} {b} c made named = named_along a.state b.state c (same_shape-makes made) named

-- a list up to a place, and the change there
pub makes_next : {a b c : TentativeView} {all : Bool} (cs : List Change) (i : ℕ) (d : Change) → i < length cs → Makes a b (take i cs) true → Makes b c (get_or cs i d ∷ []) all → Makes a c (take (i + 1) cs) all
makes_next {a} {c = c} {all} cs i d within front next = subst (λ (l : List Change). Makes a c l all) (sym (take_more cs i d within)) (makes_then front next)

pub makes_front : {a b : TentativeView} (cs : List Change) (i : ℕ) → Makes a b (take i cs) false → Makes a b cs false
makes_front {a} {b} cs i front = subst (λ (l : List Change). Makes a b l false) (take-append-drop i cs) (makes_stopped (drop i cs) front)

-- a list of changes for each of some numbers, in order
abbrev pub Joins : (List ℕ → List Change) → Type 0
Joins list = (xs ys : List ℕ) → list (xs ++ ys) ≡ list xs ++ list ys

pub range_split : (first n m : ℕ) → range_with_len first (n + m) ≡ range_with_len first n ++ range_with_len (first + n) m
range_split first zero m = ap (λ k. range_with_len first k) (zero-add m) ∙ ap (λ k. range_with_len k m) (sym (add-zero first))
range_split first (suc n) m =
    let longer : suc n + m ≡ suc (n + m) = omega arith in
    let moved : first + 1 + n ≡ first + suc n = omega arith in
    ap (range_with_len first) longer ∙ ap (λ l. first ∷ l) (range_split (first + 1) n m ∙ ap (λ k. range_with_len (first + 1) n ++ range_with_len k m) moved)

-- the changes for the numbers from the first on, up to one, and those for it
pub makes_more : {a b c : TentativeView} {all : Bool} (list : List ℕ → List Change) → Joins list → (first k : ℕ) → first ≤ k
    → Makes a b (list (range_with_len first (k - first))) true → Makes b c (list (k ∷ [])) all → Makes a c (list (range_with_len first (k + 1 - first))) all
makes_more {a} {c = c} {all} list joins first k from front next =
    let longer : k + 1 - first ≡ k - first + 1 = omega arith in
    let here : first + (k - first) ≡ k = omega arith in
    let split : range_with_len first (k + 1 - first) ≡ range_with_len first (k - first) ++ k ∷ [] = ap (range_with_len first) longer ∙ range_split first (k - first) 1 ∙ ap (λ n. range_with_len first (k - first) ++ n ∷ []) here in
    subst (λ (l : List Change). Makes a c l all) (sym (ap list split ∙ joins (range_with_len first (k - first)) (k ∷ []))) (makes_then front next)

-- where the changes for some of the numbers can't be made, those for all can't
pub makes_some : {a b : TentativeView} (list : List ℕ → List Change) → Joins list → (first some count : ℕ) → some ≤ count → Makes a b (list (range_with_len first some)) false → Makes a b (list (range_with_len first count)) false
makes_some {a} {b} list joins first some count few front =
    let rest : some + (count - some) ≡ count = omega arith in
    let split : range_with_len first count ≡ range_with_len first some ++ range_with_len (first + some) (count - some) = ap (range_with_len first) (sym rest) ∙ range_split first some (count - some) in
    subst (λ (l : List Change). Makes a b l false) (sym (ap list split ∙ joins (range_with_len first some) (range_with_len (first + some) (count - some)))) (makes_stopped (list (range_with_len (first + some) (count - some))) front)

-- there is room for the changes for one more number
pub makes_room : {a b : TentativeView} (list : List ℕ → List Change) → Joins list → (first k count : ℕ) → first ≤ k → k + 1 - first ≤ count
    → Makes a b (list (range_with_len first (k - first))) true → length (list (range_with_len first count)) ≤ a.room → length (list (k ∷ [])) ≤ b.room
makes_room {a} {b} list joins first k count from within front room =
    let longer : k - first + 1 + (count - (k + 1 - first)) ≡ count = omega arith in
    let here : first + (k - first) ≡ k = omega arith in
    let split : range_with_len first count ≡ (range_with_len first (k - first) ++ k ∷ []) ++ range_with_len (first + (k - first + 1)) (count - (k + 1 - first)) =
    ap (range_with_len first) (sym longer)
    ∙ range_split first (k - first + 1) (count - (k + 1 - first))
    ∙ ap (λ l. l ++ range_with_len (first + (k - first + 1)) (count - (k + 1 - first))) (range_split first (k - first) 1 ∙ ap (λ n. range_with_len first (k - first) ++ n ∷ []) here) in
    let all : length (list (range_with_len first count)) ≡ length (list (range_with_len first (k - first))) + length (list (k ∷ [])) + length (list (range_with_len (first + (k - first + 1)) (count - (k + 1 - first)))) =
    ap (λ l. length (list l)) split
    ∙ ap length (joins (range_with_len first (k - first) ++ k ∷ []) (range_with_len (first + (k - first + 1)) (count - (k + 1 - first))))
    ∙ length-append (list (range_with_len first (k - first) ++ k ∷ [])) (list (range_with_len (first + (k - first + 1)) (count - (k + 1 - first))))
    ∙ ap (λ n. n + length (list (range_with_len (first + (k - first + 1)) (count - (k + 1 - first))))) (ap length (joins (range_with_len first (k - first)) (k ∷ [])) ∙ length-append (list (range_with_len first (k - first))) (list (k ∷ []))) in
    omega (arith, front.room, front.few)

-- what a transform leaves that made some of its changes
pub worked_from : {old new : TentativeView} {cs : List Change} {all : Bool} → old.made ≡ [] → Makes old new cs all → Worked old new
worked_from {old} {new} fresh makes = record {
  graph = makes.graph;
  worker = makes.worker;
  room = omega (arith, makes.room, ap length fresh);
  leads = makes.leads old.state (leads_none old fresh);
}

-- the changes of a transform that made all of a list
pub made_is : {old new : TentativeView} {cs : List Change} → old.made ≡ [] → Makes old new cs true → new.made ≡ cs
made_is {cs = cs} fresh makes = (makes.whole refl).made ∙ ap (λ (made : List Change). made ++ cs) fresh
