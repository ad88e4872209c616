-- A book without its last entry.
use Rattle.std.proofs.Common.{◌≡◌, ℕ, ◌+◌, ◌-◌, ◌<◌, ◌≤◌, Bool, true, false, length, take, cond, get_or, inl, inr, List, [], ◌∷◌, ◌++◌, None, Some, refl, sym, ◌∙◌, ap, subst, arith}
use Rattle.std.specs.Prelude.{IfSome, slice_get}
use Rattle.std.specs.List.{All}
use Rattle.std.proofs.Math.Seq.{take-length}
use Rattle.std.proofs.lemmas.List.{take_more}
use Rattle.std.proofs.lemmas.List.Elements.{All-take}
use Rattle.std.proofs.lemmas.Option.{slice_get_within, slice_get-get_or}
use Rattle.resource_lock.proofs.lemmas.Begins.{good_opening}
use Rattle.resource_lock.proofs.lemmas.Runs.{belongs_opening, worker_from}
use Rattle.lock_journal.specs.Names.{Fits, Good, GraphView, opening_of, BelongsTo, StateView, Change, WorkerId, Allowed, Finishes, IsKindOf, Lawful}
use Rattle.lock_journal.specs.Names.{lawful_from, Entry, changed, replay, IsRoomFor, TentativeView, all_recalled, Kind, Start, Skip, Submit, Park}
use Rattle.lock_journal.specs.Names.{Resume, Claim, Close, Block, Unblock, End, Acquire, HandBack, IsSound, IsFitKind, changes_left, ClosesWithin}
use Rattle.lock_journal.specs.Names.{HistoryView}
use Rattle.resource_lock.specs.Leading.{CameFrom}
use Rattle.ready_work.specs.ReadyWork.{Follows, IsIndexOf, Lead}
use Rattle.ready_work.specs.declared.ready_works.ReadyWork.{ReadyWork}
use Rattle.lock_transforms.specs.TentativeView.{settled, with_state}
use Rattle.lock_transforms.proofs.FewAllowed.{few_finished}
use Rattle.lock_transforms.proofs.lemmas.Rooms.{more_room}
use Rattle.lock_journal.specs.Shown.{entry_shown}
use Rattle.lock_journal.specs.declared.books.Book.TheInside.{Inside}
use Rattle.lock_journal.specs.declared.shown_entries.Shown.{Shown}
use Rattle.lock_journal.proofs.lemmas.Replays.{entries_good, lawful_from-append, replay_from-push}

-- all but the last of a list, and the last
split_last : {X : Type 0} (xs : List X) (x : X) → slice_get xs (length xs - 1) ≡ Some x → xs ≡ take (length xs - 1) xs ++ x ∷ []
split_last xs x at =
    let within : length xs - 1 < length xs = slice_get_within xs (length xs - 1) x at in
    let long : length xs ≡ length xs - 1 + 1 = omega arith in
    let is : get_or xs (length xs - 1) x ≡ x = let both : Some (get_or xs (length xs - 1) x) ≡ Some x = sym (slice_get-get_or xs (length xs - 1) x within) ∙ at in cc in
    sym (take-length xs) ∙ ap (λ n. take n xs) long ∙ take_more xs (length xs - 1) x within ∙ ap (λ y. take (length xs - 1) xs ++ y ∷ []) is

-- the unit that a kind of the graph closes, where it closes one, is one of the graph's
pub closes_within : (g : GraphView) (kind : Kind) → IsKindOf g kind → ClosesWithin g.units kind
closes_within g (Start t) h = tt
closes_within g (Skip t) h = tt
closes_within g (Submit a) h = tt
closes_within g (Park a) h = tt
closes_within g (Resume a) h = tt
closes_within g (Claim u) h = tt
closes_within g (Close d) h = h.0
closes_within g (Block u) h = tt
closes_within g (Unblock (Some d)) h = h.0
closes_within g (Unblock None) h = tt
closes_within g (End t) h = tt
closes_within g Acquire h = tt
closes_within g HandBack h = tt

-- the changes of an entry, of which there are none where it failed, lead to what it leaves
led_by : (g : GraphView) (s : StateView) (w : WorkerId) (kind : Kind) (failed : Bool) (cs : List Change) → (failed ≡ true → cs ≡ []) → IfSome (cond failed None (Some cs)) (Finishes g s w kind) → Lead s (changed s w (cond failed None (Some cs))) w cs
led_by g s w kind true cs none f = subst (Lead s s w) (sym (none refl)) (record { named = tt; possible = refl; state = refl })
led_by g s w kind false cs none f = record { named = f.named; possible = f.possible; state = refl }

-- there is room for the changes of an entry
few_by : {g : GraphView} {s : StateView} → Fits g → BelongsTo g s → Good s → (w : WorkerId) (kind : Kind) (room : ℕ) → IsRoomFor g room
    → (failed : Bool) (cs : List Change) → (failed ≡ true → cs ≡ []) → IfSome (cond failed None (Some cs)) (Finishes g s w kind) → length cs ≤ room
few_by fits belongs good w kind room enough true cs none f = omega (arith, ap length (none refl))
few_by fits belongs good w kind room enough false cs none f = few_finished fits belongs good w room enough kind cs f

-- what is left where changes were noted, taken back and forgotten
settled_back : (t : TentativeView) (cs : List Change) (before : StateView) → t.made ≡ [] → length cs ≤ t.room → settled (with_state (all_recalled t cs) before) ≡ with_state t before
settled_back t cs before fresh few =
    let room : t.room - length cs + length (t.made ++ cs) ≡ t.room = omega (arith, few, ap (λ (ms : List Change). length (ms ++ cs)) fresh) in
    λ i. record t { state = before; made = sym fresh i; room = room i }

abbrev pub front_of : Inside → List Entry
front_of a = take (length a.history.entries - 1) a.history.entries

-- what the history leads to without its last entry
abbrev pub state_before : Inside → StateView
state_before a = replay a.tentative.graph (front_of a)

module _ (a : Inside) (last : Shown) (n : ℕ) (sound : IsSound a) (size : n ≡ length a.history.entries) (at : slice_get a.history.entries (n - 1) ≡ Some (entry_shown last)) where
  shown : slice_get a.history.entries (length a.history.entries - 1) ≡ Some (entry_shown last)
  shown = ap (λ k. slice_get a.history.entries (k - 1)) (sym size) ∙ at

  is : a.history.entries ≡ front_of a ++ entry_shown last ∷ []
  is = split_last a.history.entries (entry_shown last) shown

  parts : Lawful a.tentative.graph (front_of a) × lawful_from a.tentative.graph (state_before a) (entry_shown last ∷ [])
  parts = lawful_from-append a.tentative.graph (opening_of a.tentative.graph) (front_of a) (entry_shown last ∷ []) (subst (Lawful a.tentative.graph) is sound.lawful)

  allowed : Allowed a.tentative.graph (state_before a) (entry_shown last)
  allowed = parts.1.0

  front_good : BelongsTo a.tentative.graph (state_before a) × Good (state_before a)
  front_good = entries_good a.tentative.graph (front_of a) (opening_of a.tentative.graph) parts.0 (belongs_opening a.tentative.graph, good_opening a.tentative.graph)

  -- the unit that the entry closes
  pub closes_last : IfSome (slice_get a.history.entries (length a.history.entries - 1)) (λ e. ClosesWithin a.history.units e.kind)
  closes_last =
      subst (λ o. IfSome o (λ (e : Entry). ClosesWithin a.history.units e.kind)) (sym shown)
      (subst (λ n. ClosesWithin n last.kind) (sym sound.units) (closes_within a.tentative.graph last.kind allowed.kind))

  -- there is room for its changes
  pub few_last : Fits a.tentative.graph → (last.failed ≡ true → changes_left last.changes ≡ []) → length (changes_left last.changes) ≤ a.tentative.room + length a.tentative.made
  few_last fits none =
      few_by fits front_good.0 front_good.1 last.worker last.kind (a.tentative.room + length a.tentative.made) sound.room last.failed (changes_left last.changes) none allowed.finished

  -- its changes led to the state
  lead : (last.failed ≡ true → changes_left last.changes ≡ []) → Lead (state_before a) a.tentative.state last.worker (changes_left last.changes)
  lead none =
      subst (λ (s : StateView). Lead (state_before a) s last.worker (changes_left last.changes))
      (sym (sound.replays ∙ ap (replay a.tentative.graph) is ∙ replay_from-push (opening_of a.tentative.graph) (front_of a) (entry_shown last)))
      (led_by a.tentative.graph (state_before a) last.worker last.kind last.failed (changes_left last.changes) none allowed.finished)

  pub came_last : (last.failed ≡ true → changes_left last.changes ≡ []) → CameFrom (state_before a) a.tentative.state last.worker (changes_left last.changes)
  came_last none = let led = lead none in record {
    good = front_good.1;
    worker = worker_from a.tentative.graph (state_before a) last.worker front_good.0 allowed.worker;
    named = led.named;
    possible = led.possible;
    state = led.state;
  }

  pub follows_back : (last.failed ≡ true → changes_left last.changes ≡ []) → Follows a.tentative.graph a.tentative.state last.worker (changes_left last.changes) (state_before a) a.ready
  follows_back none = record { belongs = front_good.0; led = inr (lead none); index = sound.index }

  -- the changes noted, taken back and forgotten
  abbrev noted_all : TentativeView
  noted_all = all_recalled (settled a.tentative) (changes_left last.changes)

  pub came_noted : (last.failed ≡ true → changes_left last.changes ≡ []) → (t : TentativeView) → t ≡ noted_all → CameFrom (state_before a) t.state last.worker t.made
  came_noted none t is =
      subst (λ (u : TentativeView). CameFrom (state_before a) u.state last.worker u.made) (sym is) (came_last none)

  pub back_noted : (last.failed ≡ true → changes_left last.changes ≡ []) → (t u : TentativeView) → t ≡ noted_all
      → ((before : StateView) → CameFrom before t.state last.worker t.made → u ≡ with_state t before) → u ≡ with_state noted_all (state_before a)
  back_noted none t u is back = back (state_before a) (came_noted none t is) ∙ ap (λ (x : TentativeView). with_state x (state_before a)) is

  pub follows_noted : (last.failed ≡ true → changes_left last.changes ≡ []) → (u : TentativeView) (g : GraphView) (s : StateView) (cs : List Change) → u ≡ with_state noted_all (state_before a)
      → g ≡ u.graph → s ≡ u.state → cs ≡ u.made → Follows g a.tentative.state last.worker cs s a.ready
  follows_noted none u g s cs is graph state made =
      subst (λ (x : GraphView). Follows x a.tentative.state last.worker cs s a.ready) (sym (graph ∙ ap (λ (t : TentativeView). t.graph) is))
      (subst (λ (x : StateView). Follows a.tentative.graph a.tentative.state last.worker cs x a.ready) (sym (state ∙ ap (λ (t : TentativeView). t.state) is))
      (subst (λ (x : List Change). Follows a.tentative.graph a.tentative.state last.worker x (state_before a) a.ready) (sym (made ∙ ap (λ (t : TentativeView). t.made) is))
      (follows_back none)))

  pub index_noted : (u : TentativeView) (g : GraphView) (s : StateView) (ready : ReadyWork) → u ≡ with_state noted_all (state_before a)
      → g ≡ u.graph → s ≡ u.state → IsIndexOf g s ready → IsIndexOf a.tentative.graph (state_before a) ready
  index_noted u g s ready is graph state index =
      subst (λ (x : GraphView). IsIndexOf x (state_before a) ready) (graph ∙ ap (λ (t : TentativeView). t.graph) is)
      (subst (λ (x : StateView). IsIndexOf g x ready) (state ∙ ap (λ (t : TentativeView). t.state) is) index)

  pub left_noted : Fits a.tentative.graph → (last.failed ≡ true → changes_left last.changes ≡ []) → (u v : TentativeView) → u ≡ with_state noted_all (state_before a)
      → v ≡ settled u → v ≡ with_state (settled a.tentative) (state_before a)
  left_noted fits none u v is forgotten =
      forgotten ∙ ap settled is ∙ settled_back (settled a.tentative) (changes_left last.changes) (state_before a) refl (few_last fits none)

  -- the book that is left
  pub sound_before : (history : HistoryView) (ready : ReadyWork) → history.entries ≡ front_of a → history.units ≡ a.history.units → IsIndexOf a.tentative.graph (state_before a) ready
      → IsSound (record { tentative = with_state (settled a.tentative) (state_before a); history = history; ready = ready })
  sound_before history ready entries units index = record {
    noted = inl refl;
    room = more_room sound.room refl (omega arith);
    units = units ∙ sound.units;
    fit = subst (All (λ (e : Entry). IsFitKind e.kind)) (sym entries) (All-take (λ e. IsFitKind e.kind) (length a.history.entries - 1) a.history.entries sound.fit);
    lawful = subst (Lawful a.tentative.graph) (sym entries) parts.0;
    replays = ap (replay a.tentative.graph) (sym entries);
    index = index;
  }
