-- A history with one more entry, and one without its last.
use Rattle.std.proofs.Common.{◌≡◌, ◌≤◌, ℕ, ◌-◌, length, take, drop, List, [], ◌∷◌, ◌++◌, cond, get_or, Some, None, refl, sym, ◌∙◌, ap, subst, arith}
use Rattle.std.specs.Prelude.{map, slice_get, vec_len}
use Rattle.std.specs.List.{AllByRecursion, slice_index_or}
use Rattle.std.proofs.lemmas.List.{length-append, length-take-le, take-append-drop}
use Rattle.std.proofs.lemmas.Option.{slice_get_read}
use Rattle.std.proofs.Math.Seq.{get_or-append_seam, take-append_seam}
use Rattle.lock_journal.specs.Names.{Change, entry, Closed, Kind, segment_view, IsSoundSegment, IsOwnChange, change_of_worker, stored_change}
use Rattle.lock_journal.specs.Names.{AreStored, IsLastNumber, closings_until, entries_from, entry_from, kind_from, place_by, place_in}
use Rattle.lock_journal.specs.StoredEntry.{KeepEarlier}
use Rattle.lock_journal.specs.declared.segments.Segment.TheInside.{Inside}
use Rattle.lock_journal.specs.declared.segments.TheConstants.{MOST_BEFORE, NOWHERE}
use Rattle.lock_journal.specs.declared.stored_entries.TheConstants.{MOST_PLACES}
use Rattle.lock_journal.specs.declared.stored_changes.StoredChange.{StoredChange}
use Rattle.lock_journal.specs.declared.stored_entries.StoredEntry.{StoredEntry}
use Rattle.lock_journal.proofs.Stored.{until_within}
use Rattle.lock_journal.proofs.StoredChanges.{changes_back}
use Rattle.lock_journal.proofs.Pushed.{Keeps, Popped, SameKinds, entries-push, keep-pop, keep-push, keep-same, kinds_back, kinds_stay, place_in-push, place_in-same, slice_range-new, stored-pop, stored-push}

abbrev pub place_at : Inside → ℕ → ℕ
place_at h u = slice_index_or h.closed_at.items u NOWHERE

-- b is a with one more entry, stored as k, whose changes are new, and its worker's own
pub record Adds (a b : Inside) (k : StoredEntry) (kind : Kind) (new : List Change) (more : List Closed) : Type 0 where
  pub stored : b.stored.items ≡ a.stored.items ++ k ∷ []
  pub changes : b.changes.items ≡ a.changes.items ++ map stored_change new
  pub own : AllByRecursion (IsOwnChange k.worker) new
  pub closings : b.closings.items ≡ a.closings.items ++ more
  pub start : k.start ≡ length a.changes.items
  pub number : IsLastNumber (length b.closings.items) k.kind k.number
  pub until : closings_until k.kind k.number (length b.closings.items) ≡ length a.closings.items
  pub kind_is : kind_from b.closings.items k.kind k.number ≡ kind
  pub few_changes : vec_len b.changes ≤ MOST_PLACES
  pub few_closings : length b.closings.items ≤ MOST_PLACES
  pub before : b.before ≡ a.before
  pub place : (u : ℕ) → place_at b u ≡ place_by b.closings.items k k.number u (place_at a u)
  pub earlier : (u : ℕ) → place_by b.closings.items k k.earlier u (place_at b u) ≡ place_at a u

module _ (a b : Inside) (k : StoredEntry) (kind : Kind) (new : List Change) (more : List Closed) (sound : IsSoundSegment a) (adds : Adds a b k kind new more) where
  pub entries_added : (segment_view b).entries ≡ (segment_view a).entries ++ entry k.worker kind (cond k.failed None (Some new)) ∷ []
  entries_added =
      let ds : List Closed = a.closings.items ++ more in
      let kept : List StoredChange = map stored_change new in
      ap (λ cs. entries_from cs b.closings.items b.stored.items) adds.changes
      ∙ ap (λ es. entries_from (a.changes.items ++ kept) es b.stored.items) adds.closings
      ∙ ap (entries_from (a.changes.items ++ kept) ds) adds.stored
      ∙ entries-push a.changes.items kept a.closings.items ds k adds.start (length a.closings.items) a.stored.items sound.stored (kinds_stay (length a.changes.items) a.closings.items more a.stored.items sound.stored)
      ∙ ap (λ x. (segment_view a).entries ++ entry k.worker (kind_from ds k.kind k.number) (cond k.failed None (Some (map (change_of_worker k.worker) x))) ∷ []) (slice_range-new a.changes.items kept k.start adds.start)
      ∙ ap (λ x. (segment_view a).entries ++ entry k.worker (kind_from ds k.kind k.number) (cond k.failed None (Some x)) ∷ []) (changes_back k.worker new adds.own)
      ∙ ap (λ es. (segment_view a).entries ++ entry k.worker (kind_from es k.kind k.number) (cond k.failed None (Some new)) ∷ []) (sym adds.closings)
      ∙ ap (λ x. (segment_view a).entries ++ entry k.worker x (cond k.failed None (Some new)) ∷ []) adds.kind_is

  -- the places in the closings of both
  place_stays : (u : ℕ) → place_in b.closings.items a.stored.items u NOWHERE ≡ place_in a.closings.items a.stored.items u NOWHERE
  place_stays u =
      ap (λ es. place_in es a.stored.items u NOWHERE) adds.closings
      ∙ place_in-same a.closings.items (a.closings.items ++ more) a.stored.items u NOWHERE (kinds_stay (length a.changes.items) a.closings.items more a.stored.items sound.stored)

  place_then : (u : ℕ) → place_at b u ≡ place_by b.closings.items k k.number u (place_in b.closings.items a.stored.items u NOWHERE)
  place_then u = adds.place u ∙ ap (place_by b.closings.items k k.number u) (sound.closed u ∙ sym (place_stays u))

  pub sound_added : IsSoundSegment b
  sound_added = record {
    stored = subst (AreStored (length b.changes.items) (length b.closings.items)) (sym adds.stored)
        (stored-push (length b.changes.items) (length b.closings.items) k a.stored.items (omega (arith, adds.start, ap length adds.changes, length-append a.changes.items (map stored_change new))) adds.number
        (subst (λ n. AreStored n (closings_until k.kind k.number (length b.closings.items)) a.stored.items) (sym adds.start)
        (subst (λ m. AreStored (length a.changes.items) m a.stored.items) (sym adds.until) sound.stored)));
    closed = λ u.
        place_then u
        ∙ sym (place_in-push b.closings.items k a.stored.items u NOWHERE)
        ∙ ap (λ ks. place_in b.closings.items ks u NOWHERE) (sym adds.stored);
    earlier = λ u.
        subst (λ (ks : List StoredEntry). KeepEarlier b.closings.items ks u NOWHERE) (sym adds.stored)
        (keep-push b.closings.items k a.stored.items u NOWHERE
        (subst (λ (es : List Closed). KeepEarlier es a.stored.items u NOWHERE) (sym adds.closings)
        (keep-same a.closings.items (a.closings.items ++ more) a.stored.items u NOWHERE (kinds_stay (length a.changes.items) a.closings.items more a.stored.items sound.stored) (sound.earlier u)))
        (ap (place_by b.closings.items k k.earlier u) (sym (place_then u)) ∙ adds.earlier u ∙ sound.closed u ∙ sym (place_stays u)));
    few_changes = adds.few_changes;
    few_closings = adds.few_closings;
    few = subst (λ n. n ≤ MOST_BEFORE) (sym adds.before) sound.few;
  }

-- b is a without its last entry, stored as k
pub record Drops (a b : Inside) (k : StoredEntry) : Type 0 where
  pub before : b.before ≡ a.before
  pub stored : a.stored.items ≡ b.stored.items ++ k ∷ []
  pub changes : b.changes.items ≡ take k.start a.changes.items
  pub closings : b.closings.items ≡ take (closings_until k.kind k.number (length a.closings.items)) a.closings.items
  pub place : (u : ℕ) → place_at b u ≡ place_by a.closings.items k k.earlier u (place_at a u)

last_place : {X : Type 0} (xs ys : List X) (x : X) → xs ≡ ys ++ x ∷ [] → length xs - 1 ≡ length ys
last_place xs ys x is = omega (arith, ap length is, length-append ys (x ∷ []))

-- a list without its last member
pub front_is : {X : Type 0} (xs ys : List X) (x : X) → xs ≡ ys ++ x ∷ [] → ys ≡ take (length xs - 1) xs
front_is xs ys x is = sym (take-append_seam ys (x ∷ [])) ∙ ap (λ n. take n (ys ++ x ∷ [])) (sym (last_place xs ys x is)) ∙ ap (take (length xs - 1)) (sym is)

pub last_at : {X : Type 0} (xs ys : List X) (x : X) → xs ≡ ys ++ x ∷ [] → slice_get xs (length xs - 1) ≡ Some x
last_at xs ys x is =
    let at : get_or xs (length xs - 1) x ≡ x = ap (λ n. get_or xs n x) (last_place xs ys x is) ∙ ap (λ zs. get_or zs (length ys) x) is ∙ get_or-append_seam ys x [] x in
    slice_get_read xs (length xs) (length xs - 1) x refl (omega (arith, ap length is, length-append ys (x ∷ []))) (sym at)

module _ (a b : Inside) (k : StoredEntry) (sound : IsSoundSegment a) (drops : Drops a b k) where
  popped : Popped (length a.changes.items) (length a.closings.items) k b.stored.items
  popped = stored-pop (length a.changes.items) (length a.closings.items) k b.stored.items (subst (AreStored (length a.changes.items) (length a.closings.items)) drops.stored sound.stored)

  start_is : length b.changes.items ≡ k.start
  start_is = ap length drops.changes ∙ length-take-le k.start a.changes.items popped.start

  until_is : length b.closings.items ≡ closings_until k.kind k.number (length a.closings.items)
  until_is =
      ap length drops.closings
      ∙ length-take-le (closings_until k.kind k.number (length a.closings.items)) a.closings.items (until_within (length a.closings.items) k.kind k.number popped.number)

  front : AreStored (length b.changes.items) (length b.closings.items) b.stored.items
  front =
      subst (λ n. AreStored n (length b.closings.items) b.stored.items) (sym start_is)
      (subst (λ m. AreStored k.start m b.stored.items) (sym until_is) popped.front)

  changes_whole : a.changes.items ≡ b.changes.items ++ drop k.start a.changes.items
  changes_whole = sym (take-append-drop k.start a.changes.items) ∙ ap (λ cs. cs ++ drop k.start a.changes.items) (sym drops.changes)

  same : SameKinds b.closings.items a.closings.items b.stored.items
  same =
      let n : ℕ = closings_until k.kind k.number (length a.closings.items) in
      subst (λ (es : List Closed). SameKinds b.closings.items es b.stored.items)
      (ap (λ ds. ds ++ drop n a.closings.items) drops.closings ∙ take-append-drop n a.closings.items)
      (kinds_stay (length b.changes.items) b.closings.items (drop n a.closings.items) b.stored.items front)

  last_dropped : (segment_view a).entries ≡ (segment_view b).entries ++ entry_from a.changes.items a.closings.items (length a.changes.items) k ∷ []
  last_dropped =
      ap (entries_from a.changes.items a.closings.items) drops.stored
      ∙ subst (λ (cs : List StoredChange). entries_from cs a.closings.items (b.stored.items ++ k ∷ []) ≡ (segment_view b).entries ++ entry_from cs a.closings.items (length cs) k ∷ []) (sym changes_whole)
      (entries-push b.changes.items (drop k.start a.changes.items) b.closings.items a.closings.items k (sym start_is) (length b.closings.items) b.stored.items front same)

  pub entries_dropped : (segment_view b).entries ≡ take (length (segment_view a).entries - 1) (segment_view a).entries
  entries_dropped = front_is (segment_view a).entries (segment_view b).entries (entry_from a.changes.items a.closings.items (length a.changes.items) k) last_dropped

  kept : (u : ℕ) → KeepEarlier a.closings.items b.stored.items u NOWHERE × Keeps a.closings.items k u (place_in a.closings.items b.stored.items u NOWHERE)
  kept u = keep-pop a.closings.items k b.stored.items u NOWHERE (subst (λ (ks : List StoredEntry). KeepEarlier a.closings.items ks u NOWHERE) drops.stored (sound.earlier u))

  pub sound_dropped : IsSoundSegment b
  sound_dropped = record {
    stored = front;
    closed = λ u.
        drops.place u
        ∙ ap (place_by a.closings.items k k.earlier u) (sound.closed u ∙ ap (λ ks. place_in a.closings.items ks u NOWHERE) drops.stored ∙ place_in-push a.closings.items k b.stored.items u NOWHERE)
        ∙ (kept u).1
        ∙ place_in-same b.closings.items a.closings.items b.stored.items u NOWHERE same;
    earlier = λ u. keep-same a.closings.items b.closings.items b.stored.items u NOWHERE (kinds_back b.closings.items a.closings.items b.stored.items same) (kept u).0;
    few_changes = omega (arith, start_is, popped.start, b.changes.ok.0, a.changes.ok.0, sound.few_changes);
    few_closings = omega (arith, until_is, until_within (length a.closings.items) k.kind k.number popped.number, sound.few_closings);
    few = subst (λ n. n ≤ MOST_BEFORE) (sym drops.before) sound.few;
  }
