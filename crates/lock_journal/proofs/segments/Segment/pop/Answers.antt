use Rattle.std.proofs.Common.{◌≡◌, ℕ, ◌+◌, ◌-◌, length, take, drop, List, [], ◌∷◌, ◌++◌, Some, refl, sym, ◌∙◌, ap, subst, arith}
use Rattle.std.specs.Vec.{with_items}
use Rattle.std.specs.Prelude.{IfSome, slice_get, slice_index_or}
use Rattle.std.proofs.lemmas.List.{with_items_is}
use Rattle.lock_journal.specs.Names.{Entry, ClosesWithin, IsSoundSegment, segment_view, SegmentView, AreStored, closings_until, end_before}
use Rattle.lock_journal.specs.Names.{entry_from, kind_from, place_by}
use Rattle.lock_journal.specs.declared.segments.TheConstants.{NOWHERE}
use Rattle.lock_journal.specs.declared.segments.Segment.TheInside.{Inside}
use Rattle.lock_journal.specs.declared.stored_entries.StoredEntry.{StoredEntry}
use Rattle.lock_journal.proofs.Stored.{entry_at, length_of_entries, number_among, until_close}
use Rattle.lock_journal.proofs.Pushed.{Popped, stored-pop}
use Rattle.lock_journal.proofs.Adding.{Drops, entries_dropped, last_at, sound_dropped}
use Rattle.lock_journal.proofs.segments.Segment.pop.Goals as goal

popped : (h : Inside) (k : StoredEntry) (ks : List StoredEntry) → IsSoundSegment h → h.stored.items ≡ ks ++ k ∷ [] → Popped (length h.changes.items) (length h.closings.items) k ks
popped h k ks sound is = stored-pop _ _ k ks (subst (AreStored (length h.changes.items) (length h.closings.items)) is sound.stored)

pub put_back-requires-clause-number : goal.put_back-requires-clause-number
put_back-requires-clause-number c =
    let m : ℕ = length c.self.inside.closings.items in
    number_among m m c.in-Some.last.kind c.in-Some.last.number (omega arith) (popped c.self.inside c.in-Some.last c.pop.new.self.items c.self.invariant c.in-Some.ensures.items).number

pub put_back-requires-clause-closes : goal.put_back-requires-clause-closes
put_back-requires-clause-closes c =
    let h : Inside = c.self.inside in
    let k : StoredEntry = c.in-Some.last in
    let i : ℕ = length h.stored.items - 1 in
    let last : slice_get h.stored.items i ≡ Some k = last_at h.stored.items c.pop.new.self.items k c.in-Some.ensures.items in
    let shown : slice_get c.args.self.now.entries (length c.args.self.now.entries - 1) ≡ Some (entry_from h.changes.items h.closings.items (end_before (drop (i + 1) h.stored.items) (length h.changes.items)) k) =
    ap (λ (v : SegmentView). slice_get v.entries (length v.entries - 1)) (sym c.self.view_is)
    ∙ ap (λ n. slice_get (segment_view h).entries (n - 1)) (length_of_entries h.changes.items h.closings.items h.stored.items)
    ∙ entry_at h.changes.items h.closings.items h.stored.items i k last in
    let closes : ClosesWithin c.args.self.now.units (kind_from h.closings.items k.kind k.number) = subst (λ o. IfSome o (λ (e : Entry). ClosesWithin c.args.self.now.units e.kind)) shown c.requires.closes in
    let units : c.args.self.now.units ≡ length c.deref_mut.result.now = sym (ap (λ (v : SegmentView). v.units) c.self.view_is) ∙ sym c.deref_mut.ensures.len in
    subst (λ n. ClosesWithin n (kind_from h.closings.items k.kind k.number)) units closes

pub pop_from-requires : goal.pop_from-requires
pop_from-requires c =
    let m : ℕ = length c.self.inside.closings.items in
    let until : c.closings_until.result ≡ closings_until c.in-Some.last.kind c.in-Some.last.number m =
    c.closings_until.ensures ∙ ap (closings_until c.in-Some.last.kind c.in-Some.last.number) c.len.ensures.value in
    omega (arith, until, until_close m c.in-Some.last.kind c.in-Some.last.number (popped c.self.inside c.in-Some.last c.pop.new.self.items c.self.invariant c.in-Some.ensures.items).number)

abbrev after : goal.After-truncate → Inside
after c = record { stored = c.pop.new.self; changes = c.truncate.new.self; closings = c.pop_from.new.self; closed_at = with_items c.self.inside.closed_at c.put_back.new.all; before = c.self.inside.before }

drops : (c : goal.After-truncate) → Drops c.self.inside (after c) c.in-Some.last
drops c =
    let h : Inside = c.self.inside in
    let k : StoredEntry = c.in-Some.last in
    record {
      stored = c.in-Some.ensures.items;
      before = refl;
      changes = c.truncate.ensures.items;
      closings = c.pop_from.ensures.items ∙ ap (λ n. take n h.closings.items) (c.closings_until.ensures ∙ ap (closings_until k.kind k.number) c.len.ensures.value);
      place = λ u.
          ap (λ (ps : List ℕ). slice_index_or ps u NOWHERE) (with_items_is h.closed_at c.put_back.new.all (c.put_back.ensures.len ∙ c.deref_mut.ensures.len))
          ∙ c.put_back.ensures.places u
          ∙ ap (λ (ps : List ℕ). place_by h.closings.items k k.earlier u (slice_index_or ps u NOWHERE)) c.deref_mut.ensures.value;
    }

pub invariant_of-self : goal.invariant_of-self
invariant_of-self c = sound_dropped c.self.inside (after c) c.in-Some.last c.self.invariant (drops c)

pub returns-in-Some-clause-entries : goal.returns-in-Some-clause-entries
returns-in-Some-clause-entries c =
    entries_dropped c.self.inside (after c) c.in-Some.last c.self.invariant (drops c)
    ∙ ap (λ (v : SegmentView). take (length v.entries - 1) v.entries) c.self.view_is
