use Rattle.std.proofs.Common.{◌≡◌, ℕ, List, sym, refl, [], ◌∷◌, ◌++◌, Some, ◌∙◌, ap, false, arith}
use Rattle.std.specs.Vec.{with_items}
use Rattle.std.specs.Prelude.{slice_index_or}
use Rattle.std.proofs.lemmas.List.{with_items_is}
use Rattle.lock_journal.specs.Names.{closed_of, closing_of, entry, Kind, SegmentView}
use Rattle.lock_journal.specs.StoredEntry.{place_after}
use Rattle.lock_journal.specs.declared.segments.TheConstants.{NOWHERE}
use Rattle.lock_journal.specs.declared.stored_entries.StoredEntry.{StoredEntry}
use Rattle.lock_journal.specs.declared.segments.Segment.TheInside.{Inside}
use Rattle.lock_journal.proofs.Adding.{Adds, entries_added, place_at, sound_added}
use Rattle.lock_journal.proofs.segments.Segment.push_finished.Goals as goal

pub place_behind-start-requires : goal.place_behind-start-requires
place_behind-start-requires c = omega (arith, c.len.ensures, c.self.invariant.few_changes)

pub store_changes-requires : goal.store_changes-requires
store_changes-requires c = omega (arith, c.requires.some_changes, ap (λ (p : SegmentView). p.spare_changes) c.self.view_is)

abbrev after : goal.After-push_reserved → Inside
after c = record { stored = c.push_reserved.new.self; changes = c.store_changes.new.stored; closings = c.store_kind-stored_kind.new.closings; closed_at = with_items c.self.inside.closed_at c.set_place-earlier.new.all; before = c.self.inside.before }

abbrev stored : goal.After-push_reserved → StoredEntry
stored c = record { start = c.place_behind-start.result; number = c.store_kind-stored_kind.result.1; earlier = c.set_place-earlier.result; worker = c.args.worker; kind = c.store_kind-stored_kind.result.0; failed = false }

-- the places after it
placed : (c : goal.After-push_reserved) (u : ℕ) → place_at (after c) u ≡ slice_index_or c.set_place-earlier.new.all u NOWHERE
placed c u = ap (λ (ps : List ℕ). slice_index_or ps u NOWHERE) (with_items_is c.self.inside.closed_at c.set_place-earlier.new.all (c.set_place-earlier.ensures.len ∙ c.deref_mut.ensures.len))

before : (c : goal.After-push_reserved) (u : ℕ) → slice_index_or c.deref_mut.result.now u NOWHERE ≡ place_at c.self.inside u
before c u = ap (λ (ps : List ℕ). slice_index_or ps u NOWHERE) c.deref_mut.ensures.value

adds : (c : goal.After-push_reserved) → Adds c.self.inside (after c) (stored c) c.args.kind.now c.args.changes.now (closed_of c.args.kind.now)
adds c =
    let kind : Kind = c.args.kind.now in
    let number : ℕ = c.store_kind-stored_kind.result.1 in
    record {
      stored = c.push_reserved.ensures.items;
      changes = c.store_changes.ensures.items;
      own = c.requires.own;
      few_changes = omega (arith, c.requires.some_changes, ap (λ (p : SegmentView). p.spare_changes) c.self.view_is, c.store_changes.ensures.len);
      few_closings = c.store_kind-stored_kind.ensures.few;
      closings = c.store_kind-stored_kind.ensures.items;
      start = c.place_behind-start.ensures ∙ c.len.ensures ∙ c.self.inside.changes.ok.0;
      number = c.store_kind-stored_kind.ensures.number;
      until = c.store_kind-stored_kind.ensures.until;
      kind_is = c.store_kind-stored_kind.ensures.kind;
      before = refl;
      place = λ u.
          placed c u
          ∙ c.set_place-earlier.ensures.places u
          ∙ ap (place_after (closing_of u kind) number) (before c u)
          ∙ ap (λ k. place_after (closing_of u k) number (place_at c.self.inside u)) (sym c.store_kind-stored_kind.ensures.kind);
      earlier = λ u.
          ap (λ k. place_after (closing_of u k) c.set_place-earlier.result (place_at (after c) u)) c.store_kind-stored_kind.ensures.kind
          ∙ ap (place_after (closing_of u kind) c.set_place-earlier.result) (placed c u)
          ∙ c.set_place-earlier.ensures.earlier u
          ∙ before c u;
    }

pub invariant_of-self : goal.invariant_of-self
invariant_of-self c = sound_added c.self.inside (after c) (stored c) c.args.kind.now c.args.changes.now (closed_of c.args.kind.now) c.self.invariant (adds c)

pub returns-clause-entries : goal.returns-clause-entries
returns-clause-entries c =
    entries_added c.self.inside (after c) (stored c) c.args.kind.now c.args.changes.now (closed_of c.args.kind.now) c.self.invariant (adds c)
    ∙ ap (λ (p : SegmentView). p.entries ++ entry c.args.worker c.args.kind.now (Some c.args.changes.now) ∷ []) c.self.view_is
