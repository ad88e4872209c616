use Rattle.std.proofs.Common.{[], ◌∷◌, ◌++◌, None, true, refl, sym, ◌∙◌, ap, arith}
use Rattle.std.proofs.lemmas.List.{append-nil}
use Rattle.lock_journal.specs.Names.{closed_of, entry, SegmentView}
use Rattle.lock_journal.specs.declared.segments.TheConstants.{NOWHERE}
use Rattle.lock_journal.specs.declared.stored_entries.StoredEntry.{StoredEntry}
use Rattle.lock_journal.specs.declared.segments.Segment.TheInside.{Inside}
use Rattle.lock_journal.proofs.Adding.{Adds, entries_added, sound_added}
use Rattle.lock_journal.proofs.segments.Segment.push_failed.Goals as goal

pub place_behind-requires : goal.place_behind-requires
place_behind-requires c = omega (arith, c.len.ensures, c.self.invariant.few_changes)

abbrev after : goal.After-push_reserved → Inside
after c = record { stored = c.push_reserved.new.self; changes = c.self.inside.changes; closings = c.store_kind-kind.new.closings; closed_at = c.self.inside.closed_at; before = c.self.inside.before }

abbrev stored : goal.After-push_reserved → StoredEntry
stored c = record { start = c.place_behind.result; number = c.store_kind-kind.result.1; earlier = NOWHERE; worker = c.args.worker; kind = c.store_kind-kind.result.0; failed = true }

adds : (c : goal.After-push_reserved) → Adds c.self.inside (after c) (stored c) c.args.kind.now [] (closed_of c.args.kind.now)
adds c = record {
  stored = c.push_reserved.ensures.items;
  changes = sym (append-nil c.self.inside.changes.items);
  own = tt;
  few_changes = c.self.invariant.few_changes;
  few_closings = c.store_kind-kind.ensures.few;
  closings = c.store_kind-kind.ensures.items;
  start = c.place_behind.ensures ∙ c.len.ensures ∙ c.self.inside.changes.ok.0;
  number = c.store_kind-kind.ensures.number;
  until = c.store_kind-kind.ensures.until;
  kind_is = c.store_kind-kind.ensures.kind;
  before = refl;
  place = λ u. refl;
  earlier = λ u. refl;
}

pub invariant_of-self : goal.invariant_of-self
invariant_of-self c = sound_added c.self.inside (after c) (stored c) c.args.kind.now [] (closed_of c.args.kind.now) c.self.invariant (adds c)

pub returns-clause-entries : goal.returns-clause-entries
returns-clause-entries c =
    entries_added c.self.inside (after c) (stored c) c.args.kind.now [] (closed_of c.args.kind.now) c.self.invariant (adds c)
    ∙ ap (λ (v : SegmentView). v.entries ++ entry c.args.worker c.args.kind.now None ∷ []) c.self.view_is
