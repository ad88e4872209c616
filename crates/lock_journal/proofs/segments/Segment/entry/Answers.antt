use Rattle.std.proofs.Common.{◌≡◌, ℕ, ◌<◌, ◌+◌, length, drop, List, [], Some, None, cond, sym, ◌∙◌, ap, arith}
use Rattle.std.specs.Prelude.{map, slice_get}
use Rattle.std.specs.List.{slice_range, slice_index_or}
use Rattle.lock_journal.specs.Names.{Change, entry, changes_left, change_of_worker, end_before, kind_from, segment_view, IsSoundSegment, SegmentView}
use Rattle.lock_journal.specs.Names.{Kind}
use Rattle.lock_journal.specs.declared.stored_changes.StoredChange.{StoredChange}
use Rattle.lock_journal.specs.declared.stored_entries.StoredEntry.{StoredEntry}
use Rattle.lock_journal.specs.declared.segments.Segment.TheInside.{Inside}
use Rattle.lock_journal.proofs.Stored.{StandsAt, end_read, entry_at, read_at, shown_as, stands_at}
use Rattle.lock_journal.proofs.segments.Segment.entry.Goals as goal

-- the entry that is read has a range and a number
stands : (h : Inside) (v : SegmentView) (i : ℕ) (k : StoredEntry) → IsSoundSegment h → segment_view h ≡ v → i < length v.entries → k ≡ slice_index_or h.stored.items i k
    → StandsAt (length h.changes.items) (length h.closings.items) (end_before (drop (i + 1) h.stored.items) (length h.changes.items)) k
stands h v i k sound view within is = stands_at (length h.changes.items) (length h.closings.items) h.stored.items i k sound.stored (read_at h v i k view within is)

pub kind_of-requires : goal.kind_of-requires
kind_of-requires c =
    let k : StoredEntry = c.index-stored.result.now in
    (stands c.self.inside c.args.self.now c.args.place k c.self.invariant c.self.view_is c.requires c.index-stored.ensures).number

pub changes_of-requires-clause-ordered : goal.changes_of-requires-clause-ordered
changes_of-requires-clause-ordered c =
    let st = stands c.self.inside c.args.self.now c.args.place c.index-stored.result.now c.self.invariant c.self.view_is c.requires c.index-stored.ensures in
    let end = end_read c.self.inside.stored.items c.deref.result.now (c.args.place + 1) c.len.result c.end_before-end.result c.deref.ensures.value c.end_before-end.ensures in
    let long : c.len.result ≡ length c.self.inside.changes.items = c.len.ensures ∙ c.self.inside.changes.ok.0 in
    let there = ap (end_before (drop (c.args.place + 1) c.self.inside.stored.items)) long in
    omega (arith, st.ordered, end, there)

pub changes_of-requires-clause-bounded : goal.changes_of-requires-clause-bounded
changes_of-requires-clause-bounded c =
    let st = stands c.self.inside c.args.self.now c.args.place c.index-stored.result.now c.self.invariant c.self.view_is c.requires c.index-stored.ensures in
    let end = end_read c.self.inside.stored.items c.deref.result.now (c.args.place + 1) c.len.result c.end_before-end.result c.deref.ensures.value c.end_before-end.ensures in
    let long : c.len.result ≡ length c.self.inside.changes.items = c.len.ensures ∙ c.self.inside.changes.ok.0 in
    let there = ap (end_before (drop (c.args.place + 1) c.self.inside.stored.items)) long in
    let all = ap (λ (cs : List StoredChange). length cs) c.deref-2.ensures.value in
    omega (arith, st.bounded, end, there, all)

pub returns-clause-shown : goal.returns-clause-shown
returns-clause-shown c =
    let k : StoredEntry = c.index-stored.result.now in
    let h : Inside = c.self.inside in
    let i = c.args.place in
    let long : c.len.result ≡ length h.changes.items = c.len.ensures ∙ h.changes.ok.0 in
    let end : c.end_before-end.result ≡ end_before (drop (i + 1) h.stored.items) (length h.changes.items) =
    end_read h.stored.items c.deref.result.now (i + 1) c.len.result c.end_before-end.result c.deref.ensures.value c.end_before-end.ensures
    ∙ ap (end_before (drop (i + 1) h.stored.items)) long in
    let kind : c.kind_of.result ≡ kind_from h.closings.items k.kind k.number = c.kind_of.ensures in
    let made : List Change = map (change_of_worker k.worker) (slice_range h.changes.items k.start (end_before (drop (i + 1) h.stored.items) (length h.changes.items))) in
    let changes : changes_left c.changes_of.result ≡ cond k.failed [] made =
    c.changes_of.ensures
    ∙ ap (λ cs. cond k.failed [] (map (change_of_worker k.worker) (slice_range cs k.start c.end_before-end.result))) c.deref-2.ensures.value
    ∙ ap (λ e. cond k.failed [] (map (change_of_worker k.worker) (slice_range h.changes.items k.start e))) end in
    ap (λ (v : SegmentView). slice_get v.entries i) (sym c.self.view_is)
    ∙ entry_at h.changes.items h.closings.items h.stored.items i k (read_at h c.args.self.now i k c.self.view_is c.requires c.index-stored.ensures)
    ∙ ap (λ (x : Kind). Some (entry k.worker x (cond k.failed None (Some made)))) (sym kind)
    ∙ ap (λ cs. Some (entry k.worker c.kind_of.result cs)) (shown_as k.failed made (changes_left c.changes_of.result) changes)
