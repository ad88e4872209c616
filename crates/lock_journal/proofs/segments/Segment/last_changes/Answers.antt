use Rattle.std.proofs.Common.{◌≡◌, ◌-◌, length, List, [], Some, cond, sym, ◌∙◌, ap, arith}
use Rattle.std.specs.Prelude.{map, slice_get}
use Rattle.std.specs.List.{slice_range}
use Rattle.std.specs.Option.{option_copied}
use Rattle.lock_journal.specs.Names.{SegmentView, change_of_worker, last_changes}
use Rattle.lock_journal.specs.declared.stored_changes.StoredChange.{StoredChange}
use Rattle.lock_journal.specs.declared.stored_entries.StoredEntry.{StoredEntry}
use Rattle.lock_journal.proofs.Stored.{last_made, last_starts}
use Rattle.lock_journal.proofs.segments.Segment.last_changes.Goals as goal

pub changes_of-requires-clause-ordered : goal.changes_of-requires-clause-ordered
changes_of-requires-clause-ordered c =
    let at : slice_get c.self.inside.stored.items (length c.self.inside.stored.items - 1) ≡ Some c.in-Some.last.now =
    ap (λ (ks : List StoredEntry). slice_get ks (length ks - 1)) (sym c.deref.ensures.value) ∙ sym c.last.ensures.value ∙ ap option_copied c.in-Some.is in
    let long : c.len.result ≡ length c.self.inside.changes.items = c.len.ensures ∙ c.self.inside.changes.ok.0 in
    omega (arith, long, last_starts (length c.self.inside.changes.items) (length c.self.inside.closings.items) c.self.inside.stored.items c.in-Some.last.now c.self.invariant.stored at)

pub returns-in-Some : goal.returns-in-Some
returns-in-Some c =
    let k : StoredEntry = c.in-Some.last.now in
    let at : slice_get c.self.inside.stored.items (length c.self.inside.stored.items - 1) ≡ Some k =
    ap (λ (ks : List StoredEntry). slice_get ks (length ks - 1)) (sym c.deref.ensures.value) ∙ sym c.last.ensures.value ∙ ap option_copied c.in-Some.is in
    let long : c.len.result ≡ length c.self.inside.changes.items = c.len.ensures ∙ c.self.inside.changes.ok.0 in
    c.changes_of.ensures
    ∙ ap (λ (cs : List StoredChange). cond k.failed [] (map (change_of_worker k.worker) (slice_range cs k.start c.len.result))) c.deref-in-Some.ensures.value
    ∙ ap (λ n. cond k.failed [] (map (change_of_worker k.worker) (slice_range c.self.inside.changes.items k.start n))) long
    ∙ sym (last_made c.self.inside.changes.items c.self.inside.closings.items c.self.inside.stored.items k at)
    ∙ ap (λ (v : SegmentView). last_changes v.entries) c.self.view_is
