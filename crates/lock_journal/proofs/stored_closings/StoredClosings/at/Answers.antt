-- the closing at the place
use Rattle.std.proofs.Common.{◌≡◌, ◌<◌, ℕ, List, Some, length, refl, sym, ap, ◌∙◌, subst, arith}
use Rattle.std.specs.Prelude.{slice_get}
use Rattle.std.proofs.lemmas.List.{get_or-map, length-map}
use Rattle.std.proofs.lemmas.Option.{slice_get_read}
use Rattle.lock_journal.specs.Names.{closing_from, ClosingsView, closing_at}
use Rattle.lock_journal.specs.StoredClosing.{IsDigestWithin}
use Rattle.lock_journal.specs.declared.stored_closings.StoredClosing.{StoredClosing}
use Rattle.lock_journal.specs.declared.stored_closings.StoredClosings.TheInside.{Inside}
use Rattle.lock_journal.proofs.Digests.{digest_there}
use Rattle.lock_journal.proofs.stored_closings.StoredClosings.at.Goals as goal

pub index-requires : goal.index-requires
index-requires c =
    omega (arith, c.requires, ap (λ (v : ClosingsView). length v.items) c.self.view_is, length-map c.self.inside.stored.items (closing_from c.self.inside.digests.items), c.self.inside.stored.ok.0)

pub closing_from-requires : goal.closing_from-requires
closing_from-requires c =
    let h : Inside = c.self.inside in
    let k : StoredClosing = c.index.result.now in
    let lt : c.args.place < length h.stored.items =
    omega (arith, c.requires, ap (λ (v : ClosingsView). length v.items) c.self.view_is, length-map h.stored.items (closing_from h.digests.items)) in
    let at : slice_get h.stored.items c.args.place ≡ Some k = slice_get_read h.stored.items (length h.stored.items) c.args.place k refl lt c.index.ensures in
    subst (λ (ds : List (List ℕ)). IsDigestWithin (length ds) k) (sym c.deref.ensures.value)
    (digest_there 0 (length h.digests.items) h.stored.items c.args.place k c.self.invariant.digests at)

pub returns : goal.returns
returns c =
    let h : Inside = c.self.inside in
    let k : StoredClosing = c.index.result.now in
    let lt : c.args.place < length h.stored.items =
    omega (arith, c.requires, ap (λ (v : ClosingsView). length v.items) c.self.view_is, length-map h.stored.items (closing_from h.digests.items)) in
    c.closing_from.ensures
    ∙ ap (λ (ds : List (List ℕ)). closing_from ds k) c.deref.ensures.value
    ∙ ap (closing_from h.digests.items) c.index.ensures
    ∙ sym (get_or-map (closing_from h.digests.items) h.stored.items c.args.place k _ lt)
    ∙ ap (λ (v : ClosingsView). closing_at v.items c.args.place) c.self.view_is
