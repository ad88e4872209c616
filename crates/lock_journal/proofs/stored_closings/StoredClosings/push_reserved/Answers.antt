-- one closing more
use Rattle.std.proofs.Common.{ℕ, List, [], ◌∷◌, ◌++◌, length, map, sym, ap, ◌∙◌, subst, arith}
use Rattle.std.proofs.lemmas.List.{map-append}
use Rattle.lock_journal.specs.Names.{Closed, AreDigestsFrom, closing_from, ClosingsView}
use Rattle.lock_journal.specs.StoredClosing.{digest_of}
use Rattle.lock_journal.specs.declared.stored_closings.StoredClosing.{StoredClosing}
use Rattle.lock_journal.specs.declared.stored_closings.StoredClosings.TheInside.{Inside}
use Rattle.lock_journal.proofs.Digests.{closings_same, digests_push}
use Rattle.lock_journal.proofs.stored_closings.StoredClosings.push_reserved.Goals as goal

abbrev after : goal.After-push_reserved → Inside
after c = record { stored = c.push_reserved.new.self; digests = c.store_closing-stored.new.digests }

pub invariant_of-self : goal.invariant_of-self
invariant_of-self c =
    let h : Inside = c.self.inside in
    let spare = ap (λ (v : ClosingsView). v.spare) c.self.view_is in
    let n : ℕ = length (after c).digests.items in
    record {
      digests = subst (AreDigestsFrom 0 n) (sym c.push_reserved.ensures.items)
          (digests_push 0 (length h.digests.items) n c.store_closing-stored.result h.stored.items c.self.invariant.digests
          c.store_closing-stored.ensures.until c.store_closing-stored.ensures.last);
      few = omega (arith, c.requires, spare, c.push_reserved.ensures.len);
      few_digests = omega (arith, c.requires, spare, c.store_closing-stored.ensures.len);
    }

pub returns-clause-items : goal.returns-clause-items
returns-clause-items c =
    let h : Inside = c.self.inside in
    let k : StoredClosing = c.store_closing-stored.result in
    let ds : List (List ℕ) = (after c).digests.items in
    ap (map (closing_from ds)) c.push_reserved.ensures.items
    ∙ map-append (closing_from ds) h.stored.items (k ∷ [])
    ∙ ap (λ (es : List (List ℕ)). map (closing_from es) h.stored.items ++ closing_from ds k ∷ []) c.store_closing-stored.ensures.items
    ∙ ap (λ (cs : List Closed). cs ++ closing_from ds k ∷ []) (closings_same 0 h.digests.items (digest_of c.args.closed.outcome) h.stored.items c.self.invariant.digests)
    ∙ ap (λ (d : Closed). map (closing_from h.digests.items) h.stored.items ++ d ∷ []) c.store_closing-stored.ensures.closing
    ∙ ap (λ (v : ClosingsView). v.items ++ c.args.closed ∷ []) c.self.view_is
