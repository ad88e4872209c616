-- the closings before the last
use Rattle.std.proofs.Common.{◌≡◌, ℕ, ◌-◌, List, [], ◌∷◌, ◌++◌, length, map, take, sym, ap, ◌∙◌, subst, arith}
use Rattle.std.proofs.lemmas.List.{map-append}
use Rattle.lock_journal.specs.StoredClosing.{AreDigestsFrom, closing_from, digests_until}
use Rattle.lock_journal.specs.StoredClosings.{ClosingsView}
use Rattle.lock_journal.specs.declared.stored_closings.StoredClosing.{StoredClosing}
use Rattle.lock_journal.specs.declared.stored_closings.StoredClosings.TheInside.{Inside}
use Rattle.lock_journal.proofs.Adding.{front_is}
use Rattle.lock_journal.proofs.Digests.{closings_left, digests_left}
use Rattle.lock_journal.proofs.stored_closings.StoredClosings.pop.Goals as goal

sound : (c : goal.After-truncate) → AreDigestsFrom 0 (length c.self.inside.digests.items) (c.pop.new.self.items ++ c.in-Some.last ∷ [])
sound c = subst (AreDigestsFrom 0 (length c.self.inside.digests.items)) c.in-Some.ensures.items c.self.invariant.digests

-- the digests that are left
digests : (c : goal.After-truncate) → c.truncate.new.self.items ≡ take (digests_until c.in-Some.last (length c.self.inside.digests.items)) c.self.inside.digests.items
digests c =
    let h : Inside = c.self.inside in
    c.truncate.ensures.items
    ∙ ap (λ n. take n h.digests.items) (c.digests_until.ensures ∙ ap (digests_until c.in-Some.last) (c.len.ensures ∙ h.digests.ok.0))

pub invariant_of-self : goal.invariant_of-self
invariant_of-self c =
    let h : Inside = c.self.inside in
    record {
      digests = subst (λ (ds : List (List ℕ)). AreDigestsFrom 0 (length ds) c.pop.new.self.items) (sym (digests c)) (digests_left h.digests.items c.pop.new.self.items c.in-Some.last (sound c));
      few = omega (arith, c.in-Some.ensures.len, c.self.invariant.few);
      few_digests = omega (arith, c.truncate.ensures.len, c.self.invariant.few_digests);
    }

pub returns-in-Some-clause-items : goal.returns-in-Some-clause-items
returns-in-Some-clause-items c =
    let h : Inside = c.self.inside in
    let k : StoredClosing = c.in-Some.last in
    let items : map (closing_from h.digests.items) h.stored.items ≡ map (closing_from h.digests.items) c.pop.new.self.items ++ closing_from h.digests.items k ∷ [] =
    ap (map (closing_from h.digests.items)) c.in-Some.ensures.items ∙ map-append (closing_from h.digests.items) c.pop.new.self.items (k ∷ []) in
    ap (λ (ds : List (List ℕ)). map (closing_from ds) c.pop.new.self.items) (digests c)
    ∙ closings_left h.digests.items c.pop.new.self.items k (sound c)
    ∙ front_is (map (closing_from h.digests.items) h.stored.items) (map (closing_from h.digests.items) c.pop.new.self.items) (closing_from h.digests.items k) items
    ∙ ap (λ (v : ClosingsView). take (length v.items - 1) v.items) c.self.view_is
