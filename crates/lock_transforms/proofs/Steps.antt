-- Changes that lead from one state to another.
use Rattle.std.proofs.Common.{◌≡◌, [], ◌∷◌, true, ◌&&◌, refl, sym, ◌∙◌, ap, subst}
use Rattle.std.specs.List.{AllByRecursion}
use Rattle.std.proofs.lemmas.Bool.{and_from}
use Rattle.resource_lock.proofs.lemmas.Runs.{same_shape-make_all, same_shape-sym, can_all-append, named_along, all_named_from, make_all-append}
use Rattle.resource_lock.specs.StateView.{StateView}
use Rattle.resource_lock.specs.Change.{can, make, make_all, can_all, NamesOnly}
use Rattle.resource_lock.specs.Shape.{SameShape}
use Rattle.resource_lock.specs.declared.changes.Change.{Change}
use Rattle.lock_transforms.specs.TentativeView.{TentativeView, noted, LeadsTo}

-- with no change made, a state leads to itself
pub leads_none : (t : TentativeView) → t.made ≡ [] → LeadsTo t.state t
leads_none t none = record {
  named = subst (AllByRecursion (NamesOnly t.state)) (sym none) tt;
  possible = ap (can_all t.state t.worker) none;
  state = ap (make_all t.state t.worker) (sym none);
}

-- one more change that can be made
pub leads_more : (before : StateView) (t : TentativeView) (c : Change) → LeadsTo before t → NamesOnly t.state c → can t.state t.worker c ≡ true → LeadsTo before (noted t c)
leads_more before t c leads named possible =
    let same : SameShape before t.state = subst (SameShape before) (sym leads.state) (same_shape-make_all before t.worker t.made) in
    record {
      named = all_named_from before t.made (c ∷ []) leads.named (named_along t.state before c (same_shape-sym before t.state same) named, tt);
      possible = can_all-append before t.worker t.made (c ∷ [])
          ∙ and_from (can_all before t.worker t.made) (can (make_all before t.worker t.made) t.worker c && true) leads.possible
          (and_from (can (make_all before t.worker t.made) t.worker c) true (ap (λ (s : StateView). can s t.worker c) (sym leads.state) ∙ possible) refl);
      state = ap (λ (s : StateView). make s t.worker c) leads.state ∙ sym (make_all-append before t.worker t.made (c ∷ []));
    }
