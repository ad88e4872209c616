-- Changes that are noted one by one.
use Rattle.std.proofs.Common.{◌≡◌, ◌-◌, List, ◌∷◌, [], length, append_assoc, append-nil, arith}
use Rattle.resource_lock.specs.declared.changes.Change.{Change}
use Rattle.lock_transforms.specs.TentativeView.{TentativeView, all_recalled, recalled}

-- one, and then the others
pub recalled_then : (t : TentativeView) (c : Change) (cs : List Change) → all_recalled (recalled t c) cs ≡ all_recalled t (c ∷ cs)
recalled_then t c cs =
    let room : t.room - 1 - length cs ≡ t.room - length (c ∷ cs) = omega arith in
    λ i. record t { made = append_assoc t.made (c ∷ []) cs i; room = room i }

-- none
pub recalled_none : (t : TentativeView) → all_recalled t [] ≡ t
recalled_none t = let room : t.room - 0 ≡ t.room = omega arith in λ i. record t { made = append-nil t.made i; room = room i }
