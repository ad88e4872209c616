-- What one more level or entry adds to a count.
use Rattle.std.proofs.Common.{◌≡◌, ◌≤◌, ℕ, ◌+◌, ◌<◌, List, length, get_or, drop, sym, ap, arith}
use Rattle.std.specs.Prelude.{max}
use Rattle.std.proofs.lemmas.List.{at_drop_more, at_drop_all}
use Rattle.run_spans.specs.declared.levels.Level.{Level}
use Rattle.picture_layout.specs.Totals.{most_queued, most_out}

pub most_step : (vs : List Level) (i most : ℕ) (v : Level) → i < length vs → v ≡ get_or vs i v → max (max v.queued most) (most_queued (drop (i + 1) vs)) ≡ max most (most_queued (drop i vs))
most_step vs i most v within is =
    let here : most_queued (drop i vs) ≡ max (get_or vs i v).queued (most_queued (drop (i + 1) vs)) = at_drop_more most_queued vs i v within in
    let same : (get_or vs i v).queued ≡ v.queued = ap (λ (x : Level). x.queued) (sym is) in
    omega (arith, here, same)

pub most_end : (vs : List Level) (i most : ℕ) → length vs ≤ i → max most (most_queued (drop i vs)) ≡ most
most_end vs i most past =
    let none : most_queued (drop i vs) ≡ 0 = at_drop_all most_queued vs i past in
    omega (arith, none)

-- the same of the leases out
pub most_out_step : (vs : List Level) (i most : ℕ) (v : Level) → i < length vs → v ≡ get_or vs i v → max (max v.out most) (most_out (drop (i + 1) vs)) ≡ max most (most_out (drop i vs))
most_out_step vs i most v within is =
    let here : most_out (drop i vs) ≡ max (get_or vs i v).out (most_out (drop (i + 1) vs)) = at_drop_more most_out vs i v within in
    let same : (get_or vs i v).out ≡ v.out = ap (λ (x : Level). x.out) (sym is) in
    omega (arith, here, same)

pub most_out_end : (vs : List Level) (i most : ℕ) → length vs ≤ i → max most (most_out (drop i vs)) ≡ most
most_out_end vs i most past =
    let none : most_out (drop i vs) ≡ 0 = at_drop_all most_out vs i past in
    omega (arith, none)
