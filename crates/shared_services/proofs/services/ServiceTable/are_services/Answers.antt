use Rattle.std.proofs.Common.{◌≡◌, ◌<◌, ◌≤◌, ◌+◌, ◌-◌, ◌⊎◌, ℕ, List, get_or, length, inl, inr, refl, ap, arith}
use Rattle.std.proofs.lemmas.Bool.{cases_lt}
use Rattle.shared_services.proofs.lemmas.Places.{rising_to}
use Rattle.shared_services.proofs.services.ServiceTable.are_services.Goals as goal

known_more : (asked : List ℕ) (n place i : ℕ) → ((k : ℕ) → k < place → get_or asked k 0 < n) → get_or asked place 0 < n → i < place + 1 → get_or asked i 0 < n
known_more asked n place i known last low = at (cases_lt i place)
  where
    at : (i < place) ⊎ (place ≤ i) → get_or asked i 0 < n
    at (inl less) = known i less
    at (inr more) = let same : i ≡ place = omega (arith, low, more) in omega (arith, last, ap (λ (k : ℕ). get_or asked k 0) same)

rising_more : (asked : List ℕ) (place i j : ℕ) → ((a b : ℕ) → a < b → b < place → get_or asked a 0 < get_or asked b 0) → (0 < place → get_or asked (place - 1) 0 < get_or asked place 0) → i < j → j < place + 1
    → get_or asked i 0 < get_or asked j 0
rising_more asked place i j rising last before low = at (cases_lt j place)
  where
    at : (j < place) ⊎ (place ≤ j) → get_or asked i 0 < get_or asked j 0
    at (inl less) = rising i j before less
    at (inr more) = let same : j ≡ place = omega (arith, low, more) in let up : get_or asked i 0 < get_or asked place 0 = rising_to asked place i rising last (omega (arith, before, same)) in omega (arith, up, ap (λ (k : ℕ). get_or asked k 0) same)

pub loop-place-preserved : goal.loop-place-preserved
loop-place-preserved c = (
  λ i low. known_more c.args.asked.now (length c.args.self.now) c.loop-place.place i c.loop-place.invariant.0 (omega (arith, c.if-asked-place.false, c.services.ensures.count)) low,
  λ i j before low. rising_more c.args.asked.now c.loop-place.place i j c.loop-place.invariant.1 (c.if-not-rises_at.ensures.0 refl) before low,
)
