-- Draws after draws.
use Rattle.std.proofs.Common.{◌≡◌, ℕ, zero, suc, ◌+◌, sym, ◌∙◌, ap, arith, zero-add}
use Rattle.generated_plan.specs.Draws.{number_after, after_draws}

pub after_both : (m n x : ℕ) → after_draws n (after_draws m x) ≡ after_draws (m + n) x
after_both zero n x = ap (λ k. after_draws k x) (sym (zero-add n))
after_both (suc m) n x =
    let longer : suc (m + n) ≡ suc m + n = omega arith in
    after_both m n (number_after x) ∙ ap (λ k. after_draws k x) longer

pub after_one_more : (n x : ℕ) → number_after (after_draws n x) ≡ after_draws (n + 1) x
after_one_more n x = after_both n 1 x
