-- The numbers that are drawn one after another.
use Rattle.std.specs.Prelude.{ℕ, zero, suc, ◌+◌, ◌*◌, ◌/◌, ◌%◌, ◌^◌}

-- the number that comes after x
abbrev pub number_after : ℕ → ℕ
number_after x = (x * 6364136223846793005 + 1442695040888963407) % 2 ^ 64

-- the number after so many draws from x on
abbrev pub after_draws : ℕ → ℕ → ℕ
after_draws zero x = x
after_draws (suc n) x = after_draws n (number_after x)

-- what a draw from x gives
abbrev pub draw : ℕ → ℕ
draw x = number_after x / 2 ^ 33
