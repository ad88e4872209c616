-- What all seats of a queue come to together.
use Rattle.std.specs.Prelude.{◌≡◌, ◌==◌, ◌<◌, ◌≤◌, ℕ, List, Any, length, count_by, sum_by}
use Rattle.std.specs.List.{All}
use Rattle.work_tickets.specs.Lines.{GoesOn, pushed}
use Rattle.work_tickets.specs.declared.rule.Line.{Line}
use Rattle.work_tickets.specs.declared.rule.Sight.{Sight}

-- how often a number stands in the lists of all seats
abbrev pub times : ℕ → (Sight → List ℕ) → List Sight → ℕ
times k list_of seats = sum_by (λ s. count_by (λ x. x == k) (list_of s)) seats

-- Each number below n stands in the lists of all seats once, and no other number does.
pub record EachOnce (n : ℕ) (list_of : Sight → List ℕ) (seats : List Sight) : Type 0 where
  pub once : (k : ℕ) → k < n → times k list_of seats ≡ 1
  pub others : (k : ℕ) → n ≤ k → times k list_of seats ≡ 0

-- There is one line that goes on from what each seat saw. One of them saw all pushes, and one all pops. Each place of the
-- line is an own push of one seat, once. Each place that was popped is an own pop of one seat, once, and no other is.
pub record ComeTo (seats : List Sight) : Type 0 where
  pub line : Line
  pub goes_on : All (λ s. GoesOn s.line line) seats
  pub last_push : Any (λ s. pushed s.line ≡ pushed line) seats
  pub last_pop : Any (λ s. s.line.popped ≡ line.popped) seats
  pub pushes : EachOnce (length (pushed line)) (λ s. s.pushes) seats
  pub pops : EachOnce (length line.popped) (λ s. s.pops) seats
