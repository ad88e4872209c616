-- The rule of the queue, over what is queued and what each pass shows.
use Rattle.std.specs.Prelude.{◌≡◌, ℕ, Bool, zero, suc, ◌+◌, ◌<◌, List, [], ◌∷◌, ◌++◌, length, count_by, sum_by}
use Rattle.std.specs.List.{All}
use Rattle.work_tickets.specs.Lines.{GoesOn, line_of, pushed}
use Rattle.work_tickets.specs.Sights.{one, sight_of}
use Rattle.work_tickets.specs.Calls.{Finds, HasPopped, HasPushed}
use Rattle.work_tickets.specs.Together.{ComeTo}
use Rattle.work_tickets.specs.declared.rule.Line.{Line}
use Rattle.work_tickets.specs.declared.rule.Sight.{Sight}
use Rattle.work_tickets.specs.declared.rule.PassView.{PassView}

-- What is so of each seat: the line goes on from what it saw, and it saw its own pushes and pops.
pub record FitsSight (seats : ℕ) (line : Line) (s : Sight) : Type 0 where
  pub knows : s.seats ≡ seats
  pub goes_on : GoesOn s.line line
  pub pushes : All (λ place. place < length (pushed s.line)) s.pushes
  pub pops : All (λ place. place < length s.line.popped) s.pops

-- What is so of each pass: its seats fit, and who can cut off seats knows how many there are to be.
pub record FitsPass (seats : ℕ) (line : Line) (v : PassView) : Type 0 where
  pub known : 0 < v.uncut → v.seats ≡ seats
  pub sights : All (FitsSight seats line) v.sights

-- the places below n
abbrev pub places : ℕ → List ℕ
places zero = []
places (suc n) = places n ++ n ∷ []

-- how many places of a sort stand in a list of each seat, over all passes
abbrev pub total_of : (Sight → List ℕ) → (ℕ → Bool) → List PassView → ℕ
total_of list_of sort views = sum_by (λ v. sum_by (λ s. count_by sort (list_of s)) v.sights) views

-- There is one line, whose end is queued, and each seat fits it. Each place of the line is an own push of one seat, once,
-- and each place that was popped is an own pop of one seat, once: of every sort of place there are as many. The seats that
-- are cut off, and those to come, are as many as there are to be.
pub record Orderly (queued : List ℕ) (views : List PassView) : Type 0 where
  pub popped : List ℕ
  pub seats : ℕ
  pub fits : All (FitsPass seats (line_of popped queued)) views
  pub parts : sum_by (λ v. v.uncut) views + sum_by (λ v. length v.sights) views ≡ seats
  pub pushes : (sort : ℕ → Bool) → total_of (λ s. s.pushes) sort views ≡ count_by sort (places (length (popped ++ queued)))
  pub pops : (sort : ℕ → Bool) → total_of (λ s. s.pops) sort views ≡ count_by sort (places (length popped))

-- the push of the pass's one seat
abbrev pub has_pushed : ℕ → PassView → ℕ → PassView → Type 0
has_pushed capacity v unit w = (w ≡ one (sight_of w)) × HasPushed capacity unit (sight_of v) (sight_of w)

-- the pop of the pass's one seat
abbrev pub has_popped : PassView → ℕ → PassView → Type 0
has_popped v unit w = (w ≡ one (sight_of w)) × HasPopped unit (sight_of v) (sight_of w)

-- the line that the pass's one seat finds
abbrev pub finds : PassView → List ℕ → Type 0
finds v queued = (popped : List ℕ) × Finds (sight_of v) (line_of popped queued)

-- what the seats of the pass come to
abbrev pub come_to : PassView → List ℕ → Type 0
come_to v queued = ComeTo v.sights
