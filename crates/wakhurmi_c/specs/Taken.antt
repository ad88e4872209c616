-- A part of a history that was taken, and its text.
use Rattle.std.specs.Prelude.{◌≡◌, ◌<◌, ℕ, ◌+◌, ◌-◌, ◌^◌, ◌==◌, List, [], length, slice_get, Some, if◌then◌else◌, true}
use Rattle.lock_journal.specs.BookView.{BookView}
use Rattle.history_text.specs.Text.{head_text}
use Rattle.coordination.specs.Names.{Finds, seeing}
use Rattle.coordination.specs.Giving.{HasTakenHistory}
use Rattle.coordination.specs.declared.rule.Sight.{Sight}
use Rattle.wakhurmi_c.specs.Texts.{first_line, line_of}
use Rattle.wakhurmi_c.specs.declared.answers.Answer.{Answer}
use Rattle.wakhurmi_c.specs.declared.answers.Answer.TheVariants.{Again, BadNumber, Done}
use Rattle.wakhurmi_c.specs.declared.taken_parts.TakenPart.{TakenPart}

-- a line of the history's text that a part has: line 0 is the head, and an entry's line has its number
abbrev pub part_line : TakenPart → ℕ → List ℕ
part_line p n = if n == 0 then head_text p.workers p.max_leases true (Some p.locks)
    else line_of n (slice_get p.segment.entries (n - 1 - p.segment.before))

-- the lines of a part, from 0 on; behind the last there is nothing, and where there are no entries there is no line
abbrev pub taken_text : TakenPart → ℕ → List ℕ
taken_text p n = if length p.segment.entries == 0 then [] else part_line p (first_line p.segment.before + n)

-- the part has no entries and the numbers of the book's graph
pub record IsFreshPart (book : BookView) (p : TakenPart) : Type 0 where
  pub entries : p.segment.entries ≡ []
  pub workers : p.workers ≡ book.graph.workers
  pub max_leases : p.max_leases ≡ book.graph.max_leases
  pub locks : p.locks ≡ book.graph.locks

abbrev pub HasTheNumbers : TakenPart → TakenPart → Type 0
HasTheNumbers p p' = (p'.workers ≡ p.workers) × (p'.max_leases ≡ p.max_leases) × (p'.locks ≡ p.locks)

abbrev pub IsSamePart : TakenPart → TakenPart → Type 0
IsSamePart p p' = (p'.segment ≡ p.segment) × HasTheNumbers p p'

-- The book that was found has more entries than can come before a part, so nothing was taken.
pub record IsTooLong (old new : Sight) (p p' : TakenPart) : Type 0 where
  pub book : BookView
  pub found : Finds old.worker old.seen book
  pub long : 2 ^ 62 < length book.history
  pub same : IsSamePart p p'
  pub sight : new ≡ seeing old book

-- The history was taken, or the book was out, or it has too many entries; the part's numbers stay.
abbrev pub TakingLeaves : Sight → Sight → TakenPart → TakenPart → Answer → Type 0
TakingLeaves old new p p' Done = HasTakenHistory old new p.segment p'.segment × HasTheNumbers p p'
TakingLeaves old new p p' Again = (new ≡ old) × IsSamePart p p'
TakingLeaves old new p p' BadNumber = IsTooLong old new p p'
TakingLeaves old new p p' _ = ⊥

-- The history was taken into a part that had no entries, or why it wasn't.
pub record HasTriedToTake (old new : Sight) (part : TakenPart) (answer : Answer) : Type 0 where
  pub fresh : TakenPart
  pub is_fresh : IsFreshPart old.seen fresh
  pub left : TakingLeaves old new fresh part answer
