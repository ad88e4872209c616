-- The history text: a head of two lines, a line for each entry, numbered from 1, and the line `end`.
use Rattle.std.specs.Prelude.{ℕ, ◌+◌, ◌/◌, ◌%◌, List, [], ◌∷◌, ◌++◌, length, codes, decimal, Option, Some, None, Bool, true, false}
use Rattle.std.specs.List.{flat_map}
use Rattle.std.specs.Fmt.{digit_glyph}
use Rattle.item_actions.specs.Words.{kind_of_outcome, outcome_word}
use Rattle.item_actions.specs.declared.outcomes.Outcome.{Outcome}
use Rattle.item_actions.specs.declared.outcomes.Outcome.TheVariants as outcomes
use Rattle.lock_journal.specs.Names.{MarkId, TaskOf, ActionOf, UnitOf, Mark, Waiting, Queued, Running, Passed, Failed, Skipped, Change, Lock, Unlock}
use Rattle.lock_journal.specs.Names.{Take, Give, Move, Unpark, Enter, Leave, Closed, Kind, Entry, SegmentView}
use Rattle.resource_lock.specs.declared.changes.Change.TheVariants.{Park}
use Rattle.lock_transforms.specs.declared.entries.Kind.TheVariants as kinds

abbrev pub mark_text : Mark → List ℕ
mark_text Waiting = codes "waiting"
mark_text Queued = codes "queued"
mark_text (Running w) = codes "running"
mark_text Passed = codes "passed"
mark_text Failed = codes "failed"
mark_text Skipped = codes "skipped"

abbrev pub id_text : MarkId → List ℕ
id_text (TaskOf n) = codes "task " ++ decimal n
id_text (ActionOf n) = codes "action " ++ decimal n
id_text (UnitOf n) = codes "unit " ++ decimal n

abbrev pub change_text : Change → List ℕ
change_text (Lock l) = codes "lock " ++ decimal l.0
change_text (Unlock l) = codes "unlock " ++ decimal l.0
change_text (Park l) = codes "park " ++ decimal l.0
change_text (Unpark l) = codes "unpark " ++ decimal l.0
change_text Take = codes "take"
change_text Give = codes "give"
change_text Enter = codes "enter"
change_text Leave = codes "leave"
change_text (Move id from to) = id_text id ++ codes " " ++ mark_text from ++ codes " " ++ mark_text to

abbrev pub further_text : Change → List ℕ
further_text c = codes ", " ++ change_text c

abbrev pub changes_text : List Change → List ℕ
changes_text [] = codes "nothing"
changes_text (c ∷ cs) = change_text c ++ flat_map further_text cs

-- what an entry did: its changes, or none where it failed
abbrev pub effect_text : Option (List Change) → List ℕ
effect_text None = codes "failed"
effect_text (Some cs) = changes_text cs

-- a byte as two lower-case hexadecimal digits
abbrev pub hex_text : ℕ → List ℕ
hex_text b = digit_glyph false (b / 16) ∷ digit_glyph false (b % 16) ∷ []

-- Skipped stands in no entry of a lawful history
-- what stands behind the word of an outcome
abbrev pub value_behind : Outcome → List ℕ
value_behind (outcomes.Number n) = codes " " ++ decimal n
value_behind (outcomes.Digest bytes) = codes " " ++ flat_map hex_text bytes
value_behind _ = []

abbrev pub outcome_text : Outcome → List ℕ
outcome_text o = outcome_word (kind_of_outcome o) ++ value_behind o

abbrev pub closed_text : Closed → List ℕ
closed_text d = decimal d.unit ++ codes " " ++ outcome_text d.outcome

abbrev pub kind_text : Kind → List ℕ
kind_text (kinds.Start t) = codes "start " ++ decimal t
kind_text (kinds.Skip t) = codes "skip " ++ decimal t
kind_text (kinds.End t) = codes "end " ++ decimal t
kind_text (kinds.Submit a) = codes "submit " ++ decimal a
kind_text (kinds.Park a) = codes "park " ++ decimal a
kind_text (kinds.Resume a) = codes "resume " ++ decimal a
kind_text (kinds.Claim u) = codes "claim " ++ decimal u
kind_text (kinds.Close d) = codes "close " ++ closed_text d
kind_text (kinds.Block (Some u)) = codes "block " ++ decimal u
kind_text (kinds.Block None) = codes "block -"
kind_text (kinds.Unblock (Some d)) = codes "unblock " ++ closed_text d
kind_text (kinds.Unblock None) = codes "unblock -"
kind_text kinds.Acquire = codes "acquire"
kind_text kinds.HandBack = codes "handback"

abbrev pub entry_text : ℕ → Entry → List ℕ
entry_text n e = decimal n ++ codes " w" ++ decimal e.worker.0 ++ codes " " ++ kind_text e.kind ++ codes " | " ++ effect_text e.changes ++ codes "\n"

-- the lines of what is numbered from n on
abbrev pub numbered : {X : Type 0} → (ℕ → X → List ℕ) → ℕ → List X → List ℕ
numbered line n [] = []
numbered line n (x ∷ xs) = line n x ++ numbered line (n + 1) xs

-- the lines of a segment's entries
abbrev pub segment_lines : SegmentView → List ℕ
segment_lines s = numbered entry_text (s.before + 1) s.entries

abbrev pub parallel_text : Bool → List ℕ
parallel_text true = codes "yes"
parallel_text false = codes "no"

-- the first line: a text of version 2 names a number of locks, and one of version 1 none
abbrev pub version_text : Option ℕ → List ℕ
version_text None = codes "history 1\n"
version_text (Some l) = codes "history 2\n"

abbrev pub locks_text : Option ℕ → List ℕ
locks_text None = []
locks_text (Some l) = codes " locks " ++ decimal l

abbrev pub head_text : ℕ → ℕ → Bool → Option ℕ → List ℕ
head_text workers max_leases parallel locks = version_text locks ++ codes "workers " ++ decimal workers ++ codes " max " ++ decimal max_leases
    ++ codes " parallel " ++ parallel_text parallel ++ locks_text locks ++ codes "\n"

abbrev pub end_text : ℕ → List ℕ
end_text count = codes "end " ++ decimal count ++ codes "\n"

abbrev pub history_text : ℕ → ℕ → Bool → Option ℕ → List Entry → List ℕ
history_text workers max_leases parallel locks es = head_text workers max_leases parallel locks ++ numbered entry_text 1 es ++ end_text (length es)
