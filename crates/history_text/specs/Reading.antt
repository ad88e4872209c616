-- Reading the parts of a line: each reader gives a value and the text after it, or nothing.
use Rattle.std.specs.Prelude.{ℕ, ◌+◌, ◌-◌, ◌*◌, ◌^◌, List, [], ◌∷◌, ◌++◌, length, codes, decimal, Option, Some, None, Result, Ok}
use Rattle.std.specs.Prelude.{Err, ◌≡◌, zero, suc, Bool, true, false, if◌then◌else◌, nat_eq, nat_lt, nat_le, ◌&&◌}
use Rattle.history_text.specs.Plain.{LockId, WorkerId, MarkId, TaskOf, ActionOf, UnitOf, Mark, Waiting, Queued, Running, Passed, Failed, Skipped, Change}
use Rattle.history_text.specs.Plain.{Lock, Unlock, Take, Give, Move, Park, Unpark, Enter, Leave, Outcome, Number, Digest, NotThere, TooLong, Fault, NoMemory}
use Rattle.history_text.specs.Plain.{Closed, Kind, Start, Skip, Submit, ParkFor, Resume, Claim, Close, Block, Unblock, End, Acquire, HandBack}
use Rattle.lock_transforms.specs.Entry.{Entry}
use Rattle.plan_reader.specs.declared.limits.TheConstants.{MAX_LEASES, MAX_WORKERS}
use Rattle.history_text.specs.declared.heads.Settings.{Settings}
use Rattle.history_text.specs.declared.heads.Version.{Version}
use Rattle.history_text.specs.declared.heads.Version.TheVariants.{One, Two}
use Rattle.history_text.specs.declared.fails.ReadFail.{ReadFail}
use Rattle.history_text.specs.declared.fails.ReadFail.TheVariants.{Wrong, Memory}

infixl 10 ◌>>=◌
abbrev pub ◌>>=◌ : {A B : Type 0} → Option A → (A → Option B) → Option B
None >>= f = None
(Some x) >>= f = f x

-- the text after a word
abbrev pub after : List ℕ → List ℕ → Option (List ℕ)
after [] text = Some text
after (b ∷ word) [] = None
after (b ∷ word) (c ∷ text) = if nat_eq b c then after word text else None

abbrev pub on : {A : Type 0} → Option (List ℕ) → (List ℕ → Option A) → Option A → Option A
on None f other = other
on (Some rest) f other = f rest

-- what f reads after the word, or else the other
unfoldable pub branch : {A : Type 0} → List ℕ → List ℕ → (List ℕ → Option A) → Option A → Option A
branch word text f other = on (after word text) f other

abbrev pub is_digit : ℕ → Bool
is_digit c = nat_le 48 c && nat_le c 57

-- the digits after the number so far
abbrev pub number_after : ℕ → ℕ → List ℕ → Option (ℕ × List ℕ)
number_after limit n [] = Some (n, [])
number_after limit n (c ∷ text) = if is_digit c
    then (if nat_lt (n * 10 + (c - 48)) limit then number_after limit (n * 10 + (c - 48)) text else None) else Some (n, c ∷ text)

abbrev pub begins_with_digit : List ℕ → Bool
begins_with_digit [] = false
begins_with_digit (c ∷ text) = is_digit c

-- a number below the limit without leading zeros
abbrev pub number_at : ℕ → List ℕ → Option (ℕ × List ℕ)
number_at limit [] = None
number_at limit (c ∷ text) = if is_digit c
    then (if nat_eq c 48 then (if begins_with_digit text then None else Some (0, text)) else number_after limit (c - 48) text)
    else None

abbrev pub number_as : {A : Type 0} → (ℕ → A) → List ℕ → Option (A × List ℕ)
number_as make text = number_at (2 ^ 32) text >>= λ n. Some (make n.0, n.1)

abbrev pub plain : {A : Type 0} → A → List ℕ → Option (A × List ℕ)
plain value text = Some (value, text)

unfoldable pub mark_at : WorkerId → List ℕ → Option (Mark × List ℕ)
mark_at w text =
    branch (codes "waiting") text (plain Waiting)
    (branch (codes "queued") text (plain Queued)
    (branch (codes "running") text (plain (Running w))
    (branch (codes "passed") text (plain Passed)
    (branch (codes "failed") text (plain Failed)
    (branch (codes "skipped") text (plain Skipped) None)))))

unfoldable pub id_at : List ℕ → Option (MarkId × List ℕ)
id_at text =
    branch (codes "task ") text (number_as TaskOf)
    (branch (codes "action ") text (number_as ActionOf)
    (branch (codes "unit ") text (number_as UnitOf) None))

unfoldable pub move_at : WorkerId → List ℕ → Option (Change × List ℕ)
move_at w text = id_at text >>= λ id. after (codes " ") id.1 >>= λ rest. mark_at w rest >>= λ from. after (codes " ") from.1
    >>= λ rest'. mark_at w rest' >>= λ to. Some (Move id.0 from.0 to.0, to.1)

unfoldable pub change_at : WorkerId → List ℕ → Option (Change × List ℕ)
change_at w text =
    branch (codes "lock ") text (number_as (λ n. Lock (record { 0 = n })))
    (branch (codes "unlock ") text (number_as (λ n. Unlock (record { 0 = n })))
    (branch (codes "take") text (plain Take)
    (branch (codes "give") text (plain Give)
    (branch (codes "park ") text (number_as (λ n. Park (record { 0 = n })))
    (branch (codes "unpark ") text (number_as (λ n. Unpark (record { 0 = n })))
    (branch (codes "enter") text (plain Enter)
    (branch (codes "leave") text (plain Leave) (move_at w text))))))))

-- further changes, with at most so many turns
abbrev pub further_at : ℕ → WorkerId → List ℕ → Option (List Change × List ℕ)
further_at zero w text = None
further_at (suc turns) w text = on (after (codes ", ") text) (λ rest. change_at w rest >>= λ c. further_at turns w c.1
    >>= λ cs. Some (c.0 ∷ cs.0, cs.1)) (Some ([], text))

unfoldable pub changes_at : WorkerId → List ℕ → Option (List Change × List ℕ)
changes_at w text = change_at w text >>= λ c. further_at (length c.1) w c.1 >>= λ cs. Some (c.0 ∷ cs.0, cs.1)

unfoldable pub effect_at : WorkerId → List ℕ → Option (Option (List Change) × List ℕ)
effect_at w text =
    branch (codes "failed") text (plain None)
    (branch (codes "nothing") text (plain (Some []))
    (changes_at w text >>= λ cs. Some (Some cs.0, cs.1)))

-- the number that a lower-case hexadecimal digit stands for
abbrev pub digit_value : ℕ → Option ℕ
digit_value c =
    if nat_le 48 c && nat_le c 57 then Some (c - 48)
    else if nat_le 97 c && nat_le c 102 then Some (c - 87)
    else None

-- a byte of two such digits
abbrev pub byte_at : List ℕ → Option (ℕ × List ℕ)
byte_at [] = None
byte_at (c ∷ []) = None
byte_at (c ∷ d ∷ text) = digit_value c >>= λ high. digit_value d >>= λ low. Some (high * 16 + low, text)

abbrev pub bytes_at : ℕ → List ℕ → Option (List ℕ × List ℕ)
bytes_at zero text = Some ([], text)
bytes_at (suc n) text = byte_at text >>= λ b. bytes_at n b.1 >>= λ bs. Some (b.0 ∷ bs.0, bs.1)

unfoldable pub outcome_at : List ℕ → Option (Outcome × List ℕ)
outcome_at text =
    branch (codes "number ") text (λ t. number_at (2 ^ 64) t >>= λ n. Some (Number n.0, n.1))
    (branch (codes "digest ") text (λ t. bytes_at 32 t >>= λ bs. Some (Digest bs.0, bs.1))
    (branch (codes "missing") text (plain NotThere)
    (branch (codes "too-long") text (plain TooLong)
    (branch (codes "fault") text (plain Fault)
    (branch (codes "no-memory") text (plain NoMemory) None)))))

unfoldable pub closed_at : List ℕ → Option (Closed × List ℕ)
closed_at text = number_at (2 ^ 32) text >>= λ u. after (codes " ") u.1 >>= λ r. outcome_at r >>= λ o. Some (record { unit = u.0; outcome = o.0 }, o.1)

-- the kinds that close or wait
unfoldable pub pause_at : List ℕ → Option (Kind × List ℕ)
pause_at text =
    branch (codes "close ") text (λ t. closed_at t >>= λ d. Some (Close d.0, d.1))
    (branch (codes "block -") text (plain (Block None))
    (branch (codes "block ") text (number_as (λ u. Block (Some u)))
    (branch (codes "unblock -") text (plain (Unblock None))
    (branch (codes "unblock ") text (λ t. closed_at t >>= λ d. Some (Unblock (Some d.0), d.1)) None))))

unfoldable pub kind_at : List ℕ → Option (Kind × List ℕ)
kind_at text =
    branch (codes "start ") text (number_as Start)
    (branch (codes "skip ") text (number_as Skip)
    (branch (codes "submit ") text (number_as Submit)
    (branch (codes "park ") text (number_as ParkFor)
    (branch (codes "resume ") text (number_as Resume)
    (branch (codes "claim ") text (number_as Claim)
    (branch (codes "end ") text (number_as End)
    (branch (codes "acquire") text (plain Acquire)
    (branch (codes "handback") text (plain HandBack) (pause_at text)))))))))

-- an entry behind its number
unfoldable pub body_at : List ℕ → Option (Entry × List ℕ)
body_at text =
    after (codes " w") text >>= λ r. number_at (2 ^ 32) r >>= λ w. after (codes " ") w.1 >>= λ r'. kind_at r' >>= λ kind.
    after (codes " | ") kind.1 >>= λ r''. effect_at (record { 0 = w.0 }) r'' >>= λ effect. after (codes "\n") effect.1 >>= λ rest.
    Some (record { worker = record { 0 = w.0 }; kind = kind.0; changes = effect.0 }, rest)

unfoldable pub entry_at : ℕ → List ℕ → Option (Entry × List ℕ)
entry_at n text = after (decimal n) text >>= body_at

-- the text behind the end line
unfoldable pub end_at : ℕ → List ℕ → Option (List ℕ)
end_at n text = after (codes "end ") text >>= λ r. after (decimal n) r >>= λ r'. after (codes "\n") r'

-- what was read, behind what was read before
abbrev pub with_front : {A B : Type 0} → List A → Option (List A × B) → Option (List A × B)
with_front front read = read >>= λ x. Some (front ++ x.0, x.1)

-- what a reader gives, but for memory
abbrev pub Gives : {X Y : Type 0} → (X → Y) → Result X ReadFail → Option Y → Type 0
Gives view (Ok x) read = read ≡ Some (view x)
Gives view (Err Wrong) read = read ≡ None
Gives view (Err Memory) read = Unit {0}

-- how many there are, at least 1 and at most so many
unfoldable pub count_at : ℕ → List ℕ → Option (ℕ × List ℕ)
count_at most text = number_at (most + 1) text >>= λ n. if nat_eq n.0 0 then None else Some n

unfoldable pub parallel_at : List ℕ → Option (Bool × List ℕ)
parallel_at text = branch (codes "yes") text (plain true) (branch (codes "no") text (plain false) None)

-- the number of locks, which a text of version 2 says
unfoldable pub locks_at : Version → List ℕ → Option (Option ℕ × List ℕ)
locks_at One text = plain None text
locks_at Two text = after (codes " locks ") text >>= number_as (λ n. Some n)

unfoldable pub settings_at : Version → List ℕ → Option (Settings × List ℕ)
settings_at v text =
    after (codes "workers ") text >>= λ r. count_at MAX_WORKERS r >>= λ w. after (codes " max ") w.1 >>= λ r'. count_at MAX_LEASES r' >>= λ m.
    after (codes " parallel ") m.1 >>= λ r''. parallel_at r'' >>= λ p. locks_at v p.1 >>= λ l.
    after (codes "\n") l.1 >>= λ rest. Some (record { workers = w.0; max = m.0; parallel = p.0; locks = l.0 }, rest)
