-- What an action gives on bytes, and what a unit gives by its file.
use Rattle.std.specs.Prelude.{ℕ, ◌≡◌, ◌⊎◌, ◌==◌, nat_lt, List, length, count_by, Option, None, Some, Bool, true, false, if◌then◌else◌}
use Rattle.item_actions.specs.declared.actions.ItemAction.{ItemAction}
use Rattle.item_actions.specs.declared.limits.TheConstants.{MAX_FILE_BYTES}
use Rattle.sha2.specs.Sha256.{sha256}
use Rattle.item_actions.specs.Bytes.{word_count, longest, occurrences}
use Rattle.item_actions.specs.Files.{Folder, file_of}
use Rattle.item_actions.specs.declared.actions.ItemAction.TheVariants.{Lines, Words, Bytes, Longest, Count, Sha256}
use Rattle.item_actions.specs.declared.outcomes.Outcome.{Outcome}
use Rattle.item_actions.specs.declared.outcomes.Outcome.TheVariants.{Number, Digest, NotThere, TooLong, Fault, NoMemory}

-- the value of an action on bytes
abbrev pub act_on : ItemAction → List ℕ → Outcome
act_on Lines bytes = Number (count_by (λ b. b == 10) bytes)
act_on Words bytes = Number (word_count bytes)
act_on Bytes bytes = Number (length bytes)
act_on Longest bytes = Number (longest bytes)
act_on (Count needle) bytes = Number (occurrences needle bytes)
act_on Sha256 bytes = Digest (sha256 bytes)

-- the most bytes of a file or a plan
abbrev pub max_file_bytes : ℕ
max_file_bytes = MAX_FILE_BYTES

-- the value by what there is under a file's name
abbrev pub value_of : (List ℕ → Outcome) → Option (List ℕ) → Outcome
value_of act None = NotThere
value_of act (Some bytes) = if nat_lt max_file_bytes (length bytes) then TooLong else act bytes

-- an outcome that passes
abbrev pub passes : Outcome → Bool
passes (Number n) = true
passes (Digest d) = true
passes _ = false

-- what an action gives on a file by its name
abbrev pub value_on : Folder → ItemAction → List ℕ → Outcome
value_on files action name = value_of (act_on action) (file_of files name)

-- an outcome that is its unit's value, or says that the outside failed or that there was no memory
abbrev pub IsHonest : Outcome → Outcome → Type 0
IsHonest o value = (o ≡ value) ⊎ ((o ≡ Fault) ⊎ (o ≡ NoMemory))

abbrev pub is_fault : Outcome → Bool
is_fault Fault = true
is_fault _ = false
