-- What callers need of numbers and entries as a text spells them.
use Rattle.std.proofs.Common.{◌≡◌, ℕ, ◌+◌, ◌<◌, List, ◌++◌, Some, Bool, true, decimal}
use Rattle.std.specs.List.{list_all}
use Rattle.lock_transforms.specs.Entry.{Entry}
use Rattle.history_text.specs.Text.{entry_text}
use Rattle.history_text.specs.Fitting.{EntryFits}
use Rattle.history_text.specs.Reading.{entry_at}
use Rattle.history_text.proofs.Digits.{all_of_decimal}
use Rattle.history_text.proofs.EntryLaws.{entry_again}

-- a test that each digit passes is passed by all of a number's text
pub decimal_passes : (p : ℕ → Bool) → ((d : ℕ) → d < 10 → p (48 + d) ≡ true) → (n : ℕ) → list_all p (decimal n) ≡ true
decimal_passes p digit n = all_of_decimal p digit n

-- an entry is read back from its text, whatever is behind it
pub entry_read_back : (n : ℕ) (e : Entry) (more : List ℕ) → EntryFits e → entry_at n (entry_text n e ++ more) ≡ Some (e, more)
entry_read_back n e more fits = entry_again n e more fits
