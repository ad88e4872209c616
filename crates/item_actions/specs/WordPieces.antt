-- Words by pieces.
use Rattle.std.specs.Prelude.{◌≡◌, ℕ, ◌+◌, Bool, true, false, ◌&&◌, not, List, [], ◌∷◌, if◌then◌else◌}
use Rattle.item_actions.specs.Bytes.{is_space}
use Rattle.item_actions.specs.declared.word_state.WordState.{WordState}

-- how many places of the bytes begin a word, where `can` says whether the first place can begin one
unfoldable pub words_after : Bool → List ℕ → ℕ
words_after can [] = 0
words_after can (b ∷ bytes) = (if not (is_space b) && can then 1 else 0) + words_after (is_space b) bytes

-- whether the place behind the bytes can begin a word
unfoldable pub can_begin : Bool → List ℕ → Bool
can_begin can [] = can
can_begin can (b ∷ bytes) = can_begin (is_space b) bytes

-- whether the first byte is one of a word
abbrev pub starts_word : List ℕ → Bool
starts_word [] = false
starts_word (b ∷ bytes) = not (is_space b)

-- the state of the words of the bytes
pub record HasWords (state : WordState) (bytes : List ℕ) : Type 0 where
  pub begun : state.begun ≡ words_after true bytes
  pub can : state.can_begin ≡ can_begin true bytes
