-- The forms of the texts of a plan, but for that of a file's name, which stands beside the actions.
use Rattle.std.specs.Prelude.{ℕ, Bool, not, ◌&&◌, ◌||◌, ◌==◌, List, length, nat_le}
use Rattle.std.specs.List.{list_any, list_all}
use Rattle.item_actions.specs.declared.limits.TheConstants.{MAX_NEEDLE_BYTES}
use Rattle.plan_table.specs.declared.forms.TheConstants.{MAX_ENCODING_BYTES, MAX_NAME_BYTES, MAX_TEXT_BYTES}

abbrev pub Text : Type 0
Text = List ℕ

-- an ASCII letter or digit
abbrev pub is_letter_or_digit : ℕ → Bool
is_letter_or_digit b = (nat_le 97 b && nat_le b 122) || (nat_le 65 b && nat_le b 90) || (nat_le 48 b && nat_le b 57)

-- `_`, `-` or `.`
abbrev pub is_joining : ℕ → Bool
is_joining b = b == 95 || b == 45 || b == 46

-- of a name, which may have `:` too
abbrev pub is_name_byte : ℕ → Bool
is_name_byte b = is_letter_or_digit b || is_joining b || b == 58

abbrev pub has_length : ℕ → ℕ → Text → Bool
has_length least most t = nat_le least (length t) && nat_le (length t) most

abbrev pub has_byte : ℕ → Text → Bool
has_byte b t = list_any (λ c. c == b) t

-- of a project, a task or requirements
abbrev pub is_name : Text → Bool
is_name t = has_length 1 MAX_NAME_BYTES t && list_all is_name_byte t

-- what is counted in a file, of any bytes
abbrev pub is_needle : Text → Bool
is_needle t = has_length 1 MAX_NEEDLE_BYTES t

abbrev pub is_executable : Text → Bool
is_executable t = has_length 1 MAX_TEXT_BYTES t && not (has_byte 0 t)

abbrev pub is_encoding : Text → Bool
is_encoding t = has_length 1 MAX_ENCODING_BYTES t && not (has_byte 0 t)

-- an argument, or what a property or variable is set to
abbrev pub is_value : Text → Bool
is_value t = has_length 0 MAX_TEXT_BYTES t && not (has_byte 0 t)

-- the name of a property or variable, which has no zero byte and no `=`
abbrev pub is_key : Text → Bool
is_key t = has_length 1 MAX_TEXT_BYTES t && not (has_byte 0 t) && not (has_byte 61 t)
