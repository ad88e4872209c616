-- The form of a file's name.
use Rattle.std.specs.Prelude.{ℕ, Bool, not, ◌&&◌, ◌||◌, ◌==◌, List, length, nat_le, codes}
use Rattle.std.specs.List.{list_any, list_all, slice_split}
use Rattle.std.specs.Str.{bytes_eq}
use Rattle.item_actions.specs.declared.limits.TheConstants.{MAX_FILE_NAME_BYTES}

-- an ASCII letter or digit, `_`, `-`, `.`, or `/`, which stands between the parts
abbrev pub is_file_byte : ℕ → Bool
is_file_byte b =
    (nat_le 97 b && nat_le b 122) || (nat_le 65 b && nat_le b 90) || (nat_le 48 b && nat_le b 57)
    || b == 95 || b == 45 || b == 46 || b == 47

-- a part that is no name of its own: empty, `.` or `..`
abbrev pub is_no_part : List ℕ → Bool
is_no_part t = length t == 0 || bytes_eq t (codes ".") || bytes_eq t (codes "..")

abbrev pub parts : List ℕ → List (List ℕ)
parts t = slice_split (λ b. b == 47) t

-- a name with at least one byte
abbrev pub is_file_name : List ℕ → Bool
is_file_name t = nat_le 1 (length t) && nat_le (length t) MAX_FILE_NAME_BYTES && list_all is_file_byte t && not (list_any is_no_part (parts t))
