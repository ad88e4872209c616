-- A file's name is text.
use Rattle.std.proofs.Common.{◌≡◌, ℕ, ◌<◌, ◌≤◌, true, ◌&&◌, not, leb, List, length, sym, arith, subst, ⊎_elim}
use Rattle.std.specs.List.{list_all, list_any}
use Rattle.std.specs.Str.{IsAscii, IsUtf8}
use Rattle.std.proofs.lemmas.Bool.{and_parts, cases_lt, leb-true}
use Rattle.std.proofs.lemmas.Bool.Decides.{nat_tests}
use Rattle.std.proofs.lemmas.List.{get_or_past}
use Rattle.std.proofs.lemmas.List.Sums.{AllPass-from_list_all}
use Rattle.std.proofs.lemmas.Str.{IsUtf8-from_ascii}
use Rattle.item_actions.specs.Forms.{is_file_byte, is_no_part, parts, is_file_name}

low : (b : ℕ) → is_file_byte b ≡ true → b < 128
low b is = grind (arith, nat_tests)

ascii : (name : List ℕ) → list_all is_file_byte name ≡ true → IsAscii name
ascii name all i = ⊎_elim
    (λ within. low _ (AllPass-from_list_all is_file_byte name all i 0 within))
    (λ past. subst (λ b. b < 128) (sym (get_or_past name i 0 past)) (omega arith))
    (cases_lt i (length name))

pub is_text : (name : List ℕ) → is_file_name name ≡ true → IsUtf8 name
is_text name is =
    let bounds = leb 1 (length name) && leb (length name) 255 in
    let bytes = list_all is_file_byte name in
    let parted = not (list_any is_no_part (parts name)) in
    IsUtf8-from_ascii name (ascii name (and_parts bounds bytes (and_parts (bounds && bytes) parted is).0).1)

pub short : (name : List ℕ) → is_file_name name ≡ true → length name ≤ 255
short name is =
    let bounds = leb 1 (length name) && leb (length name) 255 in
    let bytes = list_all is_file_byte name in
    let parted = not (list_any is_no_part (parts name)) in
    leb-true _ _ (and_parts (leb 1 (length name)) (leb (length name) 255) (and_parts bounds bytes (and_parts (bounds && bytes) parted is).0).0).1
