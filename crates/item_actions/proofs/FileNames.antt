-- A file's name, byte by byte.
use Rattle.std.proofs.Common.{◌≡◌, ℕ, suc, ◌≤◌, Bool, true, false, cond, not, ◌&&◌, ◌||◌, eqb, leb, List, [], ◌∷◌, length, refl, sym, ap, ◌∙◌, arith}
use Rattle.std.specs.Char.{is_ascii_lowercase}
use Rattle.std.specs.Str.{bytes_eq}
use Rattle.std.specs.List.{list_all, list_any, onto_first}
use Rattle.std.proofs.Math.Bool.{and-true}
use Rattle.std.proofs.lemmas.Bool.{le-leb}
use Rattle.std.proofs.lemmas.Bool.Decides.{nat_tests}
use Rattle.std.proofs.lemmas.List.Splits.{length-slice_split}
use Rattle.item_actions.specs.Forms.{is_file_byte, is_no_part, parts, is_file_name}
use Rattle.item_actions.specs.declared.forms.NamePart.{NamePart}
use Rattle.item_actions.specs.declared.forms.NamePart.TheVariants.{Empty, OneDot, TwoDots, Name}

-- whether a part of which so much has been seen is a name of its own with what follows
abbrev pub is_part_with : NamePart → List ℕ → Bool
is_part_with Empty rest = not (is_no_part rest)
is_part_with OneDot rest = not (is_no_part (46 ∷ rest))
is_part_with TwoDots rest = not (is_no_part (46 ∷ 46 ∷ rest))
is_part_with Name rest = true

abbrev pub are_parts_with : NamePart → List (List ℕ) → Bool
are_parts_with part [] = is_part_with part []
are_parts_with part (rest ∷ later) = is_part_with part rest && not (list_any is_no_part later)

-- whether what follows goes on with a file's name
abbrev pub goes_on : NamePart → List ℕ → Bool
goes_on part bytes = list_all is_file_byte bytes && are_parts_with part (parts bytes)

-- seen of a part before the byte, and behind it
abbrev pub Becomes : NamePart → ℕ → NamePart → Type 0
Becomes part b next = (rest : List ℕ) → is_part_with part (b ∷ rest) ≡ is_part_with next rest

onto : (part : NamePart) (b : ℕ) (next : NamePart) → Becomes part b next → (all : List (List ℕ)) → are_parts_with part (onto_first b all) ≡ are_parts_with next all
onto part b next becomes [] = ap (λ r. r && true) (becomes []) ∙ and-true (is_part_with next [])
onto part b next becomes (rest ∷ later) = ap (λ r. r && not (list_any is_no_part later)) (becomes rest)

next_byte : (part : NamePart) (b : ℕ) (next : NamePart) (rest : List ℕ) → eqb b 47 ≡ false → is_file_byte b ≡ true → Becomes part b next → goes_on part (b ∷ rest) ≡ goes_on next rest
next_byte part b next rest other is becomes =
    (λ i. (is i && list_all is_file_byte rest) && are_parts_with part (cond (other i) ([] ∷ parts rest) (onto_first b (parts rest))))
    ∙ ap (λ r. list_all is_file_byte rest && r) (onto part b next becomes (parts rest))

pub one_dot : (rest : List ℕ) → goes_on Empty (46 ∷ rest) ≡ goes_on OneDot rest
one_dot rest = next_byte Empty 46 OneDot rest refl refl (λ _. refl)

pub two_dots : (rest : List ℕ) → goes_on OneDot (46 ∷ rest) ≡ goes_on TwoDots rest
two_dots rest = next_byte OneDot 46 TwoDots rest refl refl (λ _. refl)

some : (n : ℕ) → eqb (suc n) 0 ≡ false
some n = grind (arith, nat_tests)

no_dot : (part : NamePart) (b : ℕ) → eqb b 46 ≡ false → Becomes part b Name
no_dot Empty b other rest = λ i. not (some (length rest) i || other i && bytes_eq rest [] || other i && bytes_eq rest (46 ∷ []))
no_dot OneDot b other rest = λ i. not (some (suc (length rest)) i || false || other i && bytes_eq rest [])
no_dot TwoDots b other rest = λ i. not (some (suc (suc (length rest))) i || false || false)
no_dot Name b other rest = refl

pub named : (part : NamePart) (b : ℕ) (rest : List ℕ) → eqb b 47 ≡ false → eqb b 46 ≡ false → is_file_byte b ≡ true → goes_on part (b ∷ rest) ≡ goes_on Name rest
named part b rest no_slash other is = next_byte part b Name rest no_slash is (no_dot part b other)

pub letter : (part : NamePart) (b : ℕ) (rest : List ℕ) → is_ascii_lowercase b ≡ true → goes_on part (b ∷ rest) ≡ goes_on Name rest
letter part b rest is = named part b rest (grind (arith, nat_tests)) (grind (arith, nat_tests)) (grind (arith, nat_tests))

pub three_dots : (rest : List ℕ) → goes_on TwoDots (46 ∷ rest) ≡ goes_on Name rest
three_dots rest = next_byte TwoDots 46 Name rest refl refl (λ after i. not (some (suc (suc (length after))) i || false || false))

pub dot_in_name : (rest : List ℕ) → goes_on Name (46 ∷ rest) ≡ goes_on Name rest
dot_in_name rest = next_byte Name 46 Name rest refl refl (λ _. refl)

none_of : (a b : Bool) → not (a || b) ≡ (not a && not b)
none_of true b = refl
none_of false b = refl

all_parts : (all : List (List ℕ)) → 1 ≤ length all → not (list_any is_no_part all) ≡ are_parts_with Empty all
all_parts [] some = absurd (omega arith)
all_parts (part ∷ later) some = none_of (is_no_part part) (list_any is_no_part later)

pub next_part : (rest : List ℕ) → goes_on Name (47 ∷ rest) ≡ goes_on Empty rest
next_part rest = ap (λ r. list_all is_file_byte rest && r) (all_parts (parts rest) (omega (arith, length-slice_split (λ b. eqb b 47) rest)))

-- a name that isn't too long
pub from_start : (bytes : List ℕ) → length bytes ≤ 255 → is_file_name bytes ≡ goes_on Empty bytes
from_start [] few = refl
from_start (b ∷ bytes) few =
    let one : leb 1 (length (b ∷ bytes)) ≡ true = le-leb _ _ (omega arith) in
    let short : leb (length (b ∷ bytes)) 255 ≡ true = le-leb _ _ few in
    let all = parts (b ∷ bytes) in
    (λ i. one i && short i && list_all is_file_byte (b ∷ bytes) && not (list_any is_no_part all))
    ∙ ap (λ r. list_all is_file_byte (b ∷ bytes) && r) (all_parts all (omega (arith, length-slice_split (λ b. eqb b 47) (b ∷ bytes))))

-- a step by what is known of the part before and behind it, and of the byte
pub step : (part before : NamePart) (b is : ℕ) (next behind : NamePart) (rest : List ℕ) → part ≡ before → b ≡ is → next ≡ behind
    → goes_on before (is ∷ rest) ≡ goes_on behind rest → goes_on part (b ∷ rest) ≡ goes_on next rest
step part before b is next behind rest e d f known = (λ i. goes_on (e i) (d i ∷ rest)) ∙ known ∙ ap (λ p. goes_on p rest) (sym f)
