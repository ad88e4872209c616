-- How long the end line is.
use Rattle.std.proofs.Common.{◌≡◌, ℕ, ◌+◌, ◌*◌, ◌/◌, ◌%◌, ◌^◌, ◌<◌, ◌≤◌, List, [], ◌∷◌, ◌++◌, length, length-append, decimal, codes, Option, Some, None, Bool, true, false, nat_lt, refl, ap, sym, subst, arith}
use Rattle.std.specs.Prelude.{IfNone, IfSome, unwrap_or}
use Rattle.std.proofs.Math.Nat.{pow-le-pow_right}
use Rattle.std.proofs.lemmas.Grind.{pow_more}
use Rattle.std.proofs.lemmas.Fmt.{decimal_digit, decimal_by_steps, length-decimal-le, decimal_nonempty}
use borrow.Author.Tests.{ltb-true, ltb-false}
use Rattle.std.specs.List.{flat_map}
use Rattle.lock_transforms.specs.Entry.{Entry}
use Rattle.history_text.specs.Text.{end_text, entry_text, kind_text, effect_text, change_text, further_text}
use Rattle.history_text.specs.Plain.{TaskOf, ActionOf, UnitOf, Change, Lock, Unlock, Take, Give, Move, Park, Unpark, Enter, Leave}
use Rattle.history_text.specs.Plain.{Kind, Start, Skip, Submit, ParkFor, Resume, Claim, Close, Block, Unblock, End, Acquire, HandBack}
use Rattle.history_text.specs.Fitting.{EntryFits, KindFits}

abbrev Below : ℕ → List ℕ → Type 0
Below n digits = n < 10 ^ length digits

below_one : (n : ℕ) → n < 10 → Below n ((48 + n) ∷ [])
below_one n few = few

below_more : (n : ℕ) (digits : List ℕ) → 10 ≤ n → Below (n / 10) digits → Below n (digits ++ ((48 + n % 10) ∷ []))
below_more n digits large below =
    let long : length (digits ++ ((48 + n % 10) ∷ [])) ≡ length digits + 1 = length-append digits ((48 + n % 10) ∷ []) in
    let power : 10 ^ (length digits + 1) ≡ 10 ^ length digits * 10 = pow_more 10 (length digits) in
    let all : n < 10 ^ (length digits + 1) = omega (arith, below, power) in
    subst (λ k. n < 10 ^ k) (sym long) all

-- a number is below the power of ten that its digits have
below_power : (n : ℕ) → n < 2 ^ 64 → n < 10 ^ length (decimal n)
below_power n fits = decimal_by_steps Below below_one below_more n fits

-- one more entry makes the end line no shorter
pub no_shorter : (n : ℕ) → n + 1 < 2 ^ 64 → length (end_text n) ≤ length (end_text (n + 1))
no_shorter n fits =
    let some : 0 < length (decimal (n + 1)) = decimal_nonempty (n + 1) fits in
    let below : n + 1 < 10 ^ length (decimal (n + 1)) = below_power (n + 1) fits in
    let few : length (decimal n) ≤ length (decimal (n + 1)) = length-decimal-le (length (decimal (n + 1))) n some (omega (arith, below)) (omega (arith, fits)) in
    omega (arith, few, length-append (decimal n) (codes "\n"), length-append (decimal (n + 1)) (codes "\n"))

reach : (b : Bool) (n tens digits : ℕ) → nat_lt tens digits ≡ b → n < 10 ^ digits → 10 ^ tens ≤ n → tens + 1 ≤ digits
reach true n tens digits s below low = let more : tens < digits = ltb-true tens digits s in omega arith
reach false n tens digits s below low =
    let few : digits ≤ tens = ltb-false tens digits s in
    let ten : 0 < 10 = omega arith in
    let grows : 10 ^ digits ≤ 10 ^ tens = pow-le-pow_right ten few in
    absurd (omega (arith, below, low, grows))

at_least : (n tens : ℕ) → n < 2 ^ 64 → 10 ^ tens ≤ n → tens + 1 ≤ length (decimal n)
at_least n tens fits low = reach (nat_lt tens (length (decimal n))) n tens (length (decimal n)) refl (below_power n fits) low

at_most_one_more : (n tens : ℕ) → n < 2 ^ 64 → n < 10 * 10 ^ tens → length (decimal n) ≤ tens + 1
at_most_one_more n tens fits high =
    let power : 10 ^ (tens + 1) ≡ 10 ^ tens * 10 = pow_more 10 tens in
    length-decimal-le (tens + 1) n (omega arith) (omega (arith, high, power)) fits

end_has : (n digits : ℕ) → length (decimal n) ≡ digits → length (end_text n) ≡ 5 + digits
end_has n digits same = omega (arith, same, length-append (decimal n) (codes "\n"))

-- the greatest power of ten that isn't above a number tells how long its end line is
pub end_long : (n : ℕ) (r : Option ℕ) → n < 2 ^ 64 → IfNone r (n ≡ 0) → IfSome r (λ k. 10 ^ k ≤ n) → IfSome r (λ k. n < 10 * 10 ^ k) → length (end_text n) ≡ 5 + unwrap_or r 0 + 1
end_long n None fits zero low high =
    let few : length (decimal n) ≤ 0 + 1 = at_most_one_more n 0 fits (omega (arith, zero)) in
    let some : 0 < length (decimal n) = decimal_nonempty n fits in
    omega (arith, end_has n 1 (omega (arith, few, some)))
end_long n (Some tens) fits zero low high =
    let few : length (decimal n) ≤ tens + 1 = at_most_one_more n tens fits high in
    let many : tens + 1 ≤ length (decimal n) = at_least n tens fits low in
    omega (arith, end_has n (tens + 1) (omega (arith, few, many)))

pub shortest_end : length (end_text 0) ≡ 6
shortest_end = end_has 0 1 (ap length (decimal_digit 0 (omega arith)))

pub end_short : (n long : ℕ) → long ≡ length (end_text n) → n < 2 ^ 64 → long < 32
end_short n long is fits =
    let few : length (decimal n) ≤ 20 = length-decimal-le 20 n (omega arith) (omega (arith, fits)) fits in
    omega (arith, few, is, end_has n (length (decimal n)) refl)

-- ---- how long an entry's line is

change_long : (c : Change) → 4 ≤ length (change_text c)
change_long (Lock l) = omega arith
change_long (Unlock l) = omega arith
change_long (Park l) = omega arith
change_long (Unpark l) = omega arith
change_long Take = omega arith
change_long Give = omega arith
change_long Enter = omega arith
change_long Leave = omega arith
change_long (Move (TaskOf n) from to) = omega arith
change_long (Move (ActionOf n) from to) = omega arith
change_long (Move (UnitOf n) from to) = omega arith

effect_long : (effect : Option (List Change)) → 4 ≤ length (effect_text effect)
effect_long None = omega arith
effect_long (Some []) = omega arith
effect_long (Some (c ∷ cs)) = omega (arith, change_long c, length-append (change_text c) (flat_map further_text cs))

kind_long : (k : Kind) → KindFits k → 5 ≤ length (kind_text k)
kind_long (Start n) fits = omega arith
kind_long (Skip n) fits = omega arith
kind_long (End n) fits = let some : 0 < length (decimal n) = decimal_nonempty n (omega (arith, fits)) in omega (arith, some)
kind_long (Submit n) fits = omega arith
kind_long (ParkFor n) fits = omega arith
kind_long (Resume n) fits = omega arith
kind_long (Claim n) fits = omega arith
kind_long (Close d) fits = omega arith
kind_long (Block (Some n)) fits = omega arith
kind_long (Block None) fits = omega arith
kind_long (Unblock (Some d)) fits = omega arith
kind_long (Unblock None) fits = omega arith
kind_long Acquire fits = omega arith
kind_long HandBack fits = omega arith

-- an entry's line is so much longer than the end line in its place
pub entry_long : (n : ℕ) (e : Entry) → n + 1 < 2 ^ 64 → EntryFits e → length (end_text n) + 12 ≤ length (entry_text (n + 1) e)
entry_long n e few fits =
    let number : List ℕ = decimal (n + 1) in
    let worker : List ℕ = decimal e.worker.0 in
    let kind : List ℕ = kind_text e.kind in
    let effect : List ℕ = effect_text e.changes in
    let some : 0 < length (decimal e.worker.0) = decimal_nonempty e.worker.0 (omega (arith, fits.worker)) in
    omega (
      arith,
      no_shorter n few,
      some,
      kind_long e.kind fits.kind,
      effect_long e.changes,
      end_has n (length (decimal n)) refl,
      end_has (n + 1) (length (decimal (n + 1))) refl,
      length-append number (codes " w"),
      length-append (number ++ codes " w") worker,
      length-append (number ++ codes " w" ++ worker) (codes " "),
      length-append (number ++ codes " w" ++ worker ++ codes " ") kind,
      length-append (number ++ codes " w" ++ worker ++ codes " " ++ kind) (codes " | "),
      length-append (number ++ codes " w" ++ worker ++ codes " " ++ kind ++ codes " | ") effect,
      length-append (number ++ codes " w" ++ worker ++ codes " " ++ kind ++ codes " | " ++ effect) (codes "\n"),
    )
