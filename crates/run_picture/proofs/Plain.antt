-- The words of a history's lines stand for themselves in XML.
use Rattle.std.proofs.Common.{◌≡◌, ◌≢◌, ℕ, ◌+◌, ◌/◌, ◌%◌, ◌<◌, ◌≤◌, List, [], ◌∷◌, ◌++◌, Option, Some, None, Bool, true, false, not, ◌&&◌, refl, ap, ◌∙◌, arith, decimal, codes, nat_eq, nat_le, nat_lt, cond}
use Rattle.std.specs.Fmt.{digit_glyph}
use Rattle.std.specs.List.{flat_map}
use Rattle.std.proofs.lemmas.Bool.{and_from, ne_eqb, le-leb, ltb-true}
use Rattle.std.proofs.lemmas.List.Folds.{list_all-append}
use Rattle.lock_transforms.specs.Entry.{Entry}
use Rattle.history_text.specs.Text.{mark_text, id_text, change_text, further_text, effect_text, hex_text, outcome_text, closed_text, kind_text}
use Rattle.history_text.specs.Plain.{MarkId, TaskOf, ActionOf, UnitOf, Mark, Waiting, Queued, Running, Passed, Failed, Skipped, Change, Lock, Unlock, Take, Give, Move, Park, Unpark, Enter, Leave, Outcome, Number, Digest, NotThere, TooLong, Fault, NoMemory, NotRun, Closed, Kind, Start, Skip, Submit, ParkFor, Resume, Claim, Close, Block, Unblock, End, Acquire, HandBack}
use Rattle.history_text.proofs.lemmas.Spelled.{decimal_passes}
use Rattle.run_picture.specs.Laws.{is_plain, all_plain}
use Rattle.run_picture.specs.Ticks.{line_of}

plain_one : (c : ℕ) → 32 ≤ c → c ≢ 38 → c ≢ 60 → c ≢ 62 → is_plain c ≡ true
plain_one c least amp less more =
    and_from (nat_le 32 c && not (nat_eq c 38) && not (nat_eq c 60)) (not (nat_eq c 62))
    (and_from (nat_le 32 c && not (nat_eq c 38)) (not (nat_eq c 60)) (and_from (nat_le 32 c) (not (nat_eq c 38)) (le-leb 32 c least) (ap not (ne_eqb c 38 amp))) (ap not (ne_eqb c 60 less)))
    (ap not (ne_eqb c 62 more))

plain_digit : (d : ℕ) → d < 10 → is_plain (48 + d) ≡ true
plain_digit d few = plain_one (48 + d) (omega arith) (omega arith) (omega arith) (omega arith)

pub number_plain : (n : ℕ) → all_plain (decimal n) ≡ true
number_plain n = decimal_passes is_plain plain_digit n

pub both : (xs ys : List ℕ) → all_plain xs ≡ true → all_plain ys ≡ true → all_plain (xs ++ ys) ≡ true
both xs ys a b = list_all-append is_plain xs ys ∙ and_from _ _ a b

behind_word : (word : List ℕ) (n : ℕ) → all_plain word ≡ true → all_plain (word ++ decimal n) ≡ true
behind_word word n plain = both word (decimal n) plain (number_plain n)

mark_plain : (m : Mark) → all_plain (mark_text m) ≡ true
mark_plain Waiting = refl
mark_plain Queued = refl
mark_plain (Running w) = refl
mark_plain Passed = refl
mark_plain Failed = refl
mark_plain Skipped = refl

id_plain : (id : MarkId) → all_plain (id_text id) ≡ true
id_plain (TaskOf n) = behind_word (codes "task ") n refl
id_plain (ActionOf n) = behind_word (codes "action ") n refl
id_plain (UnitOf n) = behind_word (codes "unit ") n refl

change_plain : (c : Change) → all_plain (change_text c) ≡ true
change_plain (Lock l) = behind_word (codes "lock ") l.0 refl
change_plain (Unlock l) = behind_word (codes "unlock ") l.0 refl
change_plain (Park l) = behind_word (codes "park ") l.0 refl
change_plain (Unpark l) = behind_word (codes "unpark ") l.0 refl
change_plain Take = refl
change_plain Give = refl
change_plain Enter = refl
change_plain Leave = refl
change_plain (Move id from to) =
    both (id_text id ++ codes " " ++ mark_text from ++ codes " ") (mark_text to)
    (both (id_text id ++ codes " " ++ mark_text from) (codes " ")
    (both (id_text id ++ codes " ") (mark_text from) (both (id_text id) (codes " ") (id_plain id) refl) (mark_plain from)) refl) (mark_plain to)

further_plain : (cs : List Change) → all_plain (flat_map further_text cs) ≡ true
further_plain [] = refl
further_plain (c ∷ cs) = both (further_text c) (flat_map further_text cs) (both (codes ", ") (change_text c) refl (change_plain c)) (further_plain cs)

effect_plain : (effect : Option (List Change)) → all_plain (effect_text effect) ≡ true
effect_plain None = refl
effect_plain (Some []) = refl
effect_plain (Some (c ∷ cs)) = both (change_text c) (flat_map further_text cs) (change_plain c) (further_plain cs)

glyph_plain : (d : ℕ) → is_plain (digit_glyph false d) ≡ true
glyph_plain d = at (nat_lt d 10) refl
  where
    at : (b : Bool) → nat_lt d 10 ≡ b → is_plain (digit_glyph false d) ≡ true
    at true s = let few : d < 10 = ltb-true d 10 s in ap (λ b. is_plain (cond b (48 + d) (87 + d))) s ∙ plain_digit d few
    at false s = ap (λ b. is_plain (cond b (48 + d) (87 + d))) s ∙ plain_one (87 + d) (omega arith) (omega arith) (omega arith) (omega arith)

digest_plain : (bytes : List ℕ) → all_plain (flat_map hex_text bytes) ≡ true
digest_plain [] = refl
digest_plain (b ∷ bytes) = both (hex_text b) (flat_map hex_text bytes) (and_from _ _ (glyph_plain (b / 16)) (and_from _ _ (glyph_plain (b % 16)) refl)) (digest_plain bytes)

outcome_plain : (o : Outcome) → all_plain (outcome_text o) ≡ true
outcome_plain (Number n) = behind_word (codes "number ") n refl
outcome_plain (Digest bytes) = both (codes "digest ") (flat_map hex_text bytes) refl (digest_plain bytes)
outcome_plain NotThere = refl
outcome_plain TooLong = refl
outcome_plain Fault = refl
outcome_plain NoMemory = refl
outcome_plain NotRun = refl

closed_plain : (d : Closed) → all_plain (closed_text d) ≡ true
closed_plain d = both (decimal d.unit ++ codes " ") (outcome_text d.outcome) (both (decimal d.unit) (codes " ") (number_plain d.unit) refl) (outcome_plain d.outcome)

kind_plain : (k : Kind) → all_plain (kind_text k) ≡ true
kind_plain (Start n) = behind_word (codes "start ") n refl
kind_plain (Skip n) = behind_word (codes "skip ") n refl
kind_plain (End n) = behind_word (codes "end ") n refl
kind_plain (Submit n) = behind_word (codes "submit ") n refl
kind_plain (ParkFor n) = behind_word (codes "park ") n refl
kind_plain (Resume n) = behind_word (codes "resume ") n refl
kind_plain (Claim n) = behind_word (codes "claim ") n refl
kind_plain (Close d) = both (codes "close ") (closed_text d) refl (closed_plain d)
kind_plain (Block (Some n)) = behind_word (codes "block ") n refl
kind_plain (Block None) = refl
kind_plain (Unblock (Some d)) = both (codes "unblock ") (closed_text d) refl (closed_plain d)
kind_plain (Unblock None) = refl
kind_plain Acquire = refl
kind_plain HandBack = refl

pub line_plain : (n : ℕ) (e : Entry) → all_plain (line_of n e) ≡ true
unfolding line_of
line_plain n e =
    let worker : List ℕ = decimal n ++ (codes " w" ++ decimal e.worker.0) in
    let kind : List ℕ = worker ++ (codes " " ++ kind_text e.kind) in
    both (kind ++ codes " | ") (effect_text e.changes)
    (both kind (codes " | ")
    (both worker (codes " " ++ kind_text e.kind) (both (decimal n) (codes " w" ++ decimal e.worker.0) (number_plain n) (behind_word (codes " w") e.worker.0 refl))
    (both (codes " ") (kind_text e.kind) refl (kind_plain e.kind))) refl) (effect_plain e.changes)
