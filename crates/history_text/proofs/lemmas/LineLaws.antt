-- What a history's lines are made of has no line end: each is one line.
use Rattle.std.proofs.Common.{◌≡◌, ◌≢◌, ℕ, ◌+◌, ◌/◌, ◌%◌, ◌<◌, ◌≤◌, List, [], ◌∷◌, ◌++◌, Option, Some, None, Bool, true, false, not, refl, sym, ap, ◌∙◌, append_assoc, arith, decimal, codes, nat_eq, nat_lt, cond}
use Rattle.std.specs.Fmt.{digit_glyph}
use Rattle.std.specs.List.{flat_map}
use Rattle.std.proofs.lemmas.Bool.{and_from, ne_eqb}
use Rattle.lock_transforms.specs.Entry.{Entry}
use Rattle.history_text.specs.Text.{mark_text, id_text, change_text, further_text, changes_text, effect_text, hex_text, value_behind, outcome_text, closed_text, kind_text, entry_text, parallel_text, locks_text, end_text}
use Rattle.history_text.specs.Plain.{MarkId, TaskOf, ActionOf, UnitOf, Mark, Waiting, Queued, Running, Passed, Failed, Skipped, Change, Lock, Unlock, Take, Give, Move, Park, Unpark, Enter, Leave, Outcome, Number, Digest, NotThere, TooLong, Fault, NoMemory, NotRun, Closed, Kind, Start, Skip, Submit, ParkFor, Resume, Claim, Close, Block, Unblock, End, Acquire, HandBack}
use Rattle.history_text.specs.declared.heads.Version.{Version}
use Rattle.history_text.specs.declared.heads.Version.TheVariants.{One, Two}
use Rattle.history_text.specs.Lines.{is_unbroken, IsLine, first_line, second_line}
use Rattle.history_text.proofs.Digits.{all_of_decimal}
use Rattle.history_text.proofs.lemmas.Splits.{joined}

number_unbroken : (n : ℕ) → is_unbroken (decimal n) ≡ true
number_unbroken n = all_of_decimal (λ b. not (nat_eq b 10)) (λ d few. let ne : (48 + d) ≢ 10 = omega arith in ap not (ne_eqb (48 + d) 10 ne)) n

behind_word : (word : List ℕ) (n : ℕ) → is_unbroken word ≡ true → is_unbroken (word ++ decimal n) ≡ true
behind_word word n plain = joined word (decimal n) plain (number_unbroken n)

mark_unbroken : (m : Mark) → is_unbroken (mark_text m) ≡ true
mark_unbroken Waiting = refl
mark_unbroken Queued = refl
mark_unbroken (Running w) = refl
mark_unbroken Passed = refl
mark_unbroken Failed = refl
mark_unbroken Skipped = refl

id_unbroken : (id : MarkId) → is_unbroken (id_text id) ≡ true
id_unbroken (TaskOf n) = behind_word (codes "task ") n refl
id_unbroken (ActionOf n) = behind_word (codes "action ") n refl
id_unbroken (UnitOf n) = behind_word (codes "unit ") n refl

change_unbroken : (c : Change) → is_unbroken (change_text c) ≡ true
change_unbroken (Lock l) = behind_word (codes "lock ") l.0 refl
change_unbroken (Unlock l) = behind_word (codes "unlock ") l.0 refl
change_unbroken (Park l) = behind_word (codes "park ") l.0 refl
change_unbroken (Unpark l) = behind_word (codes "unpark ") l.0 refl
change_unbroken Take = refl
change_unbroken Give = refl
change_unbroken Enter = refl
change_unbroken Leave = refl
change_unbroken (Move id from to) =
    joined (id_text id ++ codes " " ++ mark_text from ++ codes " ") (mark_text to)
    (joined (id_text id ++ codes " " ++ mark_text from) (codes " ")
    (joined (id_text id ++ codes " ") (mark_text from) (joined (id_text id) (codes " ") (id_unbroken id) refl) (mark_unbroken from)) refl) (mark_unbroken to)

further_unbroken : (cs : List Change) → is_unbroken (flat_map further_text cs) ≡ true
further_unbroken [] = refl
further_unbroken (c ∷ cs) = joined (further_text c) (flat_map further_text cs) (joined (codes ", ") (change_text c) refl (change_unbroken c)) (further_unbroken cs)

effect_unbroken : (effect : Option (List Change)) → is_unbroken (effect_text effect) ≡ true
effect_unbroken None = refl
effect_unbroken (Some []) = refl
effect_unbroken (Some (c ∷ cs)) = joined (change_text c) (flat_map further_text cs) (change_unbroken c) (further_unbroken cs)

glyph_unbroken : (d : ℕ) → not (nat_eq (digit_glyph false d) 10) ≡ true
glyph_unbroken d = at (nat_lt d 10) refl
  where
    at : (b : Bool) → nat_lt d 10 ≡ b → not (nat_eq (digit_glyph false d) 10) ≡ true
    at true s = let ne : (48 + d) ≢ 10 = omega arith in ap (λ b. not (nat_eq (cond b (48 + d) (87 + d)) 10)) s ∙ ap not (ne_eqb (48 + d) 10 ne)
    at false s = let ne : (87 + d) ≢ 10 = omega arith in ap (λ b. not (nat_eq (cond b (48 + d) (87 + d)) 10)) s ∙ ap not (ne_eqb (87 + d) 10 ne)

digest_unbroken : (bytes : List ℕ) → is_unbroken (flat_map hex_text bytes) ≡ true
digest_unbroken [] = refl
digest_unbroken (b ∷ bytes) = joined (hex_text b) (flat_map hex_text bytes) (and_from _ _ (glyph_unbroken (b / 16)) (and_from _ _ (glyph_unbroken (b % 16)) refl)) (digest_unbroken bytes)

outcome_unbroken : (o : Outcome) → is_unbroken (outcome_text o) ≡ true
outcome_unbroken (Number n) = behind_word (codes "number ") n refl
outcome_unbroken (Digest bytes) = joined (codes "digest ") (flat_map hex_text bytes) refl (digest_unbroken bytes)
outcome_unbroken NotThere = refl
outcome_unbroken TooLong = refl
outcome_unbroken Fault = refl
outcome_unbroken NoMemory = refl
outcome_unbroken NotRun = refl

closed_unbroken : (d : Closed) → is_unbroken (closed_text d) ≡ true
closed_unbroken d = joined (decimal d.unit ++ codes " ") (outcome_text d.outcome) (joined (decimal d.unit) (codes " ") (number_unbroken d.unit) refl) (outcome_unbroken d.outcome)

kind_unbroken : (k : Kind) → is_unbroken (kind_text k) ≡ true
kind_unbroken (Start n) = behind_word (codes "start ") n refl
kind_unbroken (Skip n) = behind_word (codes "skip ") n refl
kind_unbroken (End n) = behind_word (codes "end ") n refl
kind_unbroken (Submit n) = behind_word (codes "submit ") n refl
kind_unbroken (ParkFor n) = behind_word (codes "park ") n refl
kind_unbroken (Resume n) = behind_word (codes "resume ") n refl
kind_unbroken (Claim n) = behind_word (codes "claim ") n refl
kind_unbroken (Close d) = joined (codes "close ") (closed_text d) refl (closed_unbroken d)
kind_unbroken (Block (Some n)) = behind_word (codes "block ") n refl
kind_unbroken (Block None) = refl
kind_unbroken (Unblock (Some d)) = joined (codes "unblock ") (closed_text d) refl (closed_unbroken d)
kind_unbroken (Unblock None) = refl
kind_unbroken Acquire = refl
kind_unbroken HandBack = refl

pub entry_line : (n : ℕ) (e : Entry) → IsLine (entry_text n e)
entry_line n e =
    let worker : List ℕ = decimal n ++ codes " w" ++ decimal e.worker.0 in
    let kind : List ℕ = worker ++ codes " " ++ kind_text e.kind in
    record {
      front = decimal n ++ codes " w" ++ decimal e.worker.0 ++ codes " " ++ kind_text e.kind ++ codes " | " ++ effect_text e.changes;
      unbroken =
          joined (kind ++ codes " | ") (effect_text e.changes) (joined kind (codes " | ")
          (joined (worker ++ codes " ") (kind_text e.kind) (joined worker (codes " ")
          (joined (decimal n ++ codes " w") (decimal e.worker.0) (joined (decimal n) (codes " w") (number_unbroken n) refl) (number_unbroken e.worker.0)) refl)
          (kind_unbroken e.kind)) refl) (effect_unbroken e.changes);
      is = refl;
    }

pub end_line : (n : ℕ) → IsLine (end_text n)
end_line n = record { front = codes "end " ++ decimal n; unbroken = behind_word (codes "end ") n refl; is = refl }

pub first_is_line : (v : Version) → IsLine (first_line v)
first_is_line One = record { front = codes "history 1"; unbroken = refl; is = refl }
first_is_line Two = record { front = codes "history 2"; unbroken = refl; is = refl }

parallel_unbroken : (p : Bool) → is_unbroken (parallel_text p) ≡ true
parallel_unbroken true = refl
parallel_unbroken false = refl

locks_unbroken : (locks : Option ℕ) → is_unbroken (locks_text locks) ≡ true
locks_unbroken None = refl
locks_unbroken (Some l) = behind_word (codes " locks ") l refl

pub second_is_line : (w m : ℕ) (p : Bool) (locks : Option ℕ) → IsLine (second_line w m p locks)
second_is_line w m p locks =
    let workers : List ℕ = codes "workers " ++ decimal w in
    let leases : List ℕ = workers ++ codes " max " ++ decimal m in
    let parallel : List ℕ = leases ++ codes " parallel " ++ parallel_text p in
    record {
      front = codes "workers " ++ decimal w ++ codes " max " ++ decimal m ++ codes " parallel " ++ parallel_text p ++ locks_text locks;
      unbroken =
          joined parallel (locks_text locks)
          (joined (leases ++ codes " parallel ") (parallel_text p) (joined leases (codes " parallel ")
          (joined (workers ++ codes " max ") (decimal m) (joined workers (codes " max ") (behind_word (codes "workers ") w refl) refl) (number_unbroken m))
          refl) (parallel_unbroken p)) (locks_unbroken locks);
      is = refl;
    }
