-- The laws of kinds.
use Rattle.std.proofs.Common.{◌≡◌, ◌≢◌, ℕ, ◌+◌, ◌/◌, ◌%◌, ◌^◌, ◌<◌, ◌≤◌, List, [], ◌∷◌, ◌++◌, Option, Some, None, Bool, true, false, refl, sym, ap, subst, ◌∙◌, append_assoc, arith, decimal, codes, nat_eq, cond}
use Rattle.std.specs.List.{flat_map}
use Rattle.std.proofs.lemmas.List.Elements.{recursion_from_All, All-from_recursion}
use Rattle.history_text.specs.Plain.{Outcome, Number, Digest, NotThere, TooLong, Fault, NoMemory, NotRun, Closed, Kind, Start, Skip, Submit, ParkFor, Resume, Claim, Close, Block, Unblock, End, Acquire, HandBack}
use Rattle.history_text.specs.Text.{hex_text, outcome_text, closed_text, kind_text}
use Rattle.history_text.specs.Reading.{◌>>=◌, on, after, branch, number_at, number_as, plain, outcome_at, bytes_at, closed_at, pause_at, kind_at, begins_with_digit}
use Rattle.history_text.specs.Fitting.{OutcomeFits, ClosedFits, KindFits}
use Rattle.history_text.proofs.Words.{Spelled}
use Rattle.history_text.proofs.Numbers.{number_again, number_taken}
use Rattle.history_text.proofs.Words.{some_is, none_some, bind_some, after_taken, either, plain_spelled, numbered_spelled}
use Rattle.history_text.proofs.Digits.{no_dash}
use Rattle.history_text.proofs.DigestLaws.{bytes_taken, bytes_again}
use Rattle.history_text.proofs.ChangeLaws.{numbered_again}

pub outcome_taken : (text : List ℕ) (y : Outcome × List ℕ) → outcome_at text ≡ Some y → Spelled outcome_text OutcomeFits text y
unfolding outcome_at
outcome_taken text y e =
    either _ text _ _ y e (λ rest is k.
    let n = bind_some (number_at (2 ^ 64) rest) _ y k in
    let a = number_taken (2 ^ 64) rest n.0 (omega arith) (omega arith) n.1 in
    subst (λ z. Spelled outcome_text OutcomeFits text z) (some_is n.2) (record { is = is ∙ (ap (λ l. codes "number " ++ l) a.1 ∙ sym (append_assoc (codes "number ") (decimal n.0.0) n.0.1)); fits_it = a.0 })) (λ e.
    either _ text _ _ y e (λ rest is k.
    let bytes = bind_some (bytes_at 32 rest) _ y k in
    let a = bytes_taken 32 rest bytes.0 bytes.1 in
    subst (λ z. Spelled outcome_text OutcomeFits text z) (some_is bytes.2) (record {
      is = is ∙ (ap (λ l. codes "digest " ++ l) a.is ∙ sym (append_assoc (codes "digest ") (flat_map hex_text bytes.0.0) bytes.0.1));
      fits_it = (a.length, All-from_recursion (λ b. b < 256) bytes.0.0 a.bytes);
    })) (λ e.
    either _ text _ _ y e (λ rest is k. plain_spelled outcome_text OutcomeFits NotThere text rest y tt is k) (λ e.
    either _ text _ _ y e (λ rest is k. plain_spelled outcome_text OutcomeFits TooLong text rest y tt is k) (λ e.
    either _ text _ _ y e (λ rest is k. plain_spelled outcome_text OutcomeFits Fault text rest y tt is k) (λ e.
    either _ text _ _ y e (λ rest is k. plain_spelled outcome_text OutcomeFits NoMemory text rest y tt is k) (λ e. absurd (none_some e)))))))

pub outcome_again : (o : Outcome) (rest : List ℕ) → OutcomeFits o → begins_with_digit rest ≡ false → outcome_at (outcome_text o ++ rest) ≡ Some (o, rest)
unfolding outcome_at branch
outcome_again (Number n) rest h nd = ap (λ r. r >>= λ x. Some (Number x.0, x.1)) (number_again (2 ^ 64) n rest h (omega arith) nd)
outcome_again (Digest bytes) rest h nd =
    ap (λ n. bytes_at n (flat_map hex_text bytes ++ rest) >>= λ bs. Some (Digest bs.0, bs.1)) (sym h.0)
    ∙ ap (λ r. r >>= λ bs. Some (Digest bs.0, bs.1)) (bytes_again bytes rest (recursion_from_All (λ b. b < 256) bytes h.1))
outcome_again NotThere rest h nd = refl
outcome_again TooLong rest h nd = refl
outcome_again Fault rest h nd = refl
outcome_again NoMemory rest h nd = refl
outcome_again NotRun rest h nd = absurd h

pub closed_taken : (text : List ℕ) (y : Closed × List ℕ) → closed_at text ≡ Some y → Spelled closed_text ClosedFits text y
unfolding closed_at
closed_taken text y e =
    let u = bind_some (number_at (2 ^ 32) text) _ y e in
    let gap = bind_some (after (codes " ") u.0.1) _ y u.2 in
    let o = bind_some (outcome_at gap.0) _ y gap.2 in
    let a = number_taken (2 ^ 32) text u.0 (omega arith) (omega arith) u.1 in
    let b = outcome_taken gap.0 o.0 o.1 in
    subst (λ z. Spelled closed_text ClosedFits text z) (some_is o.2) (record {
      is = a.1 ∙ (ap (λ l. decimal u.0.0 ++ l) (after_taken (codes " ") u.0.1 gap.0 gap.1 ∙ ap (λ l. codes " " ++ l) b.is) ∙ simp append_assoc);
      fits_it = (a.0, b.fits_it);
    })

pub closed_again : (d : Closed) (rest : List ℕ) → ClosedFits d → begins_with_digit rest ≡ false → closed_at (closed_text d ++ rest) ≡ Some (d, rest)
unfolding closed_at
closed_again d rest h nd =
    let regroup : closed_text d ++ rest ≡ decimal d.unit ++ (codes " " ++ (outcome_text d.outcome ++ rest)) = simp append_assoc in
    ap closed_at regroup
    ∙ (ap (λ r. r >>= λ u. after (codes " ") u.1 >>= λ r'. outcome_at r' >>= λ o. Some (record { unit = u.0; outcome = o.0 }, o.1)) (number_again (2 ^ 32) d.unit (codes " " ++ (outcome_text d.outcome ++ rest)) h.0 (omega arith) refl)
    ∙ ap (λ r. r >>= λ o. Some (record { unit = d.unit; outcome = o.0 }, o.1)) (outcome_again d.outcome rest h.1 nd))

closed_kind : (make : Closed → Kind) (word text rest : List ℕ) (y : Kind × List ℕ) → ((d : Closed) → kind_text (make d) ≡ word ++ closed_text d) → ((d : Closed) → ClosedFits d → KindFits (make d)) → text ≡ word ++ rest → (closed_at rest >>= λ d. Some (make d.0, d.1)) ≡ Some y → Spelled kind_text KindFits text y
closed_kind make word text rest y spells good is e =
    let d = bind_some (closed_at rest) (λ d. Some (make d.0, d.1)) y e in
    let a = closed_taken rest d.0 d.1 in
    subst (λ z. Spelled kind_text KindFits text z) (some_is d.2) (record {
      is = is ∙ (ap (λ l. word ++ l) a.is ∙ (sym (append_assoc word (closed_text d.0.0) d.0.1) ∙ ap (λ l. l ++ d.0.1) (sym (spells d.0.0))));
      fits_it = good d.0.0 a.fits_it;
    })

pause_taken : (text : List ℕ) (y : Kind × List ℕ) → pause_at text ≡ Some y → Spelled kind_text KindFits text y
unfolding pause_at
pause_taken text y e =
    either _ text _ _ y e (λ rest is k. closed_kind Close (codes "close ") text rest y (λ d. refl) (λ d h. h) is k) (λ e.
    either _ text _ _ y e (λ rest is k. plain_spelled kind_text KindFits (Block None) text rest y tt is k) (λ e.
    either _ text _ _ y e (λ rest is k. numbered_spelled kind_text KindFits (λ u. Block (Some u)) (codes "block ") text rest y (λ n. refl) (λ n h. h) is k) (λ e.
    either _ text _ _ y e (λ rest is k. plain_spelled kind_text KindFits (Unblock None) text rest y tt is k) (λ e.
    either _ text _ _ y e (λ rest is k. closed_kind (λ d. Unblock (Some d)) (codes "unblock ") text rest y (λ d. refl) (λ d h. h) is k) (λ e. absurd (none_some e))))))

pub kind_taken : (text : List ℕ) (y : Kind × List ℕ) → kind_at text ≡ Some y → Spelled kind_text KindFits text y
unfolding kind_at
kind_taken text y e =
    either _ text _ _ y e (λ rest is k. numbered_spelled kind_text KindFits Start (codes "start ") text rest y (λ n. refl) (λ n h. h) is k) (λ e.
    either _ text _ _ y e (λ rest is k. numbered_spelled kind_text KindFits Skip (codes "skip ") text rest y (λ n. refl) (λ n h. h) is k) (λ e.
    either _ text _ _ y e (λ rest is k. numbered_spelled kind_text KindFits Submit (codes "submit ") text rest y (λ n. refl) (λ n h. h) is k) (λ e.
    either _ text _ _ y e (λ rest is k. numbered_spelled kind_text KindFits ParkFor (codes "park ") text rest y (λ n. refl) (λ n h. h) is k) (λ e.
    either _ text _ _ y e (λ rest is k. numbered_spelled kind_text KindFits Resume (codes "resume ") text rest y (λ n. refl) (λ n h. h) is k) (λ e.
    either _ text _ _ y e (λ rest is k. numbered_spelled kind_text KindFits Claim (codes "claim ") text rest y (λ n. refl) (λ n h. h) is k) (λ e.
    either _ text _ _ y e (λ rest is k. numbered_spelled kind_text KindFits End (codes "end ") text rest y (λ n. refl) (λ n h. h) is k) (λ e.
    either _ text _ _ y e (λ rest is k. plain_spelled kind_text KindFits Acquire text rest y tt is k) (λ e.
    either _ text _ _ y e (λ rest is k. plain_spelled kind_text KindFits HandBack text rest y tt is k) (λ e. pause_taken text y e)))))))))

pub kind_again : (k : Kind) (rest : List ℕ) → KindFits k → begins_with_digit rest ≡ false → kind_at (kind_text k ++ rest) ≡ Some (k, rest)
unfolding kind_at pause_at branch
kind_again (Start n) rest h nd = numbered_again Start n rest h nd
kind_again (Skip n) rest h nd = numbered_again Skip n rest h nd
kind_again (Submit n) rest h nd = numbered_again Submit n rest h nd
kind_again (ParkFor n) rest h nd = numbered_again ParkFor n rest h nd
kind_again (Resume n) rest h nd = numbered_again Resume n rest h nd
kind_again (Claim n) rest h nd = numbered_again Claim n rest h nd
kind_again (End n) rest h nd = numbered_again End n rest h nd
kind_again (Close d) rest h nd = ap (λ r. r >>= λ x. Some (Close x.0, x.1)) (closed_again d rest h nd)
kind_again (Block None) rest h nd = refl
kind_again (Block (Some u)) rest h nd = ap (λ o. on o (plain (Block None)) (number_as (λ v. Block (Some v)) (decimal u ++ rest))) (no_dash u rest) ∙ numbered_again (λ v. Block (Some v)) u rest h nd
kind_again (Unblock None) rest h nd = refl
kind_again (Unblock (Some d)) rest h nd =
    let regroup : closed_text d ++ rest ≡ decimal d.unit ++ (codes " " ++ (outcome_text d.outcome ++ rest)) = simp append_assoc in
    ap (λ o. on o (plain (Unblock None)) (closed_at (closed_text d ++ rest) >>= λ x. Some (Unblock (Some x.0), x.1))) (ap (after (codes "-")) regroup ∙ no_dash d.unit (codes " " ++ (outcome_text d.outcome ++ rest)))
    ∙ ap (λ r. r >>= λ x. Some (Unblock (Some x.0), x.1)) (closed_again d rest h nd)
kind_again Acquire rest h nd = refl
kind_again HandBack rest h nd = refl
