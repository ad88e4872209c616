-- A frame that is read was spelled so.
use Rattle.std.proofs.Common.{◌≡◌, ◌≢◌, ℕ, suc, ◌+◌, ◌<◌, ◌≤◌, List, [], ◌∷◌, ◌++◌, true, false, Option, None, Some, IfSome, cond, ltb, leb, eqb, ◌&&◌, ◌||◌, length, take, drop, get_or, refl, sym, ap, ◌∙◌, arith, subst, ⊎_elim, length-drop, length-take, length-take-le, take-append-drop}
use Rattle.std.specs.Int.{w16, w32, w64, to_be_bytes, from_be_bytes}
use Rattle.std.proofs.Math.Seq.{take-add}
use Rattle.std.proofs.lemmas.Bool.{and_parts, leb-true, eqb-true, cond_both, cases_lt, ltb-false}
use Rattle.std.proofs.lemmas.Bool.Decides.{nat_tests}
use Rattle.std.proofs.lemmas.List.{get_or-drop, get_or-take, get_or_past, nil_from_length}
use Rattle.std.proofs.lemmas.Nat.{be_bytes_2, be_bytes_4, be_bytes_8}
use Rattle.item_actions.specs.Forms.{is_file_name}
use Rattle.item_actions.specs.declared.actions.ItemAction.{ItemAction}
use Rattle.item_actions.specs.declared.actions.ItemAction.TheVariants as actions
use Rattle.item_actions.specs.declared.outcomes.Outcome.{Outcome}
use Rattle.item_actions.specs.declared.outcomes.Outcome.TheVariants as outcomes
use Rattle.item_actions.specs.declared.keep_alive.KeepAlive.{KeepAlive}
use Rattle.daemon_protocol.specs.Bodies.{mode_at, action_at, count_at, request_after, request_behind, request_from, request_with, request_of, request_in_mode_of}
use Rattle.daemon_protocol.specs.Bodies.{cause_of, outcome_of, reply_behind, reply_from, reply_with, reply_of, reply_in_mode_of, frame_of}
use Rattle.daemon_protocol.specs.Spelling.{mode_bytes, action_bytes, outcome_bytes, body, request_tag, reply_tag, tag, spelling, IsValid}
use Rattle.daemon_protocol.specs.StreamStart.{look, is_tag, look_length, look_body, look_field}
use Rattle.daemon_protocol.specs.declared.frames.Frame.{Frame}
use Rattle.daemon_protocol.specs.declared.starts.StreamStart.{StreamStart}
use Rattle.daemon_protocol.specs.declared.starts.StreamStart.TheVariants.{Unfinished, Whole, Refused}

abbrev AreBytes : List ℕ → Type 0
AreBytes bytes = (i : ℕ) → get_or bytes i 0 < 256

bytes_after : (n : ℕ) (bytes : List ℕ) → AreBytes bytes → AreBytes (drop n bytes)
bytes_after n bytes are i = subst (λ b. b < 256) (sym (get_or-drop n bytes i 0)) (are (n + i))

bytes_before : (n : ℕ) (bytes : List ℕ) → AreBytes bytes → AreBytes (take n bytes)
bytes_before n bytes are i = ⊎_elim
    (λ within. subst (λ b. b < 256) (sym (get_or-take n bytes i 0 within)) (are i))
    (λ past. subst (λ b. b < 256) (sym (get_or_past (take n bytes) i 0 (omega (arith, length-take n bytes)))) (omega arith))
    (cases_lt i n)

-- the action of its bytes
abbrev IsAction : List ℕ → ItemAction × ℕ → Type 0
IsAction bytes a = take a.1 bytes ≡ action_bytes a.0

one : (b c : ℕ) (after : List ℕ) → eqb b c ≡ true → take 1 (b ∷ after) ≡ c ∷ []
one b c after is = ap (λ x. x ∷ []) (eqb-true b c is)

count_is : (b : ℕ) (bytes : List ℕ) → b ≡ 5 → IfSome (count_at bytes) (IsAction (b ∷ bytes))
count_is b [] five = tt
count_is b (n ∷ bytes) five =
    cond_both (leb 1 n && leb n 64 && leb n (length bytes)) (Some (actions.Count (take n bytes), n + 2)) None (λ o. IfSome o (IsAction (b ∷ n ∷ bytes)))
    (λ fits.
    let within : n ≤ length bytes = leb-true _ _ (and_parts (leb 1 n && leb n 64) (leb n (length bytes)) fits).1 in
    let two : n + 2 ≡ suc (suc n) = omega arith in
    ap (λ k. take k (b ∷ n ∷ bytes)) two ∙ (λ i. five i ∷ sym (length-take-le n bytes within) i ∷ take n bytes))
    (λ _. tt)

action_is : (bytes : List ℕ) → IfSome (action_at bytes) (IsAction bytes)
action_is [] = tt
action_is (b ∷ after) =
    let P : Option (ItemAction × ℕ) → Type 0 = λ o. IfSome o (IsAction (b ∷ after)) in
    cond_both (eqb b 1) _ _ P (one b 1 after) (λ _.
    cond_both (eqb b 2) _ _ P (one b 2 after) (λ _.
    cond_both (eqb b 3) _ _ P (one b 3 after) (λ _.
    cond_both (eqb b 4) _ _ P (one b 4 after) (λ _.
    cond_both (eqb b 5) _ _ P (λ is. count_is b after (eqb-true b 5 is)) (λ _.
    cond_both (eqb b 6) _ _ P (one b 6 after) (λ _. tt))))))

-- a number's bytes, and what follows them
four : (bytes : List ℕ) → AreBytes bytes → 4 ≤ length bytes → to_be_bytes w32 (from_be_bytes w32 (take 4 bytes)) ++ drop 4 bytes ≡ bytes
four bytes are enough =
    ap (λ xs. xs ++ drop 4 bytes) (be_bytes_4 (take 4 bytes) (from_be_bytes w32 (take 4 bytes)) (length-take-le 4 bytes enough) (bytes_before 4 bytes are) refl) ∙ take-append-drop 4 bytes

-- the frame of a body
abbrev HasBody : ℕ → List ℕ → Frame → Type 0
HasBody t bytes f = (t ≡ tag f) × (body f ≡ bytes) × IsValid f

file_is : (unit : ℕ) (keep : Option KeepAlive) (a : ItemAction) (before bytes : List ℕ) → AreBytes bytes
    → to_be_bytes w32 unit ++ (mode_bytes keep ++ (action_bytes a ++ bytes)) ≡ before → IfSome (request_with unit keep a bytes) (HasBody (request_tag keep) before)
file_is unit keep a before bytes are whole =
    let P : Option Frame → Type 0 = λ o. IfSome o (HasBody (request_tag keep) before) in
    cond_both (ltb (length bytes) 2) _ _ P (λ _. tt) (λ some.
    cond_both (eqb (from_be_bytes w16 (take 2 bytes)) (length (drop 2 bytes)) && is_file_name (drop 2 bytes)) _ _ P (λ both.
    let parts = and_parts _ _ both in
    let len : length (drop 2 bytes) ≡ from_be_bytes w16 (take 2 bytes) = sym (eqb-true _ _ parts.0) in
    let two : to_be_bytes w16 (length (drop 2 bytes)) ++ drop 2 bytes ≡ bytes =
    ap (λ xs. xs ++ drop 2 bytes) (be_bytes_2 (take 2 bytes) (length (drop 2 bytes)) (length-take-le 2 bytes (ltb-false _ _ some)) (bytes_before 2 bytes are) len) ∙ take-append-drop 2 bytes in
    (refl, ap (λ xs. to_be_bytes w32 unit ++ (mode_bytes keep ++ (action_bytes a ++ xs))) two ∙ whole, parts.1))
    (λ _. tt))

-- an action and a file behind a unit and a mode
behind_unit : (unit : ℕ) (keep : Option KeepAlive) (before bytes : List ℕ) → AreBytes bytes
    → to_be_bytes w32 unit ++ (mode_bytes keep ++ bytes) ≡ before → IfSome (request_from unit keep bytes) (HasBody (request_tag keep) before)
behind_unit unit keep before bytes are whole = after (action_at bytes) (action_is bytes)
  where
    after : (o : Option (ItemAction × ℕ)) → IfSome o (IsAction bytes) → IfSome (request_after unit keep bytes o) (HasBody (request_tag keep) before)
    after None is = tt
    after (Some a) is =
        file_is unit keep a.0 before (drop a.1 bytes) (bytes_after a.1 bytes are)
        (ap (λ xs. to_be_bytes w32 unit ++ (mode_bytes keep ++ xs)) (ap (λ xs. xs ++ drop a.1 bytes) (sym is) ∙ take-append-drop a.1 bytes) ∙ whole)

request_is : (bytes : List ℕ) → AreBytes bytes → IfSome (request_of bytes) (HasBody 1 bytes)
request_is bytes are =
    cond_both (ltb (length bytes) 4) _ _ (λ o. IfSome o (HasBody 1 bytes)) (λ _. tt)
    (λ some. behind_unit (from_be_bytes w32 (take 4 bytes)) None bytes (drop 4 bytes) (bytes_after 4 bytes are) (four bytes are (ltb-false _ _ some)))

-- the mode of its byte
abbrev IsMode : List ℕ → KeepAlive → Type 0
IsMode bytes mode = take 1 bytes ≡ mode_bytes (Some mode)

mode_is : (bytes : List ℕ) → IfSome (mode_at bytes) (IsMode bytes)
mode_is [] = tt
mode_is (b ∷ after) =
    let P : Option KeepAlive → Type 0 = λ o. IfSome o (IsMode (b ∷ after)) in
    cond_both (eqb b 1) _ _ P (one b 1 after) (λ _. cond_both (eqb b 2) _ _ P (one b 2 after) (λ _. tt))

-- behind a mode's byte
after_mode : (unit : ℕ) (mode : KeepAlive) (bytes : List ℕ) → to_be_bytes w32 unit ++ drop 4 bytes ≡ bytes → IsMode (drop 4 bytes) mode
    → to_be_bytes w32 unit ++ (mode_bytes (Some mode) ++ drop 1 (drop 4 bytes)) ≡ bytes
after_mode unit mode bytes whole is =
    ap (λ xs. to_be_bytes w32 unit ++ xs) (ap (λ xs. xs ++ drop 1 (drop 4 bytes)) (sym is) ∙ take-append-drop 1 (drop 4 bytes)) ∙ whole

request_in_mode_is : (bytes : List ℕ) → AreBytes bytes → IfSome (request_in_mode_of bytes) (HasBody 17 bytes)
request_in_mode_is bytes are =
    cond_both (ltb (length bytes) 4) _ _ (λ o. IfSome o (HasBody 17 bytes)) (λ _. tt)
    (λ some. after (mode_at (drop 4 bytes)) (four bytes are (ltb-false _ _ some)) (mode_is (drop 4 bytes)))
  where
    unit : ℕ
    unit = from_be_bytes w32 (take 4 bytes)

    after : (o : Option KeepAlive) → to_be_bytes w32 unit ++ drop 4 bytes ≡ bytes → IfSome o (IsMode (drop 4 bytes)) → IfSome (request_behind unit (drop 4 bytes) o) (HasBody 17 bytes)
    after None whole is = tt
    after (Some mode) whole is =
        behind_unit unit (Some mode) bytes (drop 1 (drop 4 bytes)) (bytes_after 1 (drop 4 bytes) (bytes_after 4 bytes are)) (after_mode unit mode bytes whole is)

abbrev IsOutcome : List ℕ → Outcome → Type 0
IsOutcome bytes o = (outcome_bytes o ≡ bytes) × (o ≢ outcomes.Skipped)

cause_is : (b : ℕ) (after : List ℕ) → after ≡ [] → IfSome (cause_of b) (IsOutcome (b ∷ after))
cause_is b after none =
    let P : Option Outcome → Type 0 = λ o. IfSome o (IsOutcome (b ∷ after)) in
    let bytes : (c : ℕ) → eqb b c ≡ true → c ∷ [] ≡ b ∷ after = λ c is i. sym (eqb-true b c is) i ∷ sym none i in
    cond_both (eqb b 3) _ _ P (λ is. (bytes 3 is, λ e. cc)) (λ _.
    cond_both (eqb b 4) _ _ P (λ is. (bytes 4 is, λ e. cc)) (λ _.
    cond_both (eqb b 5) _ _ P (λ is. (bytes 5 is, λ e. cc)) (λ _.
    cond_both (eqb b 6) _ _ P (λ is. (bytes 6 is, λ e. cc)) (λ _. tt))))

outcome_is : (bytes : List ℕ) → AreBytes bytes → IfSome (outcome_of bytes) (IsOutcome bytes)
outcome_is [] are = tt
outcome_is (b ∷ after) are =
    let P : Option Outcome → Type 0 = λ o. IfSome o (IsOutcome (b ∷ after)) in
    let number : eqb b 1 ≡ true → P (cond (eqb (length after) 8) (Some (outcomes.Number (from_be_bytes w64 after))) None) = λ is.
    cond_both (eqb (length after) 8) _ _ P (λ long.
    ((λ i. sym (eqb-true b 1 is) i ∷ be_bytes_8 after (from_be_bytes w64 after) (eqb-true _ _ long) (bytes_after 1 (b ∷ after) are) refl i), λ e. cc)) (λ _. tt) in
    let digest : eqb b 2 ≡ true → P (cond (eqb (length after) 32) (Some (outcomes.Digest after)) None) = λ is.
    cond_both (eqb (length after) 32) _ _ P (λ long. ((λ i. sym (eqb-true b 2 is) i ∷ after), λ e. cc)) (λ _. tt) in
    cond_both (eqb b 1) _ _ P number (λ _.
    cond_both (eqb b 2) _ _ P digest (λ _.
    cond_both (eqb (length after) 0) _ _ P (λ none. cause_is b after (nil_from_length after (eqb-true _ _ none))) (λ _. tt)))

-- an outcome behind a unit and a mode
outcome_behind : (unit : ℕ) (keep : Option KeepAlive) (before bytes : List ℕ) → AreBytes bytes
    → to_be_bytes w32 unit ++ (mode_bytes keep ++ bytes) ≡ before → IfSome (reply_from unit keep bytes) (HasBody (reply_tag keep) before)
outcome_behind unit keep before bytes are whole = after (outcome_of bytes) (outcome_is bytes are)
  where
    after : (o : Option Outcome) → IfSome o (IsOutcome bytes) → IfSome (reply_with unit keep o) (HasBody (reply_tag keep) before)
    after None is = tt
    after (Some o) is = (refl, ap (λ xs. to_be_bytes w32 unit ++ (mode_bytes keep ++ xs)) is.0 ∙ whole, is.1)

reply_is : (bytes : List ℕ) → AreBytes bytes → IfSome (reply_of bytes) (HasBody 2 bytes)
reply_is bytes are =
    cond_both (ltb (length bytes) 4) _ _ (λ o. IfSome o (HasBody 2 bytes)) (λ _. tt)
    (λ some. outcome_behind (from_be_bytes w32 (take 4 bytes)) None bytes (drop 4 bytes) (bytes_after 4 bytes are) (four bytes are (ltb-false _ _ some)))

reply_in_mode_is : (bytes : List ℕ) → AreBytes bytes → IfSome (reply_in_mode_of bytes) (HasBody 18 bytes)
reply_in_mode_is bytes are =
    cond_both (ltb (length bytes) 4) _ _ (λ o. IfSome o (HasBody 18 bytes)) (λ _. tt)
    (λ some. after (mode_at (drop 4 bytes)) (four bytes are (ltb-false _ _ some)) (mode_is (drop 4 bytes)))
  where
    unit : ℕ
    unit = from_be_bytes w32 (take 4 bytes)

    after : (o : Option KeepAlive) → to_be_bytes w32 unit ++ drop 4 bytes ≡ bytes → IfSome o (IsMode (drop 4 bytes)) → IfSome (reply_behind unit (drop 4 bytes) o) (HasBody 18 bytes)
    after None whole is = tt
    after (Some mode) whole is =
        outcome_behind unit (Some mode) bytes (drop 1 (drop 4 bytes)) (bytes_after 1 (drop 4 bytes) (bytes_after 4 bytes are)) (after_mode unit mode bytes whole is)

frame_is : (t : ℕ) (bytes : List ℕ) → AreBytes bytes → is_tag t ≡ true → IfSome (frame_of t bytes) (HasBody t bytes)
frame_is t bytes are known =
    let P : Option Frame → Type 0 = λ o. IfSome o (HasBody t bytes) in
    cond_both (eqb t 1) _ _ P (λ is. subst (λ n. IfSome (request_of bytes) (HasBody n bytes)) (sym (eqb-true t 1 is)) (request_is bytes are)) (λ a.
    cond_both (eqb t 2) _ _ P (λ is. subst (λ n. IfSome (reply_of bytes) (HasBody n bytes)) (sym (eqb-true t 2 is)) (reply_is bytes are)) (λ b.
    cond_both (eqb t 17) _ _ P (λ is. subst (λ n. IfSome (request_in_mode_of bytes) (HasBody n bytes)) (sym (eqb-true t 17 is)) (request_in_mode_is bytes are)) (λ c.
    cond_both (eqb t 18) _ _ P (λ is. subst (λ n. IfSome (reply_in_mode_of bytes) (HasBody n bytes)) (sym (eqb-true t 18 is)) (reply_in_mode_is bytes are)) (λ d.
    cond_both (eqb (length bytes) 0) _ _ P (λ none. (third a b c d known, sym (nil_from_length bytes (eqb-true _ _ none)), tt)) (λ _. tt)))))
  where
    third : eqb t 1 ≡ false → eqb t 2 ≡ false → eqb t 17 ≡ false → eqb t 18 ≡ false → (eqb t 1 || eqb t 2 || eqb t 3 || eqb t 17 || eqb t 18) ≡ true → t ≡ 3
    third a b c d known = grind (arith, nat_tests)

-- where a frame stands, its bytes do
abbrev StandsFor : List ℕ → StreamStart → Type 0
StandsFor bytes Unfinished = Unit {0}
StandsFor bytes (Whole f n) = (n ≤ length bytes) × (take n bytes ≡ spelling f) × IsValid f
StandsFor bytes (Refused flaw) = Unit {0}

body_stands : (t n : ℕ) (bytes : List ℕ) → AreBytes bytes → is_tag t ≡ true → n ≡ from_be_bytes w32 (take 4 bytes) → 4 ≤ length bytes → StandsFor (t ∷ bytes) (look_body t n (drop 4 bytes))
body_stands t n bytes are known is some =
    let P = StandsFor (t ∷ bytes) in
    cond_both (ltb 65536 n) _ _ P (λ _. tt) (λ _.
    cond_both (ltb (length (drop 4 bytes)) n) _ _ P (λ _. tt) (λ whole. field (ltb-false _ _ whole) (frame_of t (take n (drop 4 bytes))) (frame_is t (take n (drop 4 bytes)) (bytes_before n (drop 4 bytes) (bytes_after 4 bytes are)) known)))
  where
    field : n ≤ length (drop 4 bytes) → (o : Option Frame) → IfSome o (HasBody t (take n (drop 4 bytes))) → StandsFor (t ∷ bytes) (look_field n o)
    field within None has = tt
    field within (Some f) has =
        let long : length (take n (drop 4 bytes)) ≡ n = length-take-le n (drop 4 bytes) within in
        let len : length (body f) ≡ n = ap length has.1 ∙ long in
        let head : to_be_bytes w32 (length (body f)) ≡ take 4 bytes = ap (to_be_bytes w32) len ∙ be_bytes_4 (take 4 bytes) n (length-take-le 4 bytes some) (bytes_before 4 bytes are) is in
        let five : 5 + n ≡ suc (4 + n) = omega arith in
        (omega (arith, length-drop 4 bytes), ap (λ k. take k (t ∷ bytes)) five ∙ ap (λ xs. t ∷ xs) (take-add 4 n bytes) ∙ (λ i. has.0 i ∷ (sym head i ++ sym has.1 i)), has.2)

length_stands : (t : ℕ) (bytes : List ℕ) → AreBytes bytes → is_tag t ≡ true → StandsFor (t ∷ bytes) (look_length t bytes)
length_stands t bytes are known =
    cond_both (ltb (length bytes) 4) _ _ (StandsFor (t ∷ bytes)) (λ _. tt) (λ some. body_stands t (from_be_bytes w32 (take 4 bytes)) bytes are known refl (ltb-false _ _ some))

stands : (bytes : List ℕ) → AreBytes bytes → StandsFor bytes (look bytes)
stands [] are = tt
stands (t ∷ bytes) are =
    cond_both (is_tag t) _ _ (StandsFor (t ∷ bytes)) (λ known. length_stands t bytes (bytes_after 1 (t ∷ bytes) are) known) (λ _. tt)

pub read_spelled : (bytes : List ℕ) (f : Frame) (n : ℕ) → AreBytes bytes → look bytes ≡ Whole f n → (n ≤ length bytes) × (take n bytes ≡ spelling f) × IsValid f
read_spelled bytes f n are is = subst (StandsFor bytes) is (stands bytes are)
