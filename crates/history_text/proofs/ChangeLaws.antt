-- The laws of changes.
use Rattle.std.proofs.Common.{◌≡◌, ℕ, ◌+◌, ◌^◌, ◌<◌, ◌≤◌, List, [], ◌∷◌, ◌++◌, Option, Some, None, Bool, true, false, refl, sym, ap, subst, ◌∙◌, append_assoc, arith, decimal, codes}
use Rattle.history_text.specs.Plain.{LockId, WorkerId, MarkId, TaskOf, ActionOf, UnitOf, Mark, Waiting, Queued, Running, Passed, Failed, Skipped, Change, Lock, Unlock, Take, Give, Move, Park, Unpark, Enter, Leave}
use Rattle.history_text.specs.Text.{mark_text, id_text, change_text}
use Rattle.history_text.specs.Reading.{◌>>=◌, on, after, branch, number_at, number_as, plain, mark_at, id_at, move_at, change_at, begins_with_digit}
use Rattle.history_text.specs.Fitting.{MarkFits, IdFits, ChangeFits}
use Rattle.history_text.proofs.Words.{Spelled}
use Rattle.history_text.proofs.Numbers.{number_again}
use Rattle.history_text.proofs.Words.{some_is, none_some, bind_some, after_taken, either, plain_spelled, numbered_spelled}

pub mark_taken : (w : WorkerId) (text : List ℕ) (y : Mark × List ℕ) → mark_at w text ≡ Some y → Spelled mark_text (MarkFits w) text y
unfolding mark_at
mark_taken w text y e =
    either _ text _ _ y e (λ rest is k. plain_spelled mark_text (MarkFits w) Waiting text rest y tt is k) (λ e.
    either _ text _ _ y e (λ rest is k. plain_spelled mark_text (MarkFits w) Queued text rest y tt is k) (λ e.
    either _ text _ _ y e (λ rest is k. plain_spelled mark_text (MarkFits w) (Running w) text rest y refl is k) (λ e.
    either _ text _ _ y e (λ rest is k. plain_spelled mark_text (MarkFits w) Passed text rest y tt is k) (λ e.
    either _ text _ _ y e (λ rest is k. plain_spelled mark_text (MarkFits w) Failed text rest y tt is k) (λ e.
    either _ text _ _ y e (λ rest is k. plain_spelled mark_text (MarkFits w) Skipped text rest y tt is k) (λ e. absurd (none_some e)))))))

pub mark_again : (w : WorkerId) (m : Mark) (rest : List ℕ) → MarkFits w m → mark_at w (mark_text m ++ rest) ≡ Some (m, rest)
unfolding mark_at branch
mark_again w Waiting rest h = refl
mark_again w Queued rest h = refl
mark_again w (Running v) rest h = ap (λ (x : WorkerId). Some (Running x, rest)) (sym h)
mark_again w Passed rest h = refl
mark_again w Failed rest h = refl
mark_again w Skipped rest h = refl

pub id_taken : (text : List ℕ) (y : MarkId × List ℕ) → id_at text ≡ Some y → Spelled id_text IdFits text y
unfolding id_at
id_taken text y e =
    either _ text _ _ y e (λ rest is k. numbered_spelled id_text IdFits TaskOf (codes "task ") text rest y (λ n. refl) (λ n h. h) is k) (λ e.
    either _ text _ _ y e (λ rest is k. numbered_spelled id_text IdFits ActionOf (codes "action ") text rest y (λ n. refl) (λ n h. h) is k) (λ e.
    either _ text _ _ y e (λ rest is k. numbered_spelled id_text IdFits UnitOf (codes "unit ") text rest y (λ n. refl) (λ n h. h) is k) (λ e. absurd (none_some e))))

pub numbered_again : {A : Type 0} (make : ℕ → A) (n : ℕ) (rest : List ℕ) → n < 2 ^ 32 → begins_with_digit rest ≡ false → number_as make (decimal n ++ rest) ≡ Some (make n, rest)
numbered_again make n rest h nd = ap (λ r. r >>= λ x. Some (make x.0, x.1)) (number_again (2 ^ 32) n rest h (omega arith) nd)

pub id_again : (m : MarkId) (rest : List ℕ) → IdFits m → begins_with_digit rest ≡ false → id_at (id_text m ++ rest) ≡ Some (m, rest)
unfolding id_at branch
id_again (TaskOf n) rest h nd = numbered_again TaskOf n rest h nd
id_again (ActionOf n) rest h nd = numbered_again ActionOf n rest h nd
id_again (UnitOf n) rest h nd = numbered_again UnitOf n rest h nd

lock_is : (l : LockId) → record { 0 = l.0 } ≡ l
lock_is l = refl

move_taken : (w : WorkerId) (text : List ℕ) (y : Change × List ℕ) → move_at w text ≡ Some y → Spelled change_text (ChangeFits w) text y
unfolding move_at
move_taken w text y e =
    let id = bind_some (id_at text) _ y e in
    let gap = bind_some (after (codes " ") id.0.1) _ y id.2 in
    let from = bind_some (mark_at w gap.0) _ y gap.2 in
    let gap' = bind_some (after (codes " ") from.0.1) _ y from.2 in
    let to = bind_some (mark_at w gap'.0) _ y gap'.2 in
    let a = id_taken text id.0 id.1 in
    let b = mark_taken w gap.0 from.0 from.1 in
    let c = mark_taken w gap'.0 to.0 to.1 in
    let p = after_taken (codes " ") id.0.1 gap.0 gap.1 in
    let q = after_taken (codes " ") from.0.1 gap'.0 gap'.1 in
    subst (λ z. Spelled change_text (ChangeFits w) text z) (some_is to.2) (record {
      is = a.is ∙ (ap (λ l. id_text id.0.0 ++ l) (p ∙ ap (λ l. codes " " ++ l) (b.is ∙ ap (λ l. mark_text from.0.0 ++ l) (q ∙ ap (λ l. codes " " ++ l) c.is))) ∙ simp append_assoc);
      fits_it = (a.fits_it, b.fits_it, c.fits_it);
    })

pub change_taken : (w : WorkerId) (text : List ℕ) (y : Change × List ℕ) → change_at w text ≡ Some y → Spelled change_text (ChangeFits w) text y
unfolding change_at
change_taken w text y e =
    either _ text _ _ y e (λ rest is k. numbered_spelled change_text (ChangeFits w) (λ n. Lock (record { 0 = n })) (codes "lock ") text rest y (λ n. refl) (λ n h. h) is k) (λ e.
    either _ text _ _ y e (λ rest is k. numbered_spelled change_text (ChangeFits w) (λ n. Unlock (record { 0 = n })) (codes "unlock ") text rest y (λ n. refl) (λ n h. h) is k) (λ e.
    either _ text _ _ y e (λ rest is k. plain_spelled change_text (ChangeFits w) Take text rest y tt is k) (λ e.
    either _ text _ _ y e (λ rest is k. plain_spelled change_text (ChangeFits w) Give text rest y tt is k) (λ e.
    either _ text _ _ y e (λ rest is k. numbered_spelled change_text (ChangeFits w) (λ n. Park (record { 0 = n })) (codes "park ") text rest y (λ n. refl) (λ n h. h) is k) (λ e.
    either _ text _ _ y e (λ rest is k. numbered_spelled change_text (ChangeFits w) (λ n. Unpark (record { 0 = n })) (codes "unpark ") text rest y (λ n. refl) (λ n h. h) is k) (λ e.
    either _ text _ _ y e (λ rest is k. plain_spelled change_text (ChangeFits w) Enter text rest y tt is k) (λ e.
    either _ text _ _ y e (λ rest is k. plain_spelled change_text (ChangeFits w) Leave text rest y tt is k) (λ e. move_taken w text y e))))))))

move_again : (w : WorkerId) (m : MarkId) (from to : Mark) (rest : List ℕ) → IdFits m → MarkFits w from → MarkFits w to → move_at w (change_text (Move m from to) ++ rest) ≡ Some (Move m from to, rest)
unfolding move_at
move_again w m from to rest a b c =
    let regroup : change_text (Move m from to) ++ rest ≡ id_text m ++ (codes " " ++ (mark_text from ++ (codes " " ++ (mark_text to ++ rest)))) = simp append_assoc in
    let step : Mark → List ℕ → Option (Change × List ℕ) = λ x r. after (codes " ") r >>= λ rest'. mark_at w rest' >>= λ t. Some (Move m x t.0, t.1) in
    ap (move_at w) regroup
    ∙ (ap (λ r. r >>= λ id. after (codes " ") id.1 >>= λ rest. mark_at w rest >>= λ from. after (codes " ") from.1 >>= λ rest'. mark_at w rest' >>= λ to. Some (Move id.0 from.0 to.0, to.1)) (id_again m (codes " " ++ (mark_text from ++ (codes " " ++ (mark_text to ++ rest)))) a refl)
    ∙ (ap (λ r. r >>= λ x. step x.0 x.1) (mark_again w from (codes " " ++ (mark_text to ++ rest)) b)
    ∙ ap (λ r. r >>= λ t. Some (Move m from t.0, t.1)) (mark_again w to rest c)))

other_moves : (w : WorkerId) (m : MarkId) (from to : Mark) (rest : List ℕ) → change_at w (change_text (Move m from to) ++ rest) ≡ move_at w (change_text (Move m from to) ++ rest)
unfolding change_at branch
other_moves w (TaskOf n) from to rest = refl
other_moves w (ActionOf n) from to rest = refl
other_moves w (UnitOf n) from to rest = refl

pub change_again : (w : WorkerId) (c : Change) (rest : List ℕ) → ChangeFits w c → begins_with_digit rest ≡ false → change_at w (change_text c ++ rest) ≡ Some (c, rest)
unfolding change_at branch
change_again w (Lock l) rest h nd = numbered_again (λ n. Lock (record { 0 = n })) l.0 rest h nd
change_again w (Unlock l) rest h nd = numbered_again (λ n. Unlock (record { 0 = n })) l.0 rest h nd
change_again w Take rest h nd = refl
change_again w Give rest h nd = refl
change_again w (Move m from to) rest h nd = other_moves w m from to rest ∙ move_again w m from to rest h.0 h.1 h.2
change_again w (Park l) rest h nd = numbered_again (λ n. Park (record { 0 = n })) l.0 rest h nd
change_again w (Unpark l) rest h nd = numbered_again (λ n. Unpark (record { 0 = n })) l.0 rest h nd
change_again w Enter rest h nd = refl
change_again w Leave rest h nd = refl
