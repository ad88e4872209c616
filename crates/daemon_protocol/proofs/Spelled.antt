-- The bytes of a frame are read as that frame.
use Rattle.std.proofs.Common.{◌≡◌, ◌≢◌, ℕ, suc, ◌+◌, ◌<◌, ◌≤◌, ◌^◌, List, [], ◌∷◌, ◌++◌, true, false, Option, None, Some, ltb, leb, eqb, ◌&&◌, ◌||◌, length, refl, ap, ◌∙◌, arith, length-append}
use Rattle.std.specs.Int.{w16, w32, to_be_bytes, from_be_bytes}
use Rattle.std.proofs.Math.Seq.{take-append_seam, drop-append_seam}
use Rattle.std.proofs.lemmas.Bool.{and_from, le-leb, le-ltb, eq-eqb, cond-true, cond-false}
use Rattle.std.proofs.lemmas.Nat.{from_be_bytes-to_be_bytes_2, from_be_bytes-to_be_bytes_4, from_be_bytes-to_be_bytes_8}
use Rattle.item_actions.specs.Forms.{is_file_name}
use Rattle.item_actions.specs.declared.actions.ItemAction.{ItemAction}
use Rattle.item_actions.specs.declared.actions.ItemAction.TheVariants as actions
use Rattle.item_actions.specs.declared.outcomes.Outcome.{Outcome}
use Rattle.item_actions.specs.declared.outcomes.Outcome.TheVariants as outcomes
use Rattle.item_actions.specs.declared.keep_alive.KeepAlive.{KeepAlive}
use Rattle.item_actions.specs.declared.keep_alive.KeepAlive.TheVariants.{Session, Daemon}
use Rattle.daemon_protocol.specs.Bodies.{action_at, count_at, request_after, request_behind, request_from, request_with, outcome_of, reply_with, frame_of}
use Rattle.daemon_protocol.specs.Spelling.{mode_bytes, action_bytes, outcome_bytes, body, request_tag, reply_tag, spelling, IsValid, ActionFits, OutcomeFits, FrameFits}
use Rattle.daemon_protocol.specs.StreamStart.{look, is_tag, look_body, look_field}
use Rattle.daemon_protocol.specs.declared.frames.Frame.{Frame}
use Rattle.daemon_protocol.specs.declared.frames.Frame.TheVariants.{Request, Reply, Stop}
use Rattle.daemon_protocol.specs.declared.starts.StreamStart.TheVariants.{Whole}
use Rattle.daemon_protocol.proofs.Names.{short}

count_read : (needle rest : List ℕ) → 1 ≤ length needle → length needle ≤ 64 → count_at (length needle ∷ (needle ++ rest)) ≡ Some (actions.Count needle, length needle + 2)
count_read needle rest some few =
    let n = length needle in
    let within : n ≤ length (needle ++ rest) = omega (arith, length-append needle rest) in
    cond-true _ _ _ (and_from (leb 1 n && leb n 64) (leb n (length (needle ++ rest))) (and_from (leb 1 n) (leb n 64) (le-leb _ _ some) (le-leb _ _ few)) (le-leb _ _ within))
    ∙ ap (λ xs. Some (actions.Count xs, n + 2)) (take-append_seam needle rest)

action_read : (a : ItemAction) (rest : List ℕ) → ActionFits a → action_at (action_bytes a ++ rest) ≡ Some (a, length (action_bytes a))
action_read actions.Lines rest fits = refl
action_read actions.Words rest fits = refl
action_read actions.Bytes rest fits = refl
action_read actions.Longest rest fits = refl
action_read (actions.Count needle) rest fits =
    let more : length needle + 2 ≡ suc (suc (length needle)) = omega arith in
    count_read needle rest fits.0 fits.1 ∙ ap (λ n. Some (actions.Count needle, n)) more
action_read actions.Sha256 rest fits = refl

file_read : (unit : ℕ) (keep : Option KeepAlive) (a : ItemAction) (file : List ℕ) → is_file_name file ≡ true
    → request_with unit keep a (to_be_bytes w16 (length file) ++ file) ≡ Some (Request record { unit = unit; action = a; file = file; keep = keep })
file_read unit keep a file is =
    let few = short file is in
    let len : from_be_bytes w16 (to_be_bytes w16 (length file)) ≡ length file = from_be_bytes-to_be_bytes_2 (length file) (omega arith) in
    cond-false _ _ _ (le-ltb (length (to_be_bytes w16 (length file) ++ file)) 2 (omega arith))
    ∙ cond-true _ _ _ (and_from (eqb (from_be_bytes w16 (to_be_bytes w16 (length file))) (length file)) (is_file_name file) (eq-eqb _ _ len) is)

behind_unit : (unit : ℕ) (keep : Option KeepAlive) (a : ItemAction) (file : List ℕ) → ActionFits a → is_file_name file ≡ true
    → request_from unit keep (action_bytes a ++ (to_be_bytes w16 (length file) ++ file)) ≡ Some (Request record { unit = unit; action = a; file = file; keep = keep })
behind_unit unit keep a file fits is =
    let rest = to_be_bytes w16 (length file) ++ file in
    ap (request_after unit keep (action_bytes a ++ rest)) (action_read a rest fits)
    ∙ ap (request_with unit keep a) (drop-append_seam (action_bytes a) rest)
    ∙ file_read unit keep a file is

request_read : (unit : ℕ) (keep : Option KeepAlive) (a : ItemAction) (file : List ℕ) → unit < 2 ^ 32 → ActionFits a → is_file_name file ≡ true
    → frame_of (request_tag keep) (to_be_bytes w32 unit ++ (mode_bytes keep ++ (action_bytes a ++ (to_be_bytes w16 (length file) ++ file))))
    ≡ Some (Request record { unit = unit; action = a; file = file; keep = keep })
request_read unit None a file below fits is =
    let bytes = action_bytes a ++ (to_be_bytes w16 (length file) ++ file) in
    cond-false _ _ _ (le-ltb (length (to_be_bytes w32 unit ++ bytes)) 4 (omega arith))
    ∙ (λ i. request_from (from_be_bytes-to_be_bytes_4 unit below i) None bytes)
    ∙ behind_unit unit None a file fits is
request_read unit (Some Session) a file below fits is =
    let bytes = 1 ∷ (action_bytes a ++ (to_be_bytes w16 (length file) ++ file)) in
    cond-false _ _ _ (le-ltb (length (to_be_bytes w32 unit ++ bytes)) 4 (omega arith))
    ∙ (λ i. request_behind (from_be_bytes-to_be_bytes_4 unit below i) bytes (Some Session))
    ∙ behind_unit unit (Some Session) a file fits is
request_read unit (Some Daemon) a file below fits is =
    let bytes = 2 ∷ (action_bytes a ++ (to_be_bytes w16 (length file) ++ file)) in
    cond-false _ _ _ (le-ltb (length (to_be_bytes w32 unit ++ bytes)) 4 (omega arith))
    ∙ (λ i. request_behind (from_be_bytes-to_be_bytes_4 unit below i) bytes (Some Daemon))
    ∙ behind_unit unit (Some Daemon) a file fits is

outcome_read : (o : Outcome) → OutcomeFits o → o ≢ outcomes.Skipped → outcome_of (outcome_bytes o) ≡ Some o
outcome_read (outcomes.Number n) fits other = ap (λ m. Some (outcomes.Number m)) (from_be_bytes-to_be_bytes_8 n fits)
outcome_read (outcomes.Digest digest) fits other = cond-true _ _ _ (eq-eqb _ _ fits)
outcome_read outcomes.NotThere fits other = refl
outcome_read outcomes.TooLong fits other = refl
outcome_read outcomes.Fault fits other = refl
outcome_read outcomes.NoMemory fits other = refl
outcome_read outcomes.Skipped fits other = absurd (other refl)

reply_read : (unit : ℕ) (keep : Option KeepAlive) (o : Outcome) → unit < 2 ^ 32 → OutcomeFits o → o ≢ outcomes.Skipped
    → frame_of (reply_tag keep) (to_be_bytes w32 unit ++ (mode_bytes keep ++ outcome_bytes o)) ≡ Some (Reply record { unit = unit; outcome = o; keep = keep })
reply_read unit None o below fits other =
    cond-false _ _ _ (le-ltb (length (to_be_bytes w32 unit ++ outcome_bytes o)) 4 (omega arith))
    ∙ (λ i. reply_with (from_be_bytes-to_be_bytes_4 unit below i) None (outcome_read o fits other i))
reply_read unit (Some Session) o below fits other =
    cond-false _ _ _ (le-ltb (length (to_be_bytes w32 unit ++ 1 ∷ outcome_bytes o)) 4 (omega arith))
    ∙ (λ i. reply_with (from_be_bytes-to_be_bytes_4 unit below i) (Some Session) (outcome_read o fits other i))
reply_read unit (Some Daemon) o below fits other =
    cond-false _ _ _ (le-ltb (length (to_be_bytes w32 unit ++ 2 ∷ outcome_bytes o)) 4 (omega arith))
    ∙ (λ i. reply_with (from_be_bytes-to_be_bytes_4 unit below i) (Some Daemon) (outcome_read o fits other i))

look_read : (tag : ℕ) (b after : List ℕ) (f : Frame) → is_tag tag ≡ true → length b ≤ 65536 → frame_of tag b ≡ Some f
    → look (tag ∷ (to_be_bytes w32 (length b) ++ (b ++ after))) ≡ Whole f (5 + length b)
look_read tag b after f known few is =
    let n = length b in
    let bytes = b ++ after in
    let len : from_be_bytes w32 (to_be_bytes w32 n) ≡ n = from_be_bytes-to_be_bytes_4 n (omega arith) in
    cond-true _ _ _ known
    ∙ cond-false _ _ _ (le-ltb (length (to_be_bytes w32 n ++ bytes)) 4 (omega arith))
    ∙ ap (λ m. look_body tag m bytes) len
    ∙ cond-false _ _ _ (le-ltb 65536 n few)
    ∙ cond-false _ _ _ (le-ltb (length bytes) n (omega (arith, length-append b after)))
    ∙ ap (λ xs. look_field n (frame_of tag xs)) (take-append_seam b after)
    ∙ ap (look_field n) is

few_action : (a : ItemAction) → ActionFits a → length (action_bytes a) ≤ 66
few_action actions.Lines fits = omega arith
few_action actions.Words fits = omega arith
few_action actions.Bytes fits = omega arith
few_action actions.Longest fits = omega arith
few_action (actions.Count needle) fits = omega (arith, fits.1)
few_action actions.Sha256 fits = omega arith

few_outcome : (o : Outcome) → OutcomeFits o → length (outcome_bytes o) ≤ 33
few_outcome (outcomes.Number n) fits = omega arith
few_outcome (outcomes.Digest digest) fits = omega (arith, fits)
few_outcome outcomes.NotThere fits = omega arith
few_outcome outcomes.TooLong fits = omega arith
few_outcome outcomes.Fault fits = omega arith
few_outcome outcomes.NoMemory fits = omega arith
few_outcome outcomes.Skipped fits = omega arith

few_mode : (keep : Option KeepAlive) → length (mode_bytes keep) ≤ 1
few_mode None = omega arith
few_mode (Some Session) = omega arith
few_mode (Some Daemon) = omega arith

known_request : (keep : Option KeepAlive) → is_tag (request_tag keep) ≡ true
known_request None = refl
known_request (Some mode) = refl

known_reply : (keep : Option KeepAlive) → is_tag (reply_tag keep) ≡ true
known_reply None = refl
known_reply (Some mode) = refl

longer : (f : Frame) → 5 + length (body f) ≡ length (spelling f)
longer f = omega arith

pub spelled : (f : Frame) (after : List ℕ) → IsValid f → FrameFits f → look (spelling f ++ after) ≡ Whole f (length (spelling f))
spelled (Request r) after valid fits =
    let rest = to_be_bytes w16 (length r.file) ++ r.file in
    let few : length (body (Request r)) ≤ 65536 =
    omega (arith, few_mode r.keep, few_action r.action fits.1, short r.file valid, length-append (mode_bytes r.keep) (action_bytes r.action ++ rest), length-append (action_bytes r.action) rest) in
    look_read (request_tag r.keep) (body (Request r)) after (Request r) (known_request r.keep) few (request_read r.unit r.keep r.action r.file fits.0 fits.1 valid) ∙ ap (Whole (Request r)) (longer (Request r))
spelled (Reply r) after valid fits =
    let few : length (body (Reply r)) ≤ 65536 = omega (arith, few_mode r.keep, few_outcome r.outcome fits.1, length-append (mode_bytes r.keep) (outcome_bytes r.outcome)) in
    look_read (reply_tag r.keep) (body (Reply r)) after (Reply r) (known_reply r.keep) few (reply_read r.unit r.keep r.outcome fits.0 fits.1 valid) ∙ ap (Whole (Reply r)) (longer (Reply r))
spelled Stop after valid fits = look_read 3 [] after Stop refl (omega arith) refl ∙ ap (Whole Stop) (longer Stop)
