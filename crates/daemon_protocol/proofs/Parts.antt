-- What the parts of a body are read as.
use Rattle.std.proofs.Common.{◌≡◌, ◌≢◌, ℕ, ◌+◌, ◌*◌, ◌-◌, ◌<◌, ◌≤◌, List, [], ◌∷◌, Bool, true, false, ◌&&◌, eqb, Option, None, Some, if◌then◌else◌, length, get_or, take, drop, refl, sym, ap, ◌∙◌, arith}
use Rattle.std.specs.Int.{w16, w32, from_be_bytes}
use Rattle.std.proofs.lemmas.Bool.{le-ltb, lt-ltb, eq-eqb, ne_eqb, cond-true, cond-false}
use Rattle.item_actions.specs.Forms.{is_file_name}
use Rattle.item_actions.specs.declared.actions.ItemAction.{ItemAction}
use Rattle.item_actions.specs.declared.keep_alive.KeepAlive.{KeepAlive}
use Rattle.daemon_protocol.specs.Bodies.{mode_at, request_after, request_from, request_behind, request_with, request_of, request_in_mode_of}
use Rattle.daemon_protocol.specs.Bodies.{reply_from, reply_behind, reply_of, reply_in_mode_of}
use Rattle.daemon_protocol.specs.declared.frames.Frame.{Frame}
use Rattle.daemon_protocol.specs.declared.frames.Frame.TheVariants.{Request}
use Rattle.daemon_protocol.proofs.Starting.{rest}

-- too few bytes for a unit
pub short_request : (body : List ℕ) → length body < 4 → None ≡ request_of body
short_request body short = sym (cond-true _ _ _ (lt-ltb _ _ short))

pub short_reply : (body : List ℕ) → length body < 4 → None ≡ reply_of body
short_reply body short = sym (cond-true _ _ _ (lt-ltb _ _ short))

-- too few bytes for a unit and a mode
pub short_request_in_mode : (body : List ℕ) → length body < 5 → None ≡ request_in_mode_of body
short_request_in_mode [] short = refl
short_request_in_mode (a ∷ []) short = refl
short_request_in_mode (a ∷ b ∷ []) short = refl
short_request_in_mode (a ∷ b ∷ c ∷ []) short = refl
short_request_in_mode (a ∷ b ∷ c ∷ d ∷ []) short = refl
short_request_in_mode (a ∷ b ∷ c ∷ d ∷ e ∷ after) short = absurd (omega (arith, short))

pub short_reply_in_mode : (body : List ℕ) → length body < 5 → None ≡ reply_in_mode_of body
short_reply_in_mode [] short = refl
short_reply_in_mode (a ∷ []) short = refl
short_reply_in_mode (a ∷ b ∷ []) short = refl
short_reply_in_mode (a ∷ b ∷ c ∷ []) short = refl
short_reply_in_mode (a ∷ b ∷ c ∷ d ∷ []) short = refl
short_reply_in_mode (a ∷ b ∷ c ∷ d ∷ e ∷ after) short = absurd (omega (arith, short))

-- the unit of a request, and what follows it
pub long_request : (unit : ℕ) (body : List ℕ) → 4 ≤ length body → unit ≡ from_be_bytes w32 (take 4 body)
    → request_from unit None (take (length body - 4) (drop 4 body)) ≡ request_of body
long_request unit body enough is = (λ i. request_from (is i) None (rest body 4 i)) ∙ sym (cond-false _ _ _ (le-ltb (length body) 4 enough))

-- the unit of a request, its mode and what follows them
pub long_request_in_mode : (unit : ℕ) (mode : Option KeepAlive) (body : List ℕ) → 4 ≤ length body → unit ≡ from_be_bytes w32 (take 4 body)
    → mode ≡ mode_at (take (length body - 4) (drop 4 body)) → request_behind unit (take (length body - 4) (drop 4 body)) mode ≡ request_in_mode_of body
long_request_in_mode unit mode body enough is at =
    (λ i. request_behind (is i) (take (length body - 4) (drop 4 body)) (at i))
    ∙ (λ i. request_behind (from_be_bytes w32 (take 4 body)) (rest body 4 i) (mode_at (rest body 4 i)))
    ∙ sym (cond-false _ _ _ (le-ltb (length body) 4 enough))

pub some_request_mode : (unit : ℕ) (mode : KeepAlive) (after : List ℕ)
    → request_from unit (Some mode) (take (length after - 1) (drop 1 after)) ≡ request_behind unit after (Some mode)
some_request_mode unit mode after = ap (request_from unit (Some mode)) (rest after 1)

pub some_action : (unit : ℕ) (keep : Option KeepAlive) (action : ItemAction) (len : ℕ) (after : List ℕ)
    → request_with unit keep action (take (length after - len) (drop len after)) ≡ request_after unit keep after (Some (action, len))
some_action unit keep action len after = ap (request_with unit keep action) (rest after len)

-- the unit of a reply, and its outcome
pub long_reply : (unit : ℕ) (body : List ℕ) → 4 ≤ length body → unit ≡ from_be_bytes w32 (take 4 body)
    → reply_from unit None (take (length body - 4) (drop 4 body)) ≡ reply_of body
long_reply unit body enough is = (λ i. reply_from (is i) None (rest body 4 i)) ∙ sym (cond-false _ _ _ (le-ltb (length body) 4 enough))

-- the unit of a reply, its mode and its outcome
pub long_reply_in_mode : (unit : ℕ) (mode : Option KeepAlive) (body : List ℕ) → 4 ≤ length body → unit ≡ from_be_bytes w32 (take 4 body)
    → mode ≡ mode_at (take (length body - 4) (drop 4 body)) → reply_behind unit (take (length body - 4) (drop 4 body)) mode ≡ reply_in_mode_of body
long_reply_in_mode unit mode body enough is at =
    (λ i. reply_behind (is i) (take (length body - 4) (drop 4 body)) (at i))
    ∙ (λ i. reply_behind (from_be_bytes w32 (take 4 body)) (rest body 4 i) (mode_at (rest body 4 i)))
    ∙ sym (cond-false _ _ _ (le-ltb (length body) 4 enough))

pub some_reply_mode : (unit : ℕ) (mode : KeepAlive) (after : List ℕ)
    → reply_from unit (Some mode) (take (length after - 1) (drop 1 after)) ≡ reply_behind unit after (Some mode)
some_reply_mode unit mode after = ap (reply_from unit (Some mode)) (rest after 1)

-- the two bytes of a file's length
two_bytes : (len : ℕ) (bytes : List ℕ) → 2 ≤ length bytes → len ≡ get_or bytes 0 0 * 256 + get_or bytes 1 0 → len ≡ from_be_bytes w16 (take 2 bytes)
two_bytes len [] enough is = absurd (omega (arith, enough))
two_bytes len (a ∷ []) enough is = absurd (omega (arith, enough))
two_bytes len (a ∷ b ∷ bytes) enough is = is

-- the request for a file, if there is one
abbrev pub framed : ℕ → Option KeepAlive → ItemAction → Option (List ℕ) → Option Frame
framed unit keep action None = None
framed unit keep action (Some file) = Some (Request record { unit = unit; action = action; file = file; keep = keep })

framed-cond : (unit : ℕ) (keep : Option KeepAlive) (action : ItemAction) (is : Bool) (name : List ℕ)
    → framed unit keep action (if is then Some name else None) ≡ (if is then Some (Request record { unit = unit; action = action; file = name; keep = keep }) else None)
framed-cond unit keep action true name = refl
framed-cond unit keep action false name = refl

-- too few bytes for the length
pub no_length : (unit : ℕ) (keep : Option KeepAlive) (action : ItemAction) (bytes : List ℕ) → length bytes < 2 → None ≡ request_with unit keep action bytes
no_length unit keep action bytes short = sym (cond-true _ _ _ (lt-ltb _ _ short))

-- a length that isn't the name's
pub other_length : (unit : ℕ) (keep : Option KeepAlive) (action : ItemAction) (len : ℕ) (bytes : List ℕ) → 2 ≤ length bytes → len ≡ get_or bytes 0 0 * 256 + get_or bytes 1 0
    → len ≢ length (take (length bytes - 2) (drop 2 bytes)) → None ≡ request_with unit keep action bytes
other_length unit keep action len bytes enough is other =
    let name = drop 2 bytes in
    let read : len ≡ from_be_bytes w16 (take 2 bytes) = two_bytes len bytes enough is in
    let differ : eqb (from_be_bytes w16 (take 2 bytes)) (length name) ≡ false = ne_eqb _ _ (λ same. other (read ∙ same ∙ ap length (sym (rest bytes 2)))) in
    sym (cond-false _ _ _ (le-ltb (length bytes) 2 enough) ∙ cond-false _ _ _ (ap (λ same. same && is_file_name name) differ))

-- the length is the name's
pub own_length : (unit : ℕ) (keep : Option KeepAlive) (action : ItemAction) (len : ℕ) (bytes : List ℕ) (file : Option (List ℕ)) → 2 ≤ length bytes → len ≡ get_or bytes 0 0 * 256 + get_or bytes 1 0
    → len ≡ length (take (length bytes - 2) (drop 2 bytes))
    → file ≡ (if is_file_name (take (length bytes - 2) (drop 2 bytes)) then Some (take (length bytes - 2) (drop 2 bytes)) else None)
    → framed unit keep action file ≡ request_with unit keep action bytes
own_length unit keep action len bytes file enough is same of =
    let name = drop 2 bytes in
    let read : len ≡ from_be_bytes w16 (take 2 bytes) = two_bytes len bytes enough is in
    let equal : eqb (from_be_bytes w16 (take 2 bytes)) (length name) ≡ true = eq-eqb _ _ (sym read ∙ same ∙ ap length (rest bytes 2)) in
    let request : Frame = Request record { unit = unit; action = action; file = name; keep = keep } in
    ap (framed unit keep action) of
    ∙ ap (λ file. framed unit keep action (if is_file_name file then Some file else None)) (rest bytes 2)
    ∙ framed-cond unit keep action (is_file_name name) name
    ∙ ap (λ same. if same && is_file_name name then Some request else None) (sym equal)
    ∙ sym (cond-false _ _ _ (le-ltb (length bytes) 2 enough))
