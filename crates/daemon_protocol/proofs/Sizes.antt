-- How long the frame is whose first bytes are known.
use Rattle.std.proofs.Common.{◌≡◌, ℕ, suc, ◌+◌, ◌<◌, ◌≤◌, inl, inr, List, [], ◌∷◌, ◌++◌, true, false, Option, None, Some, cond, ltb, eqb, ◌||◌, length, take, drop, sym, ap, ◌∙◌, arith}
use Rattle.std.specs.Int.{w32, from_be_bytes}
use Rattle.std.proofs.lemmas.Bool.{cases_Bool, ltb-false}
use Rattle.std.proofs.lemmas.Bool.Decides.{nat_tests}
use Rattle.std.proofs.lemmas.List.{take-append-le, drop-append-le, length-drop}
use Rattle.daemon_protocol.specs.declared.frames.Frame.{Frame}
use Rattle.daemon_protocol.specs.declared.starts.StreamStart.TheVariants.{Unfinished, Whole, Refused}
use Rattle.daemon_protocol.specs.declared.starts.Flaw.TheVariants.{Length, Tag}
use Rattle.daemon_protocol.specs.Bodies.{frame_of}
use Rattle.daemon_protocol.specs.StreamStart.{look, is_tag, look_length, look_body, look_field}
use Rattle.daemon_protocol.proofs.lemmas.Settled.{fits_body}

-- the length of the body, by the bytes behind the tag
abbrev pub body_len : List ℕ → ℕ
body_len after = from_be_bytes w32 (take 4 after)

less : (a n : ℕ) → ltb a n ≡ true → a < n
less a n p = grind (arith, nat_tests)

sized_length : (tag m : ℕ) (after : List ℕ) (f : Frame) → look_length tag after ≡ Whole f m → (4 ≤ length after) × (m ≡ 5 + body_len after)
sized_length tag m after f h =
    let X = look_body tag (body_len after) (drop 4 after) in
    elim (cases_Bool (ltb (length after) 4)) [
      | inl p ↦ let e : Unfinished ≡ Whole f m = sym (ap (λ b. cond b Unfinished X) p) ∙ h in cc
      | inr p ↦ (ltb-false (length after) 4 p, (fits_body tag _ m (drop 4 after) f (sym (ap (λ b. cond b Unfinished X) p) ∙ h)).0)
    ]

-- a whole frame has a head, which says how long it is
pub sized : (s : List ℕ) (f : Frame) (m : ℕ) → look s ≡ Whole f m → (5 ≤ length s) × (m ≡ 5 + body_len (drop 1 s))
sized [] f m = λ h. cc
sized (tag ∷ after) f m =
    elim (is_tag tag) as (λ b. cond b (look_length tag after) (Refused Tag) ≡ Whole f m → (5 ≤ suc (length after)) × (m ≡ 5 + body_len after))
    [ true ↦ λ h. let s = sized_length tag m after f h in (omega (arith, s.0), s.1) | false ↦ λ h. cc ]

-- what follows the head changes nothing of that
pub sized_by_head : (s more : List ℕ) (f : Frame) (m : ℕ) → 5 ≤ length s → look (s ++ more) ≡ Whole f m → m ≡ 5 + body_len (drop 1 s)
sized_by_head s more f m head h =
    (sized (s ++ more) f m h).1
    ∙ ap (λ l. 5 + body_len l) (drop-append-le 1 s more (omega arith))
    ∙ ap (λ l. 5 + from_be_bytes w32 l) (take-append-le 4 (drop 1 s) more (omega (arith, length-drop 1 s)))

no_field : (n : ℕ) (o : Option Frame) → look_field n o ≡ Unfinished → ⊥
no_field n None h = cc
no_field n (Some g) h = cc

unfinished_body : (tag n : ℕ) (body : List ℕ) → look_body tag n body ≡ Unfinished → (length body < n) × (n ≤ 65536)
unfinished_body tag n body h =
    let X = look_field n (frame_of tag (take n body)) in
    let A = cond (ltb (length body) n) Unfinished X in
    elim (cases_Bool (ltb 65536 n)) [
      | inl p ↦ let e : Refused Length ≡ Unfinished = sym (ap (λ b. cond b (Refused Length) A) p) ∙ h in cc
      | inr p ↦
          let short : n ≤ 65536 = ltb-false 65536 n p in
          let e : A ≡ Unfinished = sym (ap (λ b. cond b (Refused Length) A) p) ∙ h in
          elim (cases_Bool (ltb (length body) n)) [
            | inl q ↦ (less (length body) n q, short)
            | inr q ↦ absurd (no_field n _ (sym (ap (λ b. cond b Unfinished X) q) ∙ e))
          ]
    ]

unfinished_length : (tag : ℕ) (after : List ℕ) → 4 ≤ length after → look_length tag after ≡ Unfinished → (length after < 4 + body_len after) × (body_len after ≤ 65536)
unfinished_length tag after head h =
    let X = look_body tag (body_len after) (drop 4 after) in
    let there : ltb (length after) 4 ≡ false = grind (arith, nat_tests) in
    let b = unfinished_body tag (body_len after) (drop 4 after) (sym (ap (λ b. cond b Unfinished X) there) ∙ h) in
    (omega (arith, b.0, length-drop 4 after), b.1)

-- bytes that have a head and are no whole frame yet are shorter than the head says
pub unfinished : (s : List ℕ) → 5 ≤ length s → look s ≡ Unfinished → (length s < 5 + body_len (drop 1 s)) × (body_len (drop 1 s) ≤ 65536)
unfinished [] head = λ h. absurd (omega arith)
unfinished (tag ∷ after) head =
    elim (is_tag tag) as (λ b. cond b (look_length tag after) (Refused Tag) ≡ Unfinished → (suc (length after) < 5 + body_len after) × (body_len after ≤ 65536))
    [ true ↦ λ h. let u = unfinished_length tag after (omega arith) h in (omega (arith, u.0), u.1) | false ↦ λ h. cc ]
