-- What stands at the start of a stream stays so, however the stream goes on.
use Rattle.std.proofs.Common.{◌≡◌, ℕ, suc, ◌+◌, ◌<◌, ◌≤◌, ◌⊎◌, inl, inr, List, [], ◌∷◌, ◌++◌, true, false, Option, None, Some, cond, ltb, eqb, ◌||◌, length, take, drop, refl, sym, ap, ◌∙◌, arith, subst, length-append}
use Rattle.std.specs.Int.{w32, from_be_bytes}
use Rattle.std.proofs.lemmas.Bool.{cases_Bool, le-ltb, ltb-false}
use Rattle.std.proofs.lemmas.List.{take-append-le, drop-append-le, length-drop}
use Rattle.daemon_protocol.specs.declared.frames.Frame.{Frame}
use Rattle.daemon_protocol.specs.declared.starts.StreamStart.TheVariants.{Unfinished, Whole, Refused}
use Rattle.daemon_protocol.specs.declared.starts.Flaw.TheVariants.{Length, Tag}
use Rattle.daemon_protocol.specs.Bodies.{frame_of}
use Rattle.daemon_protocol.specs.StreamStart.{look, is_tag, look_length, look_body, look_field, Cuts, nothing, first}

longer : (xs t : List ℕ) (n : ℕ) → ltb (length xs) n ≡ false → ltb (length (xs ++ t)) n ≡ false
longer xs t n p = let le = ltb-false (length xs) n p in le-ltb _ n (omega (arith, length-append xs t))

body_settles : (tag n : ℕ) (body t : List ℕ) → (look_body tag n body ≡ Unfinished) ⊎ (look_body tag n (body ++ t) ≡ look_body tag n body)
body_settles tag n body t =
    let X = look_field n (frame_of tag (take n body)) in
    let Y = look_field n (frame_of tag (take n (body ++ t))) in
    let A = cond (ltb (length body) n) Unfinished X in
    let B = cond (ltb (length (body ++ t)) n) Unfinished Y in
    let inner : (A ≡ Unfinished) ⊎ (B ≡ A) = elim (cases_Bool (ltb (length body) n)) [
      | inl p ↦ inl (ap (λ b. cond b Unfinished X) p)
      | inr p ↦ inr (ap (λ b. cond b Unfinished Y) (longer body t n p)
          ∙ ap (λ l. look_field n (frame_of tag l)) (take-append-le n body t (ltb-false _ n p))
          ∙ sym (ap (λ b. cond b Unfinished X) p))
    ] in
    elim (ltb 65536 n) as (λ b. (cond b (Refused Length) A ≡ Unfinished) ⊎ (cond b (Refused Length) B ≡ cond b (Refused Length) A)) [ true ↦ inr refl | false ↦ inner ]

length_settles : (tag : ℕ) (after t : List ℕ) → (look_length tag after ≡ Unfinished) ⊎ (look_length tag (after ++ t) ≡ look_length tag after)
length_settles tag after t =
    let n = from_be_bytes w32 (take 4 after) in
    let X = look_body tag n (drop 4 after) in
    let Y = look_body tag (from_be_bytes w32 (take 4 (after ++ t))) (drop 4 (after ++ t)) in
    elim (cases_Bool (ltb (length after) 4)) [
      | inl p ↦ inl (ap (λ b. cond b Unfinished X) p)
      | inr p ↦
          let le = ltb-false (length after) 4 p in
          let e : Y ≡ look_body tag n (drop 4 after ++ t) = (λ i. look_body tag (from_be_bytes w32 (take-append-le 4 after t le i)) (drop-append-le 4 after t le i)) in
          elim (body_settles tag n (drop 4 after) t) [
            | inl m ↦ inl (ap (λ b. cond b Unfinished X) p ∙ m)
            | inr s ↦ inr (ap (λ b. cond b Unfinished Y) (longer after t 4 p) ∙ e ∙ s ∙ sym (ap (λ b. cond b Unfinished X) p))
          ]
    ]

-- unless more is needed, what follows changes nothing
pub settles : (s t : List ℕ) → (look s ≡ Unfinished) ⊎ (look (s ++ t) ≡ look s)
settles [] t = inl refl
settles (tag ∷ after) t =
    elim (is_tag tag) as (λ b. (cond b (look_length tag after) (Refused Tag) ≡ Unfinished) ⊎ (cond b (look_length tag (after ++ t)) (Refused Tag) ≡ cond b (look_length tag after) (Refused Tag)))
    [ true ↦ length_settles tag after t | false ↦ inr refl ]

-- a whole frame fits
fits_field : (n m : ℕ) (o : Option Frame) (f : Frame) → look_field n o ≡ Whole f m → m ≡ 5 + n
fits_field n m None f h = cc
fits_field n m (Some g) f h = cc

pub fits_body : (tag n m : ℕ) (body : List ℕ) (f : Frame) → look_body tag n body ≡ Whole f m → (m ≡ 5 + n) × (n ≤ length body)
fits_body tag n m body f =
    let X = look_field n (frame_of tag (take n body)) in
    let A = cond (ltb (length body) n) Unfinished X in
    let inner : A ≡ Whole f m → (m ≡ 5 + n) × (n ≤ length body) = λ h. elim (cases_Bool (ltb (length body) n)) [
      | inl p ↦ let e : Unfinished ≡ Whole f m = sym (ap (λ b. cond b Unfinished X) p) ∙ h in cc
      | inr p ↦ (fits_field n m _ f (sym (ap (λ b. cond b Unfinished X) p) ∙ h), ltb-false _ n p)
    ] in
    elim (ltb 65536 n) as (λ b. cond b (Refused Length) A ≡ Whole f m → (m ≡ 5 + n) × (n ≤ length body)) [ true ↦ λ h. cc | false ↦ inner ]

fits_length : (tag m : ℕ) (after : List ℕ) (f : Frame) → look_length tag after ≡ Whole f m → (0 < m) × (m ≤ suc (length after))
fits_length tag m after f h =
    let X = look_body tag (from_be_bytes w32 (take 4 after)) (drop 4 after) in
    elim (cases_Bool (ltb (length after) 4)) [
      | inl p ↦ let e : Unfinished ≡ Whole f m = sym (ap (λ b. cond b Unfinished X) p) ∙ h in cc
      | inr p ↦
          let le = ltb-false (length after) 4 p in
          let b = fits_body tag _ m (drop 4 after) f (sym (ap (λ b. cond b Unfinished X) p) ∙ h) in
          let l = length-drop 4 after in
          (omega (arith, b.0), omega (arith, b.0, b.1, l))
    ]

pub fits : (s : List ℕ) (f : Frame) (m : ℕ) → look s ≡ Whole f m → (0 < m) × (m ≤ length s)
fits [] f m = λ h. cc
fits (tag ∷ after) f m =
    elim (is_tag tag) as (λ b. cond b (look_length tag after) (Refused Tag) ≡ Whole f m → (0 < m) × (m ≤ suc (length after)))
    [ true ↦ fits_length tag m after f | false ↦ λ h. cc ]

-- what follows changes none of the frames
pub cuts_longer : (s : List ℕ) (fs : List Frame) (r t : List ℕ) → Cuts s fs r → Cuts (s ++ t) fs (r ++ t)
cuts_longer s _ r t (nothing _) = nothing (s ++ t)
cuts_longer s _ r t (first _ g m gs _ e later) =
    let stays : look (s ++ t) ≡ Whole g m = elim (settles s t) [ inl more ↦ let z : Unfinished ≡ Whole g m = sym more ∙ e in cc | inr same ↦ same ∙ e ] in
    first (s ++ t) g m gs (r ++ t) stays (subst (λ x. Cuts x gs (r ++ t)) (sym (drop-append-le m s t ((fits s g m e).1))) (cuts_longer (drop m s) gs r t later))

-- in two parts
pub cuts_join : (s : List ℕ) (fs : List Frame) (r : List ℕ) (gs : List Frame) (q : List ℕ) → Cuts s fs r → Cuts r gs q → Cuts s (fs ++ gs) q
cuts_join s _ r gs q (nothing _) h = h
cuts_join s _ r gs q (first _ g m hs _ e later) h = first s g m (hs ++ gs) q e (cuts_join (drop m s) hs r gs q later h)

-- whatever the pieces: the frames of the stream so far, and then those of what was held and a piece
pub cuts_piece : (s : List ℕ) (fs : List Frame) (held piece : List ℕ) (gs : List Frame) (q : List ℕ) → Cuts s fs held → Cuts (held ++ piece) gs q → Cuts (s ++ piece) (fs ++ gs) q
cuts_piece s fs held piece gs q a b = cuts_join (s ++ piece) fs (held ++ piece) gs q (cuts_longer s fs held piece a) b
