-- A stream is read in one way.
use Rattle.std.proofs.Common.{◌≡◌, ℕ, List, ◌∷◌, Option, None, Some, length, drop, refl, sym, ap, ◌∙◌, arith, subst}
use Rattle.daemon_protocol.specs.StreamStart.{look, Cuts, nothing, first}
use Rattle.frame_decoder.specs.DecoderView.{DecoderView, Reads, IsEnd, refusal_at}
use Rattle.daemon_protocol.specs.declared.frames.Frame.{Frame}
use Rattle.daemon_protocol.specs.declared.frames.FrameRefusal.{FrameRefusal}
use Rattle.daemon_protocol.specs.declared.starts.Flaw.{Flaw}
use Rattle.daemon_protocol.specs.declared.starts.StreamStart.{StreamStart}
use Rattle.daemon_protocol.specs.declared.starts.StreamStart.TheVariants.{Unfinished, Whole, Refused}

abbrev IsNoFrame : List ℕ → Type 0
IsNoFrame bytes = (f : Frame) (n : ℕ) → ¬ (look bytes ≡ Whole f n)

abbrev frame_in : Frame → StreamStart → Frame
frame_in other (Whole f n) = f
frame_in other _ = other

abbrev length_in : StreamStart → ℕ
length_in (Whole f n) = n
length_in _ = 0

same_cuts : (s : List ℕ) (fs gs : List Frame) (p q : List ℕ) → Cuts s fs p → Cuts s gs q → IsNoFrame p → IsNoFrame q → (fs ≡ gs) × (p ≡ q)
same_cuts s _ _ p q (nothing _) (nothing _) end end' = (refl, refl)
same_cuts s _ _ p q (nothing _) (first _ g m gs _ there later) end end' = absurd (end g m there)
same_cuts s _ _ p q (first _ f n fs _ here rest) (nothing _) end end' = absurd (end' f n here)
same_cuts s _ _ p q (first _ f n fs _ here rest) (first _ g m gs _ there later) end end' =
    let both : Whole f n ≡ Whole g m = sym here ∙ there in
    let frame : f ≡ g = ap (frame_in f) both in
    let len : m ≡ n = sym (ap length_in both) in
    let more = same_cuts (drop n s) fs gs p q rest (subst (λ k. Cuts (drop k s) gs q) len later) end end' in
    ((λ i. frame i ∷ more.0 i), more.1)

no_frame : (rest : List ℕ) (place : ℕ) (held : List ℕ) (refusal : Option FrameRefusal) → IsEnd rest place held refusal → IsNoFrame rest
no_frame rest place held None end f n is = let both : Unfinished ≡ Whole f n = sym end.0 ∙ is in cc
no_frame rest place held (Some refusal) end f n is = let both : Refused end.0 ≡ Whole f n = sym end.1 ∙ is in cc

abbrev flaw_in : Flaw → StreamStart → Flaw
flaw_in other (Refused flaw) = flaw
flaw_in other _ = other

same_end : (rest : List ℕ) (place : ℕ) (held held' : List ℕ) (refusal refusal' : Option FrameRefusal) → IsEnd rest place held refusal → IsEnd rest place held' refusal' → (held ≡ held') × (refusal ≡ refusal')
same_end rest place held held' None None a b = (a.1 ∙ sym b.1, refl)
same_end rest place held held' None (Some refusal) a b = let both : Unfinished ≡ Refused b.0 = sym a.0 ∙ b.1 in cc
same_end rest place held held' (Some refusal) None a b = let both : Refused a.0 ≡ Unfinished = sym a.1 ∙ b.0 in cc
same_end rest place held held' (Some refusal) (Some other) a b =
    let flaw : a.0 ≡ b.0 = ap (flaw_in a.0) (sym a.1 ∙ b.1) in
    (a.3 ∙ sym b.3, ap Some (a.2 ∙ ap (λ x. refusal_at x place) flaw ∙ sym b.2))

pub one_reading : (stream : List ℕ) (fs gs : List Frame) (r q : DecoderView) → Reads stream fs r → Reads stream gs q → (fs ≡ gs) × (r ≡ q)
one_reading stream fs gs r q a b =
    let cuts = same_cuts stream fs gs a.rest b.rest a.cuts b.cuts (no_frame a.rest r.place r.held r.refusal a.end) (no_frame b.rest q.place q.held q.refusal b.end) in
    let place : q.place ≡ r.place = omega (arith, a.place, b.place, ap length cuts.1) in
    let end = subst (λ p. IsEnd a.rest p q.held q.refusal) place (subst (λ rest. IsEnd rest q.place q.held q.refusal) (sym cuts.1) b.end) in
    let same = same_end a.rest r.place r.held q.held r.refusal q.refusal a.end end in
    (cuts.0, λ i. record { held = same.0 i; place = sym place i; refusal = same.1 i })
