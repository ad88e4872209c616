-- A decoder's reading, piece by piece.
use Rattle.std.proofs.Common.{◌≡◌, ℕ, ◌+◌, ◌≤◌, List, [], ◌++◌, inl, inr, true, false, Option, None, Some, length, drop, refl, sym, ap, ◌∙◌, arith, subst, length-append, length-drop}
use Rattle.std.specs.Option.{is_some}
use Rattle.std.proofs.lemmas.Bool.{true≢false, false≢true}
use Rattle.std.proofs.lemmas.List.{append-nil}
use Rattle.daemon_protocol.specs.StreamStart.{look, Cuts, nothing}
use Rattle.frame_decoder.specs.DecoderView.{DecoderView, Reads, ReadsOn, IsEnd, nothing_read, start_with, after_frames}
use Rattle.daemon_protocol.specs.declared.frames.Frame.{Frame}
use Rattle.daemon_protocol.specs.declared.frames.FrameRefusal.{FrameRefusal}
use Rattle.daemon_protocol.specs.declared.starts.Flaw.{Flaw}
use Rattle.daemon_protocol.specs.declared.starts.StreamStart.TheVariants.{Unfinished, Refused}
use Rattle.daemon_protocol.proofs.lemmas.Settled.{settles, cuts_longer, cuts_piece}

pub reads_nothing : Reads [] [] nothing_read
reads_nothing = record { rest = []; cuts = nothing []; place = omega arith; end = (refl, refl) }

after : (held piece : List ℕ) (place n : ℕ) (flaw : Option Flaw) → look (drop n (held ++ piece)) ≡ start_with flaw
    → IsEnd (drop n (held ++ piece)) (after_frames record { held = drop n (held ++ piece); place = place; refusal = None } n flaw).place
    (after_frames record { held = drop n (held ++ piece); place = place; refusal = None } n flaw).held
    (after_frames record { held = drop n (held ++ piece); place = place; refusal = None } n flaw).refusal
after held piece place n None is = (is, refl)
after held piece place n (Some flaw) is = (flaw, is, refl, refl)

same_place : (r : DecoderView) (n : ℕ) (flaw : Option Flaw) → (after_frames r n flaw).place ≡ r.place + n
same_place r n None = refl
same_place r n (Some flaw) = refl

-- the frames that a piece made whole
reads_more : (stream : List ℕ) (frames : List Frame) (held piece : List ℕ) (place n : ℕ) (more : List Frame) (flaw : Option Flaw)
    → Reads stream frames record { held = held; place = place; refusal = None }
    → n ≤ length (held ++ piece)
    → Cuts (held ++ piece) more (drop n (held ++ piece))
    → look (drop n (held ++ piece)) ≡ start_with flaw
    → Reads (stream ++ piece) (frames ++ more) (after_frames record { held = drop n (held ++ piece); place = place; refusal = None } n flaw)
reads_more stream frames held piece place n more flaw before within cuts end =
    let same : held ≡ before.rest = before.end.1 in
    record {
      rest = drop n (held ++ piece);
      cuts = cuts_piece stream frames held piece more (drop n (held ++ piece)) (subst (Cuts stream frames) (sym same) before.cuts) cuts;
      place = omega (arith, same_place record { held = drop n (held ++ piece); place = place; refusal = None } n flaw, length-drop n (held ++ piece), length-append held piece, length-append stream piece, before.place, ap length same);
      end = after held piece place n flaw end;
    }

-- after a refusal
reads_same : (stream : List ℕ) (frames : List Frame) (held piece : List ℕ) (place : ℕ) (refusal : FrameRefusal)
    → Reads stream frames record { held = held; place = place; refusal = Some refusal }
    → Reads (stream ++ piece) (frames ++ []) record { held = held; place = place; refusal = Some refusal }
reads_same stream frames held piece place refusal before =
    let flaw = before.end.0 in
    let is : look before.rest ≡ Refused flaw = before.end.1 in
    let stays : look (before.rest ++ piece) ≡ Refused flaw = elim (settles before.rest piece) [
      | inl more ↦ let other : Unfinished ≡ Refused flaw = sym more ∙ is in cc
      | inr same ↦ same ∙ is
    ] in
    record {
      rest = before.rest ++ piece;
      cuts = subst (λ fs. Cuts (stream ++ piece) fs (before.rest ++ piece)) (sym (append-nil frames)) (cuts_longer stream frames before.rest piece before.cuts);
      place = omega (arith, length-append before.rest piece, length-append stream piece, before.place);
      end = (flaw, stays, before.end.2, before.end.3);
    }

refused : (stream : List ℕ) (frames more : List Frame) (held piece : List ℕ) (place : ℕ) (refusal : Option FrameRefusal) → is_some refusal ≡ true → more ≡ []
    → Reads stream frames record { held = held; place = place; refusal = refusal }
    → Reads (stream ++ piece) (frames ++ more) record { held = held; place = place; refusal = refusal }
refused stream frames more held piece place None some none before = absurd (false≢true some)
refused stream frames more held piece place (Some refusal) some none before =
    subst (λ fs. Reads (stream ++ piece) (frames ++ fs) record { held = held; place = place; refusal = Some refusal }) (sym none) (reads_same stream frames held piece place refusal before)

pub reads_refused : (stream : List ℕ) (frames more : List Frame) (r : DecoderView) (piece : List ℕ) → is_some r.refusal ≡ true → more ≡ [] → Reads stream frames r → Reads (stream ++ piece) (frames ++ more) r
reads_refused stream frames more r piece some none before = refused stream frames more r.held piece r.place r.refusal some none before

fed : (stream : List ℕ) (frames more : List Frame) (held piece : List ℕ) (place n : ℕ) (flaw : Option Flaw) (refusal : Option FrameRefusal) → is_some refusal ≡ false
    → n ≤ length (held ++ piece) → Cuts (held ++ piece) more (drop n (held ++ piece)) → look (drop n (held ++ piece)) ≡ start_with flaw
    → Reads stream frames record { held = held; place = place; refusal = refusal }
    → Reads (stream ++ piece) (frames ++ more) (after_frames record { held = drop n (held ++ piece); place = place; refusal = refusal } n flaw)
fed stream frames more held piece place n flaw (Some refusal) none within cuts end before = absurd (true≢false none)
fed stream frames more held piece place n flaw None none within cuts end before = reads_more stream frames held piece place n more flaw before within cuts end

-- a piece more, where there is no refusal yet
pub reads_on : (stream : List ℕ) (frames more : List Frame) (r s : DecoderView) (piece : List ℕ) → is_some r.refusal ≡ false → ReadsOn (r.held ++ piece) more r s → Reads stream frames r → Reads (stream ++ piece) (frames ++ more) s
reads_on stream frames more r s piece none on before =
    subst (Reads (stream ++ piece) (frames ++ more)) (sym on.reading) (fed stream frames more r.held piece r.place on.len on.flaw r.refusal none on.within on.cuts on.end before)
