-- Where the head at a place has a body, the frames before it and its own are those that the bytes begin with.
use Rattle.std.proofs.Common.{◌≡◌, ℕ, ◌+◌, ◌-◌, List, [], ◌∷◌, ◌++◌, Bool, true, false, Option, None, Some, length, take, drop, sym, ap, ◌∙◌, subst}
use Rattle.std.proofs.lemmas.Bool.{true≢false}
use Rattle.std.proofs.lemmas.List.{drop-drop}
use Rattle.daemon_protocol.specs.declared.frames.Frame.{Frame}
use Rattle.daemon_protocol.specs.declared.starts.StreamStart.TheVariants.{Refused, Whole}
use Rattle.daemon_protocol.specs.declared.starts.Flaw.TheVariants.{Field}
use Rattle.daemon_protocol.specs.StreamStart.{look, look_field, Cuts, nothing, first}
use Rattle.frame_decoder.specs.DecoderView.{IsPushed}
use Rattle.daemon_protocol.proofs.Starting.{rest}

-- one frame more
cuts_more : (s : List ℕ) (fs : List Frame) (r : List ℕ) (f : Frame) (n : ℕ) → Cuts s fs r → look r ≡ Whole f n → Cuts s (fs ++ f ∷ []) (drop n r)
cuts_more s _ r f n (nothing _) h = first s f n [] (drop n s) h (nothing (drop n s))
cuts_more s _ r f n (first _ g m gs _ e later) h = first s g m (gs ++ f ∷ []) (drop n r) e (cuts_more (drop m s) gs r f n later h)

pub pushed : (bytes : List ℕ) (at n : ℕ) (o : Option Frame) (before after : List Frame) (is : Bool) → is ≡ true → IsPushed o before after is
    → look_field n o ≡ look (take (length bytes - at) (drop at bytes)) → Cuts bytes before (drop at bytes) → Cuts bytes after (drop (at + (5 + n)) bytes)
pushed bytes at n None before after is told has there cuts = absurd (true≢false (sym told ∙ has.1))
pushed bytes at n (Some f) before after is told has there cuts =
    let more = cuts_more bytes before (drop at bytes) f (5 + n) cuts (ap look (sym (rest bytes at)) ∙ sym there) in
    subst (λ fs. Cuts bytes fs (drop (at + (5 + n)) bytes)) (sym has.0) (subst (Cuts bytes (before ++ f ∷ [])) (drop-drop (5 + n) at bytes) more)

pub not_pushed : (bytes : List ℕ) (at n : ℕ) (o : Option Frame) (before after : List Frame) (is : Bool) → is ≡ false → IsPushed o before after is
    → look_field n o ≡ look (take (length bytes - at) (drop at bytes)) → (after ≡ before) × (look (drop at bytes) ≡ Refused Field)
not_pushed bytes at n None before after is told has there = (has.0, ap look (sym (rest bytes at)) ∙ sym there)
not_pushed bytes at n (Some f) before after is told has there = absurd (true≢false (sym has.1 ∙ told))
