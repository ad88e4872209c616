use Rattle.std.proofs.Common.{◌≡◌, ◌++◌, [], false, sym, ap, ◌∙◌, subst, rules}
use Rattle.std.proofs.lemmas.Result.{IfOk-weaker}
use Rattle.std.specs.Option.{is_some}
use Rattle.frame_decoder.specs.DecoderView.{DecoderView, ReadsOn}
use Rattle.frame_decoder.proofs.Readings.{reads_refused, reads_on}
use Rattle.frame_decoder.proofs.decoders.Decoder.feed.Goals as goal

pub returns-then-is_some-clause-reads : goal.returns-then-is_some-clause-reads
returns-then-is_some-clause-reads c = λ stream frames before.
    reads_refused stream frames c.new.result.items c.args.self.now c.args.piece.now (ap (λ (r : DecoderView). is_some r.refusal) (sym c.self.view_is) ∙ sym c.if-is_some.ensures) c.new.ensures.items before

pub returns-then-is_empty-clause-reads : goal.returns-then-is_empty-clause-reads
returns-then-is_empty-clause-reads c = λ stream frames before.
    let r = c.args.self.now in
    let s = c.read.new.self in
    let piece = c.args.piece.now in
    let none : is_some r.refusal ≡ false = ap (λ (r : DecoderView). is_some r.refusal) (sym c.self.view_is) ∙ sym c.if-is_some.ensures in
    let empty : r.held ≡ [] = search rules in
    IfOk-weaker c.read.result _ _ (λ fed on. reads_on stream frames fed.frames.items r s piece none (subst (λ held. ReadsOn (held ++ piece) fed.frames.items r s) (sym empty) on) before) c.read.ensures.reads

pub returns-else-is_empty-clause-reads : goal.returns-else-is_empty-clause-reads
returns-else-is_empty-clause-reads c = λ stream frames before.
    let r = c.args.self.now in
    let s = c.read_behind.new.self in
    let none : is_some r.refusal ≡ false = ap (λ (r : DecoderView). is_some r.refusal) (sym c.self.view_is) ∙ sym c.if-is_some.ensures in
    IfOk-weaker c.read_behind.result _ _ (λ fed on. reads_on stream frames fed.frames.items r s c.args.piece.now none on before) c.read_behind.ensures.reads
