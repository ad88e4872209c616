use Rattle.std.proofs.Common.{length, drop, arith, sym, ap, ◌∙◌, subst}
use Rattle.std.proofs.lemmas.List.{length-drop}
use Rattle.daemon_protocol.specs.Bodies.{frame_of}
use Rattle.daemon_protocol.specs.StreamStart.{look, Cuts, nothing}
use Rattle.frame_decoder.specs.DecoderView.{start_with}
use Rattle.frame_decoder.proofs.Pushing.{pushed, not_pushed}
use Rattle.daemon_protocol.proofs.Starting.{rest}
use Rattle.frame_decoder.proofs.decoders.front_of.Goals.{in-Unfinished, in-Whole+in_ok-push_frame-in-Whole+else-branch, in-Refused}
use Rattle.frame_decoder.proofs.decoders.front_of.Goals as goal

pub loop-tag-init : goal.loop-tag-init
loop-tag-init c = record {
  within = omega arith;
  cuts = subst (λ fs. Cuts c.args.bytes.now fs c.args.bytes.now) (sym c.new-frames.ensures.items) (nothing c.args.bytes.now);
}

pub loop-tag-preserved : goal.loop-tag-preserved
loop-tag-preserved c =
    let bytes = c.args.bytes.now in
    let at = c.loop-tag.len in
    let body = c.in-Whole.body.now in
    record {
      within = omega (arith, c.in-Whole.ensures.fits, ap length (rest bytes at), length-drop at bytes, c.loop-tag.invariant.within);
      cuts = pushed bytes at (length body) (frame_of c.in-Whole.tag body) c.loop-tag.frames.items c.push_frame.new.frames.items c.in_ok-push_frame-in-Whole.field-0 c.if-branch.true c.in_ok-push_frame-in-Whole.ensures c.in-Whole.ensures.start c.loop-tag.invariant.cuts;
    }

pub returns-in-loop-tag-clause-cuts : goal.returns-in-loop-tag-clause-cuts
returns-in-loop-tag-clause-cuts c =
    let bytes = c.args.bytes.now in
    let at = c.loop-tag.len in
    let before = c.loop-tag.frames.items in
    let cuts = c.loop-tag.invariant.cuts in
    elim c.match-head_of.branch [
      | in-Unfinished w ↦ subst (λ fs. Cuts bytes fs.items (drop at bytes)) (sym w.frames-is) cuts
      | in-Whole+in_ok-push_frame-in-Whole+else-branch w ↦
          let body = w.in-Whole.body.now in
          let none = not_pushed bytes at (length body) (frame_of w.in-Whole.tag body) before w.push_frame.new.frames.items w.in_ok-push_frame-in-Whole.field-0 w.if-branch.false w.in_ok-push_frame-in-Whole.ensures w.in-Whole.ensures.start in
          subst (λ fs. Cuts bytes fs.items (drop at bytes)) (sym w.frames-is) (subst (λ fs. Cuts bytes fs (drop at bytes)) (sym none.0) cuts)
      | in-Refused w ↦ subst (λ fs. Cuts bytes fs.items (drop at bytes)) (sym w.frames-is) cuts
    ]

pub returns-in-loop-tag-clause-end : goal.returns-in-loop-tag-clause-end
returns-in-loop-tag-clause-end c =
    let bytes = c.args.bytes.now in
    let at = c.loop-tag.len in
    let there = ap look (sym (rest bytes at)) in
    elim c.match-head_of.branch [
      | in-Unfinished w ↦ there ∙ sym w.in-Unfinished.ensures.start ∙ ap start_with (sym w.flaw-is)
      | in-Whole+in_ok-push_frame-in-Whole+else-branch w ↦
          let body = w.in-Whole.body.now in
          let none = not_pushed bytes at (length body) (frame_of w.in-Whole.tag body) c.loop-tag.frames.items w.push_frame.new.frames.items w.in_ok-push_frame-in-Whole.field-0 w.if-branch.false w.in_ok-push_frame-in-Whole.ensures w.in-Whole.ensures.start in
          none.1 ∙ ap start_with (sym w.flaw-is)
      | in-Refused w ↦ there ∙ sym w.in-Refused.ensures.start ∙ ap start_with (sym w.flaw-is)
    ]
