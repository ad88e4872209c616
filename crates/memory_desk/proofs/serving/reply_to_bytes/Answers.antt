use Rattle.std.proofs.Common.{Some, sym, ap, refl, ◌∙◌}
use Rattle.std.proofs.lemmas.Result.{IfOk-weaker}
use Rattle.item_actions.specs.Value.{IsHonest, value_on}
use Rattle.daemon_protocol.specs.StreamStart.{look}
use Rattle.daemon_protocol.specs.declared.frames.Reply.{Reply}
use Rattle.memory_files.specs.Memory.{MemorySinkView, MemorySourceView}
use Rattle.memory_desk.proofs.Honesty.{honest_reply}
use Rattle.memory_desk.proofs.Told.{is_reply, told_in}
use Rattle.memory_desk.proofs.serving.reply_to_bytes.Goals as goal

pub returns-in-Done-clause-reply : goal.returns-in-Done-clause-reply
returns-in-Done-clause-reply c = λ q bytes_are valid fits unit_is keep_is.
    let files = c.args.files.now in
    let given = ap (λ (s : MemorySourceView). s.left) c.new-source.ensures in
    let none = ap (λ (s : MemorySinkView). s.bytes) c.in_ok-sink.ensures in
    let looked = ap look (sym c.taken.ensures) in
    is_reply (Some files) q c.reply_in.result (IfOk-weaker c.reply_in.result _ _ (λ r is. is ∙ unit_is) c.reply_in.ensures.unit)
    (IfOk-weaker c.reply_in.result _ _ (λ r is. is ∙ keep_is) c.reply_in.ensures.keep) c.reply_in.ensures.ran c.reply_in.ensures.worked
    (told_in (λ (x : Reply). IsHonest x.outcome (value_on files q.action q.file)) c.taken.result.now c.reply_in.result c.reply_in.ensures.stands
    (λ x n whole. honest_reply c.spelled_frames_are_read.ensures files q _ _ _ x n valid fits refl (given ∙ bytes_are) refl none refl refl c.in-Done.ensures.served (looked ∙ whole)))
