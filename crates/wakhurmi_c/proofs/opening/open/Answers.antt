use Rattle.std.proofs.Common.{◌≡◌, length, arith, sym, ◌∙◌}
use Rattle.std.proofs.lemmas.List.{length-map}
use Rattle.wakhurmi_c.proofs.Counting.{opened_len}
use Rattle.wakhurmi_c.proofs.opening.open.Goals as goal

pub fill-requires-clause-len : goal.fill-requires-clause-len
fill-requires-clause-len c = sym (length-map c.in-Ok-open_workers.workers.items (λ w. w.value.pass)) ∙ opened_len _ _ _ _ _ c.in-Ok-open_workers.ensures.opened

pub fill-requires-clause-room : goal.fill-requires-clause-room
fill-requires-clause-room c =
    let len : length c.in-Ok-open_workers.workers.items ≡ length c.args.handles.now = sym (length-map c.in-Ok-open_workers.workers.items (λ w. w.value.pass)) ∙ opened_len _ _ _ _ _ c.in-Ok-open_workers.ensures.opened in
    omega (arith, len, c.in-Ok.ensures.capacity)
