use Rattle.std.proofs.Common.{◌≡◌, ◌+◌, ◌∷◌, [], ℕ, List, sym, ap, ◌∙◌, subst, arith, length, length-append}
use Rattle.worker_notes.specs.Parts.{ArePartsFrom, IsPartOf}
use Rattle.worker_notes.specs.declared.parts.WorkerPart.{WorkerPart}
use Rattle.worker_notes.proofs.lemmas.Nothing.{fresh_part, parts_push}
use Rattle.coordination.proofs.openings.parts_of.Goals as goal

pub loop-worker-preserved : goal.loop-worker-preserved
loop-worker-preserved c =
    let book = c.args.book.now in
    let part = c.in_ok-fresh.field-0 in
    let parts : List WorkerPart = c.loop-worker.parts.items in
    let count = c.loop-worker.invariant.0 in
    let items = c.in_ok-push.ensures.items in
    let long : length c.push.new.self.items ≡ length parts + 1 = ap (λ (l : List WorkerPart). length l) items ∙ length-append parts (part ∷ []) in
    let fresh = c.in_ok-fresh.ensures in
    let mine = fresh_part book (record { 0 = c.loop-worker.worker }) _ part c.requires.rest fresh c.last_number-last.ensures in
    let here : IsPartOf book (record { 0 = 0 + length parts }) part = subst (λ (n : ℕ). IsPartOf book (record { 0 = n }) part) (omega (arith, count)) mine in (
      omega (arith, long, count),
      subst (ArePartsFrom 0 book) (sym items) (parts_push 0 book parts part here fresh.has_room c.loop-worker.invariant.1),
    )
