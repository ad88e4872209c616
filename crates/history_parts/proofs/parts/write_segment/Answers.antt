use Rattle.std.proofs.Common.{◌≡◌, ◌+◌, ◌-◌, ◌≤◌, length, take, Some, sym, ap, ◌∙◌, arith}
use Rattle.std.specs.List.{slice_get}
use Rattle.std.proofs.lemmas.List.{take_all}
use Rattle.file_access.proofs.lemmas.Telling.{adds_as, adds_nothing}
use Rattle.lock_journal.specs.Shown.{entry_shown}
use Rattle.history_text.specs.Text.{entry_text, numbered}
use Rattle.history_parts.proofs.Behind.{adds_behind}
use Rattle.history_parts.proofs.parts.write_segment.Goals as goal

pub loop-place-init : goal.loop-place-init
loop-place-init g c =
    let none : 0 ≡ c.before-start.result - c.args.segment.now.before = omega arith in
    record {
      behind = omega arith;
      text = adds_as (ap (λ k. numbered entry_text (c.args.segment.now.before + 1) (take k c.args.segment.now.entries)) none) (adds_nothing (g.K.Sink.seen c.args.sink.now) c.args.page.now);
    }

pub loop-place-preserved : goal.loop-place-preserved
loop-place-preserved g c =
    let n = c.args.segment.now.before in
    let es = c.args.segment.now.entries in
    let place = c.loop-place.place in
    let here : slice_get es (place - n) ≡ Some (entry_shown c.entry.result) = ap (λ k. slice_get es (place - k)) (sym c.before-start.ensures.value) ∙ c.entry.ensures.shown in
    record {
      behind = omega arith;
      text = adds_behind entry_text n es place (entry_shown c.entry.result) c.loop-place.invariant.behind here c.loop-place.invariant.text c.write_entry.ensures;
    }

pub returns : goal.returns
returns g c =
    let whole : length c.args.segment.now.entries ≤ c.loop-place.place - c.args.segment.now.before = omega arith in
    adds_as (ap (numbered entry_text (c.args.segment.now.before + 1)) (take_all (c.loop-place.place - c.args.segment.now.before) c.args.segment.now.entries whole)) c.loop-place.invariant.text
