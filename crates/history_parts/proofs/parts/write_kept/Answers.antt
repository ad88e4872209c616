use Rattle.std.proofs.Common.{◌≡◌, ◌+◌, ◌-◌, ◌≤◌, drop, length, take, ap, arith}
use Rattle.std.proofs.lemmas.List.{length-drop, take_all}
use Rattle.file_access.proofs.lemmas.Telling.{adds_as, adds_nothing}
use Rattle.lock_journal.specs.Shown.{entry_shown}
use Rattle.history_text.specs.Text.{entry_text, numbered}
use Rattle.history_parts.proofs.Behind.{adds_behind, slice_get_behind}
use Rattle.history_parts.proofs.parts.write_kept.Goals as goal

pub loop-place-init : goal.loop-place-init
loop-place-init g c =
    let n = c.args.book.now.given in
    let none : 0 ≡ c.given-place.result - n = omega arith in
    record {
      behind = omega arith;
      text = adds_as (ap (λ k. numbered entry_text (n + 1) (take k (drop n c.args.book.now.history))) none) (adds_nothing (g.K.Sink.seen c.args.sink.now) c.args.page.now);
    }

pub loop-place-preserved : goal.loop-place-preserved
loop-place-preserved g c =
    let n = c.args.book.now.given in
    let h = c.args.book.now.history in
    let place = c.loop-place.place in
    let e = entry_shown c.entry.result in
    record {
      behind = omega arith;
      text = adds_behind entry_text n (drop n h) place e c.loop-place.invariant.behind (slice_get_behind n h place e c.loop-place.invariant.behind c.entry.ensures.shown) c.loop-place.invariant.text c.write_entry.ensures;
    }

pub returns : goal.returns
returns g c =
    let n = c.args.book.now.given in
    let h = c.args.book.now.history in
    let whole : length (drop n h) ≤ c.loop-place.place - n = omega (arith, length-drop n h) in
    adds_as (ap (numbered entry_text (n + 1)) (take_all (c.loop-place.place - n) (drop n h) whole)) c.loop-place.invariant.text
