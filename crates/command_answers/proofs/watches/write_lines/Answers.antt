use Rattle.std.proofs.Common.{◌∙◌, ◌++◌, ◌∷◌, [], List, ap, append-nil, sym, take}
use Rattle.std.specs.List.{flat_map}
use Rattle.std.proofs.lemmas.List.Concat.{flat_map-append}
use Rattle.std.proofs.lemmas.Option.{slice_get-get_or}
use Rattle.file_access.proofs.lemmas.Telling.{adds_as, adds_then}
use Rattle.history_text.proofs.lemmas.Numbering.{take_next}
use Rattle.run_watch.specs.declared.boards.Watch.{Watch}
use Rattle.command_answers.specs.Watches.{watch_text}
use Rattle.command_answers.proofs.watches.write_lines.Goals as goal

pub loop-watch-preserved : goal.loop-watch-preserved
loop-watch-preserved g c =
    let i = c.loop-watch.watch-index in
    let ws : List Watch = c.args.watches.now in
    let next = take_next ws i _ (slice_get-get_or ws i _ c.loop-watch-test.true) in
    let text = ap (flat_map watch_text) next ∙ (flat_map-append watch_text (take i ws) (_ ∷ []) ∙ ap (λ l. flat_map watch_text (take i ws) ++ l) (append-nil (watch_text _))) in
    adds_as (sym text) (adds_then c.loop-watch.invariant c.write_watch.ensures)
