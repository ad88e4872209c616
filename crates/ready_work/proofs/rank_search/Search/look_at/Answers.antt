use Rattle.std.proofs.Common.{◌<◌, length, refl}
use Rattle.std.proofs.lemmas.List.{length-map}
use Rattle.ready_work.specs.Rank.{lists_of}
use Rattle.ready_work.proofs.Marking.{marks_from, sound_marked, looks_marked}
use Rattle.ready_work.proofs.rank_search.Search.look_at.Goals as goal

pub returns-in_ok-push-clause-sound : goal.returns-in_ok-push-clause-sound
returns-in_ok-push-clause-sound c =
    let here : c.args.task < length (lists_of c.args.rows.now) = rw (length-map c.args.rows.now (λ row. row.items)) c.requires.task in
    sound_marked _ c.args.self.now _ c.args.task c.first_open-place.result c.requires.range c.requires.sound
    (marks_from _ c.args.self.now _ c.args.task c.first_open-place.result c.names_of-names.result.now c.as_slice.result.now c.index-2.result.now c.index.result.now here c.index.ensures c.if-index.false
    c.index-2.ensures c.requires.sound.places c.names_of-names.ensures c.as_slice.ensures.value c.if-place-names.true c.first_open-place.ensures.passed refl refl c.in_ok-push.ensures.items)

pub returns-in_ok-push-clause-looks : goal.returns-in_ok-push-clause-looks
returns-in_ok-push-clause-looks c =
    let here : c.args.task < length (lists_of c.args.rows.now) = rw (length-map c.args.rows.now (λ row. row.items)) c.requires.task in
    looks_marked _ c.args.self.now _ c.args.task c.first_open-place.result c.requires.range c.requires.sound
    (marks_from _ c.args.self.now _ c.args.task c.first_open-place.result c.names_of-names.result.now c.as_slice.result.now c.index-2.result.now c.index.result.now here c.index.ensures c.if-index.false
    c.index-2.ensures c.requires.sound.places c.names_of-names.ensures c.as_slice.ensures.value c.if-place-names.true c.first_open-place.ensures.passed refl refl c.in_ok-push.ensures.items)
