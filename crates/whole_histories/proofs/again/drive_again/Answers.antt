use Rattle.history_text.specs.HistoryView.{history_view}
use Rattle.history_check.specs.Driving.{ReadsFor}
use Rattle.history_check.proofs.Answering.{fits_plan, whole}
use Rattle.whole_histories.proofs.again.drive_again.Goals as goal

pub drive_admitted-requires : goal.drive_admitted-requires
drive_admitted-requires g c = fits_plan c.args.plan.now (history_view c.args.history.now) c.in_ok-admitted.admitted c.in_ok-admitted.ensures

pub returns-clause-again : goal.returns-clause-again
returns-clause-again g c =
    whole c.args.plan.now (g.F.Files.files c.args.files.now) (ReadsFor g.F.Files.keeps c.args.files.now c.drive_admitted.new.files) (history_view c.args.history.now) c.in_ok-admitted.admitted c.drive_admitted.result
    c.in_ok-admitted.ensures c.drive_admitted.ensures.gone_on
