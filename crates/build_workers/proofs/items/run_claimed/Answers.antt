use Rattle.std.proofs.Common.{refl}
use Rattle.item_work.specs.Requests.{request_for}
use Rattle.plan_reader.specs.PlanView.{work_view}
use Rattle.plan_reader.specs.Units.{item_unit}
use Rattle.build_workers.specs.Sent.{sent_view}
use Rattle.build_workers.proofs.Failing.{fails_for}
use Rattle.build_workers.proofs.Sending.{of_item}
use Rattle.build_workers.proofs.Stepping.{honest_at, ran_from}
use Rattle.build_workers.proofs.Tallied.{reserves_for}
use Rattle.build_workers.proofs.items.run_claimed.Goals as goal

pub returns-clause-ran : goal.returns-clause-ran
returns-clause-ran g c =
    let ran = c.run_item-outcome.ensures in
    let work = c.item-work.result.now in
    let unit = c.args.unit in
    let outcome = c.run_item-outcome.result.outcome in
    let units = c.args.site.now.units in
    let old = c.worker.inside in
    let before = sent_view g.T.Desk.Desk.sends g.T.Desk.Desk.sent old.desk in
    let after = sent_view g.T.Desk.Desk.sends g.T.Desk.Desk.sent c.run_item-outcome.new.desk in
    ran_from c.worker.view_is (record {
      pass = refl;
      watcher = refl;
      ran = record {
        files = ran.files;
        ran = ran.ran;
        counted = ran.faults;
        honest = honest_at units (item_unit (work_view work)) outcome (g.T.Desk.Files.files old.desk) unit c.item-work.ensures.unit ran.honest;
        sent = of_item units work (record { unit = unit; outcome = outcome }) before after c.item-work.ensures.unit ran.sent;
      };
      reserved = reserves_for work.isolation old.tally c.run_item-outcome.new.mine before after (request_for unit work) outcome ran.sent ran.counted;
      failed = fails_for work.isolation old.tally c.run_item-outcome.new.mine (g.T.Desk.Desk.sends old.desk) (g.T.Desk.Desk.sends c.run_item-outcome.new.desk) outcome ran.counted;
    })
