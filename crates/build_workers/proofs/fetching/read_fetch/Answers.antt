use Rattle.plan_reader.specs.Units.{fetch_unit}
use Rattle.build_workers.proofs.Sending.{of_fetch}
use Rattle.build_workers.proofs.Stepping.{honest_at}
use Rattle.build_workers.proofs.lemmas.SentViews.{same_view}
use Rattle.build_workers.proofs.fetching.read_fetch.Goals as goal

-- A desk may move to another thread, so its laws hold wherever a thread runs: here they are taken where this one does.
pub returns-clause-ran : goal.returns-clause-ran
returns-clause-ran g c =
    let ran = c.work_out.ensures in
    let unit = c.args.unit in
    let file = c.fetch.result.now in
    let none = (g.met.T.Desk.Desk g.world.𝓛 g.world.𝓜 g.world.𝓡 ((λ s x. x), (λ x. x), (λ x. x), λ x. x)).reads_send_nothing c.args.desk.now c.work_out.new.files ran.keeps in record {
      files = ran.files;
      ran = ran.ran;
      counted = ran.counted;
      honest = honest_at c.args.site.now.units (fetch_unit file) c.work_out.result (g.T.Desk.Files.files c.args.desk.now) unit c.fetch.ensures ran.honest;
      sent = of_fetch c.args.site.now.units (record { unit = unit; outcome = c.work_out.result }) (file, c.fetch.ensures) (same_view none.0 none.1);
    }

pub returns-clause-sends : goal.returns-clause-sends
returns-clause-sends g c = ((g.met.T.Desk.Desk g.world.𝓛 g.world.𝓜 g.world.𝓡 ((λ s x. x), (λ x. x), (λ x. x), λ x. x)).reads_send_nothing c.args.desk.now c.work_out.new.files c.work_out.ensures.keeps).0
