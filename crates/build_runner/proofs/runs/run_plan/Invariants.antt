use Rattle.plan_reader.specs.Units.{plan_units}
use Rattle.build_workers.specs.Units.{AsksFor}
use Rattle.build_runner.proofs.runs.run_plan.Given as goal

-- each unit of the plan may ask for what it asks for
abbrev pub ghosts-run_counted-U-ReservationLedger : goal.ghosts-run_counted-U-ReservationLedger
ghosts-run_counted-U-ReservationLedger g a = record { asks = AsksFor (plan_units a.input.now.plan.now) }

abbrev pub ghosts-run_counted-U-Ledger : goal.ghosts-run_counted-U-Ledger
ghosts-run_counted-U-Ledger g a = record { name = a.reserved.name; parts = a.reserved.parts }

abbrev pub ghosts-run_counted-F-Ledger : goal.ghosts-run_counted-F-Ledger
ghosts-run_counted-F-Ledger g a = record { name = a.failed.name; parts = a.failed.parts }
