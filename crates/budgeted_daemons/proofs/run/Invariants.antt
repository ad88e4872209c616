use Rattle.budgeted_daemons.proofs.run.Given as goal
use Rattle.budgeted_daemons.specs.declared.TheConstants.{BUDGET_MB}

abbrev pub ghosts-run_counted-U-BudgetLedger : goal.ghosts-run_counted-U-BudgetLedger
ghosts-run_counted-U-BudgetLedger g a = record { budget_mb = BUDGET_MB }

abbrev pub ghosts-run_counted-U-Ledger : goal.ghosts-run_counted-U-Ledger
ghosts-run_counted-U-Ledger g a = record { name = a.reserved.name; parts = a.reserved.parts }

abbrev pub ghosts-run_counted-F-Ledger : goal.ghosts-run_counted-F-Ledger
ghosts-run_counted-F-Ledger g a = record { name = a.failed.name; parts = a.failed.parts }
