use Rattle.memory_budget_tests.specs.declared.run_tests.TheConstants.{BUDGET_MB}
use Rattle.memory_budget_tests.proofs.run_tests.run_all_counted.Given as goal

abbrev pub ghosts-run_all-U-BudgetLedger : goal.ghosts-run_all-U-BudgetLedger
ghosts-run_all-U-BudgetLedger g a = record { budget_mb = BUDGET_MB }

abbrev pub ghosts-run_all-U-Ledger : goal.ghosts-run_all-U-Ledger
ghosts-run_all-U-Ledger g a = record { name = a.blanks.reserved.name; parts = a.blanks.reserved.parts }

abbrev pub ghosts-run_all-F-Ledger : goal.ghosts-run_all-F-Ledger
ghosts-run_all-F-Ledger g a = record { name = a.blanks.failed.name; parts = a.blanks.failed.parts }
