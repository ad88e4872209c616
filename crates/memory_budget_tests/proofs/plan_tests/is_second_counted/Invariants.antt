use Rattle.memory_budget_tests.specs.declared.plan_tests.TheConstants.{BUDGET_MB}
use Rattle.memory_budget_tests.proofs.plan_tests.is_second_counted.Given as goal

abbrev pub ghosts-is_second_worked_out-U-BudgetLedger : goal.ghosts-is_second_worked_out-U-BudgetLedger
ghosts-is_second_worked_out-U-BudgetLedger g a = record { budget_mb = BUDGET_MB }

abbrev pub ghosts-is_second_worked_out-U-Ledger : goal.ghosts-is_second_worked_out-U-Ledger
ghosts-is_second_worked_out-U-Ledger g a = record { name = a.blanks.reserved.name; parts = a.blanks.reserved.parts }

abbrev pub ghosts-is_second_worked_out-F-Ledger : goal.ghosts-is_second_worked_out-F-Ledger
ghosts-is_second_worked_out-F-Ledger g a = record { name = a.blanks.failed.name; parts = a.blanks.failed.parts }
