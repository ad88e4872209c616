use Rattle.memory_budget_tests.proofs.scene_tests.plays_counted.Given as goal

abbrev pub ghosts-plays-U-BudgetLedger : goal.ghosts-plays-U-BudgetLedger
ghosts-plays-U-BudgetLedger g a = record { budget_mb = a.scene.now.budget_mb }

abbrev pub ghosts-plays-U-Ledger : goal.ghosts-plays-U-Ledger
ghosts-plays-U-Ledger g a = record { name = a.blanks.reserved.name; parts = a.blanks.reserved.parts }

abbrev pub ghosts-plays-F-Ledger : goal.ghosts-plays-F-Ledger
ghosts-plays-F-Ledger g a = record { name = a.blanks.failed.name; parts = a.blanks.failed.parts }
