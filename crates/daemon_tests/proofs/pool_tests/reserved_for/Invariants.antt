use Rattle.daemon_tests.proofs.pool_tests.reserved_for.Given as goal

abbrev pub ghosts-work_at_once-U-Ledger : goal.ghosts-work_at_once-U-Ledger
ghosts-work_at_once-U-Ledger g a = record { name = a.blanks.0.name; parts = a.blanks.0.parts }

abbrev pub ghosts-work_at_once-F-Ledger : goal.ghosts-work_at_once-F-Ledger
ghosts-work_at_once-F-Ledger g a = record { name = a.blanks.1.name; parts = a.blanks.1.parts }

-- each unit may ask for any daemon
abbrev pub ghosts-work_at_once-U-ReservationLedger : goal.ghosts-work_at_once-U-ReservationLedger
ghosts-work_at_once-U-ReservationLedger g a = record { asks = λ unit asked. Unit {0} }
