use Rattle.daemon_tests.proofs.item_tests.ran.Given as goal

abbrev pub ghosts-add_counted-U-Ledger : goal.ghosts-add_counted-U-Ledger
ghosts-add_counted-U-Ledger g a = record { name = a.blanks.0.name; parts = a.blanks.0.parts }

abbrev pub ghosts-add_counted-F-Ledger : goal.ghosts-add_counted-F-Ledger
ghosts-add_counted-F-Ledger g a = record { name = a.blanks.1.name; parts = a.blanks.1.parts }

-- each unit may ask for any daemon
abbrev pub ghosts-add_counted-U-ReservationLedger : goal.ghosts-add_counted-U-ReservationLedger
ghosts-add_counted-U-ReservationLedger g a = record { asks = λ unit asked. Unit {0} }
