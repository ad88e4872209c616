use Rattle.std.proofs.Common.{append_assoc}
use Rattle.file_access.proofs.lemmas.Telling.{adds_as, adds_then}
use Rattle.run_picture.specs.LockRows.{lock_rows_text}
use Rattle.run_picture.proofs.lock_rows.write_locks.Goals as goal

pub returns : goal.returns
unfolding lock_rows_text
returns g c = adds_as (simp append_assoc) (adds_then (adds_then (adds_then c.write_lock_names.ensures c.write_all_parked.ensures) c.write_all_owned.ensures) c.write_folded.ensures)
