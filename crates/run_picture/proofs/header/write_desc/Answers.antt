use Rattle.file_access.proofs.lemmas.Telling.{adds_then}
use Rattle.run_picture.specs.Header.{desc_text}
use Rattle.run_picture.proofs.header.write_desc.Goals as goal

pub returns : goal.returns
unfolding desc_text
returns g c = adds_then (adds_then (adds_then (adds_then (adds_then c.write_number.ensures c.write_number-2.ensures) c.text.ensures) c.write_yes_no.ensures) c.write_lock_count.ensures) c.text-2.ensures
