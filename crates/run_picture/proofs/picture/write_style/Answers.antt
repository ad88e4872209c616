use Rattle.file_access.proofs.lemmas.Telling.{adds_then}
use Rattle.run_picture.specs.Picture.{style_text}
use Rattle.run_picture.proofs.picture.write_style.Goals as goal

pub returns : goal.returns
unfolding style_text
returns g c = adds_then c.text.ensures c.text-2.ensures
