use Rattle.run_picture.specs.Picture.{legend_text}
use Rattle.run_picture.proofs.picture.write_legend.Goals as goal

pub returns : goal.returns
unfolding legend_text
returns g c = c.text.ensures
