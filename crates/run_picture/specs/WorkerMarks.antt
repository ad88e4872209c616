-- The second mark of a worker: white stripes over its bar.
use Rattle.std.specs.Prelude.{ℕ, ◌+◌, ◌*◌, ◌/◌, ◌%◌, nat_eq, max, Bool, List, [], ◌++◌, codes, if◌then◌else◌}
use Rattle.run_picture.specs.Shapes.{rect_text}
use Rattle.run_picture.specs.declared.shapes.Area.{Area}

abbrev pub upper_stripe : Area → Area
upper_stripe a = record { x = a.x; y = a.y + a.height / 4; width = a.width; height = max (a.height / 5) 1 }

abbrev pub lower_stripe : Area → Area
lower_stripe a = record { x = a.x; y = a.y + a.height * 5 / 8; width = a.width; height = max (a.height / 5) 1 }

abbrev pub stripe_where : Bool → Area → List ℕ
stripe_where is a = if is then rect_text (codes "z") a else []

-- none for the workers 0 to 7, the upper one for 8 to 15, the lower one for 16 to 23, and both for 24 to 31
abbrev pub marks_text : ℕ → Area → List ℕ
marks_text w a = stripe_where (nat_eq (w / 8 % 2) 1) (upper_stripe a) ++ stripe_where (nat_eq (w / 16 % 2) 1) (lower_stripe a)
