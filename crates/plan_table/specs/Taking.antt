-- What is left of a table when a value is taken out of it.
use Rattle.std.specs.Prelude.{◌≡◌, false}
use Rattle.std.specs.Str.{bytes_eq}
use Rattle.toml.specs.Data.{Data, get}
use Rattle.plan_table.specs.Forms.{Text}

-- under each key but this one stands what stood there
abbrev pub KeepsOthers : Text → Data → Data → Type 0
KeepsOthers key old new = (other : Text) → bytes_eq key other ≡ false → get other new ≡ get other old
