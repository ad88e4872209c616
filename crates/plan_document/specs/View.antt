-- What a `Value` is to `toml`'s definitions.
use Rattle.std.specs.Prelude.{List, [], ◌∷◌, map, String, Vec, string_bytes}
use Rattle.std.specs.declared.alloc.Global.{Global}
use Rattle.toml.specs.Data.{Data, string, integer, float, boolean, datetime, array, table, Items, no_items, item, Members, no_members, member}
use Rattle.plan_document.specs.declared.values.Value.{Value, fold-Value}
use Rattle.plan_document.specs.declared.values.Value.TheOpen.{Value-F}

-- what stands in an array
abbrev pub in_array : List Data → Items
in_array [] = no_items
in_array (d ∷ ds) = item d (in_array ds)

-- what stands in a table
abbrev pub in_table : List (String Global × Data) → Members
in_table [] = no_members
in_table (e ∷ es) = member (string_bytes e.0) e.1 (in_table es)

-- a value, where those below it are seen already
abbrev pub seen_above : Value-F Data → Data
seen_above (Value-F.Table entries) = table (in_table entries.items)
seen_above (Value-F.Array items) = array (in_array items.items)
seen_above (Value-F.Datetime time) = datetime time
seen_above (Value-F.Boolean says) = boolean says
seen_above (Value-F.Float number) = float number
seen_above (Value-F.Integer number) = integer number
seen_above (Value-F.String text) = string (string_bytes text)

abbrev pub view : Value → Data
view = fold-Value Data seen_above

abbrev pub items_view : List Value → Items
items_view values = in_array (map view values)

abbrev pub members_view : List (String Global × Value) → Members
members_view entries = in_table (map (λ e. (e.0, view e.1)) entries)

abbrev pub array_view : Vec Value Global → Items
array_view values = items_view values.items

abbrev pub table_view : Vec (String Global × Value) Global → Members
table_view entries = members_view entries.items
