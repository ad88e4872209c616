-- What is read of a TOML value, and what is read in place of one of another type.
use Rattle.std.specs.Prelude.{ℤ, Bool, false, ◌&&◌, List, [], ◌∷◌, map, Option, Some, None, is_some, option_and_then}
use Rattle.std.specs.List.{list_any, list_all}
use Rattle.std.specs.Option.{option_map_or}
use Rattle.std.specs.Str.{bytes_eq}
use Rattle.toml.specs.Data.{Data, Items, no_items, item, Members, no_members, member, as_str, as_integer, as_bool, as_array, as_table, get}
use Rattle.plan_table.specs.Forms.{Text}

-- ---- lists and texts

-- the members of an array
abbrev pub list_of : Items → List Data
list_of no_items = []
list_of (item d ds) = d ∷ list_of ds

-- the members of a value that is an array, and none of another or of no value
abbrev pub elements : Option Data → List Data
elements None = []
elements (Some d) = option_map_or list_of (as_array d) []

-- the text, and the empty text in place of another value
abbrev pub text_of : Data → Text
text_of d = option_map_or (λ s. s) (as_str d) []

-- the same of a value that may be absent, where the empty text stands for none
abbrev pub text_or_empty : Option Data → Text
text_or_empty None = []
text_or_empty (Some d) = text_of d

-- the texts of the array
abbrev pub texts_of : Data → List Text
texts_of d = map text_of (elements (Some d))

-- what stands under a key: the members of the array, the text, and the texts of the array
abbrev pub list_at : Text → Data → List Data
list_at key d = elements (get key d)

abbrev pub text_at : Text → Data → Text
text_at key d = text_or_empty (get key d)

abbrev pub texts_at : Text → Data → List Text
texts_at key d = map text_of (list_at key d)

-- the text under a key, if one stands there
abbrev pub optional_text_at : Text → Data → Option Text
optional_text_at key d = option_and_then as_str (get key d)

-- ---- values that have a default

abbrev pub text_or : Text → Option Data → Text
text_or default o = option_map_or text_of o default

abbrev pub integer_or : ℤ → Option Data → ℤ
integer_or default None = default
integer_or default (Some d) = option_map_or (λ z. z) (as_integer d) default

abbrev pub boolean_or : Bool → Option Data → Bool
boolean_or default None = default
boolean_or default (Some d) = option_map_or (λ b. b) (as_bool d) default

-- ---- tables

-- the keys of a table
abbrev pub keys_of : Members → List Text
keys_of no_members = []
keys_of (member k d ms) = k ∷ keys_of ms

-- the keys of a table, each with its text
abbrev pub pairs_of : Members → List (Text × Text)
pairs_of no_members = []
pairs_of (member k d ms) = (k, text_of d) ∷ pairs_of ms

-- the values of a table
abbrev pub values_of : Members → List Data
values_of no_members = []
values_of (member k d ms) = d ∷ values_of ms

-- the pairs of a value that is a table, and none of another or of no value
abbrev pub table_pairs : Option Data → List (Text × Text)
table_pairs None = []
table_pairs (Some d) = option_map_or pairs_of (as_table d) []

-- what stands under a key: the pairs of the table, in the order of the bytes of their names, in which toml keeps them
abbrev pub pairs_at : Text → Data → List (Text × Text)
pairs_at key d = table_pairs (get key d)

-- ---- tests

abbrev pub is_text : Data → Bool
is_text d = is_some (as_str d)

abbrev pub is_integer : Data → Bool
is_integer d = is_some (as_integer d)

abbrev pub is_boolean : Data → Bool
is_boolean d = is_some (as_bool d)

abbrev pub is_array : Data → Bool
is_array d = is_some (as_array d)

abbrev pub is_table : Data → Bool
is_table d = is_some (as_table d)

abbrev pub is_array_of_texts : Data → Bool
is_array_of_texts d = is_array d && list_all is_text (elements (Some d))

abbrev pub is_table_of_texts : Data → Bool
is_table_of_texts d = option_map_or (λ ms. list_all is_text (values_of ms)) (as_table d) false

abbrev pub is_among : List Text → Text → Bool
is_among words t = list_any (λ x. bytes_eq x t) words

-- the text is one of these words, none of which is empty
abbrev pub is_word : List Text → Data → Bool
is_word words d = is_among words (text_of d)
