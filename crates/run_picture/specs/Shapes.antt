-- Rectangles, lines and words of an SVG.
use Rattle.std.specs.Prelude.{ℕ, ◌%◌, List, ◌++◌, codes, decimal}
use Rattle.run_picture.specs.declared.shapes.Area.{Area}

abbrev pub number_words : List ℕ → ℕ → List ℕ
number_words word n = word ++ decimal n

abbrev pub area_text : Area → List ℕ
area_text a =
    number_words (codes "\" x=\"") a.x ++ number_words (codes "\" y=\"") a.y
    ++ number_words (codes "\" width=\"") a.width ++ number_words (codes "\" height=\"") a.height ++ codes "\""

-- a class in a worker's hue: there are eight
abbrev pub hued : List ℕ → ℕ → List ℕ
hued class w = class ++ decimal (w % 8)

-- a rectangle whose end, or title, follows
abbrev pub rect_begin : List ℕ → Area → List ℕ
rect_begin class a = codes "<rect class=\"" ++ class ++ area_text a

abbrev pub rect_text : List ℕ → Area → List ℕ
rect_text class a = rect_begin class a ++ codes "/>\n"

abbrev pub titled : List ℕ → Area → List ℕ → List ℕ
titled class a title = rect_begin class a ++ codes "><title>" ++ title ++ codes "</title></rect>\n"

abbrev pub text_begin : List ℕ → ℕ → ℕ → List ℕ
text_begin class x y = codes "<text class=\"" ++ class ++ number_words (codes "\" x=\"") x ++ number_words (codes "\" y=\"") y ++ codes "\">"

abbrev pub label : List ℕ → ℕ → ℕ → List ℕ → List ℕ
label class x y words = text_begin class x y ++ words ++ codes "</text>\n"

abbrev pub label_number : List ℕ → ℕ → ℕ → List ℕ → ℕ → List ℕ
label_number class x y word n = text_begin class x y ++ number_words word n ++ codes "</text>\n"

-- a line down, and one to the right
abbrev pub down : List ℕ → ℕ → ℕ → ℕ → List ℕ
down class x top bottom =
    codes "<path class=\"" ++ class ++ number_words (codes "\" d=\"M") x ++ number_words (codes " ") top
    ++ number_words (codes "V") bottom ++ codes "\"/>\n"

abbrev pub across : List ℕ → ℕ → ℕ → ℕ → List ℕ
across class x y right =
    codes "<path class=\"" ++ class ++ number_words (codes "\" d=\"M") x ++ number_words (codes " ") y
    ++ number_words (codes "H") right ++ codes "\"/>\n"
