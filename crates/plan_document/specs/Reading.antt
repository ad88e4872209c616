-- What the clauses of the reader's private functions cite.
use Rattle.std.specs.Prelude.{List, [], ◌∷◌, ℕ, map, String, Vec, string_bytes, Result}
use Rattle.std.specs.BTreeMap.{BTreeMap}
use Rattle.std.specs.declared.alloc.Global.{Global}
use Rattle.toml.specs.Parse.{keyval, read_map, val}
use Rattle.toml.specs.Tables.{Origin, implicit, dotted, header, Node, value, open_table, open_array, Nodes, no_nodes, node, Edit, Definition, Expression, key_value, std_table, array_table, define}
use Rattle.toml_parser.specs.Lexical.{Read}
use Rattle.toml_parser.specs.Reading.{Decodes, path_view, key_view}
use Rattle.toml_parser.specs.Strings.{recursion_limit}
use Rattle.toml_parser.specs.declared.error.ErrorKind.{ErrorKind}
use Rattle.toml_parser.specs.declared.key.Key as code_key
use Rattle.plan_document.specs.View.{view, array_view}
use Rattle.plan_document.specs.declared.nodes.Definition as code_definition
use Rattle.plan_document.specs.declared.nodes.Definition.TheVariants.{Pair, Table, Element}
use Rattle.plan_document.specs.declared.nodes.Node.{Node as CodeNode, fold-Node}
use Rattle.plan_document.specs.declared.nodes.Node.TheOpen.{Node-F}
use Rattle.plan_document.specs.declared.nodes.Origin as code_origin
use Rattle.plan_document.specs.declared.nodes.Origin.TheVariants.{Implicit, Dotted, Header}

abbrev pub origin_view : code_origin.Origin → Origin
origin_view Header = header
origin_view Dotted = dotted
origin_view Implicit = implicit

-- the entries of a map, by rising key
abbrev pub rising : List (String Global × Node) → Nodes
rising [] = no_nodes
rising (e ∷ es) = node (string_bytes e.0) e.1 (rising es)

-- a node, where those below it are seen already
abbrev pub seen_above : Node-F Node → Node
seen_above (Node-F.Tables complete last) = open_array (array_view complete) (rising last.entries)
seen_above (Node-F.Table origin entries) = open_table (origin_view origin) (rising entries.entries)
seen_above (Node-F.Value v) = value (view v)

abbrev pub node_view : CodeNode → Node
node_view = fold-Node Node seen_above

abbrev pub entries_view : List (String Global × CodeNode) → Nodes
entries_view es = rising (map (λ e. (e.0, node_view e.1)) es)

abbrev pub nodes_view : BTreeMap (String Global) CodeNode → Nodes
nodes_view nodes = entries_view nodes.entries

abbrev pub definition_view : code_definition.Definition → Definition
definition_view Table = std_table
definition_view Element = array_table
definition_view (Pair v) = key_value (view v)

abbrev pub expression_view : code_key.Key × code_definition.Definition → Expression
expression_view said = (key_view said.0, definition_view said.1)

-- a pair, as an expression
abbrev pub pair_expression : List ℕ → Read Expression
pair_expression text = read_map (λ pair. (pair.0, key_value pair.1)) (keyval (val recursion_limit) text)

-- the map is changed by the edit, or the edit refuses it, or memory ran out
abbrev pub Edits : BTreeMap (String Global) CodeNode → BTreeMap (String Global) CodeNode → Result (Unit {0}) ErrorKind → Edit → Type 0
Edits old new result edit = Decodes (λ _. nodes_view new) result (edit (nodes_view old))

-- the same of the root and the last header, at an expression
abbrev pub Defines : BTreeMap (String Global) CodeNode → Vec (String Global) Global → code_key.Key × code_definition.Definition
    → BTreeMap (String Global) CodeNode → Vec (String Global) Global → Result (Unit {0}) ErrorKind → Type 0
Defines root section said new_root new_section result =
    Decodes (λ _. (nodes_view new_root, path_view new_section.items)) result (define (nodes_view root, path_view section.items) (expression_view said))
