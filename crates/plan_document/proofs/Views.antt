-- What values and nodes are to `toml`'s definitions, one level at a time.
use Rattle.std.proofs.Common.{◌≡◌, ◌+◌, ◌≤◌, List, [], ◌∷◌, ◌++◌, map, String, Vec, BTreeMap, Global, string_bytes, refl, ap, sym, ◌∙◌, rules, arith}
use Rattle.std.proofs.lemmas.List.{map-append}
use Rattle.toml.proofs.Views.{node_size, nodes_size}
use Rattle.toml.specs.Data.{Data, array, item, member, push_item, string, table}
use Rattle.toml.specs.Tables.{close, close_node, open_array, open_table}
use Rattle.plan_document.specs.Reading.{entries_view, node_view, nodes_view, origin_view}
use Rattle.plan_document.specs.View.{array_view, in_table, items_view, members_view, view}
use Rattle.plan_document.specs.declared.nodes.Node.{Node as CodeNode, Table as TableNode, Tables, the_lemmas as node_lemmas}
use Rattle.plan_document.specs.declared.nodes.Origin.{Origin}
use Rattle.plan_document.specs.declared.values.Value.{Value, Array, Table, String as Text, the_lemmas}

abbrev pub Entry : Type 0
Entry = String Global × Value

abbrev pub NodeEntry : Type 0
NodeEntry = String Global × CodeNode

pub view-String : (text : String Global) → view (Text text) ≡ string (string_bytes text)
view-String text = search (rules, the_lemmas)

pub view-Array : (items : Vec Value Global) → view (Array items) ≡ array (array_view items)
view-Array items = search (rules, the_lemmas)

pub view-Table : (entries : Vec Entry Global) → view (Table entries) ≡ table (members_view entries.items)
view-Table entries = search (rules, the_lemmas)

pub node_view-Table : (origin : Origin) (entries : BTreeMap (String Global) CodeNode) → node_view (TableNode origin entries) ≡ open_table (origin_view origin) (nodes_view entries)
node_view-Table origin entries = search (rules, node_lemmas)

pub node_view-Tables : (complete : Vec Value Global) (last : BTreeMap (String Global) CodeNode) → node_view (Tables complete last) ≡ open_array (array_view complete) (nodes_view last)
node_view-Tables complete last = search (rules, node_lemmas)

pub items_view-push : (before : List Value) (last : Value) → items_view (before ++ last ∷ []) ≡ push_item (items_view before) (view last)
items_view-push [] last = refl
items_view-push (first ∷ before) last = ap (item (view first)) (items_view-push before last)

-- an entry as it is once the text is read
abbrev pub closed_entry : NodeEntry → String Global × Data
closed_entry e = (e.0, close_node (node_view e.1))

-- Nodes are closed one by one.
pub close_each : (es : List NodeEntry) → close (entries_view es) ≡ in_table (map closed_entry es)
close_each [] = refl
close_each (e ∷ es) = ap (member (string_bytes e.0) (close_node (node_view e.1))) (close_each es)

-- An entry behind the same entries.
pub one_more : (values : List Entry) (nodes : List NodeEntry) (e : NodeEntry) (v : Value) → map (λ x. (x.0, view x.1)) values ≡ map closed_entry nodes → view v ≡ close_node (node_view e.1)
    → map (λ x. (x.0, view x.1)) (values ++ (e.0, v) ∷ []) ≡ map closed_entry (nodes ++ e ∷ [])
one_more values nodes e v same is =
    map-append {B = String Global × Data} (λ x. (x.0, view x.1)) values ((e.0, v) ∷ [])
    ∙ ap (λ d. map (λ x. (x.0, view x.1)) values ++ (e.0, d) ∷ []) is
    ∙ ap (λ es. es ++ closed_entry e ∷ []) same
    ∙ sym (map-append closed_entry nodes (e ∷ []))

-- A node is no larger than the nodes it stands among.
pub node_size-among : (before behind : List NodeEntry) (e : NodeEntry) → node_size (node_view e.1) ≤ nodes_size (entries_view (before ++ e ∷ behind))
node_size-among [] behind e = omega arith
node_size-among (first ∷ before) behind e = omega (arith, node_size-among before behind e)
