-- The place of a key in a map of nodes: what is found there, and what stands once it is written.
use Rattle.std.proofs.Common.{◌≡◌, ℕ, List, [], ◌∷◌, Option, Some, None, option_map, String, Global, BTreeMap, MutBor, Ordering, Less, Equal, Greater, string_bytes, nat_cmp, is_eq, inl, inr, refl, sym, ap, ◌∙◌}
use Rattle.std.proofs.lemmas.Bool.{cases_Bool}
use Rattle.std.specs.BTreeMap.{get_by, insert_entry, is_at}
use Rattle.std.specs.Cmp.Lexicographic.{slice_cmp}
use Rattle.std.specs.Map.{lookup, set_value}
use Rattle.std.specs.Option.{option_copied_mut}
use Rattle.std.specs.Ordering.{match_ordering}
use Rattle.std.specs.String.{string_cmp}
use Rattle.toml.specs.Tables.{get_node, insert, node, replace}
use Rattle.plan_document.specs.Reading.{entries_view, node_view, nodes_view}
use Rattle.plan_document.specs.declared.nodes.Node.{Node as CodeNode}
use Rattle.plan_document.proofs.Views.{NodeEntry}

-- how a text stands to a key
abbrev pub to_key : List ℕ → String Global → Ordering
to_key text key = slice_cmp nat_cmp text (string_bytes key)

found : (text : List ℕ) (es : List NodeEntry) → get_node text (entries_view es) ≡ option_map node_view (lookup (is_at (to_key text)) es)
found text [] = refl
found text (e ∷ es) =
    elim (cases_Bool (is_eq (to_key text e.0))) [
      | inl here ↦ rw here
      | inr further ↦ rw (further, found text es)
    ]

written : (text : List ℕ) (es : List NodeEntry) (new : CodeNode) → entries_view (set_value (is_at (to_key text)) es new) ≡ replace text (node_view new) (entries_view es)
written text [] new = refl
written text (e ∷ es) new =
    elim (cases_Bool (is_eq (to_key text e.0))) [
      | inl here ↦ rw here
      | inr further ↦ rw (further, written text es new)
    ]

pub inserted : (es : List NodeEntry) (key : String Global) (new : CodeNode) → entries_view (insert_entry string_cmp es key new) ≡ insert (string_bytes key) (node_view new) (entries_view es)
inserted [] key new = refl
inserted (e ∷ es) key new = by (string_cmp key e.0) _ _ (inserted es key new)
  where
    by : (o : Ordering) (behind : List NodeEntry) (expected : _) → entries_view behind ≡ expected
        → entries_view (match_ordering o ((key, new) ∷ e ∷ es) ((e.0, new) ∷ es) (e ∷ behind))
        ≡ match_ordering o (node (string_bytes key) (node_view new) (entries_view (e ∷ es))) (node (string_bytes e.0) (node_view new) (entries_view es)) (node (string_bytes e.0) (node_view e.1) expected)
    by Less behind expected same = refl
    by Equal behind expected same = refl
    by Greater behind expected same = ap (node (string_bytes e.0) (node_view e.1)) same

-- where `get_mut` finds the key
pub slot_found : (text : List ℕ) (nodes : BTreeMap (String Global) CodeNode) (looked : Option (MutBor CodeNode)) (slot : MutBor CodeNode) → looked ≡ Some slot → option_copied_mut looked ≡ get_by (to_key text) nodes
    → get_node text (nodes_view nodes) ≡ Some (node_view slot.now)
slot_found text nodes looked slot is gives = found text nodes.entries ∙ ap (option_map node_view) (sym gives ∙ ap option_copied_mut is)

-- and where it doesn't
pub slot_missing : (text : List ℕ) (nodes : BTreeMap (String Global) CodeNode) (looked : Option (MutBor CodeNode)) → looked ≡ None → option_copied_mut looked ≡ get_by (to_key text) nodes
    → get_node text (nodes_view nodes) ≡ None
slot_missing text nodes looked is gives = found text nodes.entries ∙ ap (option_map node_view) (sym gives ∙ ap option_copied_mut is)

-- once another node is written there
pub slot_written : (text : List ℕ) (old new : BTreeMap (String Global) CodeNode) (w : CodeNode) → new.entries ≡ set_value (is_at (to_key text)) old.entries w
    → nodes_view new ≡ replace text (node_view w) (nodes_view old)
slot_written text old new w is = ap entries_view is ∙ written text old.entries w
