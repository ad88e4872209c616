-- The document of a text.
use Rattle.std.proofs.Common.{◌≡◌, ℕ, List, Some, None, refl, inl, inr, Vec, Global}
use Rattle.std.proofs.lemmas.Bool.{cases_Bool}
use Rattle.std.proofs.lemmas.Str.{IsUtf8-from_is_utf8, is_utf8-from_IsUtf8}
use Rattle.std.specs.Str.{IsUtf8, is_utf8}
use Rattle.plan_document.specs.declared.values.Value.{Table}
use Rattle.plan_document.specs.View.{view, members_view}
use Rattle.toml.specs.Parse.{parse_document}
use Rattle.plan_document.proofs.Views.{Entry, view-Table}
use Rattle.plan_table.specs.Document.{document_of}

pub document_read : (bytes : List ℕ) (t : Vec Entry Global) → IsUtf8 bytes → parse_document bytes ≡ Some (members_view t.items) → document_of bytes ≡ Some (view (Table t))
document_read bytes t text read = rw (is_utf8-from_IsUtf8 bytes text, read, view-Table t) refl

pub document_refused : (bytes : List ℕ) → (IsUtf8 bytes → parse_document bytes ≡ None) → document_of bytes ≡ None
document_refused bytes refused =
    elim (cases_Bool (is_utf8 bytes)) [
      | inl text ↦ rw (text, refused (IsUtf8-from_is_utf8 bytes text)) refl
      | inr other ↦ rw other refl
    ]
