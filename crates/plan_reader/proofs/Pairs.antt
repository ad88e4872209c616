-- The pairs of a table.
use Rattle.std.proofs.Common.{◌≡◌, ℕ, ◌<◌, List, [], ◌∷◌, map, length, get_or, string_bytes, ap, sym, ◌∙◌, arith}
use Rattle.std.proofs.lemmas.Bool.{true≢false}
use Rattle.std.proofs.lemmas.List.{length-map, get_or-map}
use Rattle.std.proofs.lemmas.Map.Keys.{Less-from_sorted}
use Rattle.std.specs.Ordering.{is_lt, nat_cmp, ordering_reverse}
use Rattle.std.specs.declared.cmp.Ordering.TheVariants.{Less}
use Rattle.std.specs.List.Sorted.{IsStrictlySortedBy}
use Rattle.std.specs.Prelude.{string_cmp}
use Rattle.std.specs.Cmp.Lexicographic.{slice_cmp}
use Rattle.std.proofs.lemmas.Cmp.{nat_list_cmp_total}
use Rattle.plan_document.proofs.Views.{Entry}
use Rattle.plan_document.specs.View.{view}
use Rattle.daemon_requirements.specs.declared.fields.Pair.{Pair}
use Rattle.daemon_requirements.specs.RequirementsView.{HasDistinctNames}
use Rattle.plan_table.specs.Values.{text_of}
use Rattle.plan_reader.specs.Planned.{pair_of}

-- what is kept of an entry
abbrev pub pair_shown : Entry → Pair
pair_shown e = pair_of (string_bytes e.0, text_of (view e.1))

-- the names of two entries of a sorted table differ
apart : (es : List Entry) (e : Entry) (i j : ℕ) → IsStrictlySortedBy string_cmp (map (λ x. x.0) es) → i < j → j < length es
    → string_bytes (get_or es i e).0 ≡ string_bytes (get_or es j e).0 → ⊥
apart es e i j sorted lt within same =
    let long : j < length (map (λ x. x.0) es) = rw (length-map es (λ x. x.0)) within in
    let less = Less-from_sorted string_cmp (map (λ x. x.0) es) i j e.0 sorted lt long in
    let at_i = get_or-map (λ x. x.0) es i e e.0 (omega arith) in
    let at_j = get_or-map (λ x. x.0) es j e e.0 within in
    let name = string_bytes (get_or es j e).0 in
    let itself : slice_cmp nat_cmp name name ≡ Less = ap (λ bs. slice_cmp nat_cmp bs name) (sym same) ∙ rw (at_i, at_j) at less in
    true≢false (ap is_lt (sym itself ∙ nat_list_cmp_total.antisymm name name ∙ ap ordering_reverse itself))

pub distinct_names : (es : List Entry) → IsStrictlySortedBy string_cmp (map (λ x. x.0) es) → HasDistinctNames (map pair_shown es)
distinct_names [] sorted i j d lt within same = absurd (omega arith)
distinct_names (e ∷ es) sorted i j d lt within same =
    let far : j < length (e ∷ es) = rw (length-map (e ∷ es) pair_shown) at within in
    let at_i = get_or-map pair_shown (e ∷ es) i e d (omega arith) in
    let at_j = get_or-map pair_shown (e ∷ es) j e d far in
    apart (e ∷ es) e i j sorted lt far (ap (λ p. p.name) (sym at_i) ∙ same ∙ ap (λ p. p.name) at_j)
