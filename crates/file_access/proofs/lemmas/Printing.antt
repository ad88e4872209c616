-- Texts that were printed one after another are one text.
use Rattle.std.proofs.Common.{◌≡◌, ℕ, ◌≤◌, List, [], ◌++◌, Option, Some, None, sym, ap, ◌∙◌, append_assoc, append-nil, arith, take, drop, length, length-drop, ◌-◌}
use Rattle.std.proofs.lemmas.List.{take_all, take-append-drop}
use Rattle.std.specs.Io.KnownBytes.{Appends}
use Rattle.file_access.specs.SinkView.{SinkView, Wrote, Broke}

pub appends_nothing : (a : Option (List ℕ)) → Appends a a []
appends_nothing None = tt
appends_nothing (Some xs) = sym (append-nil xs)

pub appends_then : (a b c : Option (List ℕ)) (x y : List ℕ) → Appends a b x → Appends b c y → Appends a c (x ++ y)
appends_then None b c x y p q = tt
appends_then (Some as') None c x y p q = absurd p
appends_then (Some as') (Some bs) None x y p q = absurd q
appends_then (Some as') (Some bs) (Some cs) x y p q = q ∙ (ap (λ l. l ++ y) p ∙ append_assoc as' x y)

pub wrote_nothing : (a : SinkView) → Wrote a a []
wrote_nothing a = record { taken = appends_nothing a.taken; faults = omega arith }

pub wrote_then : {a b c : SinkView} {x y : List ℕ} → Wrote a b x → Wrote b c y → Wrote a c (x ++ y)
wrote_then {a} {b} {c} {x} {y} p q = record { taken = appends_then a.taken b.taken c.taken x y p.taken q.taken; faults = omega (arith, p.faults, q.faults) }

pub broke_then : {a b c : SinkView} {x y : List ℕ} → Wrote a b x → Broke b c y → Broke a c (x ++ y)
broke_then {a} {b} {c} {x} {y} p q = record {
  front = x ++ q.front;
  back = q.back;
  parts = ap (λ l. x ++ l) q.parts ∙ sym (append_assoc x q.front q.back);
  taken = appends_then a.taken b.taken c.taken x q.front p.taken q.taken;
  faults = omega (arith, p.faults, q.faults);
}

pub broke_early : {a b : SinkView} {x : List ℕ} (y : List ℕ) → Broke a b x → Broke a b (x ++ y)
broke_early {a} {b} {x} y p = record {
  front = p.front;
  back = p.back ++ y;
  parts = ap (λ l. l ++ y) p.parts ∙ append_assoc p.front p.back y;
  taken = p.taken;
  faults = p.faults;
}

-- one more put of what was left
pub put_more : {a b c : SinkView} (piece front rest : List ℕ) (k : ℕ) → piece ≡ front ++ rest → Wrote a b front → k ≤ length rest → Appends b.taken c.taken (take k rest) → b.faults ≤ c.faults
    → (front' : List ℕ) × (piece ≡ front' ++ take (length rest - k) (drop k rest)) × Wrote a c front'
put_more {a} {b} {c} piece front rest k whole wrote within taken faults =
    let put : Wrote b c (take k rest) = record { taken = taken; faults = faults } in
    let left : take (length rest - k) (drop k rest) ≡ drop k rest = take_all (length rest - k) (drop k rest) (omega (arith, length-drop k rest)) in (
      front ++ take k rest,
      whole ∙ (ap (λ l. front ++ l) (sym (take-append-drop k rest)) ∙ (sym (append_assoc front (take k rest) (drop k rest)) ∙ ap (λ l. (front ++ take k rest) ++ l) (sym left))),
      wrote_then wrote put,
    )
