use Rattle.std.proofs.Common.{◌≡◌, ℕ, List, ◌++◌, sym, ap, append_assoc, codes, decimal}
use Rattle.file_access.proofs.lemmas.Telling.{adds_as, adds_then}
use Rattle.history_text.specs.Text.{parallel_text}
use Rattle.history_text.proofs.histories.write_head_lines.Goals as goal

in_order : (a w b m c p k e : List ℕ) → (a ++ w) ++ (b ++ m) ++ c ++ p ++ k ++ e ≡ a ++ w ++ b ++ m ++ c ++ p ++ k ++ e
in_order a w b m c p k e = ap (λ (x : List ℕ). x ++ c ++ p ++ k ++ e) (sym (append_assoc (a ++ w) b m))

pub returns : goal.returns
returns g c =
    adds_as (in_order (codes "history 2\nworkers ") (decimal c.args.workers) (codes " max ") (decimal c.args.max_leases) (codes " parallel ") (parallel_text c.args.parallel) (codes " locks " ++ decimal c.args.locks) (codes "\n"))
    (adds_then (adds_then (adds_then (adds_then (adds_then c.write_numbered.ensures c.write_numbered-2.ensures) c.text.ensures) c.write_parallel.ensures) c.write_numbered-3.ensures) c.text-2.ensures)
