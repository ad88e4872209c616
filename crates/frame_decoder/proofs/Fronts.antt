-- A list without its front.
use Rattle.std.proofs.Common.{◌≡◌, ℕ, ◌+◌, ◌-◌, ◌++◌, List, length, take, drop, sym, ap, ◌∙◌, length-drop}
use Rattle.std.specs.List.{copy_within}
use Rattle.std.proofs.Math.Seq.{take-append_seam}
use Rattle.std.proofs.lemmas.List.Edits.{paste_all}

-- what is left is copied to the start, and the end is cut off
pub moved_down : (xs : List ℕ) (n : ℕ) → take (length xs - n) (copy_within xs n (length xs) 0) ≡ drop n xs
moved_down xs n =
    let left : length xs - n ≡ length (drop n xs) = sym (length-drop n xs) in
    let end = drop (0 + (length xs - n)) xs in
    ap (take (length xs - n)) (paste_all xs 0 (drop n xs) (length xs - n) left)
    ∙ ap (λ k. take k (drop n xs ++ end)) left
    ∙ take-append_seam (drop n xs) end
