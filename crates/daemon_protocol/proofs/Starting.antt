-- What the stages of a look read of a stream.
use Rattle.std.proofs.Common.{◌≡◌, ℕ, ◌-◌, ◌≤◌, List, [], ◌∷◌, false, cond, ltb, length, get_or, take, drop, sym, ap, ◌∙◌, arith, take_all, length-drop}
use Rattle.std.specs.Int.{w32, from_be_bytes}
use Rattle.std.proofs.lemmas.Bool.Decides.{nat_tests}
use Rattle.daemon_protocol.specs.StreamStart.{look, look_tag, look_length, look_body}
use Rattle.daemon_protocol.specs.declared.starts.StreamStart.TheVariants.{Unfinished}

pub rest : (bytes : List ℕ) (n : ℕ) → take (length bytes - n) (drop n bytes) ≡ drop n bytes
rest bytes n = take_all _ _ (omega (arith, length-drop n bytes))

-- the first byte is the tag
pub look-tag : (bytes : List ℕ) → 1 ≤ length bytes → look_tag (get_or bytes 0 0) (take (length bytes - 1) (drop 1 bytes)) ≡ look bytes
look-tag [] some = absurd (omega arith)
look-tag (tag ∷ bytes) some = ap (look_tag tag) (rest (tag ∷ bytes) 1)

-- the next four are the length
pub look-length : (tag n : ℕ) (bytes : List ℕ) → 4 ≤ length bytes → n ≡ from_be_bytes w32 (take 4 bytes) → look_body tag n (take (length bytes - 4) (drop 4 bytes)) ≡ look_length tag bytes
look-length tag n bytes enough is =
    let there : ltb (length bytes) 4 ≡ false = grind (arith, nat_tests) in
    (λ i. look_body tag (is i) (rest bytes 4 i)) ∙ (λ i. cond (sym there i) Unfinished (look_body tag (from_be_bytes w32 (take 4 bytes)) (drop 4 bytes)))
