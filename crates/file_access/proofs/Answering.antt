-- What an action gives on a file whose pieces came one after the other.
use Rattle.std.proofs.Common.{◌≡◌, ◌≢◌, ℕ, ◌<◌, ◌≤◌, ◌++◌, List, true, false, Option, None, Some, IfSome, length, sym, ap, subst, ◌∙◌, arith, length-append}
use Rattle.std.proofs.lemmas.Bool.{cond-true, cond-false}
use Rattle.std.proofs.lemmas.Bool.Decides.{nat_tests}
use Rattle.std.proofs.lemmas.List.{append-nil, nil_from_length}
use Rattle.std.specs.Prelude.{nat_lt}
use Rattle.std.specs.Io.KnownBytes.{Consumes, IsAtEnd, Keeps}
use Rattle.std.proofs.KnownBytes.{Consumes-trans, Consumes-whole}
use Rattle.item_actions.specs.Value.{act_on, max_file_bytes, value_of}
use Rattle.item_actions.specs.declared.actions.ItemAction.{ItemAction}
use Rattle.item_actions.specs.declared.actions.ItemAction.TheVariants as actions
use Rattle.item_actions.specs.declared.outcomes.Outcome.{Outcome}
use Rattle.item_actions.specs.declared.outcomes.Outcome.TheVariants as outcomes
use Rattle.file_access.specs.ReadView.{IsAnswer, IsOutcomeCounted}

pub is_answer : (action : ItemAction) (bytes : List ℕ) → IsAnswer (act_on action bytes)
is_answer actions.Lines bytes = tt
is_answer actions.Words bytes = tt
is_answer actions.Bytes bytes = tt
is_answer actions.Longest bytes = tt
is_answer (actions.Count needle) bytes = tt
is_answer actions.Sha256 bytes = tt

-- an answer was worked out
pub ran : (o : Outcome) → IsAnswer o → o ≢ outcomes.Skipped
ran o given is = subst IsAnswer is given

-- and no fault came with it
pub counted : (o : Outcome) (old new : ℕ) → IsAnswer o → new ≡ old → IsOutcomeCounted old new o
counted (outcomes.Number n) old new given same = same
counted (outcomes.Digest d) old new given same = same
counted outcomes.NotThere old new given same = same
counted outcomes.TooLong old new given same = same
counted _ old new given same = absurd given

pub kept_then : (a b c : Option (List ℕ)) (bytes : List ℕ) → Keeps a b → Consumes b c bytes → Consumes a c bytes
kept_then None b c bytes kept taken = tt
kept_then (Some x) None c bytes kept taken = absurd kept
kept_then (Some x) (Some y) None bytes kept taken = absurd taken
kept_then (Some x) (Some y) (Some z) bytes kept taken = sym kept ∙ taken

not_over : (xs : List ℕ) → length xs ≤ 4194304 → nat_lt max_file_bytes (length xs) ≡ false
not_over xs few = grind (arith, nat_tests)

over : (xs : List ℕ) → 4194304 < length xs → nat_lt max_file_bytes (length xs) ≡ true
over xs many = grind (arith, nat_tests)

-- at the end all of the file has come
pub given_whole : (before mid after : Option (List ℕ)) (seen piece : List ℕ) (action : ItemAction) (outcome : Outcome) → Consumes before mid seen → Consumes mid after piece
    → length piece ≡ 0 → IsAtEnd after → length seen ≤ 4194304 → outcome ≡ act_on action seen → IfSome before (λ bytes. outcome ≡ value_of (act_on action) (Some bytes))
given_whole before mid after seen piece action outcome first last none end few is =
    let nothing = nil_from_length piece none in
    let all : Consumes before after seen = subst (Consumes before after) (ap (λ l. seen ++ l) nothing ∙ append-nil seen) (Consumes-trans before mid after seen piece first last) in
    Consumes-whole before after seen (λ bytes. outcome ≡ value_of (act_on action) (Some bytes)) all end
    (is ∙ sym (cond-false (nat_lt max_file_bytes (length seen)) outcomes.TooLong (act_on action seen) (not_over seen few)))

-- more came than a file may have
pub given_too_long : (before after : Option (List ℕ)) (seen : List ℕ) (action : ItemAction) → Consumes before after seen → 4194304 < length seen
    → IfSome before (λ bytes. outcomes.TooLong ≡ value_of (act_on action) (Some bytes))
given_too_long None after seen action taken many = tt
given_too_long (Some x) None seen action taken many = absurd taken
given_too_long (Some x) (Some y) seen action taken many =
    let long = ap length taken in
    sym (cond-true (nat_lt max_file_bytes (length x)) outcomes.TooLong (act_on action x) (over x (omega (arith, long, length-append seen y, many))))

-- a piece more, as it was shown
pub seen_more : (before mid after : Option (List ℕ)) (seen piece shown : List ℕ) → shown ≡ piece → Consumes before mid seen → Consumes mid after piece → Consumes before after (seen ++ shown)
seen_more before mid after seen piece shown same first last =
    subst (Consumes before after) (ap (λ l. seen ++ l) (sym same)) (Consumes-trans before mid after seen piece first last)
