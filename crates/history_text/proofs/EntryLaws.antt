-- The laws of entries.
use Rattle.std.proofs.Common.{Bor, ◌≡◌, ◌≢◌, ◌↔◌, IsTrue, ℕ, ◌^◌, List, [], ◌++◌, length, Option, Some, None, Result, Err, Bool, false, refl, sym, ap, subst, ◌∙◌, append_assoc, append-nil, arith, decimal, codes, nat_eq}
use Rattle.std.proofs.lemmas.Bool.{false≢true}
use Rattle.lock_transforms.specs.Entry.{Entry}
use Rattle.history_text.specs.declared.fails.ReadFail.{ReadFail}
use Rattle.history_text.specs.declared.fails.ReadFail.TheVariants.{Wrong, Memory}
use Rattle.history_text.specs.declared.read_histories.EntryHead.{EntryHead}
use Rattle.history_text.specs.HistoryView.{entry_with}
use Rattle.history_text.specs.Lines.{IsReadAs}
use Rattle.history_text.specs.Plain.{Change}
use Rattle.history_text.specs.Text.{kind_text, effect_text, entry_text, end_text}
use Rattle.history_text.specs.Reading.{◌>>=◌, after, number_at, kind_at, effect_at, body_at, entry_at, end_at, Gives}
use Rattle.history_text.specs.Fitting.{EntryFits}
use Rattle.history_text.proofs.Numbers.{number_again, number_taken}
use Rattle.history_text.proofs.Words.{some_is, none_some, bind_some, after_taken, after_again, nil_from}
use Rattle.history_text.proofs.Digits.{no_digit_first, begins_with_its_digit}
use Rattle.history_text.proofs.KindLaws.{kind_taken, kind_again}
use Rattle.history_text.proofs.ListLaws.{effect_taken, effect_again}

pub record BodySpelled (text : List ℕ) (y : Entry × List ℕ) : Type 0 where
  pub is : (n : ℕ) → decimal n ++ text ≡ entry_text n y.0 ++ y.1
  pub fits_it : EntryFits y.0

eight : (a b c d e f g h rest : List ℕ) → a ++ (b ++ (c ++ (d ++ (e ++ (f ++ (g ++ (h ++ rest))))))) ≡ a ++ b ++ c ++ d ++ e ++ f ++ g ++ h ++ rest
eight a b c d e f g h rest = simp append_assoc

pub body_taken : (text : List ℕ) (y : Entry × List ℕ) → body_at text ≡ Some y → BodySpelled text y
unfolding body_at
body_taken text y e =
    let w = bind_some (after (codes " w") text) _ y e in
    let worker = bind_some (number_at (2 ^ 32) w.0) _ y w.2 in
    let gap = bind_some (after (codes " ") worker.0.1) _ y worker.2 in
    let kind = bind_some (kind_at gap.0) _ y gap.2 in
    let bar = bind_some (after (codes " | ") kind.0.1) _ y kind.2 in
    let result = bind_some (effect_at (record { 0 = worker.0.0 }) bar.0) _ y bar.2 in
    let line = bind_some (after (codes "\n") result.0.1) _ y result.2 in
    let a = number_taken (2 ^ 32) w.0 worker.0 (omega arith) (omega arith) worker.1 in
    let b = kind_taken gap.0 kind.0 kind.1 in
    let c = effect_taken (record { 0 = worker.0.0 }) bar.0 result.0 result.1 in
    let whole : text ≡ codes " w" ++ (decimal worker.0.0 ++ (codes " " ++ (kind_text kind.0.0 ++ (codes " | " ++ (effect_text result.0.0 ++ (codes "\n" ++ line.0)))))) =
    after_taken (codes " w") text w.0 w.1 ∙ ap (λ l. codes " w" ++ l) (a.1 ∙ ap (λ l. decimal worker.0.0 ++ l) (after_taken (codes " ") worker.0.1 gap.0 gap.1
    ∙ ap (λ l. codes " " ++ l) (b.is ∙ ap (λ l. kind_text kind.0.0 ++ l) (after_taken (codes " | ") kind.0.1 bar.0 bar.1
    ∙ ap (λ l. codes " | " ++ l) (c.is ∙ ap (λ l. effect_text result.0.0 ++ l) (after_taken (codes "\n") result.0.1 line.0 line.1)))))) in
    subst (λ z. BodySpelled text z) (some_is line.2) (record {
      is = λ n. ap (λ l. decimal n ++ l) whole ∙ eight (decimal n) (codes " w") (decimal worker.0.0) (codes " ") (kind_text kind.0.0) (codes " | ") (effect_text result.0.0) (codes "\n") line.0;
      fits_it = record { worker = a.0; kind = b.fits_it; effect = c.fits_it };
    })

pub body_again : (e : Entry) (more : List ℕ) → EntryFits e → body_at (codes " w" ++ (decimal e.worker.0 ++ (codes " " ++ (kind_text e.kind ++ (codes " | " ++ (effect_text e.changes ++ (codes "\n" ++ more))))))) ≡ Some (e, more)
unfolding body_at
body_again e more fits =
    ap (λ r. r >>= λ w. after (codes " ") w.1 >>= λ r'. kind_at r' >>= λ kind. after (codes " | ") kind.1 >>= λ r''. effect_at (record { 0 = w.0 }) r'' >>= λ result. after (codes "\n") result.1 >>= λ rest. Some (record { worker = record { 0 = w.0 }; kind = kind.0; changes = result.0 }, rest))
    (number_again (2 ^ 32) e.worker.0 (codes " " ++ (kind_text e.kind ++ (codes " | " ++ (effect_text e.changes ++ (codes "\n" ++ more))))) fits.worker (omega arith) refl)
    ∙ (ap (λ r. r >>= λ kind. after (codes " | ") kind.1 >>= λ r''. effect_at e.worker r'' >>= λ result. after (codes "\n") result.1 >>= λ rest. Some (record { worker = e.worker; kind = kind.0; changes = result.0 }, rest))
    (kind_again e.kind (codes " | " ++ (effect_text e.changes ++ (codes "\n" ++ more))) fits.kind refl)
    ∙ ap (λ r. r >>= λ result. after (codes "\n") result.1 >>= λ rest. Some (record { worker = e.worker; kind = e.kind; changes = result.0 }, rest)) (effect_again e.worker e.changes more fits.effect))

pub entry_taken : (n : ℕ) (text : List ℕ) (y : Entry × List ℕ) → entry_at n text ≡ Some y → EntryFits y.0 × (text ≡ entry_text n y.0 ++ y.1)
unfolding entry_at
entry_taken n text y e =
    let rest = bind_some (after (decimal n) text) body_at y e in
    let a = body_taken rest.0 y rest.2 in
    (a.fits_it, after_taken (decimal n) text rest.0 rest.1 ∙ a.is n)

pub entry_again : (n : ℕ) (e : Entry) (more : List ℕ) → EntryFits e → entry_at n (entry_text n e ++ more) ≡ Some (e, more)
unfolding entry_at
entry_again n e more fits =
    let body : List ℕ = codes " w" ++ (decimal e.worker.0 ++ (codes " " ++ (kind_text e.kind ++ (codes " | " ++ (effect_text e.changes ++ (codes "\n" ++ more)))))) in
    let regroup : entry_text n e ++ more ≡ decimal n ++ (codes " w" ++ (decimal e.worker.0 ++ (codes " " ++ (kind_text e.kind ++ (codes " | " ++ (effect_text e.changes ++ (codes "\n" ++ more))))))) = simp append_assoc in
    ap (λ t. after (decimal n) t >>= body_at) regroup
    ∙ (ap (λ r. r >>= body_at) (after_again (decimal n) (codes " w" ++ (decimal e.worker.0 ++ (codes " " ++ (kind_text e.kind ++ (codes " | " ++ (effect_text e.changes ++ (codes "\n" ++ more))))))))
    ∙ body_again e more fits)

pub end_taken : (n : ℕ) (text rest : List ℕ) → end_at n text ≡ Some rest → text ≡ end_text n ++ rest
unfolding end_at
end_taken n text rest e =
    let a = bind_some (after (codes "end ") text) _ rest e in
    let b = bind_some (after (decimal n) a.0) _ rest a.2 in
    after_taken (codes "end ") text a.0 a.1 ∙ (ap (λ l. codes "end " ++ l) (after_taken (decimal n) a.0 b.0 b.1 ∙ ap (λ l. decimal n ++ l) (after_taken (codes "\n") b.0 rest b.2)) ∙ simp append_assoc)

pub end_again : (n : ℕ) → end_at n (end_text n) ≡ Some []
unfolding end_at
end_again n = ap (λ r. r >>= λ t. after (codes "\n") t) (after_again (decimal n) (codes "\n"))

pub end_is_no_entry : (n m : ℕ) (more : List ℕ) → entry_at n (end_text m ++ more) ≡ None
unfolding entry_at
end_is_no_entry n m more = ap (λ r. r >>= body_at) (no_digit_first (decimal n) (end_text m ++ more) (begins_with_its_digit n) refl)

pub line_is_entry : (n : ℕ) (line : List ℕ) (e : Entry) → entry_at n line ≡ Some (e, []) → (line ≡ entry_text n e) × EntryFits e
line_is_entry n line e read =
    let a = entry_taken n line (e, []) read in
    (a.1 ∙ append-nil (entry_text n e), a.0)

pub line_is_no_entry : (n : ℕ) (line : List ℕ) → ((e : Entry) → entry_at n line ≡ Some (e, []) → ⊥) → (e : Entry) → EntryFits e → line ≢ entry_text n e
line_is_no_entry n line none e fits is = none e (ap (entry_at n) (is ∙ sym (append-nil (entry_text n e))) ∙ entry_again n e [] fits)

pub line_is_end : (n : ℕ) (line rest : List ℕ) (b : Bool) → Some rest ≡ end_at n line → b ≡ nat_eq (length rest) 0 → IsTrue b ↔ (line ≡ end_text n)
line_is_end n line rest b read empty = (
  λ yes. end_taken n line rest (sym read) ∙ (ap (λ r. end_text n ++ r) (nil_from rest (sym empty ∙ yes)) ∙ append-nil (end_text n)),
  λ is. empty ∙ ap (λ l. nat_eq (length l) 0) (some_is (read ∙ (ap (end_at n) is ∙ end_again n))),
)

pub line_is_no_end : (n : ℕ) (line : List ℕ) (r : Option (List ℕ)) → r ≡ end_at n line → (r ≡ Some [] → ⊥) → IsTrue false ↔ (line ≡ end_text n)
line_is_no_end n line r read other = (λ yes. absurd (false≢true yes), λ is. absurd (other (read ∙ (ap (end_at n) is ∙ end_again n))))

pub whole_entry : (n : ℕ) (line rest : List ℕ) (e : Entry) → entry_at n line ≡ Some (e, rest) → rest ≡ [] → (line ≡ entry_text n e) × EntryFits e
whole_entry n line rest e read none = line_is_entry n line e (read ∙ ap (λ r. Some (e, r)) none)

abbrev found : Entry → List ℕ → Option (Entry × List ℕ)
found x rest = Some (x, rest)

rest_is : {e f : Entry} {r s : List ℕ} → found e r ≡ found f s → r ≡ s
rest_is e = ap (λ x. x.1) (some_is e)

pub more_than_entry : (n : ℕ) (line rest : List ℕ) (e : Entry) → entry_at n line ≡ Some (e, rest) → (rest ≡ [] → ⊥) → (f : Entry) → EntryFits f → line ≢ entry_text n f
more_than_entry n line rest e read some = line_is_no_entry n line (λ f other. some (rest_is (sym read ∙ other)))

pub no_entry_read : (n : ℕ) (line : List ℕ) → entry_at n line ≡ None → (f : Entry) → EntryFits f → line ≢ entry_text n f
no_entry_read n line read = line_is_no_entry n line (λ f other. none_some (sym read ∙ other))

abbrev not_read : {X : Type 0} → ReadFail → Result X ReadFail
not_read fail = Err fail

-- an entry and the text behind it, as the code has them
abbrev Read : Type 0
Read = EntryHead × Bor (List ℕ)

abbrev shown : List Change → Read → Entry × List ℕ
shown changes x = (entry_with x.0 changes, x.1.now)

pub failed_entry : (n : ℕ) (line : List ℕ) (changes : List Change) (fail : ReadFail) → Gives (shown changes) (not_read {X = Read} fail) (entry_at n line) → IsReadAs (entry_text n) EntryFits line (λ (h : EntryHead). entry_with h changes) (not_read {X = EntryHead} fail)
failed_entry n line changes Wrong gives = no_entry_read n line gives
failed_entry n line changes Memory gives = tt
