-- The answer to a text is the first refusal that holds of it.
use Rattle.std.proofs.Common.{◌≡◌, ℕ, ◌<◌, ◌≤◌, nat_lt, List, length, Option, Some, None, MatchOption, refl, sym, subst, ◌∙◌, inl, inr, arith}
use Rattle.std.proofs.lemmas.Bool.{cases_Bool, ltb-true, ltb-false}
use Rattle.std.proofs.lemmas.Option.{none-some}
use Rattle.toml.specs.Data.{Data}
use Rattle.item_actions.specs.Value.{max_file_bytes}
use Rattle.plan_table.specs.declared.refusals.PlanRefusal.{PlanRefusal}
use Rattle.plan_table.specs.declared.refusals.PlanRefusal.TheVariants as refusal
use Rattle.plan_table.specs.Document.{document_of, document_or_not_toml}
use Rattle.plan_table.specs.First.{cause_number, IsBefore, IsFirst, IsFirstOf}
use Rattle.plan_reader.specs.First.{DocumentHolds, TextHolds, refusal_in}
use Rattle.plan_reader.specs.Reading.{Answer, ReadsBy, Reads}
use Rattle.plan_reader.proofs.FirstRefusal.{first_of_document}

abbrev InDocument : Option Data → PlanRefusal → Type 0
InDocument o s = MatchOption o ⊥ (λ d. DocumentHolds d s)

-- the text is too long, or no document, or the refusal is one of its document
data OfText (bytes : List ℕ) (s : PlanRefusal) : Type 0 where
  too_long : max_file_bytes < length bytes → OfText bytes s
  not_toml : document_of bytes ≡ None → 1 ≤ cause_number s → OfText bytes s
  in_document : InDocument (document_of bytes) s → 2 ≤ cause_number s → OfText bytes s

of_text : (bytes : List ℕ) (s : PlanRefusal) → TextHolds bytes s → OfText bytes s
of_text bytes refusal.TooLong h = too_long h
of_text bytes refusal.NotToml h = not_toml h (omega arith)
of_text bytes (refusal.UnknownKey p) h = in_document h (omega arith)
of_text bytes (refusal.WrongType p) h = in_document h (omega arith)
of_text bytes (refusal.Missing p) h = in_document h (omega arith)
of_text bytes (refusal.BadName p) h = in_document h (omega arith)
of_text bytes (refusal.Twice p) h = in_document h (omega arith)
of_text bytes (refusal.NoSuchProject p) h = in_document h (omega arith)
of_text bytes (refusal.NoSuchTask p) h = in_document h (omega arith)
of_text bytes (refusal.Cycle p) h = in_document h (omega arith)
of_text bytes (refusal.ReleaseNotLast p) h = in_document h (omega arith)
of_text bytes (refusal.ClassLoader p) h = in_document h (omega arith)
of_text bytes (refusal.TooMany w p) h = in_document h (omega arith)
of_text bytes (refusal.BadRequirements p) h = in_document h (omega arith)

-- a refusal of the document is one of the text
text_holds : (bytes : List ℕ) (d : Data) (s : PlanRefusal) → document_of bytes ≡ Some d → DocumentHolds d s → TextHolds bytes s
text_holds bytes d refusal.TooLong is h = absurd h
text_holds bytes d refusal.NotToml is h = absurd h
text_holds bytes d (refusal.UnknownKey p) is h = rw is h
text_holds bytes d (refusal.WrongType p) is h = rw is h
text_holds bytes d (refusal.Missing p) is h = rw is h
text_holds bytes d (refusal.BadName p) is h = rw is h
text_holds bytes d (refusal.Twice p) is h = rw is h
text_holds bytes d (refusal.NoSuchProject p) is h = rw is h
text_holds bytes d (refusal.NoSuchTask p) is h = rw is h
text_holds bytes d (refusal.Cycle p) is h = rw is h
text_holds bytes d (refusal.ReleaseNotLast p) is h = rw is h
text_holds bytes d (refusal.ClassLoader p) is h = rw is h
text_holds bytes d (refusal.TooMany w p) is h = rw is h
text_holds bytes d (refusal.BadRequirements p) is h = rw is h

module _ (bytes : List ℕ) where
  abbrev IsShort : Type 0
  IsShort = length bytes ≤ max_file_bytes

  -- ---- the text itself

  none_before_too_long : (s : PlanRefusal) → IsBefore s refusal.TooLong → ⊥
  none_before_too_long s (inl lt) = absurd (omega (arith, lt))
  none_before_too_long s (inr (same, inl (inl lt))) = absurd (omega (arith, lt))
  none_before_too_long s (inr (same, inl (inr (part, lt)))) = absurd (omega (arith, lt))
  none_before_too_long s (inr (same, inr (there, lt))) = absurd (omega (arith, lt))

  too_long_first : max_file_bytes < length bytes → IsFirst (TextHolds bytes) refusal.TooLong
  too_long_first long = record { here = long; before = λ s b h. none_before_too_long s b }

  before_not_toml : (s : PlanRefusal) → IsBefore s refusal.NotToml → cause_number s < 1
  before_not_toml s (inl lt) = lt
  before_not_toml s (inr (same, inl (inl lt))) = absurd (omega (arith, lt))
  before_not_toml s (inr (same, inl (inr (part, lt)))) = absurd (omega (arith, lt))
  before_not_toml s (inr (same, inr (there, lt))) = absurd (omega (arith, lt))

  only_too_long : (s : PlanRefusal) → IsShort → cause_number s < 1 → OfText bytes s → ⊥
  only_too_long s short low (too_long long) = absurd (omega (arith, short, long))
  only_too_long s short low (not_toml none high) = absurd (omega (arith, low, high))
  only_too_long s short low (in_document h high) = absurd (omega (arith, low, high))

  not_toml_first : IsShort → document_of bytes ≡ None → IsFirst (TextHolds bytes) refusal.NotToml
  not_toml_first short none = record { here = none; before = λ s b h. only_too_long s short (before_not_toml s b) (of_text bytes s h) }

  -- ---- its document

  module _ (d : Data) (short : IsShort) (is : document_of bytes ≡ Some d) where
    of_document : (s : PlanRefusal) → OfText bytes s → DocumentHolds d s
    of_document s (too_long long) = absurd (omega (arith, short, long))
    of_document s (not_toml none high) = absurd (none-some d (sym none ∙ is))
    of_document s (in_document h high) = rw is at h

    as_text : (o : Option PlanRefusal) → IsFirstOf (DocumentHolds d) o → IsFirstOf (TextHolds bytes) o
    as_text None none = λ s h. none s (of_document s (of_text bytes s h))
    as_text (Some r) first = record {
      here = text_holds bytes d r is first.here;
      before = λ s b h. first.before s b (of_document s (of_text bytes s h));
    }

  document_first : (answer : Answer) → IsShort → (o : Option Data) → document_of bytes ≡ o → ReadsBy (document_or_not_toml o) answer → IsFirstOf (TextHolds bytes) (refusal_in answer)
  document_first answer short None is reads = subst (λ a. IsFirstOf (TextHolds bytes) (refusal_in a)) (sym reads) (not_toml_first short is)
  document_first answer short (Some d) is reads = as_text d short is (refusal_in answer) (first_of_document d answer reads)

pub first_of_text : (bytes : List ℕ) (answer : Answer) → Reads bytes answer → IsFirstOf (TextHolds bytes) (refusal_in answer)
first_of_text bytes answer reads =
    elim (cases_Bool (nat_lt max_file_bytes (length bytes))) [
      | inl long ↦ subst (λ a. IsFirstOf (TextHolds bytes) (refusal_in a)) (sym (rw long at reads)) (too_long_first bytes (ltb-true _ _ long))
      | inr few ↦ document_first bytes answer (ltb-false _ _ few) (document_of bytes) refl (rw few at reads)
    ]
