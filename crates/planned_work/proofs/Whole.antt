-- What a call leaves of a worker, by what it leaves of one at its place.
use Rattle.std.proofs.Common.{◌≡◌, true, false, ℕ, Option, inl, inr, refl, sym, ◌∙◌, subst}
use Rattle.std.proofs.lemmas.Bool.{false≢true}
use Rattle.coordination.specs.Stops.{KnowsNoStop}
use Rattle.coordination.specs.declared.rule.Sight.{Sight}
use Rattle.planned_work.specs.Done.{ClosedAlone, DoneIn, DoneLeaves, DoneNextIn, DoneNextLeaves, next_of_answer}
use Rattle.planned_work.specs.Next.{NextIn, NextLeaves}
use Rattle.planned_work.specs.Places.{closes, place_of}
use Rattle.planned_work.specs.declared.answers.Answer.{Answer}
use Rattle.planned_work.specs.declared.answers.Answer.TheVariants as answers
use Rattle.planned_work.specs.declared.answers.Next.{Next}
use Rattle.planned_work.specs.declared.answers.Next.TheVariants as nexts
use Rattle.planned_work.specs.declared.places.Place.{Place}
use Rattle.planned_work.specs.declared.places.Place.TheVariants as places

-- what is next
pub leaves_next : (s s' : Sight) (p : Place) (n : Next) → place_of s ≡ p → NextIn p s s' n → NextLeaves s s' n
leaves_next s s' p (nexts.Do work) is h = subst (λ (q : Place). NextIn q s s' (nexts.Do work)) (sym is) h
leaves_next s s' p nexts.GoesOn is h = subst (λ (q : Place). NextIn q s s' nexts.GoesOn) (sym is) h
leaves_next s s' p nexts.Busy is h = subst (λ (q : Place). NextIn q s s' nexts.Busy) (sym is) h
leaves_next s s' p nexts.Again is h = h
leaves_next s s' p nexts.NoMemory is h = h
leaves_next s s' p nexts.Stuck is h = subst (λ (q : Place). NextIn q s s' nexts.Stuck) (sym is) h
leaves_next s s' p nexts.Stopped is h = absurd h
leaves_next s s' p nexts.Misused is h = absurd h

-- at no place is a closing misuse
never_misused : (p : Place) (gave : Option ℕ) (s s' : Sight) → DoneIn p gave s s' answers.Misused → ⊥
never_misused (places.Item u) gave s s' h = h
never_misused (places.ItemIn u a) gave s s' h = h
never_misused (places.Fetch u) gave s s' h = h
never_misused places.Idle gave s s' h = h
never_misused places.Outside gave s s' h = h
never_misused (places.InTask t) gave s s' h = h
never_misused (places.Parked a) gave s s' h = h
never_misused places.Section gave s s' h = h

-- a unit is closed
pub leaves_done : (gave : Option ℕ) (s s' : Sight) (p : Place) (a : Answer) → place_of s ≡ p → DoneIn p gave s s' a → DoneLeaves gave s s' a
leaves_done gave s s' p answers.Done is h = subst (λ (q : Place). DoneIn q gave s s' answers.Done) (sym is) h
leaves_done gave s s' p answers.Busy is h = subst (λ (q : Place). DoneIn q gave s s' answers.Busy) (sym is) h
leaves_done gave s s' p answers.Stopped is h = subst (λ (q : Place). DoneIn q gave s s' answers.Stopped) (sym is) h
leaves_done gave s s' p answers.Again is h = subst (λ (q : Place). DoneIn q gave s s' answers.Again) (sym is) h
leaves_done gave s s' p answers.NoMemory is h = subst (λ (q : Place). DoneIn q gave s s' answers.NoMemory) (sym is) h
leaves_done gave s s' p answers.Stuck is h = subst (λ (q : Place). DoneIn q gave s s' answers.Stuck) (sym is) h
leaves_done gave s s' p answers.Misused is h = absurd (never_misused p gave s s' h)

told_misused : (a : Answer) → nexts.Misused ≡ next_of_answer a → a ≡ answers.Misused
told_misused answers.Misused is = refl
told_misused answers.Done is = absurd (cc)
told_misused answers.Busy is = absurd (cc)
told_misused answers.Stopped is = absurd (cc)
told_misused answers.Again is = absurd (cc)
told_misused answers.NoMemory is = absurd (cc)
told_misused answers.Stuck is = absurd (cc)

alone_never : (Leaves : Answer → Type 0) → ClosedAlone Leaves nexts.Misused → (Leaves answers.Misused → ⊥) → ⊥
alone_never Leaves h never = never (subst Leaves (told_misused h.0 h.1) h.2)

next_never : (p : Place) (gave : Option ℕ) (s s' : Sight) → DoneNextIn p gave s s' nexts.Misused → ⊥
next_never (places.Item u) gave s s' h = h
next_never (places.ItemIn u a) gave s s' h = h
next_never (places.Fetch u) gave s s' h = alone_never (DoneIn (places.Fetch u) gave s s') h (λ never. never)
next_never places.Idle gave s s' h = h
next_never places.Outside gave s s' h = h
next_never (places.InTask t) gave s s' h = h
next_never (places.Parked a) gave s s' h = h
next_never places.Section gave s s' h = h

-- a unit is closed, and what is next decided
pub leaves_done_next : (gave : Option ℕ) (s s' : Sight) (p : Place) (n : Next) → place_of s ≡ p → KnowsNoStop s → DoneNextIn p gave s s' n → DoneNextLeaves gave s s' n
leaves_done_next gave s s' p (nexts.Do work) is none h = inl (none, subst (λ (q : Place). DoneNextIn q gave s s' (nexts.Do work)) (sym is) h)
leaves_done_next gave s s' p nexts.GoesOn is none h = inl (none, subst (λ (q : Place). DoneNextIn q gave s s' nexts.GoesOn) (sym is) h)
leaves_done_next gave s s' p nexts.Busy is none h = inl (none, subst (λ (q : Place). DoneNextIn q gave s s' nexts.Busy) (sym is) h)
leaves_done_next gave s s' p nexts.Stopped is none h = inl (none, subst (λ (q : Place). DoneNextIn q gave s s' nexts.Stopped) (sym is) h)
leaves_done_next gave s s' p nexts.Again is none h = inl (none, subst (λ (q : Place). DoneNextIn q gave s s' nexts.Again) (sym is) h)
leaves_done_next gave s s' p nexts.NoMemory is none h = inl (none, subst (λ (q : Place). DoneNextIn q gave s s' nexts.NoMemory) (sym is) h)
leaves_done_next gave s s' p nexts.Stuck is none h = inl (none, subst (λ (q : Place). DoneNextIn q gave s s' nexts.Stuck) (sym is) h)
leaves_done_next gave s s' p nexts.Misused is none h = absurd (next_never p gave s s' h)

-- a worker that knows of a stop closes alone
pub leaves_known : (gave : Option ℕ) (s s' : Sight) (a : Answer) → closes (place_of s) ≡ true → (KnowsNoStop s → ⊥) → DoneLeaves gave s s' a → DoneNextLeaves gave s s' (next_of_answer a)
leaves_known gave s s' answers.Done may known h = inr (known, (answers.Done, refl, h))
leaves_known gave s s' answers.Busy may known h = inr (known, (answers.Busy, refl, h))
leaves_known gave s s' answers.Stopped may known h = inr (known, (answers.Stopped, refl, h))
leaves_known gave s s' answers.Again may known h = inr (known, (answers.Again, refl, h))
leaves_known gave s s' answers.NoMemory may known h = inr (known, (answers.NoMemory, refl, h))
leaves_known gave s s' answers.Stuck may known h = inr (known, (answers.Stuck, refl, h))
leaves_known gave s s' answers.Misused may known h = absurd (false≢true (sym h.1 ∙ may))
