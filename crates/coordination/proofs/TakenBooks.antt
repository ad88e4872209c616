-- One try under the lock, as the worker sees it.
use Rattle.std.proofs.Common.{◌≡◌, ◌<◌, ◌≤◌, true, List, [], ◌∷◌, ◌++◌, length, length-append, Result, Ok, Err, Option, Some, None, refl, sym, ap, ◌∙◌, subst, append-nil, arith}
use Rattle.lock_journal.specs.Names.{WorkerId, Change, GraphView, StateView, Allowed, Lawful, Entry, effect, entry, replay, BookView, FinishesIn}
use Rattle.lock_journal.specs.Names.{FailsIn, IsToRetry, Kind, Disposition, Finished, Retry}
use Rattle.history_views.specs.ShownBooks.{IsUnchanged}
use Rattle.lock_transforms.specs.declared.transforms.Disposition.TheVariants.{Failed}
use Rattle.lock_journal.proofs.lemmas.Growing.{lawful-push, replay-push}
use Rattle.coordination.specs.Names.{IsSoundBook, Cause, Making, Ran, AddsOwn, M, Taken, carried_book, has_entered, one, seeing, sight_of, HasLeft}
use Rattle.coordination.specs.Names.{HasTurned, Leaves, sight_at, Follows, HasRoom, IsPartOf}
use Rattle.coordination.specs.declared.rule.Sight.{Sight}
use Rattle.coordination.specs.Attempts.{Answers, Asked, Attempted}
use Rattle.coordination.specs.declared.turns.Came.{Came}
use Rattle.worker_notes.specs.Parts.{Grew, HasRoomIfFinished}
use Rattle.worker_notes.specs.declared.parts.WorkerPart.{WorkerPart}
use Rattle.coordination.proofs.PassSteps.{part_on}

-- the four clauses of the call together
pub ran_of : {E : Type 0} (kind : Kind) (makes : Making) (fails retries : Cause) (w : WorkerId) (old new : BookView) (r : Result Disposition E)
    → (r ≡ Ok Finished → (changes : List Change) × FinishesIn makes old new w kind changes) → (r ≡ Ok Failed → FailsIn fails old new w kind) → (r ≡ Ok Retry → IsToRetry retries old new w)
    → ((e : E) → r ≡ Err e → IsUnchanged old new) → Ran kind makes fails retries w old new r
ran_of kind makes fails retries w old new (Ok Finished) a b c d = a refl
ran_of kind makes fails retries w old new (Ok Failed) a b c d = b refl
ran_of kind makes fails retries w old new (Ok Retry) a b c d = c refl
ran_of kind makes fails retries w old new (Err e) a b c d = d e refl

-- a sound book with one allowed entry more is sound
sound-push : (old new : BookView) (e : Entry) → IsSoundBook old → new.graph ≡ old.graph → Allowed old.graph old.state e → new.history ≡ old.history ++ e ∷ [] → new.state ≡ effect old.state e → IsSoundBook new
sound-push old new e sound graph allowed history state =
    let ok : Allowed old.graph (replay old.graph old.history) e = subst (λ (s : StateView). Allowed old.graph s e) sound.replays allowed in
    record {
      lawful = subst (λ (p : GraphView × List Entry). Lawful p.0 p.1) (λ i. (sym graph i, sym history i)) (lawful-push old.graph old.history e sound.lawful ok);
      replays = state ∙ (ap (λ (s : StateView). effect s e) sound.replays ∙ (sym (replay-push old.graph old.history e) ∙ (λ i. replay (sym graph i) (sym history i))));
    }

pub sound-same : (old new : BookView) → IsSoundBook old → new.graph ≡ old.graph → new.state ≡ old.state → new.history ≡ old.history → IsSoundBook new
sound-same old new sound graph state history = record {
  lawful = subst (λ (p : GraphView × List Entry). Lawful p.0 p.1) (λ i. (sym graph i, sym history i)) sound.lawful;
  replays = state ∙ (sound.replays ∙ (λ i. replay (sym graph i) (sym history i)));
}

-- what a transform added is its worker's
pub adds_own : {E : Type 0} (kind : Kind) (makes : Making) (fails retries : Cause) (r : Result Disposition E) (s : Sight) (new : BookView) → new.graph ≡ s.seen.graph → Ran kind makes fails retries s.worker s.seen new r → AddsOwn s new
adds_own kind makes fails retries (Ok Finished) s new graph ran = record {
  more = entry s.worker kind (Some ran.0) ∷ [];
  graph = graph;
  history = ran.1.history;
  own = λ w ne. ((λ same. ne (sym same)), tt);
  sound = λ sound. sound-push s.seen new (entry s.worker kind (Some ran.0)) sound graph ran.1.allowed ran.1.history ran.1.state;
}
adds_own kind makes fails retries (Ok Failed) s new graph ran = record {
  more = entry s.worker kind None ∷ [];
  graph = graph;
  history = ran.history;
  own = λ w ne. ((λ same. ne (sym same)), tt);
  sound = λ sound. sound-push s.seen new (entry s.worker kind None) sound graph ran.allowed ran.history ran.state;
}
adds_own kind makes fails retries (Ok Retry) s new graph ran = record { more = []; graph = graph; history = ran.history ∙ sym (append-nil s.seen.history); own = λ w ne. tt; sound = λ sound. sound-same s.seen new sound graph ran.state ran.history }
adds_own kind makes fails retries (Err e) s new graph ran = record { more = []; graph = graph; history = ran.history ∙ sym (append-nil s.seen.history); own = λ w ne. tt; sound = λ sound. sound-same s.seen new sound graph ran.state ran.history }

-- m took the book and became m', whose view stayed in m''
pub taken_sight : (m m' m'' : M) (t : Taken m m') → m''.0 ≡ m'.0 → sight_of m''.0 ≡ seeing (sight_of m.0) t.book
taken_sight m m' m'' t same = ap sight_of (same ∙ ap (λ (x : M). x.0) t.is)

pub taken_book : (m m' : M) (t : Taken m m') → carried_book m'.1 ≡ t.book
taken_book m m' t = ap (λ (x : M). carried_book x.1) t.is

pub known_in : (m m' : M) (t : Taken m m') (worker : WorkerId) → worker ≡ (sight_of m.0).worker → worker.0 < (carried_book m'.1).graph.workers
known_in m m' t worker is = subst (λ (p : WorkerId × BookView). p.0.0 < p.1.graph.workers) (λ i. (sym is i, sym (taken_book m m' t) i)) t.found.known

-- the book that was taken is sound, and the worker's part is that of it
pub sound_in : (m m' : M) (t : Taken m m') → IsSoundBook (carried_book m'.1)
sound_in m m' t = subst IsSoundBook (sym (taken_book m m' t)) t.found.sound

pub part_in : (m m' : M) (t : Taken m m') (worker : WorkerId) (part : WorkerPart) → worker ≡ (sight_of m.0).worker → IsPartOf (sight_of m.0).seen (sight_of m.0).worker part → IsPartOf (carried_book m'.1) worker part
part_in m m' t worker part is p =
    subst (λ (x : WorkerId × BookView). IsPartOf x.1 x.0 part) (λ i. (sym is i, sym (taken_book m m' t) i)) (part_on (sight_of m.0).worker (sight_of m.0).seen t.book part t.found.agrees p)

-- what a transform left of a book is what a part can follow
grew : {E : Type 0} (kind : Kind) (makes : Making) (fails retries : Cause) (w : WorkerId) (old new : BookView) (r : Result Disposition E) → Ran kind makes fails retries w old new r → Grew w kind old new r
grew kind makes fails retries w old new (Ok Finished) ran = (ran.0, record { made = tt; allowed = ran.1.allowed; history = ran.1.history; state = ran.1.state })
grew kind makes fails retries w old new (Ok Failed) ran = (ran.history, ran.state)
grew kind makes fails retries w old new (Ok Retry) ran = (ran.history, ran.state)
grew kind makes fails retries w old new (Err e) ran = (ran.history, ran.state)

pub follows : {E : Type 0} (kind : Kind) (makes : Making) (fails retries : Cause) (w : WorkerId) (old new : BookView) (r : Result Disposition E) (part : WorkerPart) → IsSoundBook old → new.graph ≡ old.graph → Ran kind makes fails retries w old new r
    → new.given ≡ old.given → old.given ≤ length old.history → IsPartOf old w part → HasRoom part → HasRoomIfFinished kind new r part → Follows w kind old new r part
follows kind makes fails retries w old new r part sound graph ran given within p room lists = record { sound = sound; graph = graph; grew = grew kind makes fails retries w old new r ran; given = given; within = within; kept = p; room = room; lists = lists }

-- an entry that was made wasn't given away
pub entry_kept : {E : Type 0} (kind : Kind) (makes : Making) (fails retries : Cause) (w : WorkerId) (old new : BookView) (r : Result Disposition E) → Ran kind makes fails retries w old new r → new.given ≡ old.given → old.given ≤ length old.history
    → has_entered r ≡ true → new.given < length new.history
entry_kept kind makes fails retries w old new (Ok Finished) ran given within entered = let more = ap (λ (h : List Entry). length h) ran.1.history ∙ length-append old.history (entry w kind (Some ran.0) ∷ []) in omega arith
entry_kept kind makes fails retries w old new (Ok Failed) ran given within entered = let more = ap (λ (h : List Entry). length h) ran.history ∙ length-append old.history (entry w kind None ∷ []) in omega arith
entry_kept kind makes fails retries w old new (Ok Retry) ran given within entered = absurd (cc)
entry_kept kind makes fails retries w old new (Err e) ran given within entered = absurd (cc)

module _ {E : Type 0} (kind : Kind) (makes : Making) (fails retries : Cause) (r : Result Disposition E) (m m' m'' : M) (t : Taken m m') (same : m''.0 ≡ m'.0) (worker : WorkerId) (is : worker ≡ (sight_of m.0).worker)
    (graph : (carried_book m''.1).graph ≡ (carried_book m'.1).graph) (ran : Ran kind makes fails retries worker (carried_book m'.1) (carried_book m''.1) r) where
  found : Ran kind makes fails retries (sight_of m.0).worker t.book (carried_book m''.1) r
  found = subst (λ (p : WorkerId × BookView). Ran kind makes fails retries p.0 p.1 (carried_book m''.1) r) (λ i. (is i, taken_book m m' t i)) ran

  same_graph : (carried_book m''.1).graph ≡ t.book.graph
  same_graph = graph ∙ ap (λ (b : BookView). b.graph) (taken_book m m' t)

  adds : AddsOwn (seeing (sight_of m.0) t.book) (carried_book m''.1)
  adds = adds_own kind makes fails retries r (seeing (sight_of m.0) t.book) (carried_book m''.1) same_graph found

  pub owns : AddsOwn (sight_of m''.0) (carried_book m''.1)
  owns = subst (λ (k : Sight). AddsOwn k (carried_book m''.1)) (sym (taken_sight m m' m'' t same)) adds

  -- the view afterwards
  pub after : (n : M) → n ≡ (one m''.0.ledger (seeing (sight_of m''.0) (carried_book m''.1)), []) → sight_of n.0 ≡ seeing (sight_of m.0) (carried_book m''.1)
  after n back = ap (λ (x : M). sight_of x.0) back ∙ ap (λ (k : Sight). seeing k (carried_book m''.1)) (taken_sight m m' m'' t same)

  pub attempted : (n : M) → n ≡ (one m''.0.ledger (seeing (sight_of m''.0) (carried_book m''.1)), []) → Attempted kind makes fails retries (sight_of m.0) (sight_of n.0) r
  attempted n back = record { before = t.book; after = carried_book m''.1; found = t.found; graph = same_graph; ran = found; left = adds.sound t.found.sound; is = after n back }

-- the same of a question
module _ {A : Type 0} (answers : WorkerId → BookView → A → Type 0) (waits : WorkerId → BookView → Type 0) (r : Option A) (m m' m'' : M) (t : Taken m m') (same : m'' ≡ m') (worker : WorkerId)
    (is : worker ≡ (sight_of m.0).worker) where
  book_is : carried_book m''.1 ≡ t.book
  book_is = ap (λ (x : M). carried_book x.1) same ∙ taken_book m m' t

  pub keeps : AddsOwn (sight_of m''.0) (carried_book m''.1)
  keeps = subst (λ (p : Sight × BookView). AddsOwn p.0 p.1) (λ i. (sym (taken_sight m m' m'' t (ap (λ (x : M). x.0) same)) i, sym book_is i))
      (record { more = []; graph = refl; history = sym (append-nil t.book.history); own = λ w ne. tt; sound = λ s. s })

  pub after_ask : (n : M) → n ≡ (one m''.0.ledger (seeing (sight_of m''.0) (carried_book m''.1)), []) → sight_of n.0 ≡ seeing (sight_of m.0) t.book
  after_ask n back = ap (λ (x : M). sight_of x.0) back ∙ (λ i. seeing (taken_sight m m' m'' t (ap (λ (x : M). x.0) same) i) (book_is i))

  pub asked : Answers answers waits worker (carried_book m'.1) r → (n : M) → n ≡ (one m''.0.ledger (seeing (sight_of m''.0) (carried_book m''.1)), []) → Asked answers waits (sight_of m.0) (sight_of n.0) r
  asked a n back = record { book = t.book; found = t.found; answer = subst (λ (p : WorkerId × BookView). Answers answers waits p.0 p.1 r) (λ i. (is i, taken_book m m' t i)) a; is = after_ask n back }

-- a book to which nothing was added
pub same_own : (w : WorkerId) (old new : BookView) → new ≡ old → AddsOwn (sight_at w old) new
same_own w old new is = subst (AddsOwn (sight_at w old)) (sym is) (record { more = []; graph = refl; history = sym (append-nil old.history); own = λ v ne. tt; sound = λ s. s })

-- what a turn left of the book that was taken
module _ {C : Type 0} (gives : WorkerId → BookView → BookView → C → Type 0) (waits runs : WorkerId → BookView → Type 0) (r : Came C) (part : WorkerPart) (m m' m'' : M) (t : Taken m m') (same : m''.0 ≡ m'.0) (worker : WorkerId)
    (is : worker ≡ (sight_of m.0).worker) (h : HasLeft gives waits runs worker (carried_book m'.1) (carried_book m''.1) part r) where
  turn_adds : AddsOwn (seeing (sight_of m.0) t.book) (carried_book m''.1)
  turn_adds =
      let b = subst (λ (p : WorkerId × BookView). AddsOwn (sight_at p.0 p.1) (carried_book m''.1)) (λ i. (is i, taken_book m m' t i)) h.own in
      record { more = b.more; graph = b.graph; history = b.history; own = b.own; sound = b.sound }

  pub turn_owns : AddsOwn (sight_of m''.0) (carried_book m''.1)
  turn_owns = subst (λ (k : Sight). AddsOwn k (carried_book m''.1)) (sym (taken_sight m m' m'' t same)) turn_adds

  -- the view afterwards
  pub turn_after : (n : M) → n ≡ (one m''.0.ledger (seeing (sight_of m''.0) (carried_book m''.1)), []) → sight_of n.0 ≡ seeing (sight_of m.0) (carried_book m''.1)
  turn_after n back = ap (λ (x : M). sight_of x.0) back ∙ ap (λ (k : Sight). seeing k (carried_book m''.1)) (taken_sight m m' m'' t same)

  pub turned : (n : M) → n ≡ (one m''.0.ledger (seeing (sight_of m''.0) (carried_book m''.1)), []) → HasTurned gives waits runs (sight_of m.0) (sight_of n.0) r
  turned n back = record {
    before = t.book;
    after = carried_book m''.1;
    found = t.found;
    graph = turn_adds.graph;
    leaves = subst (λ (p : WorkerId × BookView). Leaves gives waits runs p.0 p.1 (carried_book m''.1) r) (λ i. (is i, taken_book m m' t i)) h.leaves;
    left = turn_adds.sound t.found.sound;
    sight = turn_after n back;
  }
