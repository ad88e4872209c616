-- What a worker's history shows once it has run one more job.
use Rattle.std.proofs.Common.{◌≡◌, ◌<◌, ◌≤◌, ◌+◌, ℕ, true, cond, eqb, List, [], ◌∷◌, ◌++◌, length, map, Some, eq-eqb, refl, sym, ap, ◌∙◌, subst, arith}
use Rattle.std.proofs.lemmas.List.{append_assoc, length-append}
use Rattle.std.proofs.lemmas.List.Sums.{sum_by-append}
use Rattle.lock_journal.specs.Names.{GraphView, Holding, StateView, holding_of, Give, Unlock, LockId, WorkerId, BookView, Lawful, Entry, entry}
use Rattle.lock_journal.specs.Names.{replay, owned, Kind, Acquire, HandBack, NoneOf}
use Rattle.coordination.specs.Names.{IsSoundBook, Making, HasFinished, HoldsNothing, entry_count_of, last_of}
use Rattle.coordination.specs.declared.rule.Sight.{Sight}
use Rattle.worker_notes.proofs.lemmas.Growing.{last_of-own}
use Rattle.shared_services.specs.Services.{AreOneOfEach, AreServices}
use Rattle.shared_services.specs.Takings.{taken}
use Rattle.shared_services.specs.Done.{IsRunIn, OwnsOneOfEach, given_back}
use Rattle.shared_services.specs.Worked.{AlwaysOneOfEach, HasRunJob}
use Rattle.shared_services.specs.declared.jobs.JobDone.{JobDone}
use Rattle.shared_services.proofs.Owning.{owns_none_of, owns_one}
use Rattle.shared_services.proofs.Prefixes.{always_others, always_push}

-- an entry of the worker's is one
lone : (w : WorkerId) (e : Entry) → e.worker.0 ≡ w.0 → entry_count_of w (e ∷ []) ≡ 1
lone w e is = rw (eq-eqb e.worker.0 w.0 is) (omega arith)

module _ {kind : Kind} {makes : Making} {old new : Sight} (f : HasFinished kind makes old new) where
  saw : new.seen ≡ f.after
  saw = ap (λ (s : Sight). s.seen) f.sight

  same_worker : new.worker ≡ old.worker
  same_worker = ap (λ (s : Sight). s.worker) f.sight

  same_graph : new.seen.graph ≡ old.seen.graph
  same_graph = ap (λ (b : BookView). b.graph) saw ∙ (f.graph ∙ f.found.agrees.graph)

  grew : new.seen.history ≡ (old.seen.history ++ f.found.agrees.between) ++ entry old.worker kind (Some f.changes) ∷ []
  grew = ap (λ (b : BookView). b.history) saw ∙ (f.finished.history ∙ ap (λ (h : List Entry). h ++ entry old.worker kind (Some f.changes) ∷ []) f.found.agrees.history)

  is_sound : IsSoundBook new.seen
  is_sound = subst IsSoundBook (sym saw) f.left

  one_entry : entry_count_of new.worker new.seen.history ≡ entry_count_of old.worker old.seen.history + 1
  one_entry =
      let long : new.seen.history ≡ f.before.history ++ entry old.worker kind (Some f.changes) ∷ [] = ap (λ (b : BookView). b.history) saw ∙ f.finished.history in
      let sum : entry_count_of old.worker (f.before.history ++ entry old.worker kind (Some f.changes) ∷ []) ≡ entry_count_of old.worker f.before.history + entry_count_of old.worker (entry old.worker kind (Some f.changes) ∷ []) =
      sum_by-append (λ (x : Entry). cond (eqb x.worker.0 old.worker.0) 1 0) f.before.history (entry old.worker kind (Some f.changes) ∷ []) in
      let all : entry_count_of old.worker new.seen.history ≡ entry_count_of old.worker (f.before.history ++ entry old.worker kind (Some f.changes) ∷ []) = ap (λ (h : List Entry). entry_count_of old.worker h) long in
      let own : entry_count_of old.worker (entry old.worker kind (Some f.changes) ∷ []) ≡ 1 = lone old.worker (entry old.worker kind (Some f.changes)) refl in
      subst (λ (v : WorkerId). entry_count_of v new.seen.history ≡ entry_count_of old.worker old.seen.history + 1) (sym same_worker) (omega (arith, all, sum, own, f.found.agrees.count))

  still_always : (maxima : List ℕ) → OwnsOneOfEach maxima new.seen.state old.worker → AlwaysOneOfEach maxima old.seen.graph old.seen.history old.worker → AlwaysOneOfEach maxima new.seen.graph new.seen.history old.worker
  still_always maxima owns always =
      let between : List Entry = f.found.agrees.between in
      let h : List Entry = old.seen.history ++ f.found.agrees.between in
      let e : Entry = entry old.worker kind (Some f.changes) in
      let lawful : Lawful old.seen.graph (old.seen.history ++ f.found.agrees.between) = subst (λ (es : List Entry). Lawful old.seen.graph es) f.found.agrees.history (subst (λ (g : GraphView). Lawful g f.before.history) f.found.agrees.graph f.found.sound.lawful) in
      let meanwhile = always_others maxima old.seen.graph old.seen.history f.found.agrees.between old.worker lawful f.found.agrees.others always in
      let state : new.seen.state ≡ replay old.seen.graph ((old.seen.history ++ f.found.agrees.between) ++ entry old.worker kind (Some f.changes) ∷ []) = is_sound.replays ∙ (λ i. replay (same_graph i) (grew i)) in
      subst (λ (g : GraphView). AlwaysOneOfEach maxima g new.seen.history old.worker) (sym same_graph)
      (subst (λ (es : List Entry). AlwaysOneOfEach maxima old.seen.graph es old.worker) (sym grew)
      (always_push maxima old.seen.graph (old.seen.history ++ f.found.agrees.between) (entry old.worker kind (Some f.changes)) old.worker meanwhile
      (subst (λ (s : StateView). OwnsOneOfEach maxima s old.worker) state owns)))

pub record IsOneMore (maxima asked : List ℕ) (old new : Sight) (d : JobDone) : Type 0 where
  pub worker : new.worker ≡ old.worker
  pub graph : new.seen.graph ≡ old.seen.graph
  pub rests : HoldsNothing new
  pub sound : IsSoundBook new.seen
  pub always : AlwaysOneOfEach maxima old.seen.graph old.seen.history old.worker → AlwaysOneOfEach maxima new.seen.graph new.seen.history new.worker
  pub more : List Entry
  pub grew : new.seen.history ≡ old.seen.history ++ more
  pub run : IsRunIn maxima asked new.seen.history d.worker d.taken
  pub later : length old.seen.history < d.taken
  pub within : d.taken ≤ length new.seen.history
  pub own : d.worker ≡ new.worker
  pub two : entry_count_of new.worker new.seen.history ≡ entry_count_of old.worker old.seen.history + 2

cut : (a b c : List Entry) (e f : Entry) → ((((a ++ b) ++ e ∷ []) ++ c) ++ f ∷ []) ≡ (a ++ b) ++ (e ∷ (c ++ (f ∷ [])))
cut a b c e f = append_assoc ((a ++ b) ++ e ∷ []) c (f ∷ []) ∙ append_assoc (a ++ b) (e ∷ []) (c ++ f ∷ [])

last_grew : (w : WorkerId) (h front : List Entry) (e : Entry) → h ≡ front ++ e ∷ [] → e.worker.0 ≡ w.0 → last_of w h ≡ length front + 1
last_grew w h front e is own = ap (λ (es : List Entry). last_of w es) is ∙ (last_of-own w front e own ∙ length-append front (e ∷ []))

longer : (front : List Entry) (e : Entry) (rest h : List Entry) (n : ℕ) → h ≡ front ++ (e ∷ rest) → n ≡ length front + 1 → n ≤ length h
longer front e rest h n is at = let long : length h ≡ length front + length (e ∷ rest) = ap (λ (es : List Entry). length es) is ∙ length-append front (e ∷ rest) in omega (arith, long, at)

pub one_more : (maxima asked : List ℕ) {old new : Sight} {d : JobDone} → AreServices maxima asked → HoldsNothing old → HasRunJob maxima asked old new d → IsOneMore maxima asked old new d
one_more maxima asked {old} {new} {d} are rests job =
    let f = job.took.entry in
    let shown = job.took.shown in
    let m : Sight = job.meanwhile in
    let k = job.gave in
    let given = job.given in
    let locks : List LockId = job.took.entry.finished.made.locks in
    let lowest = job.took.entry.finished.made.lowest in
    let each : AreOneOfEach maxima asked job.took.entry.finished.made.locks = record { count = lowest.count; of_service = λ i low. (lowest.lowest i low).of_service } in
    let to_m : job.meanwhile.worker ≡ old.worker = same_worker f in
    let to_new : new.worker ≡ job.meanwhile.worker = same_worker k in
    let old_is : old.worker ≡ d.worker = sym (job.worker ∙ (to_new ∙ to_m)) in
    let m_is : job.meanwhile.worker ≡ d.worker = to_m ∙ old_is in
    let owned_there : owned k.before.state job.meanwhile.worker ≡ job.took.entry.finished.made.locks = k.found.agrees.state.owned ∙ shown.locks in
    let lease_there : (holding_of k.before.state job.meanwhile.worker).lease ≡ true = ap (λ (h : Holding). h.lease) k.found.agrees.state.holding ∙ shown.lease in
    let back : k.changes ≡ given_back job.took.entry.finished.made.locks = k.finished.made ∙ (λ i. map Unlock (owned_there i) ++ cond (lease_there i) (Give ∷ []) []) in
    let front : List Entry = old.seen.history ++ f.found.agrees.between in
    let b : List Entry = k.found.agrees.between in
    let entries : new.seen.history ≡ (old.seen.history ++ f.found.agrees.between) ++ (entry d.worker Acquire (Some (taken job.took.entry.finished.made.locks)) ∷ (k.found.agrees.between ++ (entry d.worker HandBack (Some (given_back job.took.entry.finished.made.locks)) ∷ []))) =
    grew k ∙ (ap (λ (h : List Entry). (h ++ k.found.agrees.between) ++ entry job.meanwhile.worker HandBack (Some k.changes) ∷ []) (grew f)
    ∙ ((λ i. (((old.seen.history ++ f.found.agrees.between) ++ entry (old_is i) Acquire (Some (f.finished.made.made i)) ∷ []) ++ k.found.agrees.between) ++ entry (m_is i) HandBack (Some (back i)) ∷ [])
    ∙ cut old.seen.history f.found.agrees.between k.found.agrees.between (entry d.worker Acquire (Some (taken job.took.entry.finished.made.locks))) (entry d.worker HandBack (Some (given_back job.took.entry.finished.made.locks))))) in
    let rest : List Entry = k.found.agrees.between ++ (entry d.worker HandBack (Some (given_back job.took.entry.finished.made.locks)) ∷ []) in
    let place : d.taken ≡ length (old.seen.history ++ f.found.agrees.between) + 1 =
    job.taken ∙ (last_grew job.meanwhile.worker job.meanwhile.seen.history (old.seen.history ++ f.found.agrees.between) (entry old.worker Acquire (Some f.changes)) (grew f) (ap (λ (w : WorkerId). w.0) (sym to_m))) in
    let owns_m : OwnsOneOfEach maxima job.meanwhile.seen.state old.worker = subst (λ (w : WorkerId). OwnsOneOfEach maxima job.meanwhile.seen.state w) to_m (owns_one maxima asked job.took.entry.finished.made.locks job.meanwhile.seen.state job.meanwhile.worker are each shown.locks) in
    let owns_new : OwnsOneOfEach maxima new.seen.state job.meanwhile.worker = subst (λ (w : WorkerId). OwnsOneOfEach maxima new.seen.state w) to_new (owns_none_of maxima new.seen.state new.worker given.locks) in
    record {
      worker = to_new ∙ to_m;
      graph = same_graph k ∙ same_graph f;
      rests = record {
        locks = given.locks;
        claimed = given.claimed ∙ shown.claimed;
        holding = (λ i. record { lease = given.lease i; parked = (given.parked ∙ shown.parked) i; blocked = (given.blocked ∙ (shown.blocked ∙ ap (λ (h : Holding). h.blocked) rests.holding)) i });
      };
      sound = is_sound k;
      always = λ always.
          let first = still_always f maxima owns_m always in
          let second = still_always k maxima owns_new (subst (λ (w : WorkerId). AlwaysOneOfEach maxima job.meanwhile.seen.graph job.meanwhile.seen.history w) (sym to_m) first) in
          subst (λ (w : WorkerId). AlwaysOneOfEach maxima new.seen.graph new.seen.history w) (sym to_new) second;
      more = f.found.agrees.between ++ (entry d.worker Acquire (Some (taken job.took.entry.finished.made.locks)) ∷ (k.found.agrees.between ++ (entry d.worker HandBack (Some (given_back job.took.entry.finished.made.locks)) ∷ [])));
      grew = entries ∙ append_assoc old.seen.history f.found.agrees.between _;
      run = record {
        locks = job.took.entry.finished.made.locks;
        before = old.seen.history ++ f.found.agrees.between;
        between = k.found.agrees.between;
        later = [];
        one_each = each;
        entries = entries;
        place = place;
        others = subst (λ (w : WorkerId). NoneOf w k.found.agrees.between) m_is k.found.agrees.others;
      };
      later = omega (arith, place, length-append old.seen.history f.found.agrees.between);
      within = longer (old.seen.history ++ f.found.agrees.between) _ (k.found.agrees.between ++ (entry d.worker HandBack (Some (given_back job.took.entry.finished.made.locks)) ∷ [])) new.seen.history d.taken entries place;
      own = job.worker;
      two = let first = one_entry f in let second = one_entry k in omega (arith, first, second);
    }
