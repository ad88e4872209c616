-- What serving did goes on over the next request, and over its end.
use Rattle.std.proofs.Common.{◌≡◌, ℕ, ◌+◌, ◌-◌, ◌^◌, ◌<◌, ◌≤◌, inl, inr, List, [], ◌∷◌, ◌++◌, Option, Result, Ok, Err, true, false, cond, length, map, refl, sym, ap, subst, ◌∙◌, arith, length-append}
use Rattle.std.specs.Prelude.{◌==◌}
use Rattle.std.specs.Result.{IsErrAnd}
use Rattle.std.proofs.KnownBytes.{Consumes-trans}
use Rattle.std.proofs.lemmas.Grind.{flat_map-append}
use Rattle.std.proofs.lemmas.List.{map-append, drop_all, append-nil}
use Rattle.std.proofs.lemmas.List.Sums.{sum_by-append}
use Rattle.item_actions.specs.Files.{Folder}
use Rattle.item_actions.specs.declared.outcomes.Outcome.{Outcome}
use Rattle.item_actions.specs.declared.outcomes.Outcome.TheVariants as outcomes
use Rattle.daemon_protocol.specs.Spelling.{spelling}
use Rattle.daemon_protocol.specs.StreamStart.{look, Cuts, nothing, first}
use Rattle.daemon_protocol.specs.declared.frames.Frame.TheVariants.{Request, Reply, Stop}
use Rattle.daemon_protocol.specs.declared.frames.Request.{Request as Asked}
use Rattle.daemon_protocol.specs.declared.starts.StreamStart.{StreamStart}
use Rattle.daemon_protocol.specs.declared.starts.StreamStart.TheVariants.{Unfinished, Whole, Refused}
use Rattle.daemon_protocol.proofs.lemmas.Settled.{cuts_longer, cuts_piece}
use Rattle.file_access.specs.SinkView.{SinkView, Rises, Wrote, Broke}
use Rattle.file_access.specs.SourceView.{SourceView}
use Rattle.file_access.proofs.lemmas.Counting.{fault_rises}
use Rattle.file_access.proofs.lemmas.Lists.{all_append}
use Rattle.file_access.proofs.lemmas.Printing.{wrote_nothing, wrote_then, broke_then}
use Rattle.daemon_desk.specs.Answer.{Answer, asked, reply, replies, IsHonestAnswer, IsWorkedOut}
use Rattle.item_actions.specs.Value.{is_fault}
use Rattle.daemon_desk.specs.declared.served_stream.TheConstants.{MAX_STREAM_BYTES}
use Rattle.daemon_desk.specs.Answering.{answer_of, AnswersAs}
use Rattle.daemon_desk.specs.Ends.{served_of}
use Rattle.file_access.specs.declared.files.DeskFail.{DeskFail}
use Rattle.file_access.specs.declared.files.DeskFail.TheVariants as fails
use Rattle.daemon_desk.specs.Taking.{NothingBehind, Takes, IsTaken, TakesFrame}
use Rattle.daemon_desk.specs.Serving.{Outside, ending, IsOver, IsEnd, HasAnswered, HasServed, IsServing, ServesOn}
use Rattle.daemon_desk.specs.declared.served_stream.Served.{Served}
use Rattle.daemon_desk.specs.declared.served_stream.Served.TheVariants.{Done, BadFrame, SourceFault, SinkFault, NoMemory}
use Rattle.daemon_desk.proofs.Supplies.{none_behind, takes_nothing}

pub serving_nothing : (o : Outside) → IsServing o o MAX_STREAM_BYTES
serving_nothing o = record {
  came = [];
  answers = [];
  answered = record {
    taken = (takes_nothing o.source 0).taken;
    few = omega arith;
    requests = nothing [];
    honest = tt;
    faults = λ lt. omega arith;
  };
  wrote = wrote_nothing o.sink;
  room = omega arith;
  files = refl;
  faults = omega arith;
  source_faults = omega arith;
}

-- bytes that aren't answered
pub answered_rest : {old mid new : Outside} (room : ℕ) (held : List ℕ) (s : IsServing old mid room) → Takes mid.source new.source room held → mid.faults ≤ new.faults
    → HasAnswered old new (s.came ++ held) held s.answers
answered_rest {old} {mid} {new} room held s takes faults = record {
  taken = Consumes-trans old.source.left mid.source.left new.source.left s.came held s.answered.taken takes.taken;
  few = omega (arith, s.room, takes.few, length-append s.came held);
  requests = cuts_longer s.came (map asked s.answers) [] held s.answered.requests;
  honest = s.answered.honest;
  faults = λ lt. let before = s.answered.faults (omega arith) in omega arith;
}

one_request : (held : List ℕ) (a : Answer) (n : ℕ) → look held ≡ Whole (asked a) n → n ≡ length held → Cuts held (asked a ∷ []) []
one_request held a n whole is =
    first held (asked a) n [] [] whole (subst (λ rest. Cuts rest [] []) (sym (drop_all n held (omega (arith, is)))) (nothing []))

-- a fault is counted, as far as the count goes
counted : (o : Outcome) (before after : ℕ) → (o ≡ outcomes.Fault → Rises before after) → before ≤ after → after < 2 ^ 64 - 1 → cond (is_fault o) 1 0 + before ≤ after
counted outcomes.Fault before after rises le lt = let r = rises refl in omega arith
counted (outcomes.Number n) before after rises le lt = omega arith
counted (outcomes.Digest d) before after rises le lt = omega arith
counted outcomes.NotThere before after rises le lt = omega arith
counted outcomes.TooLong before after rises le lt = omega arith
counted outcomes.NoMemory before after rises le lt = omega arith
counted outcomes.Skipped before after rises le lt = omega arith

-- one request more was answered
pub answered_more : {old mid new : Outside} (room n : ℕ) (held : List ℕ) (a : Answer) (s : IsServing old mid room) → Takes mid.source new.source room held → mid.faults ≤ new.faults
    → look held ≡ Whole (asked a) n → n ≡ length held → IsWorkedOut mid.files mid.faults new.faults a
    → HasAnswered old new (s.came ++ held) [] (s.answers ++ a ∷ [])
answered_more {old} {mid} {new} room n held a s takes faults whole is worked = record {
  taken = Consumes-trans old.source.left mid.source.left new.source.left s.came held s.answered.taken takes.taken;
  few = omega (arith, s.room, takes.few, length-append s.came held);
  requests = subst (λ fs. Cuts (s.came ++ held) fs []) (sym (map-append asked s.answers (a ∷ []))) (cuts_piece s.came (map asked s.answers) [] held (asked a ∷ []) [] s.answered.requests (one_request held a n whole is));
  honest = all_append (IsHonestAnswer old.files) s.answers (a ∷ []) s.answered.honest (subst (λ (o : Option Folder). IsHonestAnswer o a) s.files worked.honest, tt);
  faults = λ lt.
      let before = s.answered.faults (omega arith) in
      let more = counted a.outcome mid.faults new.faults (fault_rises a.outcome mid.faults new.faults worked.counted) faults lt in
      omega (arith, before, more, sum_by-append (λ (x : Answer). cond (is_fault x.outcome) 1 0) s.answers (a ∷ []));
}

replies_more : (answers : List Answer) (a : Answer) → replies answers ++ spelling (reply a) ≡ replies (answers ++ a ∷ [])
replies_more answers a = sym (flat_map-append (λ (x : Answer). spelling (reply x)) answers (a ∷ []) ∙ ap (λ l. replies answers ++ l) (append-nil (spelling (reply a))))

pub serving_more : {old mid new : Outside} (room n len : ℕ) (held : List ℕ) (a : Answer) → len ≡ length held → (s : IsServing old mid room) → Takes mid.source new.source room held → mid.faults ≤ new.faults → new.files ≡ mid.files
    → look held ≡ Whole (asked a) n → n ≡ length held → IsWorkedOut mid.files mid.faults new.faults a → Wrote mid.sink new.sink (spelling (reply a))
    → IsServing old new (room - len)
serving_more {old} {mid} {new} room n len held a counted_as s takes faults files whole is worked wrote = record {
  came = s.came ++ held;
  answers = s.answers ++ a ∷ [];
  answered = answered_more room n held a s takes faults whole is worked;
  wrote = subst (Wrote old.sink new.sink) (replies_more s.answers a) (wrote_then s.wrote wrote);
  room = omega (arith, counted_as, s.room, takes.few, length-append s.came held);
  files = files ∙ s.files;
  faults = omega (arith, s.faults, faults);
  source_faults = omega (arith, s.source_faults, takes.faults);
}

-- the sink failed in a reply
pub served_sink_fault : {old mid new : Outside} (room n : ℕ) (held : List ℕ) (a : Answer) (s : IsServing old mid room) → Takes mid.source new.source room held → mid.faults ≤ new.faults
    → look held ≡ Whole (asked a) n → n ≡ length held → IsWorkedOut mid.files mid.faults new.faults a → Broke mid.sink new.sink (spelling (reply a))
    → HasServed old new SinkFault
served_sink_fault {old} {mid} {new} room n held a s takes faults whole is worked broke = record {
  came = s.came ++ held;
  rest = [];
  answers = s.answers ++ a ∷ [];
  answered = answered_more room n held a s takes faults whole is worked;
  nothing_behind = none_behind [] refl;
  end = (refl, subst (Broke old.sink new.sink) (replies_more s.answers a) (broke_then s.wrote broke));
}

-- there was no memory, and nothing more was written
pub served_no_memory : {old mid new : Outside} (room : ℕ) (held : List ℕ) (s : IsServing old mid room) → Takes mid.source new.source room held → NothingBehind held → mid.faults ≤ new.faults → new.sink ≡ mid.sink
    → HasServed old new NoMemory
served_no_memory {old} {mid} {new} room held s takes behind faults sink = record {
  came = s.came ++ held;
  rest = held;
  answers = s.answers;
  answered = answered_rest room held s takes faults;
  nothing_behind = behind;
  end = subst (λ (k : SinkView). Wrote old.sink k (replies s.answers)) (sym sink) s.wrote;
}

-- the source failed
pub served_source_fault : {old mid new : Outside} (room : ℕ) (held : List ℕ) (s : IsServing old mid room) → Takes mid.source new.source room held → mid.faults ≤ new.faults → new.sink ≡ mid.sink
    → look held ≡ Unfinished → Rises mid.source.faults new.source.faults
    → HasServed old new SourceFault
served_source_fault {old} {mid} {new} room held s takes faults sink unfinished rises = record {
  came = s.came ++ held;
  rest = held;
  answers = s.answers;
  answered = answered_rest room held s takes faults;
  nothing_behind = none_behind held unfinished;
  end = (unfinished, omega (arith, rises, s.source_faults), subst (λ (k : SinkView). Wrote old.sink k (replies s.answers)) (sym sink) s.wrote);
}

at_ending : (P : Served → Type 0) → P Done → ((place : ℕ) → P (BadFrame place)) → (start : StreamStart) (came rest : ℕ) → P (ending start came rest)
at_ending P done bad (Whole Stop n) came rest = done
at_ending P done bad (Whole (Request r) n) came rest = bad _
at_ending P done bad (Whole (Reply r) n) came rest = bad _
at_ending P done bad (Refused flaw) came rest = bad _
at_ending P done bad Unfinished came rest =
    elim (came == MAX_STREAM_BYTES) as (λ all. P (cond all (BadFrame MAX_STREAM_BYTES) (cond (rest == 0) Done (BadFrame (came - rest))))) [
      | true ↦ bad _
      | false ↦ elim (rest == 0) as (λ none. P (cond none Done (BadFrame (came - rest)))) [ true ↦ done | false ↦ bad _ ]
    ]

is_over : (start : StreamStart) (room came held : ℕ) (left : Option (List ℕ)) → came + room ≡ MAX_STREAM_BYTES → ((r : _) (n : ℕ) → start ≡ Whole (Request r) n → ⊥) → IsTaken start held room left → IsOver start (came + held) held left
is_over (Whole (Request r) n) room came held left all others taken = absurd (others r n refl)
is_over (Whole (Reply r) n) room came held left all others taken = taken
is_over (Whole Stop n) room came held left all others taken = taken
is_over (Refused flaw) room came held left all others taken = tt
is_over Unfinished room came held left all others (inl full) = inl (omega (arith, all, full))
is_over Unfinished room came held left all others (inr end) = inr end

-- no request came any more
pub served_end : {old mid new : Outside} (room len : ℕ) (held : List ℕ) (start : StreamStart) (served : Served) → len ≡ length held → (s : IsServing old mid room) → Takes mid.source new.source room held → NothingBehind held → mid.faults ≤ new.faults → new.sink ≡ mid.sink
    → start ≡ look held → ((r : _) (n : ℕ) → start ≡ Whole (Request r) n → ⊥) → IsTaken start (length held) room new.source.left
    → served ≡ ending start (MAX_STREAM_BYTES - room + len) len
    → HasServed old new served
served_end {old} {mid} {new} room len held start served counted_as s takes behind faults sink looked others taken is =
    let came = s.came ++ held in
    let count : length came ≡ length s.came + length held = length-append s.came held in
    let wrote : Wrote old.sink new.sink (replies s.answers) = subst (λ (k : SinkView). Wrote old.sink k (replies s.answers)) (sym sink) s.wrote in
    let over : IsOver (look held) (length came) (length held) new.source.left =
    subst (λ (x : StreamStart). IsOver x (length came) (length held) new.source.left) looked
    (subst (λ n. IsOver start n (length held) new.source.left) (sym count) (is_over start room (length s.came) (length held) new.source.left s.room others taken)) in
    let place : MAX_STREAM_BYTES - room + len ≡ length came = omega (arith, count, counted_as, s.room, takes.few) in
    let same : served ≡ ending (look held) (length came) (length held) = is ∙ (λ i. ending (looked i) (place i) (counted_as i)) in
    let ends : (x : Served) → x ≡ ending (look held) (length came) (length held) → IsEnd old new came held (replies s.answers) x =
    λ x e. subst (λ y. y ≡ ending (look held) (length came) (length held) → IsEnd old new came held (replies s.answers) y) (sym e)
    (at_ending (λ y. y ≡ ending (look held) (length came) (length held) → IsEnd old new came held (replies s.answers) y) (λ d. (d, over, wrote)) (λ place d. (d, over, wrote)) (look held) (length came) (length held)) e in
    record {
      came = came;
      rest = held;
      answers = s.answers;
      answered = answered_rest room held s takes faults;
      nothing_behind = behind;
      end = ends served same;
    }

-- no frame was taken
pub served_untaken : {start old : Outside} {source : SourceView} (room : ℕ) (held : List ℕ) (fail : DeskFail) → TakesFrame old.source source room held (Err fail) → IsServing start old room
    → HasServed start (record { source = source; sink = old.sink; files = old.files; faults = old.faults }) (served_of fail)
served_untaken room held fails.Failed took s = served_source_fault room took.0 s took.1 (omega arith) refl took.2 took.3
served_untaken room held fails.NoMemory took s = served_no_memory room took.0 s took.1 took.2 (omega arith) refl

-- no reply was written
pub served_unanswered : {old mid new : Outside} (room n : ℕ) (held : List ℕ) (r : Asked) (served : Served) → AnswersAs {A = Unit {0}} mid.files mid.faults new.faults mid.sink new.sink r (Err served) → (s : IsServing old mid room)
    → Takes mid.source new.source room held → NothingBehind held → mid.faults ≤ new.faults → look held ≡ Whole (Request r) n → n ≡ length held
    → HasServed old new served
served_unanswered room n held r SinkFault did s takes behind faults whole is = served_sink_fault room n held (answer_of r did.0) s takes faults whole is did.1 did.2
served_unanswered room n held r NoMemory did s takes behind faults whole is = served_no_memory room held s takes behind faults did
served_unanswered room n held r SourceFault did s takes behind faults whole is = absurd did
served_unanswered room n held r Done did s takes behind faults whole is = absurd did
served_unanswered room n held r (BadFrame place) did s takes behind faults whole is = absurd did

-- the error that `?` hands on
pub ended : {old new : Outside} (room : ℕ) (r : Result ℕ Served) (served : Served) → IsErrAnd r (λ x. x ≡ served) → HasServed old new served → ServesOn old new room r
ended room (Ok len) served is ends = absurd is
ended {old} {new} room (Err x) served is ends = subst (HasServed old new) (sym is) ends
