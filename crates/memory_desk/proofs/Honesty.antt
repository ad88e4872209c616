-- A worker that was sent one request answers that request, and what it told is its reply.
use Rattle.std.proofs.Common.{◌≡◌, ℕ, ◌<◌, ◌^◌, inl, inr, List, [], ◌∷◌, ◌++◌, Option, Some, None, length, map, refl, sym, ap, ◌∙◌, subst}
use Rattle.std.specs.List.{AllByRecursion}
use Rattle.std.specs.Io.KnownBytes.{Consumes, Appends}
use Rattle.std.proofs.lemmas.List.{append-nil}
use Rattle.item_actions.specs.Files.{Folder}
use Rattle.item_actions.specs.Value.{IsHonest, value_on}
use Rattle.item_actions.specs.declared.outcomes.Outcome.{Outcome}
use Rattle.daemon_protocol.specs.Spelling.{spelling, IsValid, FrameFits}
use Rattle.daemon_protocol.specs.StreamStart.{look, Cuts, nothing, first}
use Rattle.daemon_protocol.specs.declared.frames.Frame.{Frame}
use Rattle.daemon_protocol.specs.declared.frames.Frame.TheVariants as frames
use Rattle.daemon_protocol.specs.declared.frames.Reply.{Reply}
use Rattle.daemon_protocol.specs.declared.frames.Request.{Request}
use Rattle.daemon_protocol.specs.declared.starts.StreamStart.TheVariants.{Unfinished, Whole}
use Rattle.daemon_protocol.proofs.lemmas.Settled.{settles}
use Rattle.daemon_desk.specs.Answer.{Answer, asked, reply, replies, IsHonestAnswer}
use Rattle.daemon_desk.specs.Serving.{Outside, HasServed}
use Rattle.daemon_desk.specs.declared.served_stream.Served.TheVariants.{Done}

-- the bytes of a valid frame are read as that frame
abbrev pub Spelled : Type 0
Spelled = (f : Frame) (after : List ℕ) → IsValid f → FrameFits f → look (spelling f ++ after) ≡ Whole f (length (spelling f))

-- what was taken of known bytes is their front
front : (before after : Option (List ℕ)) (bytes came : List ℕ) → before ≡ Some bytes → Consumes before after came → (left : List ℕ) × (bytes ≡ came ++ left)
front None after bytes came is took = let no : None ≡ Some bytes = is in cc
front (Some xs) None bytes came is took = absurd took
front (Some xs) (Some ys) bytes came is took = let same : xs ≡ bytes = cc in (ys, sym same ∙ took)

-- an empty sink has what was written
written : (before after : Option (List ℕ)) (none bytes text : List ℕ) → before ≡ Some none → none ≡ [] → after ≡ Some bytes → Appends before after text → bytes ≡ text
written None after none bytes text was empty is wrote = let no : None ≡ Some none = was in cc
written (Some xs) None none bytes text was empty is wrote = absurd wrote
written (Some xs) (Some ys) none bytes text was empty is wrote =
    let nothing_there : xs ≡ [] = cc in
    let same : ys ≡ bytes = cc in
    sym same ∙ wrote ∙ ap (λ l. l ++ text) nothing_there

first_of : (came : List ℕ) (fs : List Frame) (rest : List ℕ) (f : Frame) (gs : List Frame) → fs ≡ f ∷ gs → Cuts came fs rest → (n : ℕ) × (look came ≡ Whole f n)
first_of came _ rest f gs is (nothing _) = let no : [] ≡ f ∷ gs = is in cc
first_of came _ rest f gs is (first _ g n hs _ whole later) = let same : g ≡ f = cc in (n, whole ∙ ap (λ (x : Frame). Whole x n) same)

-- the first request in the front of a request's bytes is that request
the_request : Spelled → (q asked_first : Request) (came left : List ℕ) (n : ℕ) → IsValid (frames.Request q) → FrameFits (frames.Request q) → spelling (frames.Request q) ≡ came ++ left
    → look came ≡ Whole (frames.Request asked_first) n → asked_first ≡ q
the_request spelled q asked_first came left n valid fits is whole =
    let text = spelling (frames.Request q) in
    let here : look (came ++ left) ≡ Whole (frames.Request q) (length text) = ap look (sym is ∙ sym (append-nil text)) ∙ spelled (frames.Request q) [] valid fits in
    let stays : look (came ++ left) ≡ Whole (frames.Request asked_first) n =
    elim (settles came left) [ inl more ↦ let no : Unfinished ≡ Whole (frames.Request asked_first) n = sym more ∙ whole in cc | inr same ↦ same ∙ whole ] in
    let both : Whole (frames.Request asked_first) n ≡ Whole (frames.Request q) (length text) = sym stays ∙ here in
    cc

-- the reply that the answers begin with is an honest one to the request
of_answers : Spelled → (files : Folder) (q : Request) (came left rest : List ℕ) (answers : List Answer) (r : Reply) (n : ℕ) → IsValid (frames.Request q) → FrameFits (frames.Request q) → spelling (frames.Request q) ≡ came ++ left
    → Cuts came (map asked answers) rest → AllByRecursion (IsHonestAnswer (Some files)) answers → look (replies answers) ≡ Whole (frames.Reply r) n
    → IsHonest r.outcome (value_on files q.action q.file)
of_answers spelled files q came left rest [] r n valid fits is cuts honest whole = let no : Unfinished ≡ Whole (frames.Reply r) n = whole in cc
of_answers spelled files q came left rest (a ∷ others) r n valid fits is cuts honest whole =
    let begins = first_of came (map asked (a ∷ others)) rest (asked a) (map asked others) refl cuts in
    let same : a.request ≡ q = the_request spelled q a.request came left begins.0 valid fits is begins.1 in
    let unit : a.request.unit < 2 ^ 32 = subst (λ (x : Request). x.unit < 2 ^ 32) (sym same) fits.0 in
    let told = spelled (reply a) (replies others) honest.0.ran (unit, honest.0.fits) in
    let both : Whole (reply a) (length (spelling (reply a))) ≡ Whole (frames.Reply r) n = sym told ∙ whole in
    let frame : reply a ≡ frames.Reply r = cc in
    let that : record { unit = a.request.unit; outcome = a.outcome; keep = a.request.keep } ≡ r = cc in
    subst (λ (o : Outcome). IsHonest o (value_on files q.action q.file)) (ap (λ (x : Reply). x.outcome) that)
    (subst (λ (x : Request). IsHonest a.outcome (value_on files x.action x.file)) same honest.0.honest)

-- a worker served one request over known files, and its sink has these bytes
pub honest_reply : {old new : Outside} → Spelled → (files : Folder) (q : Request) (given none bytes : List ℕ) (r : Reply) (n : ℕ) → IsValid (frames.Request q) → FrameFits (frames.Request q)
    → old.source.left ≡ Some given → given ≡ spelling (frames.Request q) → old.sink.taken ≡ Some none → none ≡ [] → new.sink.taken ≡ Some bytes → old.files ≡ Some files
    → HasServed old new Done → look bytes ≡ Whole (frames.Reply r) n → IsHonest r.outcome (value_on files q.action q.file)
honest_reply {old} {new} spelled files q given none bytes r n valid fits given_is spelled_is none_is empty bytes_is files_is served whole =
    let took = front old.source.left new.source.left given served.came given_is served.answered.taken in
    let text = written old.sink.taken new.sink.taken none bytes (replies served.answers) none_is empty bytes_is (served.end.2).taken in
    let honest = subst (λ (o : Option Folder). AllByRecursion (IsHonestAnswer o) served.answers) files_is served.answered.honest in
    of_answers spelled files q served.came took.0 served.rest served.answers r n valid fits (sym spelled_is ∙ took.1) served.answered.requests honest (sym (ap look text) ∙ whole)
