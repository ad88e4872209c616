-- What a call answers before a command is carried out, and what is known of its desks.
use Rattle.std.proofs.Common.{◌≡◌, ◌≤◌, inl, inr, List, [], ◌∷◌, length, Option, None, Some, refl, sym, subst, arith}
use Rattle.std.proofs.KnownBytes.{Consumes-nil}
use Rattle.lock_journal.specs.BookView.{BookView}
use Rattle.file_access.proofs.lemmas.Printing.{wrote_nothing}
use Rattle.daemon_manager.specs.declared.events.Event.{Event}
use Rattle.run_watch.specs.declared.boards.Watch.{Watch}
use Rattle.command_words.specs.Failing.{NoMemoryOr}
use Rattle.command_words.specs.declared.commands.Command.{Command}
use Rattle.command_words.specs.declared.commands.Command.TheVariants.{Run, Worker, Check, Again, Make}
use Rattle.command_words.specs.declared.commands.WordsFail.{WordsFail}
use Rattle.command_words.specs.declared.commands.WordsFail.TheVariants.{NoCommand}
use Rattle.daemon_protocol.specs.StreamStart.{nothing}
use Rattle.daemon_desk.specs.Serving.{Outside, HasServed}
use Rattle.daemon_desk.specs.declared.served_stream.Served.TheVariants as ends
use Rattle.command_answers.specs.Around.{Around, Call, at_first_desk}
use Rattle.command_answers.specs.Answered.{Answered}
use Rattle.command_answers.specs.Told.{IsToldAs}
use Rattle.command_answers.specs.declared.status.Status.{Status}
use Rattle.command_answers.specs.declared.status.Status.TheVariants.{BadWords, NoMemory}

-- what was written instead of a command is no want of memory
pub no_command : (P : Type 0) (f : WordsFail) → f ≡ NoCommand → NoMemoryOr P f → P
no_command P f is h = subst (NoMemoryOr P) is h

-- words that are no command are refused
pub bad_words_answered : (command : Option Command) (f : WordsFail) (c : Call) → f ≡ NoCommand → NoMemoryOr (command ≡ None) f → c.book ≡ None → IsToldAs BadWords c.before.sink c.after.sink c.status → Answered command c
bad_words_answered command f c is none without known =
    subst (λ (k : Option Command). Answered k c) (sym (no_command (command ≡ None) f is none)) (without, inr (BadWords, refl, known))

served_nothing : (o : Outside) → HasServed o o ends.NoMemory
served_nothing o = record {
  came = [];
  rest = [];
  answers = [];
  answered = record {
    taken = Consumes-nil o.source.left;
    few = omega arith;
    requests = nothing [];
    honest = tt;
    faults = λ lt. omega arith;
  };
  nothing_behind = record { front = []; last = []; held_of = refl; unfinished = refl; lacked = omega arith };
  end = wrote_nothing o.sink;
}

-- a call that did nothing, for want of memory
at_no_memory : (command : Option Command) (o : Around) (events : List Event) (watch : List Watch) → Answered command (record { before = o; after = o; status = NoMemory; book = None; events = events; watch = watch })
at_no_memory None o events watch = (refl, inl (refl, wrote_nothing o.sink))
at_no_memory (Some (Run asked)) o events watch = record { refused = inl (refl, wrote_nothing o.sink); sent = inl (λ i. refl) }
at_no_memory (Some Worker) o events watch = (refl, (ends.NoMemory, served_nothing (at_first_desk o), refl))
at_no_memory (Some (Check name)) o events watch = (refl, inl (record { source = refl; refused = inl (refl, wrote_nothing o.sink) }))
at_no_memory (Some (Again name)) o events watch = (refl, inl (record { source = refl; refused = inl (refl, wrote_nothing o.sink) }))
at_no_memory (Some (Make asked)) o events watch = (refl, inl (refl, wrote_nothing o.sink))

-- nothing was done for want of memory
pub no_memory_answered : (command : Option Command) (o : Around) (status : Status) (book : Option BookView) (events : List Event) (watch : List Watch) → book ≡ None → status ≡ NoMemory
    → Answered command (record { before = o; after = o; status = status; book = book; events = events; watch = watch })
no_memory_answered command o status book events watch without is =
    subst (λ (b : Option BookView). Answered command (record { before = o; after = o; status = status; book = b; events = events; watch = watch })) (sym without)
    (subst (λ (s : Status). Answered command (record { before = o; after = o; status = s; book = None; events = events; watch = watch })) (sym is) (at_no_memory command o events watch))

-- one of the desks
pub some_desk : {D : Type 0} (desks : List D) → 1 ≤ length desks → D
some_desk [] some = absurd (omega (arith, some))
some_desk (desk ∷ desks) some = desk
