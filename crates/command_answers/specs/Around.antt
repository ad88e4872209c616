-- What a call has of the outside, and which of its desks it may use.
use Rattle.std.specs.Prelude.{ℕ, Bool, true, false, List, Option, None, Some}
use Rattle.file_access.specs.SinkView.{SinkView}
use Rattle.file_access.specs.SourceView.{SourceView}
use Rattle.lock_journal.specs.BookView.{BookView}
use Rattle.daemon_manager.specs.declared.events.Event.{Event}
use Rattle.run_watch.specs.declared.boards.Watch.{Watch}
use Rattle.build_workers.specs.Desks.{DeskView}
use Rattle.command_words.specs.declared.commands.Command.{Command}
use Rattle.command_words.specs.declared.commands.Command.TheVariants.{Run, Worker, Check, Again, Make}
use Rattle.daemon_desk.specs.Serving.{Outside}
use Rattle.command_answers.specs.declared.status.Status.{Status}

-- what is known of the source, of the sink, and of each desk by its number
pub record Around : Type 0 where
  pub source : SourceView
  pub sink : SinkView
  pub desks : ℕ → DeskView

abbrev pub around : SourceView → SinkView → (ℕ → DeskView) → Around
around source sink desks = record { source = source; sink = sink; desks = desks }

-- what a worker has of it, at the first desk
abbrev pub at_first_desk : Around → Outside
at_first_desk o = record { source = o.source; sink = o.sink; files = (o.desks 0).files; faults = (o.desks 0).faults }

-- a call: what was around it before and after it, and what it answered
pub record Call : Type 0 where
  pub before : Around
  pub after : Around
  pub status : Status
  pub book : Option BookView
  pub events : List Event
  pub watch : List Watch

-- so many desks a command may use, the first ones: a run has one for each thread
abbrev pub desks_used : Option Command → ℕ
desks_used None = 0
desks_used (Some (Run asked)) = asked.threads
desks_used (Some Worker) = 1
desks_used (Some (Check name)) = 1
desks_used (Some (Again name)) = 1
desks_used (Some (Make asked)) = 0

-- whether a command may take from the input
abbrev pub takes_input : Option Command → Bool
takes_input None = false
takes_input (Some (Run asked)) = false
takes_input (Some Worker) = true
takes_input (Some (Check name)) = true
takes_input (Some (Again name)) = true
takes_input (Some (Make asked)) = false
