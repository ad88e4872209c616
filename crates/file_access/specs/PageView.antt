-- A page that text is gathered on before it goes to the sink.
use Rattle.std.specs.Prelude.{◌≡◌, ℕ, List, [], ◌++◌, Bool, true, false}
use Rattle.file_access.specs.SinkView.{SinkView, Wrote, Broke}

-- what waits on the page, and whether the sink failed
pub record PageView : Type 0 where
  pub waiting : List ℕ
  pub failed : Bool

abbrev pub blank : PageView
blank = record { waiting = []; failed = false }

abbrev pub PrintedAs : Bool → SinkView → SinkView → List ℕ → List ℕ → Type 0
PrintedAs false start seen waiting text = (front : List ℕ) × (text ≡ front ++ waiting) × Wrote start seen front
PrintedAs true start seen waiting text = Broke start seen text

-- from the start on the text was printed on the page and the sink
abbrev pub Printed : SinkView → SinkView → PageView → List ℕ → Type 0
Printed start seen page_view text = PrintedAs page_view.failed start seen page_view.waiting text

-- the text was printed after what was printed before
pub record Adds (old : SinkView) (page_view : PageView) (new : SinkView) (page_view' : PageView) (text : List ℕ) : Type 0 where
  pub printed : (start : SinkView) (before : List ℕ) → Printed start old page_view before → Printed start new page_view' (before ++ text)
