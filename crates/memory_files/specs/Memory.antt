-- What the source, the sink and the files in memory hold, and what a call does to them.
use Rattle.std.specs.Prelude.{ℕ, ◌-◌, ◌==◌, min, List, [], ◌++◌, length, take, drop, Bool, not, ◌&&◌, ◌||◌, if◌then◌else◌}
use Rattle.item_actions.specs.Files.{Folder}
use Rattle.memory_files.specs.Calls.{CallsView, next_fails, after_call}

-- a source in memory: the bytes left
pub record MemorySourceView : Type 0 where
  pub left : List ℕ
  pub log : CallsView

-- the source after a take into a buffer of this length
abbrev pub after_take : ℕ → MemorySourceView → MemorySourceView
after_take room store = record store {
  left = if next_fails store.log then store.left else drop room store.left;
  log = after_call (next_fails store.log) store.log;
}

-- a sink: the bytes taken, and how many it takes in all
pub record MemorySinkView : Type 0 where
  pub bytes : List ℕ
  pub room : ℕ
  pub log : CallsView

-- how many bytes of a piece there is room for
abbrev pub fitting : MemorySinkView → List ℕ → ℕ
fitting store piece = min (length piece) (store.room - length store.bytes)

-- a put fails by its number, or where no byte of a piece fits
abbrev pub put_fails : MemorySinkView → List ℕ → Bool
put_fails store piece = next_fails store.log || (fitting store piece == 0 && not (length piece == 0))

-- the sink after a put
abbrev pub after_put : Bool → MemorySinkView → List ℕ → MemorySinkView
after_put failed store piece = record store {
  bytes = store.bytes ++ (if failed then [] else take (fitting store piece) piece);
  log = after_call failed store.log;
}

-- a reader: its files
pub record MemoryFilesView : Type 0 where
  pub files : Folder
  pub log : CallsView

-- the reader after a read
abbrev pub after_read : MemoryFilesView → MemoryFilesView
after_read store = record store { log = after_call (next_fails store.log) store.log }
