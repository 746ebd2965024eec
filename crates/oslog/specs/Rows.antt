-- The grammar of a log: a row for each form of an item. [own]
use Rattle.std.specs.Prelude.{ℕ, List, [], ◌∷◌, codes}
use Rattle.oslog.specs.{declared.rows.Keyword.Keyword as Word, declared.rows.Kind.Kind, declared.rows.Line.Line, declared.rows.Row.Row, declared.rows.Tail.Tail}
use Rattle.oslog.specs.declared.rows.Keyword.TheVariants as W
use Rattle.oslog.specs.declared.rows.Kind.TheVariants as K
use Rattle.oslog.specs.declared.rows.Line.TheVariants as L
use Rattle.oslog.specs.declared.rows.Tail.TheVariants as T

-- The text of a keyword, one of the log's own words.
abbrev pub keyword_text : Word → List ℕ
keyword_text W.On = codes "on"
keyword_text W.Began = codes "began"
keyword_text W.Entered = codes "entered"
keyword_text W.Pass1 = codes "pass1"
keyword_text W.Conflict = codes "conflict"
keyword_text W.NoMode = codes "none"
keyword_text W.Readied = codes "readied"
keyword_text W.Pass2 = codes "pass2"
keyword_text W.Stim = codes "stim"
keyword_text W.Op = codes "op"
keyword_text W.Tick = codes "tick"
keyword_text W.Post = codes "post"
keyword_text W.Received = codes "in"
keyword_text W.Request = codes "req"
keyword_text W.Action = codes "act"
keyword_text W.Reply = codes "rep"
keyword_text W.Granted = codes "granted"
keyword_text W.Tried = codes "tried"
keyword_text W.Freed = codes "freed"
keyword_text W.Yes = codes "1"
keyword_text W.No = codes "0"
keyword_text W.Halt = codes "halt"
keyword_text W.Drained = codes "drained"
keyword_text W.PassEnd = codes "passend"
keyword_text W.Last = codes "last"

-- A row by its parts: the first word, the kinds of the words after it, and what follows these words.
abbrev pub row_view : Row → Word × List Kind × Tail
row_view row = (row.first, row.kinds.now, row.tail)

-- The row of this first word and words of these kinds, with nothing after them.
abbrev pub words_row : Word → List Kind → Word × List Kind × Tail
words_row first kinds = (first, kinds, T.Nothing)

-- The row of a letter with a call: `in`, the letter's sender and number, the keyword `message`, and the call.
abbrev pub call_row : Word → Word × List Kind × Tail
call_row message = (W.Received, K.Core ∷ K.Count ∷ K.Keyword message ∷ [], T.Call)

-- The row of each form. [own]
abbrev pub row_of : Line → Word × List Kind × Tail
row_of L.Op = words_row W.Stim (K.Keyword W.Op ∷ [])
row_of L.Tick = words_row W.Stim (K.Keyword W.Tick ∷ [])
row_of L.Irq = words_row W.Stim (K.Irq ∷ [])
row_of L.Posted = words_row W.Post (K.Core ∷ [])
row_of L.Request = call_row W.Request
row_of L.Action = call_row W.Action
row_of L.Reply = words_row W.Received (K.Core ∷ K.Count ∷ K.Keyword W.Reply ∷ K.Status ∷ [])
row_of L.Value = words_row W.Received (K.Core ∷ K.Count ∷ K.Keyword W.Reply ∷ K.Status ∷ K.Value ∷ [])
row_of L.On = words_row W.On []
row_of L.Began = words_row W.Began (K.Core ∷ K.Status ∷ [])
row_of L.Entered = words_row W.Entered []
row_of L.Conflict = words_row W.Pass1 (K.Keyword W.Conflict ∷ [])
row_of L.Agreed = words_row W.Pass1 (K.Mode ∷ [])
row_of L.NoMode = words_row W.Pass1 (K.Keyword W.NoMode ∷ [])
row_of L.Readied = words_row W.Readied []
row_of L.Started = (W.Pass2, [], T.Cores)
row_of L.Granted = words_row W.Granted (K.Spinlock ∷ [])
row_of L.Taken = words_row W.Tried (K.Spinlock ∷ K.Keyword W.Yes ∷ [])
row_of L.NotTaken = words_row W.Tried (K.Spinlock ∷ K.Keyword W.No ∷ [])
row_of L.Freed = words_row W.Freed (K.Spinlock ∷ [])
row_of L.Halt = words_row W.Halt (K.Core ∷ K.Status ∷ [])
row_of L.Drained = words_row W.Drained []
row_of L.PassEnd = words_row W.PassEnd []
row_of L.Last = words_row W.Last []
row_of L.LastHalted = words_row W.Last (K.Core ∷ K.Status ∷ [])
