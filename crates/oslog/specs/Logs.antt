-- The log of items, and the items of a log. [own]
use Rattle.std.specs.Prelude.{◌≡◌, ◌⊎◌, ℕ, ◌==◌, ◌&&◌, ◌++◌, nat_le, if◌then◌else◌, Bool, true, Option, Some, List, [], ◌∷◌, codes, length}
use Rattle.std.specs.List.{flat_map, list_all}
use Rattle.osbase.specs.{Objects.isr_object, Objects.object_of_call, declared.items.Agreement.Agreement, declared.items.Item.Item, declared.items.Stimulus.Stimulus, declared.limits.TheConstants.CORES, declared.messages.Message.Message, declared.messages.RemoteCall.RemoteCall, declared.references.CoreId.CoreId}
use Rattle.oscript.specs.{Calls.op_of_call, Rows.has_masks, Rows.is_in_form, Rows.is_int}
use Rattle.osplan.specs.{Limits.is_mode, Limits.is_object, Limits.is_spinlock, declared.plans.Plan.Plan}
use Rattle.osjson.specs.Reading.{each, parts_of}
use Rattle.oslog.specs.Items.{item_of_text, line_of}

-- A line end.
abbrev pub line_end : List ℕ
line_end = codes "\n"

-- The log of items: the line of each with its end, in their order. [own]
abbrev pub log_text : Plan → List Item → List ℕ
log_text plan items = flat_map (λ item. line_of plan item ++ line_end) items

-- ---- which items are representable: those whose numbers have the sizes of their types, and that refer to modes, spinlocks and objects
-- of the configuration

-- The core's number is a byte.
abbrev pub is_core_number : CoreId → Bool
is_core_number core = nat_le core.number 255

-- The call's arguments are of the kinds and in the ranges that its operation takes. The call's mask, if it has one, has
-- an event. The call's object is in the configuration.
abbrev pub is_call_representable : Plan → RemoteCall → Bool
is_call_representable plan call = is_in_form (op_of_call call) && has_masks (op_of_call call) && is_object plan (object_of_call call)

-- If the message has a call, the call is representable. If it has a value, the value is a signed number of 64 bits. A
-- reply without a value passes.
abbrev pub is_message_representable : Plan → Message → Bool
is_message_representable plan (Message.Request call) = is_call_representable plan call
is_message_representable plan (Message.Action call) = is_call_representable plan call
is_message_representable plan (Message.Reply status) = true
is_message_representable plan (Message.Value status value) = is_int value

-- Each number of the item is within its type, a set of cores has 16 places, and a call or a value is representable. The
-- configuration has each mode, spinlock and object of the item.
abbrev pub is_item_representable : Plan → Item → Bool
is_item_representable plan (Item.Began core status) = is_core_number core
is_item_representable plan (Item.Pass1 (Agreement.Mode mode)) = is_mode plan mode
is_item_representable plan (Item.Pass2 cores) = length cores.members == CORES
is_item_representable plan (Item.Stim (Stimulus.Irq isr)) = is_object plan (isr_object isr)
is_item_representable plan (Item.Posted core) = is_core_number core
is_item_representable plan (Item.Received from number message) = is_core_number from && nat_le number 18446744073709551615 && is_message_representable plan message
is_item_representable plan (Item.Granted spinlock) = is_spinlock plan spinlock
is_item_representable plan (Item.Tried spinlock taken) = is_spinlock plan spinlock
is_item_representable plan (Item.Freed spinlock) = is_spinlock plan spinlock
is_item_representable plan (Item.Halt core status) = is_core_number core
is_item_representable plan (Item.Last (Some p)) = is_core_number p.0
is_item_representable plan item = true

-- ---- which items a log has

-- The text is the log of these items, or lacks only the end of its last line.
abbrev pub IsTextOf : Plan → List ℕ → List Item → Type 0
IsTextOf plan text items = (text ≡ log_text plan items) ⊎ (text ++ line_end ≡ log_text plan items)

-- The text is a log of these items, and all of them are representable. [own]
pub record IsLog (plan : Plan) (text : List ℕ) (items : List Item) : Type 0 where
  pub representable : list_all (is_item_representable plan) items ≡ true
  pub text_is : IsTextOf plan text items

-- ---- reading

-- A text without its final line end, if it has one.
abbrev pub before_end : List ℕ → List ℕ
before_end [] = []
before_end (c ∷ []) = if c == 10 then [] else c ∷ []
before_end (c ∷ d ∷ text) = c ∷ before_end (d ∷ text)

-- A text without its final line end, if it has one. But a text that is only a line end stays: its line is empty, and an
-- empty line is no item.
abbrev pub without_last_end : List ℕ → List ℕ
without_last_end [] = []
without_last_end (c ∷ []) = c ∷ []
without_last_end (c ∷ d ∷ text) = c ∷ before_end (d ∷ text)

-- The items of a log, line by line; the end of the last line may be missing. None if a line is not that of an item.
abbrev pub log_of_text : Plan → List ℕ → Option (List Item)
log_of_text plan text = each (item_of_text plan) (parts_of 10 (without_last_end text))
