-- Items as forms: the form of an item and the parts of its line, and back from these to the item. [own]
use Rattle.std.specs.Prelude.{pos, true, false, if◌then◌else◌, Some, None}
use Rattle.osbase.specs.{History.no_cores, declared.items.Item.Item, declared.messages.Message.Message, declared.statuses.Status.TheVariants.EOk}
use Rattle.osbase.specs.declared.items.Agreement.TheVariants as Agreement
use Rattle.osbase.specs.declared.items.Stimulus.TheVariants as Stimulus
use Rattle.oscript.specs.Calls.{any_action}
use Rattle.oslog.specs.{declared.forms.Parts.Parts, declared.rows.Line.Line}
use Rattle.oslog.specs.declared.rows.Line.TheVariants as L

-- The parts of a line before any word is read. Their values are fillers, and mean nothing.
abbrev pub no_parts : Parts
no_parts = record {
  core = record { number = 0 };
  count = 0;
  status = EOk;
  value = pos 0;
  mode = record { index = 0 };
  isr = record { core = record { number = 0 }; index = 0 };
  spinlock = record { index = 0 };
  call = any_action;
  cores = no_cores;
}

-- The item of a received letter with this message. `parts` has the letter's sender and number.
abbrev pub received : Parts → Message → Item
received parts message = Item.Received parts.core parts.count message

-- The item of a line of this form, by the parts of the line.
abbrev pub item_of : Line → Parts → Item
item_of L.Op parts = Item.Stim Stimulus.Op
item_of L.Tick parts = Item.Stim Stimulus.Tick
item_of L.Irq parts = Item.Stim (Stimulus.Irq parts.isr)
item_of L.Posted parts = Item.Posted parts.core
item_of L.Request parts = received parts (Message.Request parts.call)
item_of L.Action parts = received parts (Message.Action parts.call)
item_of L.Reply parts = received parts (Message.Reply parts.status)
item_of L.Value parts = received parts (Message.Value parts.status parts.value)
item_of L.On parts = Item.On
item_of L.Began parts = Item.Began parts.core parts.status
item_of L.Entered parts = Item.Entered
item_of L.Conflict parts = Item.Pass1 Agreement.Conflict
item_of L.Agreed parts = Item.Pass1 (Agreement.Mode parts.mode)
item_of L.NoMode parts = Item.Pass1 Agreement.NoMode
item_of L.Readied parts = Item.Readied
item_of L.Started parts = Item.Pass2 parts.cores
item_of L.Granted parts = Item.Granted parts.spinlock
item_of L.Taken parts = Item.Tried parts.spinlock true
item_of L.NotTaken parts = Item.Tried parts.spinlock false
item_of L.Freed parts = Item.Freed parts.spinlock
item_of L.Halt parts = Item.Halt parts.core parts.status
item_of L.Drained parts = Item.Drained
item_of L.PassEnd parts = Item.PassEnd
item_of L.Last parts = Item.Last None
item_of L.LastHalted parts = Item.Last (Some (parts.core, parts.status))

-- The form of a received letter with this message, and `parts` with what the message says added.
abbrev pub message_form : Parts → Message → Line × Parts
message_form parts (Message.Request call) = (L.Request, record parts { call = call })
message_form parts (Message.Action call) = (L.Action, record parts { call = call })
message_form parts (Message.Reply status) = (L.Reply, record parts { status = status })
message_form parts (Message.Value status value) = (L.Value, record parts { status = status; value = value })

-- The form of an item, and the parts of its line.
abbrev pub form_of : Item → Line × Parts
form_of Item.On = (L.On, no_parts)
form_of (Item.Began core status) = (L.Began, record no_parts { core = core; status = status })
form_of Item.Entered = (L.Entered, no_parts)
form_of (Item.Pass1 Agreement.Conflict) = (L.Conflict, no_parts)
form_of (Item.Pass1 (Agreement.Mode mode)) = (L.Agreed, record no_parts { mode = mode })
form_of (Item.Pass1 Agreement.NoMode) = (L.NoMode, no_parts)
form_of Item.Readied = (L.Readied, no_parts)
form_of (Item.Pass2 cores) = (L.Started, record no_parts { cores = cores })
form_of (Item.Stim Stimulus.Op) = (L.Op, no_parts)
form_of (Item.Stim Stimulus.Tick) = (L.Tick, no_parts)
form_of (Item.Stim (Stimulus.Irq isr)) = (L.Irq, record no_parts { isr = isr })
form_of (Item.Posted core) = (L.Posted, record no_parts { core = core })
form_of (Item.Received from number message) = message_form (record no_parts { core = from; count = number }) message
form_of (Item.Granted spinlock) = (L.Granted, record no_parts { spinlock = spinlock })
form_of (Item.Tried spinlock taken) = (if taken then L.Taken else L.NotTaken, record no_parts { spinlock = spinlock })
form_of (Item.Freed spinlock) = (L.Freed, record no_parts { spinlock = spinlock })
form_of (Item.Halt core status) = (L.Halt, record no_parts { core = core; status = status })
form_of Item.Drained = (L.Drained, no_parts)
form_of Item.PassEnd = (L.PassEnd, no_parts)
form_of (Item.Last None) = (L.Last, no_parts)
form_of (Item.Last (Some p)) = (L.LastHalted, record no_parts { core = p.0; status = p.1 })
