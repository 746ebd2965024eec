-- The spinlock call of a turn is the spinlock call of the item that results from the reply.
use Rattle.std.proofs.Common.{◌≡◌, Some, arith}
use Rattle.osbase.specs.{declared.references.CoreId.CoreId, declared.items.Item.Item}
use Rattle.oskernel.specs.declared.wants.Watch.{Watch}
use Rattle.osrun.specs.{declared.requests.Request.Request, declared.requests.Reply.Reply, Requests.call_of_item, Requests.item_by, Requests.call_of_turn}

pub called-for : (id : CoreId) (watch : Watch) (request : Request) (answer : Reply) (i : Item) → item_by id watch request answer ≡ Some i → (call_of_turn id request answer).spins ≡ call_of_item id i
called-for id watch request answer i e = grind arith
