use Rattle.std.proofs.Common.{sym}
use Rattle.osschema.proofs.Naming.{if-named}
use Rattle.osschema.proofs.places.Objects.place_alone.Goals as goal

pub returns-then-is_alone-clause-in_form : goal.returns-then-is_alone-clause-in_form
returns-then-is_alone-clause-in_form c = if-named c.args.self.now.declared c.args.name.now _ c.place_in.result c.args.self.now.named (sym c.in-Some.ensures)
