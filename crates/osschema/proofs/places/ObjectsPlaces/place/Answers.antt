use Rattle.std.proofs.Common.{sym}
use Rattle.osschema.proofs.Naming.{if-named}
use Rattle.osschema.proofs.places.ObjectsPlaces.place.Goals as goal

pub returns-in-Some-clause-in_form : goal.returns-in-Some-clause-in_form
returns-in-Some-clause-in_form c = if-named c.args.self.now.declared c.args.name.now _ c.place_in.result c.args.self.now.named (sym c.in-Some.ensures)
