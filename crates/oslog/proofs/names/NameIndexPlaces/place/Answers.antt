use Rattle.std.proofs.Common.{rules, ◌≡◌, Some}
use Rattle.oslog.specs.Naming.{named_by}
use Rattle.oslog.proofs.Named.{named-formed}
use Rattle.oslog.proofs.names.NameIndexPlaces.place.Goals as goal

pub returns-in-Some-clause-in_form : goal.returns-in-Some-clause-in_form
returns-in-Some-clause-in_form c =
    let names = c.args.self.now in
    let found : named_by names.config.now c.args.name.now ≡ Some c.in-Some.object.now = search (rules, names.indexed c.args.name.now) in
    named-formed names.config.now names.limits names.config_representable c.args.name.now c.in-Some.object.now found
