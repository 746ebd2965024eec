use Rattle.serde_json.specs.View.{view}
use Rattle.osjson.proofs.Each.{each-map}
use Rattle.osjson.proofs.values.read_values.Goals as goal

pub returns-clause-shape : goal.returns-clause-shape
returns-clause-shape g c = rw (each-map (g.R.JsonReader.shape c.args.reader.now) view c.args.values.now) c.read_each.ensures.shape
