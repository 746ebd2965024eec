use Rattle.std.proofs.Common.{map}
use Rattle.serde_json.specs.View.{view}
use Rattle.osjson.proofs.Contents.{elements-items_of}
use Rattle.osjson.proofs.values.ListOfJsonReaderList.read.Goals as goal

pub returns-in-Some-clause-shape : goal.returns-in-Some-clause-shape
returns-in-Some-clause-shape g c = rw (← c.in-Some.ensures, elements-items_of (map view c.in-Some.values.now.items), ← c.as_slice.ensures.value) c.read_values.ensures.shape
