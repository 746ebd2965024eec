use Rattle.std.proofs.Common.{◌≡◌, drop, true}
use Rattle.std.specs.List.{list_all}
use Rattle.osjson.specs.Reading.{each}
use Rattle.osjson.proofs.Each.{with_front}
use Rattle.osjson.proofs.loops.read_each.Given as goal

abbrev pub invariant-loop-element : goal.invariant-loop-element
invariant-loop-element g l = record {
  shape : with_front l.read (each (g.R.Reader.shape l.reader) (drop l.element-index l.elements)) ≡ each (g.R.Reader.shape l.reader) l.elements;
  passes : list_all (g.R.Reader.passes l.reader) l.read ≡ true;
}
