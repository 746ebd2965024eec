use Rattle.std.proofs.Common.{◌∙◌}
use Rattle.osjson.specs.Json.{texts_of, is_one_of}
use Rattle.osjson.proofs.Contents.{list_all-names}
use Rattle.osjson.proofs.members.is_object_of.Goals as goal

pub returns-in-Some : goal.returns-in-Some
returns-in-Some c = rw (← c.in-Some.ensures) (c.are_among.ensures ∙ list_all-names (is_one_of (texts_of c.args.names.now)) c.in-Some.members.now.entries)
