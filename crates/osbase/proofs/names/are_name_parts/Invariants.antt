use Rattle.std.proofs.Common.{◌≡◌, ◌&&◌, drop}
use Rattle.std.specs.List.{list_all}
use Rattle.osbase.specs.Names.{is_name_part}
use Rattle.osbase.proofs.names.are_name_parts.Given as goal

abbrev pub invariant-loop-c : goal.invariant-loop-c
invariant-loop-c l = (l.fits && list_all is_name_part (drop l.c-index l.text)) ≡ list_all is_name_part l.text
