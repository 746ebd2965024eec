use Rattle.std.proofs.Common.{◌≡◌, Some, slice_get, true, ap, sym, ◌∙◌}
use Rattle.std.specs.Str.{bytes_eq}
use Rattle.std.proofs.lemmas.Option.{slice_get-get_or}
use Rattle.osschema.proofs.Alone.{found-at}
use Rattle.osschema.proofs.places.Objects.hinted.Goals as goal

pub returns-then-eq : goal.returns-then-eq
returns-then-eq c =
    let objects = c.as_slice.result.now in
    let here = c.in_ok-declaration.ensures.lookup in
    let there : slice_get objects c.in_ok-place.place ≡ Some c.in_ok-declaration.declaration.now = slice_get-get_or objects c.in_ok-place.place c.in_ok-declaration.declaration.now here.3.0 ∙ ap Some (sym here.1) in
    let named : bytes_eq c.as_str.result.now c.args.name.now ≡ true = sym c.eq.ensures ∙ c.if-eq.true in
    found-at c.args.name.now c.args.self.now.declared c.in_ok-place.place c.in_ok-declaration.declaration.now (sym c.args.self.now.indexed.apart ∙ c.if-self.true) (rw c.as_slice.ensures at there) (rw c.as_str.ensures at named)
