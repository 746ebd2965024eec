use Rattle.std.proofs.Common.{Err, Ok, [], ◌∷◌, refl}
use Rattle.ostrace_text.specs.Trace.{after_spaces}
use Rattle.ostrace.proofs.Gathering.{Gathers-stop, Gathers-then, joining}
use Rattle.ostrace.proofs.gathered.Gathered.put_parts.Goals as goal

pub returns-in_err-put_text : goal.returns-in_err-put_text
returns-in_err-put_text g c = Gathers-stop (after_spaces (c.args.second.now ∷ [])) _ c.from_residual.ensures.0 c.in_err-put_text.ensures refl

pub returns-in_err-put_text-2 : goal.returns-in_err-put_text-2
returns-in_err-put_text-2 g c =
    Gathers-stop c.args.second.now _ c.from_residual-in_err-put_text-2.ensures.0 (Gathers-then (Err _) c.in_ok-put_text.ensures c.in_err-put_text-2.ensures refl) (simp joining)

pub returns : goal.returns
returns g c = Gathers-then _ (Gathers-then (Ok _) c.in_ok-put_text.ensures c.in_ok-put_text-2.ensures refl) c.put_text-3.ensures (simp joining)
