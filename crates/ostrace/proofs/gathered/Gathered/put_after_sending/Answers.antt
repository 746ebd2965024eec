use Rattle.std.proofs.Common.{[], append-nil, refl}
use Rattle.ostrace.proofs.Gathering.{Gathers-then, Gathers-written}
use Rattle.ostrace.proofs.gathered.Gathered.put_after_sending.Goals as goal

pub returns-then-bytes-gt-ROOM : goal.returns-then-bytes-gt-ROOM
returns-then-bytes-gt-ROOM g c =
    Gathers-then _ (Gathers-written {text = []} _ refl (rw append-nil c.in_ok-send.ensures.written)) (Gathers-written {before = []} _ c.in_ok-send.ensures.empty c.write_all.ensures) refl
