use Rattle.std.proofs.Common.{arith}
use Rattle.osjob.proofs.Reading.{Consumes-one}
use Rattle.osjob.proofs.performs.print_from.Goals as goal

pub returns-in-Run : goal.returns-in-Run
returns-in-Run g c =
    let used = c.run.ensures in
    record { last = used.last; comes = rw c.in-Run.is used.comes; stops = used.stops; named = rw c.in-Run.is (omega (arith, used.named)); known_is = used.known_is }

pub returns-in-Check : goal.returns-in-Check
returns-in-Check g c = rw c.in-Check.is (Consumes-one _ _ _ _ _ _ (omega arith) c.check.ensures.ahead c.check.ensures.known (rw c.check.ensures.count at c.check.ensures.comes))

pub returns-in-Cut : goal.returns-in-Cut
returns-in-Cut g c = rw c.in-Cut.is (Consumes-one _ _ _ _ _ _ (omega arith) c.cut_out.ensures.ahead c.cut_out.ensures.known (rw c.cut_out.ensures.count at c.cut_out.ensures.comes))

pub returns-in-Groups : goal.returns-in-Groups
returns-in-Groups g c = rw c.in-Groups.is (Consumes-one _ _ _ _ _ _ (omega arith) c.groups_out.ensures.ahead c.groups_out.ensures.known (rw c.groups_out.ensures.count at c.groups_out.ensures.comes))

pub returns-in-Group : goal.returns-in-Group
returns-in-Group g c = rw c.in-Group.is (Consumes-one _ _ _ _ _ _ (omega arith) c.group_out.ensures.ahead c.group_out.ensures.known (rw c.group_out.ensures.count at c.group_out.ensures.comes))

pub returns-in-Threads : goal.returns-in-Threads
returns-in-Threads g c = rw c.in-Threads.is c.run_by_threads.ensures

pub returns-in-Replay : goal.returns-in-Replay
returns-in-Replay g c =
    let used = c.replay_out.ensures in
    rw c.in-Replay.is (record { last = _; comes = rw used.count at used.comes; stops = used.stops; named = used.ahead; known_is = used.known })
