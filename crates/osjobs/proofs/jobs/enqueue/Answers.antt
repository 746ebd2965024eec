use Rattle.std.proofs.Common.{◌≡◌, ◌<◌, true, IfSome, Option, length, rules, sym, subst}
use Rattle.std.specs.List.{All}
use Rattle.osbase.specs.declared.histories.Job.{Job}
use Rattle.osqueue.specs.{declared.ready.Ready.Ready, declared.ready.TheConstants.PRIORITIES, Ordered.ComesBefore, Ordered.HasPlaceFor}
use Rattle.osjobs.specs.{OwnTasks.is_own_task, Queue.entry_of}
use Rattle.osjobs.proofs.Keeping.{static-within}
use Rattle.osjobs.proofs.jobs.enqueue.Goals as goal

pub push_back-requires : goal.push_back-requires
push_back-requires g c =
    let own : is_own_task c.args.tasks.now c.in-Some.job.runner ≡ true = subst (λ (o : Option Job). IfSome o (λ j. is_own_task c.args.tasks.now j.runner ≡ true)) c.in-Some.is c.requires.own in
    let room : length c.args.ready.now < g.row.J = subst (λ (o : Option Job). IfSome o (λ j. length c.args.ready.now < g.row.J)) c.in-Some.is c.requires.room in
    let newest : All (ComesBefore (entry_of c.args.tasks.now c.in-Some.job)) c.args.ready.now = subst (λ (o : Option Job). IfSome o (λ j. All (ComesBefore (entry_of c.args.tasks.now j)) c.args.ready.now)) c.in-Some.is c.requires.newest in
    let place : HasPlaceFor g.row.P g.row.J (entry_of c.args.tasks.now c.in-Some.job) c.args.ready.now = record { room = room; priority = static-within c.args.tasks.now g.row.P c.in-Some.job.runner c.requires.low own; marked = static-within c.args.tasks.now PRIORITIES c.in-Some.job.runner c.requires.narrow own } in
    (search rules, (subst (λ (x : Ready). HasPlaceFor g.row.P g.row.J x c.args.ready.now) (sym c.ready_of.ensures) place, (subst (λ (x : Ready). All (ComesBefore x) c.args.ready.now) (sym c.ready_of.ensures) newest, search rules)))
