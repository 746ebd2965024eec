use Rattle.std.proofs.Common.{◌≡◌, ◌≤◌, ◌+◌, ◌*◌, ◌^◌, true, false, Some, None, length, suc, vec_len, vec_capacity, rules, refl, sym, ◌∙◌, arith, lit≤}
use Rattle.osbase.specs.declared.statuses.ServiceId.TheVariants as Service
use Rattle.osbase.specs.declared.statuses.Status.TheVariants.{EOsCore, EOsId}
use Rattle.osclock.specs.Clocks.{attached_to}
use Rattle.ostable.specs.Tables.{timed_by}
use Rattle.osstate.specs.Readings.{is_this_core}
use Rattle.osacts.proofs.Each.{as_steps, then}
use Rattle.osexpiry.specs.{Incrementing.counts_and_returns, Incrementing.is_hardware, Advancing.posted_by}
use Rattle.osservice.specs.Returning.{returns as returning}
use Rattle.osexpiry.proofs.{Owned.attached-few, Postings.posted-fewer, Postings.timed-few}
use Rattle.osexpiry.proofs.incrementing.increment.Goals as goal

pub advance-requires : goal.advance-requires
advance-requires g c =
    let few = attached-few c.args.state.now.view.own c.args.counter c.is_hardware.ensures.within in
    let short = timed-few c.args.state.now.view.own c.args.counter c.is_hardware.ensures.within in
    let outbox : length c.args.state.now.border.outbox + posted_by c.args.state.now.view.own c.args.counter ≤ g.row.OUT = omega (arith, posted-fewer c.args.state.now.view.own c.args.counter, c.requires.serves.posts.outbox) in
    let count : c.args.state.now.progress.entries + suc (3 * length (attached_to c.args.state.now.view.own c.args.counter) + 38 * length (timed_by c.args.state.now.view.own c.args.counter)) ≤ 2 ^ 63 = omega (arith, few, short, c.requires.serves.posts.room.count) in
    let place : vec_len c.args.marks.now + (3 * length (attached_to c.args.state.now.view.own c.args.counter) + 36 * length (timed_by c.args.state.now.view.own c.args.counter)) ≤ vec_capacity c.args.marks.now = omega (arith, few, short, c.requires.serves.posts.room.place) in
    search (rules, outbox, count, place)

pub accept-requires : goal.accept-requires
accept-requires g c =
    let few = attached-few c.args.state.now.view.own c.args.counter c.is_hardware.ensures.within in
    let short = timed-few c.args.state.now.view.own c.args.counter c.is_hardware.ensures.within in
    let count : c.advance.new.state.progress.entries + 3 ≤ 2 ^ 63 = omega (arith, few, short, c.requires.serves.posts.room.count, c.advance.ensures.steps.count) in
    let place : vec_len c.advance.new.marks + 2 ≤ vec_capacity c.advance.new.marks = omega (arith, few, short, c.requires.serves.posts.room.place, c.advance.ensures.steps.len, c.advance.ensures.steps.capacity) in
    search (rules, count, place)

pub returns-then-is_hardware : goal.returns-then-is_hardware
returns-then-is_hardware g c =
    let hard : is_hardware c.args.state.now.view.own c.args.counter ≡ true = sym c.is_hardware.ensures.value ∙ c.if-is_hardware.true in
    as_steps {x = returning c.args.runner Service.IncrementCounter EOsId None} (rw (hard) refl) (rw (hard) refl) (lit≤ tt) (lit≤ tt) c.refuse.ensures

pub returns-then-is_this_core : goal.returns-then-is_this_core
returns-then-is_this_core g c =
    let few = attached-few c.args.state.now.view.own c.args.counter c.is_hardware.ensures.within in
    let short = timed-few c.args.state.now.view.own c.args.counter c.is_hardware.ensures.within in
    let soft : is_hardware c.args.state.now.view.own c.args.counter ≡ false = sym c.is_hardware.ensures.value ∙ c.if-is_hardware.false in
    let own : is_this_core c.args.state.now.view c.args.counter.core ≡ true = sym c.is_this_core.ensures.value ∙ c.if-is_this_core.true in
    as_steps {x = counts_and_returns c.args.runner (Some c.args.counter)} (rw (soft, own) refl) (rw (soft, own) refl) (omega (arith, few, short)) (omega (arith, few, short)) (then c.advance.ensures.steps c.accept.ensures)

pub returns-else-is_this_core : goal.returns-else-is_this_core
returns-else-is_this_core g c =
    let soft : is_hardware c.args.state.now.view.own c.args.counter ≡ false = sym c.is_hardware.ensures.value ∙ c.if-is_hardware.false in
    let other : is_this_core c.args.state.now.view c.args.counter.core ≡ false = sym c.is_this_core.ensures.value ∙ c.if-is_this_core.false in
    as_steps {x = returning c.args.runner Service.IncrementCounter EOsCore None} (rw (soft, other) refl) (rw (soft, other) refl) (lit≤ tt) (lit≤ tt) c.refuse-else-is_this_core.ensures
