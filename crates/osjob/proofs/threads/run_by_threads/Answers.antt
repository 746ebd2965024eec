use Rattle.std.proofs.Common.{◌≡◌, refl}
use Rattle.osthreads.specs.declared.runs.ThreadReason.{ThreadReason}
use Rattle.osthreads.specs.declared.runs.ThreadReason.TheVariants as reason
use Rattle.osjob.specs.{declared.faults.Fault.TheVariants.Unreadable, Faults.of_threads}
use Rattle.osjob.specs.Performs.{BreaksThreads, broken_off, in_files}
use Rattle.osjob.proofs.{Logging.order-comes, Logging.reports-come, Printing.PrintsFrom-faulty, Reading.Consumes-as}
use Rattle.osjob.proofs.threads.run_by_threads.Goals as goal

-- each reason breaks off the run
breaks : (reason : ThreadReason) → BreaksThreads (of_threads reason)
breaks reason.NotBegun = tt
breaks other = tt

-- no reason is the fault `Unreadable`
names_none : (reason : ThreadReason) → of_threads reason ≡ Unreadable → ⊥
names_none reason.NotBegun e = cc
names_none other e = cc

pub returns-in_err-config : goal.returns-in_err-config
returns-in_err-config g c =
    Consumes-as _ _ _ _ _ _ c.in_err-config.ensures.input (λ comes.
    let read = rw c.logged_core.ensures at comes in
    PrintsFrom-faulty _ _ _ _ _ _ _ _ _ c.from_residual.ensures.1 (λ fault is. rw is ((λ apart. in_files (read.0 apart)), read.1)))

pub returns-in_err-reports : goal.returns-in_err-reports
returns-in_err-reports g c =
    Consumes-as _ _ _ _ _ _ c.in_ok-config.ensures.input (λ comes.
    let read = rw c.logged_core.ensures at comes in
    PrintsFrom-faulty _ _ _ _ _ _ _ _ _ c.from_residual-in_err-reports.ensures.1
    (λ fault is. rw is ((λ apart. broken_off c.in_ok-config.config c.in_ok-config.stimuli c.in_ok-config.field-0-2 read.0 read.1 (breaks _)), (λ e. absurd (names_none _ e)))))

pub returns-in-Trace : goal.returns-in-Trace
returns-in-Trace g c =
    let reports = c.in_ok-reports.ensures in
    Consumes-as _ _ _ _ _ _ c.in_ok-config.ensures.input (λ read.
    rw c.in-Trace.is (reports-come _ _ _ _ _ BreaksThreads _ _ _ c.in_ok-config.config _ _ c.in_ok-reports.reports.items _ _
    (record { stimuli = c.in_ok-config.stimuli; given = read.0.given; sound = reports.sound; finished = reports.finished })
    refl read.0 tt (rw c.as_slice-reports.ensures.value at c.print_by_threads.ensures)))

pub returns-in-Log : goal.returns-in-Log
returns-in-Log g c =
    let reports = c.in_ok-reports.ensures in
    Consumes-as _ _ _ _ _ _ c.in_ok-config.ensures.input (λ read.
    rw c.in-Log.is (reports-come _ _ _ _ _ BreaksThreads _ _ _ c.in_ok-config.config _ _ c.in_ok-reports.reports.items _ _
    (record { stimuli = c.in_ok-config.stimuli; given = read.0.given; sound = reports.sound; finished = reports.finished })
    (rw (c.in-Log.is) at (rw c.logged_core.ensures at read.1)) read.0 tt (rw c.as_slice-reports.ensures.value at c.print_reports.ensures)))

pub returns : goal.returns
returns g c =
    let reports = c.in_ok-reports.ensures in
    Consumes-as _ _ _ _ _ _ c.in_ok-config.ensures.input (λ read.
    rw c.in-Order.is (order-comes _ _ _ _ _ _ c.in_ok-config.config c.in_ok-reports.reports.items _ _ _
    (record { stimuli = c.in_ok-config.stimuli; given = read.0.given; sound = reports.sound; finished = reports.finished })
    read.0 (rw c.as_slice-reports.ensures.value at c.print_order.ensures)))
