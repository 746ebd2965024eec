use Rattle.std.proofs.Common.{refl}
use Rattle.osjob.specs.Performs.{BreaksTurns, broken_off, in_files}
use Rattle.osjob.proofs.{Logging.reports-come, Printing.PrintsFrom-faulty, Reading.Consumes-as}
use Rattle.osjob.proofs.runs.run.Goals as goal

pub returns-in_err-config : goal.returns-in_err-config
returns-in_err-config g c =
    Consumes-as _ _ _ _ _ _ c.in_err-config.ensures.input (λ read.
    PrintsFrom-faulty _ _ _ _ _ _ _ _ _ c.from_residual.ensures.1 (λ fault is. rw is ((λ apart. in_files (read.0 apart)), read.1)))

pub returns-in_err-reports : goal.returns-in_err-reports
returns-in_err-reports g c =
    Consumes-as _ _ _ _ _ _ c.in_ok-config.ensures.input (λ read.
    PrintsFrom-faulty _ _ _ _ _ _ _ _ _ c.from_residual-in_err-reports.ensures.1
    (λ fault is. ((λ apart. broken_off c.in_ok-config.config c.in_ok-config.stimuli c.in_ok-config.turns read.0 read.1 is), rw is (λ e. cc))))

pub returns : goal.returns
returns g c =
    let plan = c.in_ok-config.config in
    let reports = c.in_ok-reports.reports.items in
    Consumes-as _ _ _ _ _ _ c.in_ok-config.ensures.input (λ read.
    reports-come _ _ _ _ _ BreaksTurns _ _ _ plan _ _ reports _ _ (record { stimuli = c.in_ok-config.stimuli; turns = c.in_ok-config.turns; input = read.0; are = c.in_ok-reports.ensures })
    read.1 read.0 refl (rw c.as_slice.ensures.value at c.print_reports.ensures))
