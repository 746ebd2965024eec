use Rattle.std.proofs.Common.{◌≡◌}
use Rattle.osjob.proofs.performs.perform.Goals as goal

pub returns : goal.returns
returns g c =
    let used = c.print_from-result.ensures in
    let files : used.last.files.now ≡ c.args.files.now = cc in
    record {
      result = c.print_from-result.result;
      printed = rw files at used.comes;
      reported = c.report_ending.ensures.reported;
      status_is = c.report_ending.ensures.status;
    }
