use Rattle.std.proofs.Common.{◌≡◌, string_bytes, rules, ap, ◌∙◌}
use Rattle.osinput.specs.Given.{schedule_of_text}
use Rattle.ostrace.specs.Schedules.{schedule_text}
use Rattle.ostrace.proofs.ReadBack.{schedule-back}
use Rattle.ostrace.proofs.schedules.schedule_text.Goals as goal

pub returns-clause-reads_back : goal.returns-clause-reads_back
returns-clause-reads_back c plan limits turns few =
    let text : string_bytes c.push_str-2.new.self ≡ schedule_text c.args.turns.now = search rules in
    ap (schedule_of_text plan) text ∙ schedule-back plan limits c.args.turns.now turns few
