use Rattle.std.proofs.Common.{◌≡◌, Some}
use Rattle.std.proofs.lemmas.Result.{IfOk-weaker}
use Rattle.oslog.specs.Logs.{log_of_text}
use Rattle.oslog.proofs.Texts.{log-back, no-log, only-log}
use Rattle.oslog.proofs.lines.read_log.Goals as goal

pub returns : goal.returns
returns c =
    let names = c.in_ok-names.names in
    let plan = names.config.now in
    let text = c.args.text.now in
    rw (← c.in_ok-names.ensures) (record {
      ok = IfOk-weaker c.items_of_text.result (λ items. log_of_text plan text ≡ Some items) _ (log-back plan names.limits names.config_representable text) c.items_of_text.ensures.ok;
      only = IfOk-weaker c.items_of_text.result (λ items. log_of_text plan text ≡ Some items) _ (only-log plan names.limits names.config_representable text) c.items_of_text.ensures.ok;
      bad = λ is. no-log plan names.limits names.config_representable text (c.items_of_text.ensures.bad is);
    })
