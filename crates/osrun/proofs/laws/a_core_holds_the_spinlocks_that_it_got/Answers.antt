use Rattle.std.proofs.Common.{ap, ◌∙◌}
use Rattle.osspin.specs.declared.calls.SpinReply.TheVariants.{Answered}
use Rattle.osrun.proofs.Got.{held-got}
use Rattle.osrun.proofs.laws.a_core_holds_the_spinlocks_that_it_got.Goals as goal

pub returns-clause-holds : goal.returns-clause-holds
returns-clause-holds c l known v items calls each answers all legal thin = held-got l known v items calls each answers all legal thin

pub returns-clause-released : goal.returns-clause-released
returns-clause-released c l known v items calls each answers all legal thin got = ap Answered (held-got l known v items calls each answers all legal thin ∙ got)
