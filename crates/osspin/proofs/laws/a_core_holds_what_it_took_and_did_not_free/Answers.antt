use Rattle.osspin.proofs.Held.{held-by}
use Rattle.osspin.proofs.laws.a_core_holds_what_it_took_and_did_not_free.Goals as goal

pub returns : goal.returns
returns c core lock known log legal = held-by core lock known log legal
