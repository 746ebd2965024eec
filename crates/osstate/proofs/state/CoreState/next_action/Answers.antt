use Rattle.std.proofs.Common.{rules, ◌≡◌, true, subst}
use Rattle.std.specs.List.{list_all}
use Rattle.osrunner.specs.Rows.{frame_in}
use Rattle.osstate.specs.{Readings.script_of, Sound.has_objects_of, State.KernelState}
use Rattle.osstate.proofs.ReadLemmas.{known_action}
use Rattle.osstate.proofs.state.CoreState.next_action.Goals as goal

pub returns-clause-known : goal.returns-clause-known
returns-clause-known g c =
    known_action c.args.self.now.view.own (script_of c.args.self.now.view.own c.args.runner) (frame_in c.args.runner c.args.self.now.tasks.rows) c.next_action.result
    (subst (λ (s : KernelState). list_all (has_objects_of s.view.own) (script_of s.view.own c.args.runner) ≡ true) c.self.view_is (c.self.invariant.objects.scripts c.args.runner)) (search rules)
