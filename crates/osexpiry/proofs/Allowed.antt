-- If the core's alarms and schedule tables act only on this core and on cores that may be asked, so does a count of a
-- counter, and so does IncrementCounter.
use Rattle.std.proofs.Common.{◌≡◌, Bool, true, false, Option, Some, IfSome, None, refl, sym, subst}
use Rattle.std.specs.{List.list_all, Option.option_map_or}
use Rattle.std.proofs.{lemmas.Bool.and_from, lemmas.Bool.and_parts, lemmas.Option.option_and_then_some}
use Rattle.osbase.specs.{declared.references.AlarmRef.AlarmRef, declared.references.CoreId.CoreId, declared.references.CounterRef.CounterRef, declared.references.TableRef.TableRef, declared.references.Runner.Runner, declared.messages.RemoteCall.RemoteCall, History.same_core, Objects.table_object}
use Rattle.osbase.proofs.Same.{same_core-true}
use Rattle.oscript.specs.declared.Op.{Op}
use Rattle.osplan.specs.{declared.plans.Alarm.Alarm, declared.plans.ExpiryPoint.ExpiryPoint, Objects.core_actions, Objects.has_index, Objects.is_own_object, View.View, View.own_alarm}
use Rattle.osplan.proofs.Tests.{all-filter}
use Rattle.ostable.specs.{declared.tables.DueTable.DueTable, Waiting.are_own}
use Rattle.osacts.specs.Acts.{Acts}
use Rattle.osservice.proofs.Kept.{AreAllowed, IsNamed, Leave, each-ok, elsewhere, for_each-ok, found-ok, is_within}
use Rattle.osservice.proofs.Partners.{Partner}
use Rattle.oscall.specs.Border.{core_of_call}
use Rattle.oscall.proofs.Allowed.{service-ok}
use Rattle.osexpiry.specs.{Advancing.counts, Expiring.expires, Expiring.expires_by, Incrementing.increment_acts}
use Rattle.osaction.specs.Actions.{acts}
use Rattle.osaction.specs.Points.{acts_each, does_point, is_of_kind, of_kind}
use Rattle.osexpiry.specs.ExpiryPoints.{begins_period, due_point, ends, first_point, processes_table, point_of, processes_point}
use Rattle.osexpiry.proofs.Actions.{alarm-passes, first-there, if-found, point-passes}

-- The action's object is on this core, or on one that may be asked.
abbrev pub acts_within : View → (Partner → Bool) → RemoteCall → Bool
acts_within v may action = is_within v may (core_of_call action)

-- Each action of the core's alarms and tables passes this test.
abbrev pub ActionsAllow : View → (Partner → Bool) → Type 0
ActionsAllow v may = list_all (acts_within v may) (core_actions v.own) ≡ true

module _ (l : Leave) (actions : ActionsAllow l.view l.may) where
  abbrev Allowed : Acts → Type 0
  Allowed = AreAllowed l

  abbrev within : RemoteCall → Bool
  within = acts_within l.view l.may

  named-own : (core : CoreId) → same_core core l.view.own.id ≡ true → l.names core ≡ true
  named-own core same = rw (same_core-true core l.view.own.id same) l.own_named

  acts-ok : (call : RemoteCall) → within call ≡ true → Allowed (acts call)
  acts-ok call is s seen =
      let named = l.named (core_of_call call) is in
      (λ own q p. assumption (service-ok l call named q p), λ other. (is, (λ known. (named, (and_from _ _ known (elsewhere l s seen (core_of_call call) other is), tt)), (refl, tt))))

  expires-ok : (a : AlarmRef) → Allowed (expires a)
  expires-ok a s seen =
      rw seen.core (found-ok l (λ (x : Alarm). expires_by a x.action) (own_alarm l.view.own a) (λ x found. (named-own a.core (if-found _ _ x found).0, acts-ok x.action (alarm-passes within l.view.own actions a x found))))

  -- ---- tables

  -- A point of one of the core's tables.
  processes_point-ok : (s : TableRef) (o : Option ExpiryPoint) → l.names s.core ≡ true → ((point : ExpiryPoint) → o ≡ Some point → list_all within point.actions ≡ true) → Allowed (processes_point s o)
  processes_point-ok s o n all = found-ok l (does_point s) o (λ point found. (n, (of-kind true point (all point found), of-kind false point (all point found))))
    where
      of-kind : (kind : Bool) (point : ExpiryPoint) → list_all within point.actions ≡ true → Allowed (acts_each (of_kind kind point.actions))
      of-kind kind point is = for_each-ok l (λ (action : RemoteCall). acts action) within acts-ok (of_kind kind point.actions) (all-filter within (is_of_kind kind) point.actions is)

  begins_period-ok : (s : TableRef) → l.names s.core ≡ true → Allowed (begins_period s)
  begins_period-ok s n t seen = rw seen.core (processes_point-ok s (first_point l.view.own s) n (λ point first. point-passes within l.view.own actions s 0 point (first-there l.view.own s point first)))

  table-named : (s : TableRef) → is_own_object l.view.own (table_object s) ≡ true → l.names s.core ≡ true
  table-named s own = named-own s.core (and_parts (same_core s.core l.view.own.id) (has_index l.view.own (table_object s)) own).0

  ends-ok : (s : TableRef) (next : Option TableRef) → l.names s.core ≡ true → option_map_or (λ (u : TableRef). is_own_object l.view.own (table_object u)) next true ≡ true → Allowed (ends s next)
  ends-ok s None n own = assumption (begins_period-ok s n)
  ends-ok s (Some u) n own = assumption (table-named u own, begins_period-ok u (table-named u own))

  processes_table-ok : (d : DueTable) → are_own l.view.own d ≡ true → Allowed (processes_table d)
  processes_table-ok d own =
      let parts = and_parts (is_own_object l.view.own (table_object d.table)) (option_map_or (λ (u : TableRef). is_own_object l.view.own (table_object u)) d.next true) own in
      let n = table-named d.table parts.0 in
      let point = λ (x : ExpiryPoint) (due : due_point l.view.own d ≡ Some x). option_and_then_some (point_of l.view.own d.table) d.due.point x due (λ number at there. point-passes within l.view.own actions d.table number x there) in
      (λ s seen. subst (λ core. Allowed (processes_point d.table (due_point core d))) (sym seen.core) (processes_point-ok d.table (due_point l.view.own d) n point), (λ e. ends-ok d.table d.next n parts.1, λ e. tt))

  -- ---- a count

  pub counts-ok : (c : CounterRef) → Allowed (counts c)
  counts-ok c s seen = (refl, (each-ok l expires expires-ok (s.due c), for_each-ok l processes_table (are_own l.view.own) processes_table-ok (s.due_tables c) (seen.due_tables c)))

  pub increment_acts-ok : (r : Runner) (op : Op) → IsNamed l r → IfSome (increment_acts r op) Allowed
  increment_acts-ok r (Op.IncrementCounter (Some c)) n = assumption (counts-ok c)
  increment_acts-ok r op n = assumption
