-- Of a configured core: which objects of the configuration it may name, and its alarms with their counters.
use Rattle.std.proofs.Common.{◌≡◌, true, ◌&&◌, Some, Option, List, flat_map, map, slice_get, option_and_then, refl, ap, sym, subst, ◌∙◌, arith}
use Rattle.std.specs.{List.list_all, Option.option_map_or}
use Rattle.std.proofs.lemmas.List.Folds.{list_all-map}
use Rattle.osbase.specs.{declared.references.CounterRef.CounterRef, declared.objects.Object.Object, History.same_core, Objects.counter_object, Objects.object_of_call, declared.messages.RemoteCall.RemoteCall}
use Rattle.osbase.proofs.Same.{same_core-true}
use Rattle.osplan.specs.{declared.plans.Alarm.Alarm, declared.plans.Core.Core, declared.plans.Plan.Plan, declared.plans.Table.Table, Clocked.is_alarm_attached, Clocked.is_table_attached, View.core_of, View.counter_in, View.own_counter}
use Rattle.osplan.specs.Limits.{alarm_sizes, is_action_known, is_alarm_known, is_alarm_local, is_core_known, is_core_timed, is_object, is_table_known, is_table_local, is_table_timed, is_script_known, is_task_known, table_sizes}
use Rattle.osplan.specs.Objects.{core_actions, core_scripts, has_index, is_common, may_act, may_name, table_actions}
use Rattle.osplan.proofs.Tests.{all-append, all-both, all-flat, all-weaker, map-where}

module _ (plan : Plan) (core : Core) (found : core_of plan core.id ≡ Some core) where
  -- an object whose place is on this core is one of the core's objects
  own-index : (object : Object) → is_object plan object ≡ true → same_core object.place.core core.id ≡ true → has_index core object ≡ true
  own-index object there here =
      let of_core : core_of plan object.place.core ≡ Some core = ap (core_of plan) (same_core-true object.place.core core.id here) ∙ found in
      subst (λ (o : Option Core). option_map_or (λ (c : Core). has_index c object) o (is_common plan object) ≡ true) of_core there

  -- An object of the configuration is one that the core may name.
  pub known-named : (object : Object) → is_object plan object ≡ true → may_name core object ≡ true
  known-named object there = grind (arith, own-index object there)

  -- What its scripts, its tasks, its alarms and its tables name is known.
  pub record KnownParts : Type 0 where
    pub scripts : list_all (is_script_known plan) (core_scripts core) ≡ true
    pub tasks : list_all (is_task_known plan) core.tasks ≡ true
    pub alarms : list_all (is_alarm_known plan) core.alarms ≡ true
    pub tables : list_all (is_table_known plan) core.tables ≡ true

  pub known-parts : is_core_known plan core ≡ true → KnownParts
  known-parts known = grind arith

  acts-each : (actions : List RemoteCall) → list_all (is_action_known plan) actions ≡ true → list_all (may_act core) actions ≡ true
  acts-each = all-weaker (is_action_known plan) (may_act core) (λ action h. grind (arith, known-named (object_of_call action)))

  -- The core's alarms and tables perform actions only, and the core may name the objects of these actions.
  pub known-actions : is_core_known plan core ≡ true → list_all (may_act core) (core_actions core) ≡ true
  known-actions known =
      let parts = known-parts known in
      let alarms = all-weaker _ (λ (alarm : Alarm). is_action_known plan alarm.action) (λ alarm h. grind arith) core.alarms parts.alarms in
      let tables = all-weaker _ (λ (table : Table). list_all (is_action_known plan) (table_actions table)) (λ table h. grind arith) core.tables parts.tables in
      acts-each (core_actions core) (all-append (is_action_known plan) (map (λ (alarm : Alarm). alarm.action) core.alarms) (flat_map table_actions core.tables)
      (list_all-map (is_action_known plan) (λ (alarm : Alarm). alarm.action) core.alarms ∙ alarms) (all-flat (is_action_known plan) table_actions core.tables tables))

  -- If the counter of each alarm exists and is no other core's, each alarm is attached to a counter of the core.
  pub attached : list_all (is_alarm_known plan) core.alarms ≡ true → list_all (is_alarm_local core.id) core.alarms ≡ true → list_all (is_alarm_attached core) core.alarms ≡ true
  attached known near =
      all-weaker (λ (alarm : Alarm). is_alarm_known plan alarm && is_alarm_local core.id alarm) (is_alarm_attached core)
      (λ alarm h. grind (arith, own-index (counter_object alarm.counter))) core.alarms (all-both _ _ core.alarms known near)

  own-is : (c : CounterRef) → same_core c.core core.id ≡ true → counter_in plan c ≡ own_counter core c
  own-is c here =
      ap (option_and_then (λ (k : Core). slice_get k.counters c.index)) (ap (core_of plan) (same_core-true c.core core.id here) ∙ found)
      ∙ rw here refl

  -- The sizes of such alarms are found on the core itself.
  pub own-sizes : list_all (is_alarm_local core.id) core.alarms ≡ true → map (alarm_sizes (counter_in plan)) core.alarms ≡ map (alarm_sizes (own_counter core)) core.alarms
  own-sizes near = map-where (alarm_sizes (counter_in plan)) (alarm_sizes (own_counter core)) (is_alarm_local core.id) (λ alarm h. rw (own-is alarm.counter h) refl) core.alarms near

  -- The same holds for tables.
  pub tables-attached : list_all (is_table_known plan) core.tables ≡ true → list_all (is_table_local core.id) core.tables ≡ true → list_all (is_table_attached core) core.tables ≡ true
  tables-attached known near =
      all-weaker (λ (table : Table). is_table_known plan table && is_table_local core.id table) (is_table_attached core)
      (λ table h. grind (arith, own-index (counter_object table.counter))) core.tables (all-both _ _ core.tables known near)

  pub own-tables : list_all (is_table_local core.id) core.tables ≡ true → map (table_sizes (counter_in plan)) core.tables ≡ map (table_sizes (own_counter core)) core.tables
  own-tables near = map-where (table_sizes (counter_in plan)) (table_sizes (own_counter core)) (is_table_local core.id) (λ table h. rw (own-is table.counter h) refl) core.tables near

  pub own-timed : list_all (is_table_local core.id) core.tables ≡ true → is_core_timed plan core ≡ list_all (λ (table : Table). is_table_timed (table_sizes (own_counter core) table)) core.tables
  own-timed near =
      sym (list_all-map is_table_timed (table_sizes (counter_in plan)) core.tables) ∙ ap (list_all is_table_timed) (own-tables near)
      ∙ list_all-map is_table_timed (table_sizes (own_counter core)) core.tables
