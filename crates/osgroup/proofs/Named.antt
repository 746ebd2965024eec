-- The objects that a core names, as one list.
use Rattle.std.proofs.Common.{◌≡◌, true, List, ◌++◌, Bool, flat_map, map, refl, ◌∙◌, arith}
use Rattle.std.specs.{List.list_all, List.list_any}
use Rattle.std.proofs.{lemmas.List.Folds.list_all-map, lemmas.List.Folds.list_any-append}
use Rattle.osbase.specs.{declared.objects.Object.Object, declared.messages.RemoteCall.RemoteCall, Objects.object_of_call}
use Rattle.oscript.specs.{declared.Op.Op, Rows.objects_of}
use Rattle.osplan.specs.{declared.plans.Plan.Plan, declared.plans.Alarm.Alarm, declared.plans.Core.Core, Naming.names_object, Naming.op_names}
use Rattle.osplan.specs.Limits.{is_action_known, is_alarm_known, is_core_known, is_object, is_script_known, is_table_known}
use Rattle.osplan.specs.Objects.{core_actions, core_scripts, table_actions}
use Rattle.osplan.proofs.Tests.{all-append, all-flat, all-weaker, any-flat, any-mapped}

-- the objects that the core's scripts name, and those that its alarms and tables act on, too
abbrev pub script_objects : List (List Op) → List Object
script_objects scripts = flat_map (flat_map objects_of) scripts

abbrev pub named_objects : Core → List Object
named_objects core = script_objects (core_scripts core) ++ map object_of_call (core_actions core)

pub scripts-any : (test : Object → Bool) (scripts : List (List Op)) → list_any (list_any (op_names test)) scripts ≡ list_any test (script_objects scripts)
scripts-any test scripts = simp any-flat

pub names-any : (test : Object → Bool) (core : Core) → names_object test core ≡ list_any test (named_objects core)
names-any test core = rw (scripts-any test (core_scripts core), list_any-append test (script_objects (core_scripts core)) (map object_of_call (core_actions core)), any-mapped test object_of_call (core_actions core)) refl

-- ---- each is one of the configuration

module _ (plan : Plan) (core : Core) (known : is_core_known plan core ≡ true) where
  record KnownParts : Type 0 where
    scripts : list_all (is_script_known plan) (core_scripts core) ≡ true
    alarms : list_all (is_alarm_known plan) core.alarms ≡ true
    tables : list_all (is_table_known plan) core.tables ≡ true

  parts : KnownParts
  parts = grind arith

  pub known-scripts : list_all (is_object plan) (script_objects (core_scripts core)) ≡ true
  known-scripts =
      all-flat (is_object plan) (flat_map objects_of) (core_scripts core)
      (all-weaker (is_script_known plan) _ (λ script h. all-flat (is_object plan) objects_of script h) (core_scripts core) parts.scripts)

  known-actions : list_all (is_action_known plan) (core_actions core) ≡ true
  known-actions =
      all-append (is_action_known plan) (map (λ (alarm : Alarm). alarm.action) core.alarms) (flat_map table_actions core.tables)
      (list_all-map (is_action_known plan) (λ (alarm : Alarm). alarm.action) core.alarms ∙ all-weaker (is_alarm_known plan) _ (λ alarm h. grind arith) core.alarms parts.alarms)
      (all-flat (is_action_known plan) table_actions core.tables (all-weaker (is_table_known plan) _ (λ table h. grind arith) core.tables parts.tables))

  pub known-named : list_all (is_object plan) (named_objects core) ≡ true
  known-named =
      all-append (is_object plan) (script_objects (core_scripts core)) (map object_of_call (core_actions core)) known-scripts
      (list_all-map (is_object plan) object_of_call (core_actions core)
      ∙ all-weaker (is_action_known plan) (λ (action : RemoteCall). is_object plan (object_of_call action)) (λ action h. grind arith) (core_actions core) known-actions)
