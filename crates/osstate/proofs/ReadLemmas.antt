-- What is read off the state is what is read off the history.
use Rattle.std.proofs.Common.{◌≡◌, Bool, true, false, cond, List, flat_map, map, Option, Some, None, IfSome, IsTrue, refl, ap, sym, subst, ◌∙◌}
use Rattle.std.specs.{List.list_all, List.slice_get, Option.option_map_or}
use Rattle.std.proofs.{lemmas.Bool.and_parts, lemmas.List.Folds.list_all-append, lemmas.List.Folds.list_all-map}
use Rattle.osbase.specs.{declared.references.AlarmRef.AlarmRef, declared.references.TableRef.TableRef, History.History, History.same_core}
use Rattle.oscript.specs.{declared.Op.Op, declared.Frame.Frame, declared.Action.Action, declared.Action.TheVariants.Perform, declared.Action.TheVariants.End, Frames.action_at}
use Rattle.osplan.specs.{declared.plans.Alarm.Alarm, declared.plans.Core.Core, declared.plans.Table.Table, Objects.core_actions, Objects.may_act, Objects.table_actions, View.View, View.own_alarm, View.own_table}
use Rattle.osplan.proofs.Tests.{each-flat}
use Rattle.osbase.proofs.Places.{passes-at}
use Rattle.osstate.specs.{Sound.is_action_known, Sound.has_objects_of, State.KernelState, State.Stands, State.state_of}

-- A query of the kernel's state is a query of the state of the history.
pub read : {A : Type 0} (query : KernelState → A) {s : KernelState} {v : View} {h : History} {x : A} → x ≡ query s → Stands v h s → x ≡ query (state_of v h)
read query is stands = is ∙ ap query stands.is

-- What a runner does next names on this core only the core's objects.
pub known_action : (core : Core) (script : List Op) (frame : Frame) (a : Action) → list_all (has_objects_of core) script ≡ true → a ≡ action_at script frame → is_action_known core a ≡ true
known_action core script frame a all is = subst (λ (b : Action). is_action_known core b ≡ true) (sym is) (next (slice_get script frame.pc) refl)
  where
    next : (o : Option Op) → slice_get script frame.pc ≡ o → is_action_known core (option_map_or Perform o End) ≡ true
    next None e = refl
    next (Some op) e = passes-at (has_objects_of core) script frame.pc op all e

-- On this core, the action of one of the core's alarms names only the core's own objects.
pub known_timed : (core : Core) (a : AlarmRef) (alarm : Alarm) → list_all (may_act core) (core_actions core) ≡ true → own_alarm core a ≡ Some alarm → may_act core alarm.action ≡ true
known_timed core a alarm all own = by (same_core a.core core.id) own
  where
    each : list_all (λ (x : Alarm). may_act core x.action) core.alarms ≡ true
    each =
        sym (list_all-map (may_act core) (λ (x : Alarm). x.action) core.alarms)
        ∙ (and_parts _ (list_all (may_act core) (flat_map table_actions core.tables)) (sym (list_all-append (may_act core) (map (λ (x : Alarm). x.action) core.alarms) (flat_map table_actions core.tables)) ∙ all)).0

    by : (b : Bool) → cond b (slice_get core.alarms a.index) None ≡ Some alarm → may_act core alarm.action ≡ true
    by true e = passes-at (λ (x : Alarm). may_act core x.action) core.alarms a.index alarm each e
    by false e = cc

-- On this core, the expiry points of one of the core's tables name only the core's own objects.
known_table : (core : Core) (s : TableRef) (table : Table) → list_all (may_act core) (core_actions core) ≡ true → own_table core s ≡ Some table → list_all (may_act core) (table_actions table) ≡ true
known_table core s table all own = by (same_core s.core core.id) own
  where
    flat : list_all (may_act core) (flat_map table_actions core.tables) ≡ true
    flat = (and_parts (list_all (may_act core) (map (λ (x : Alarm). x.action) core.alarms)) _ (sym (list_all-append (may_act core) (map (λ (x : Alarm). x.action) core.alarms) (flat_map table_actions core.tables)) ∙ all)).1

    by : (b : Bool) → cond b (slice_get core.tables s.index) None ≡ Some table → list_all (may_act core) (table_actions table) ≡ true
    by true e = passes-at (λ (x : Table). list_all (may_act core) (table_actions x)) core.tables s.index table (each-flat (may_act core) table_actions core.tables flat) e
    by false e = cc

pub known_if_table : (core : Core) (s : TableRef) (o : Option Table) → list_all (may_act core) (core_actions core) ≡ true → o ≡ own_table core s → IfSome o (λ table. IsTrue (list_all (may_act core) (table_actions table)))
known_if_table core s None all is = tt
known_if_table core s (Some table) all is = known_table core s table all (sym is)
