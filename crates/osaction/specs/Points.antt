-- What an expiry point of a schedule table does.
use Rattle.std.specs.Prelude.{◌&&◌, nat_le, not, Bool, true, false, List, filter, length}
use Rattle.std.specs.List.{list_all}
use Rattle.osbase.specs.{declared.references.TableRef.TableRef, declared.messages.RemoteCall.RemoteCall}
use Rattle.osbase.specs.declared.marks.Mark.TheVariants as Mark
use Rattle.oscript.specs.Calls.{is_activation}
use Rattle.osplan.specs.{declared.plans.Core.Core, declared.plans.ExpiryPoint.ExpiryPoint, Objects.may_act}
use Rattle.osacts.specs.Acts.{Acts, Prints, both, for_each, one_then}
use Rattle.osaction.specs.Actions.{acts}

-- With `true`, whether the action activates a task. With `false`, whether it sets events.
abbrev pub is_of_kind : Bool → RemoteCall → Bool
is_of_kind true action = is_activation action
is_of_kind false action = not (is_activation action)

-- With `true`, the actions that activate a task, in their order. With `false`, those that set events.
abbrev pub of_kind : Bool → List RemoteCall → List RemoteCall
of_kind activating actions = filter (is_of_kind activating) actions

-- The actions that activate a task, in their order.
abbrev pub activations_of : List RemoteCall → List RemoteCall
activations_of actions = of_kind true actions

-- The actions that set events, in their order.
abbrev pub event_settings_of : List RemoteCall → List RemoteCall
event_settings_of actions = of_kind false actions

-- Does the actions one after another.
abbrev pub acts_each : List RemoteCall → Acts
acts_each actions = for_each (λ (action : RemoteCall). acts action) actions

-- Prints the point's line, does the point's activations, and then sets its events.
-- [AUTOSAR SWS OS 4.x, SWS_Os_00407 and SWS_Os_00412]
abbrev pub does_point : TableRef → ExpiryPoint → Acts
does_point s point =
    one_then (Prints (Mark.ExpiryPoint s point.offset)) (both (acts_each (activations_of point.actions)) (acts_each (event_settings_of point.actions)))

-- The core may do each action of the point, and the point has at most 8 of them. [AUTOSAR SWS OS 4.x, SWS_Os_00407; the
-- most is own]
abbrev pub is_known_point : Core → ExpiryPoint → Bool
is_known_point core point = list_all (may_act core) point.actions && nat_le (length point.actions) 8
