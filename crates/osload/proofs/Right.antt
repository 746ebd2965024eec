-- If a whole text is right, so is each of its parts. The cores of the named objects are not considered here.
use Rattle.std.proofs.Common.{◌≡◌, ℕ, ◌&&◌, ◌||◌, not, Bool, true, Some, is_some, List, [], ◌∷◌, refl, sym, ap, ◌∙◌, arith}
use Rattle.std.proofs.Math.Bool.{and_assoc}
use Rattle.std.specs.List.{list_all}
use Rattle.oscript.specs.Calls.{action_of_op}
use Rattle.oscript.proofs.Acting.{IsActionOf, action-is}
use Rattle.ossyntax.specs.{Action.is_action, Operation.has_masks, Operation.op_of_text}
use Rattle.ossyntax.proofs.{ActionTexts.meant_action, ActionTexts.action-formed, Known.formed-known}
use Rattle.osschema.specs.Declarations.{id_of, place_of}
use Rattle.osvalidate.specs.Words.{AlarmText, CoreId, CoreText, Declaration, IsrText, ObjectKind, Op, PointText, RemoteCall, TableText, TaskText}
use Rattle.osvalidate.specs.{declared.verdicts.Verdict.Verdict, Action.is_action_known, Action.is_action_masked, Operation.is_operation_known}
use Rattle.osvalidate.specs.Check.{alarm_modes, is_core_mode_known, is_mode_known, is_point_known, is_table_acting, is_table_masked, table_modes}
use Rattle.osvalidate.specs.Verdict.{action_verdict, alarm_verdict, both, core_verdict, each, isr_verdict, point_verdict, table_verdict, task_verdict, with_names}
use Rattle.osload.proofs.Loops.{there}

abbrev pub is_right : Verdict → Bool
is_right v = v.known && v.masked && v.formed

pub each-right : {X : Type 0} (f : X → Verdict) (xs : List X) → is_right (each f xs) ≡ list_all (λ x. is_right (f x)) xs
each-right f [] = refl
each-right f (x ∷ xs) = rw (← each-right f xs) (grind arith)

pub of-each : {X : Type 0} (f : X → Verdict) (xs : List X) → is_right (each f xs) ≡ true → list_all (λ x. is_right (f x)) xs ≡ true
of-each f xs h = sym (each-right f xs) ∙ h

-- ---- its parts; each lemma holds for any tests

pub three-parts : (a b c : Bool) → (a && b && c) ≡ true → (a ≡ true) × (b ≡ true) × (c ≡ true)
three-parts a b c h = grind arith

-- An alarm or a table is right exactly if its counter, its action or its points, and its modes are.
acting-parts : (counter known modes masked formed : Bool) → ((counter && known && modes) && masked && formed) ≡ true → (counter ≡ true) × ((known && masked && formed) ≡ true) × (modes ≡ true)
acting-parts counter known modes masked formed h = grind arith

pub acting-right : (counter known modes masked formed : Bool) → counter ≡ true → (known && masked && formed) ≡ true → modes ≡ true → ((counter && known && modes) && masked && formed) ≡ true
acting-right counter known modes masked formed c right m = grind arith

pub alarm-parts : (objects : List Declaration) (id : CoreId) (alarm : AlarmText) → is_right (alarm_verdict objects id alarm) ≡ true
    → (is_some (place_of objects ObjectKind.Counter alarm.counter) ≡ true) × (is_right (action_verdict objects alarm.action) ≡ true) × (list_all (is_mode_known objects) (alarm_modes alarm) ≡ true)
alarm-parts objects id alarm h = acting-parts (is_some (place_of objects ObjectKind.Counter alarm.counter)) (is_action_known objects alarm.action) (list_all (is_mode_known objects) (alarm_modes alarm)) (is_action_masked alarm.action) (is_action alarm.action) h

pub table-parts : (objects : List Declaration) (id : CoreId) (table : TableText) → is_right (table_verdict objects id table) ≡ true
    → (is_some (place_of objects ObjectKind.Counter table.counter) ≡ true) × (list_all (λ (point : PointText). is_right (point_verdict objects point)) table.points ≡ true) × (list_all (is_mode_known objects) (table_modes table) ≡ true)
table-parts objects id table h =
    let parts = acting-parts (is_some (place_of objects ObjectKind.Counter table.counter)) (list_all (is_point_known objects) table.points) (list_all (is_mode_known objects) (table_modes table)) (is_table_masked table) (is_table_acting table) h in
    (parts.0, of-each (point_verdict objects) table.points parts.1, parts.2)

-- The parts of a core are right: its mode, and its tasks, ISRs, alarms and tables. Its other objects have only numbers.
pub record CoreRight (objects : List Declaration) (core : CoreText) : Type 0 where
  pub mode : is_core_mode_known objects core.mode ≡ true
  pub tasks : list_all (λ (task : TaskText). is_right (task_verdict objects (id_of core) task)) core.tasks ≡ true
  pub isrs : list_all (λ (isr : IsrText). is_right (isr_verdict objects (id_of core) isr.script)) core.isrs ≡ true
  pub alarms : list_all (λ (alarm : AlarmText). is_right (alarm_verdict objects (id_of core) alarm)) core.alarms ≡ true
  pub tables : list_all (λ (table : TableText). is_right (table_verdict objects (id_of core) table)) core.tables ≡ true

pub core-right : (objects : List Declaration) (core : CoreText) → is_right (core_verdict objects core) ≡ true → CoreRight objects core
core-right objects core h = record {
  mode = grind arith;
  tasks = of-each (task_verdict objects (id_of core)) core.tasks (grind arith);
  isrs = of-each (λ (isr : IsrText). isr_verdict objects (id_of core) isr.script) core.isrs (grind arith);
  alarms = of-each (alarm_verdict objects (id_of core)) core.alarms (grind arith);
  tables = of-each (table_verdict objects (id_of core)) core.tables (grind arith);
}

-- A core is judged in two steps: its tasks and ISRs, and then its alarms and schedule tables.
verdict-joined : (mode : Bool) (tasks isrs alarms tables : Verdict) → with_names mode (both (both tasks isrs) (both alarms tables)) ≡ with_names mode (both (both (both tasks isrs) alarms) tables)
verdict-joined mode tasks isrs alarms tables = ap (with_names mode) (simp and_assoc)

pub core-joined : (objects : List Declaration) (core : CoreText)
    → with_names (is_core_mode_known objects core.mode) (both (both (each (task_verdict objects (id_of core)) core.tasks) (each (λ (isr : IsrText). isr_verdict objects (id_of core) isr.script) core.isrs)) (both (each (alarm_verdict objects (id_of core)) core.alarms) (each (table_verdict objects (id_of core)) core.tables)))
    ≡ core_verdict objects core
core-joined objects core =
    verdict-joined (is_core_mode_known objects core.mode) (each (task_verdict objects (id_of core)) core.tasks) (each (λ (isr : IsrText). isr_verdict objects (id_of core) isr.script) core.isrs) (each (alarm_verdict objects (id_of core)) core.alarms) (each (table_verdict objects (id_of core)) core.tables)

-- ---- an action that is right means an operation that is an action

pub record Acting (objects : List Declaration) (text : List ℕ) : Type 0 where
  pub op : Op
  pub call : RemoteCall
  pub meant : op_of_text (place_of objects) text ≡ Some op
  pub acts : action_of_op op ≡ Some call
  pub is : IsActionOf op call
  pub masked : has_masks text ≡ true

pub acting : (objects : List Declaration) (text : List ℕ) → is_right (action_verdict objects text) ≡ true → Acting objects text
acting objects text right =
    let parts = three-parts (is_action_known objects text) (is_action_masked text) (is_action text) right in
    let known : is_operation_known objects text ≡ true = ap (λ f. not f || is_operation_known objects text) (sym parts.2) ∙ parts.0 in
    let op = there (op_of_text (place_of objects) text) (sym (formed-known (place_of objects) text (action-formed text parts.2)) ∙ known) in
    let call = there (action_of_op op.0) (meant_action (place_of objects) text op.0 op.1 ∙ parts.2) in
    record { op = op.0; call = call.0; meant = op.1; acts = call.1; is = action-is op.0 call.0 call.1; masked = ap (λ f. not f || has_masks text) (sym parts.2) ∙ parts.1 }
