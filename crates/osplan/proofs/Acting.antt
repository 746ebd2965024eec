-- What a core's alarms and tables act on.
use Rattle.std.proofs.Common.{◌≡◌, Bool, ◌||◌, flat_map, map, refl, ◌∙◌}
use Rattle.std.specs.List.{list_any}
use Rattle.std.proofs.lemmas.List.Folds.{list_any-append}
use Rattle.osbase.specs.{declared.objects.Object.Object, declared.messages.RemoteCall.RemoteCall, Objects.object_of_call}
use Rattle.osplan.specs.{declared.plans.Alarm.Alarm, declared.plans.ExpiryPoint.ExpiryPoint, declared.plans.Core.Core, declared.plans.Table.Table, Naming.acts_on, Objects.table_actions}
use Rattle.osplan.proofs.Tests.{any-flat, any-mapped}

-- What the alarms act on, and what the tables act on, table by table and point by point.
module _ (test : Object → Bool) where
  abbrev acts : RemoteCall → Bool
  acts action = test (object_of_call action)

  pub any-acting : (core : Core) → acts_on test core ≡ (list_any (λ (alarm : Alarm). acts alarm.action) core.alarms || list_any (λ (table : Table). list_any acts (table_actions table)) core.tables)
  any-acting core =
      list_any-append acts (map (λ (alarm : Alarm). alarm.action) core.alarms) (flat_map table_actions core.tables)
      ∙ rw (any-mapped acts (λ (alarm : Alarm). alarm.action) core.alarms, any-flat acts table_actions core.tables) refl

  pub any_pointed : (core : Core) → acts_on test core ≡ (list_any (λ (alarm : Alarm). acts alarm.action) core.alarms || list_any (λ (table : Table). list_any (λ (point : ExpiryPoint). list_any acts point.actions) table.points) core.tables)
  any_pointed core = any-acting core ∙ simp any-flat
