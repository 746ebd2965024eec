-- The acts of each service are allowed: they name the caller alone, and ask no core.
use Rattle.std.proofs.Common.{Option, Some, None, IfSome, refl}
use Rattle.osbase.specs.declared.statuses.ServiceId.TheVariants as Service
use Rattle.osbase.specs.{declared.references.Runner.Runner, declared.references.TableRef.TableRef, Objects.table_object}
use Rattle.oscript.specs.declared.Op.{Op}
use Rattle.osacts.specs.Acts.{Acts}
use Rattle.osservice.specs.Named.{own_of}
use Rattle.osservice.proofs.Kept.{AreAllowed, IsNamed, Leave, serves_own-ok}
use Rattle.osservice_tables.specs.Tables.{absolute_start, own_pair, quits, quits_next, relative_start, status_inquiry, stop, switch, table_acts}

module _ (l : Leave) where
  abbrev Allowed : Acts → Type 0
  Allowed = AreAllowed l

  quits-ok : (o : Option TableRef) → Allowed (quits o)
  quits-ok None = tt
  quits-ok (Some u) = (refl, tt)

  quits_next-ok : (t : TableRef) → Allowed (quits_next t)
  quits_next-ok t s seen = quits-ok (s.next t)

  pub table_acts-ok : (r : Runner) (op : Op) → IsNamed l r → IfSome (table_acts r op) Allowed
  table_acts-ok r (Op.StartScheduleTableRel target offset) n = serves_own-ok l r Service.StartScheduleTableRel (relative_start offset) (λ core. own_of table_object core target) n (λ t s seen. (refl, tt))
  table_acts-ok r (Op.StartScheduleTableAbs target start) n = serves_own-ok l r Service.StartScheduleTableAbs (absolute_start start) (λ core. own_of table_object core target) n (λ t s seen. (refl, tt))
  table_acts-ok r (Op.NextScheduleTable from to) n = serves_own-ok l r Service.NextScheduleTable switch (λ core. own_pair core from to) n (λ p s seen. (quits_next-ok p.0, (refl, tt)))
  table_acts-ok r (Op.StopScheduleTable target) n = serves_own-ok l r Service.StopScheduleTable stop (λ core. own_of table_object core target) n (λ t s seen. (quits_next-ok t, (refl, tt)))
  table_acts-ok r (Op.GetScheduleTableStatus target x) n = serves_own-ok l r Service.GetScheduleTableStatus status_inquiry (λ core. own_of table_object core target) n (λ t s seen. tt)
  table_acts-ok r op n = tt
